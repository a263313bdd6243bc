-- A sync meets a relay, reply by reply.
use Rattle.std.proofs.Common.{◌≡◌, ℕ, zero, suc, ◌+◌, ◌*◌, ◌^◌, ◌<◌, ◌≤◌, Bool, true, false, List, [], ◌∷◌, length, drop, Option, Some, None, refl, sym, ◌∙◌, ap, subst, arith}
use Rattle.std.specs.Prelude.{◌==◌}
use Rattle.std.specs.Str.{bytes_eq}
use Rattle.std.proofs.lemmas.Bool.Decides.{nat_tests}
use Rattle.std.proofs.lemmas.List.{length_push}
use Rattle.relay_guard.specs.Histories.{same_role}
use Rattle.relay_guard.specs.declared.guard.Guard.{Guard}
use Rattle.relay_guard.specs.declared.guard.Role.{Role}
use Rattle.relay_guard.specs.declared.guard.Role.TheVariants.{Owner, Poster}
use Rattle.relay_wire.specs.Requests.{Asking, bare_request, posts, fetches, acks}
use Rattle.relay_wire.specs.Replies.{stored, item, empty}
use Rattle.relay_core.specs.Boxes.{Kept, Box, Answer, answer_of, oldest, role_of, stays, becomes, with_packet}
use Rattle.relay_core.specs.declared.limits.TheConstants.{BOX_LIMIT}
use Rattle.relay_core.proofs.Names.{same_name}
use Rattle.sync_model.specs.Parties.{Party, taking}
use Rattle.sync_model.specs.Moves.{Move, Wait, fetching, acking, posting, over, ended, move, asked_in, posting_of, waits_by, goes, role_in, stored_by}
use Rattle.sync_model.specs.Transfers.{HasCounters, HaveOtherNumbers, IsGuardedFor, counted, with_posts, emptied, taken_all, HasRoom, sent_all, Meeting, meets, meet_times, StandsAt, Comes, CanTransfer, HasRoomForAll, begins}
use Rattle.sync_model.specs.declared.limits.TheConstants.{ITEM_LIMIT}
use Rattle.sync_model.specs.declared.more.More.TheVariants.{End}
use Rattle.sync_model.specs.Tokens.{counter_under}
use Rattle.sync_model.proofs.Counting.{IsReady, counts_none, counts_on, has_fewer, same_self, still_guarded, still_has}
use Rattle.sync_model.proofs.Settling.{IsAsking, served_at_last}
use Rattle.sync_model.proofs.Acknowledging.{if_false, fetched, acknowledges, posts_one}

pub other_way : (a b : List ℕ) → bytes_eq a b ≡ false → bytes_eq b a ≡ false
other_way a b differ = by_test (bytes_eq b a) refl
  where
    by_test : (is : Bool) → bytes_eq b a ≡ is → bytes_eq b a ≡ false
    by_test false is = is
    by_test true is = absurd (let e : true ≡ false = sym (same_self a) ∙ ap (bytes_eq a) (sym (same_name b a is)) ∙ differ in cc)

below_limit : (n limit : ℕ) → n + 1 < limit → (n + 1 == limit) ≡ false
below_limit n limit lt = grind (arith, nat_tests)

module _ {S : Type 0} (p : Party S) where
  -- a sync stands there, and its counters are no further than one above the last ones
  record IsReadyAt (m : Meeting S) (s : S) (w : Wait) (own peers : Box) : Type 0 where
    at : StandsAt p m s w own peers
    fresh : m.course.tokens.again ≡ false
    owner : IsReady m.course.tokens.owner Owner own.guard
    poster : IsReady m.course.tokens.poster Poster peers.guard

  abbrev ComesReady : Meeting S → S → Wait → Box → Box → Type 0
  ComesReady m s w own peers = (n : ℕ) × IsReadyAt (meet_times p n m) s w own peers

  pub after_times : (a b : ℕ) (m : Meeting S) → meet_times p (a + b) m ≡ meet_times p b (meet_times p a m)
  after_times zero b m = ap (λ (n : ℕ). meet_times p n m) (let e : zero + b ≡ b = omega arith in e)
  after_times (suc a) b m = ap (λ (n : ℕ). meet_times p n m) (let e : suc a + b ≡ suc (a + b) = omega arith in e) ∙ after_times a b (meets p m)

  -- and comes there from where it comes to
  then_comes : (m : Meeting S) (s : S) (w : Wait) (own peers : Box) (a : ℕ) → ComesReady (meet_times p a m) s w own peers → ComesReady m s w own peers
  then_comes m s w own peers a came = (a + came.0, subst (λ (x : Meeting S). IsReadyAt x s w own peers) (sym (after_times a came.0 m)) came.1)

module _ {S : Type 0} (p : Party S) (apart : bytes_eq p.own p.peers ≡ false) where
  -- a request for the own box is served, and the reply read
  at_own : (m : Meeting S) (s : S) (w : Wait) (own peers : Box) (ask : Asking) (v : Move S) → IsReadyAt p m s w own peers
      → asked_in p s w ≡ Some (bare_request p.own ask) → role_of ask ≡ Owner → role_in w ≡ Owner → IsGuardedFor p.keys Owner own.guard → HasCounters Owner 1 own.guard
      → move p s w (answer_of own ask).reply ≡ v → ComesReady p m v.state v.wait (counted Owner 1 (answer_of own ask).next) peers
  at_own m s w own peers ask v is asks role waits_role guarded has moves =
      let at = is.at in
      let asking : IsAsking p m s w (bare_request p.own ask) own = record { state = at.state; waits = at.waits; asks = asks; role = waits_role ∙ sym role; named = at.own_box } in
      let came = served_at_last p m s w (bare_request p.own ask) own asking (subst (λ (r : Role). IsGuardedFor p.keys r own.guard) (sym role) guarded)
      (subst (λ (r : Role). HasCounters r 1 own.guard) (sym role) has) is.fresh (subst (λ (r : Role). IsReady (counter_under m.course.tokens r) r own.guard) (sym role) is.owner) in
      let after = meet_times p came.0 m in
      let there = came.1 in
      let next = (answer_of own ask).next in
      let posters : after.course.tokens.poster ≡ m.course.tokens.poster = there.counters Poster (ap (same_role Poster) role) in (
        came.0,
        record {
          at = record {
            state = there.state ∙ ap (λ (x : Move S). x.state) moves;
            waits = there.waits ∙ ap (λ (x : Move S). x.wait) moves;
            own_box = there.named ∙ ap (λ (r : Role). Some (counted r 1 next)) role;
            peers_box = there.others p.peers apart ∙ at.peers_box;
          };
          fresh = there.fresh;
          owner = subst (λ (r : Role). IsReady (counter_under after.course.tokens r) r (counted r 1 next).guard) role there.ready;
          poster = subst (λ (n : ℕ). IsReady n Poster peers.guard) (sym posters) is.poster;
        },
      )

  at_peers : (m : Meeting S) (s : S) (w : Wait) (own peers : Box) (ask : Asking) (v : Move S) → IsReadyAt p m s w own peers
      → asked_in p s w ≡ Some (bare_request p.peers ask) → role_of ask ≡ Poster → role_in w ≡ Poster → IsGuardedFor p.keys Poster peers.guard → HasCounters Poster 1 peers.guard
      → move p s w (answer_of peers ask).reply ≡ v → ComesReady p m v.state v.wait own (counted Poster 1 (answer_of peers ask).next)
  at_peers m s w own peers ask v is asks role waits_role guarded has moves =
      let at = is.at in
      let asking : IsAsking p m s w (bare_request p.peers ask) peers = record { state = at.state; waits = at.waits; asks = asks; role = waits_role ∙ sym role; named = at.peers_box } in
      let came = served_at_last p m s w (bare_request p.peers ask) peers asking (subst (λ (r : Role). IsGuardedFor p.keys r peers.guard) (sym role) guarded)
      (subst (λ (r : Role). HasCounters r 1 peers.guard) (sym role) has) is.fresh (subst (λ (r : Role). IsReady (counter_under m.course.tokens r) r peers.guard) (sym role) is.poster) in
      let after = meet_times p came.0 m in
      let there = came.1 in
      let next = (answer_of peers ask).next in
      let owners : after.course.tokens.owner ≡ m.course.tokens.owner = there.counters Owner (ap (same_role Owner) role) in (
        came.0,
        record {
          at = record {
            state = there.state ∙ ap (λ (x : Move S). x.state) moves;
            waits = there.waits ∙ ap (λ (x : Move S). x.wait) moves;
            own_box = there.others p.own (other_way p.own p.peers apart) ∙ at.own_box;
            peers_box = there.named ∙ ap (λ (r : Role). Some (counted r 1 next)) role;
          };
          fresh = there.fresh;
          owner = subst (λ (n : ℕ). IsReady n Owner own.guard) (sym owners) is.owner;
          poster = subst (λ (r : Role). IsReady (counter_under after.course.tokens r) r (counted r 1 next).guard) role there.ready;
        },
      )

  -- ---- the first part

  collect : (ks : List Kept) (m : Meeting S) (s : S) (n : ℕ) (own peers : Box) → IsReadyAt p m s (fetching n) own peers → own.packets ≡ ks
      → n + length ks < ITEM_LIMIT → HaveOtherNumbers ks → HasRoom p s ks → IsGuardedFor p.keys Owner own.guard → HasCounters Owner (2 * length ks + 1) own.guard
      → ComesReady p m (taken_all p s ks) (waits_by (p.outbox (taken_all p s ks)) End) (counted Owner (2 * length ks + 1) (emptied own)) peers
  collect [] m s n own peers at is few distinct room guarded has =
      let answer : answer_of own fetches ≡ stays empty own = fetched own ∙ ap (λ (ks : List Kept). stays (oldest ks) own) is in
      let went = at_own m s (fetching n) own peers fetches (goes p s (waits_by (p.outbox s) End)) at refl refl refl guarded has (ap (λ (a : Answer). move p s (fetching n) a.reply) answer) in
      let is_empty : counted Owner 1 (answer_of own fetches).next ≡ counted Owner 1 (emptied own) =
      ap (λ (a : Answer). counted Owner 1 a.next) answer ∙ ap (λ (ks : List Kept). counted Owner 1 (record own { packets = ks })) is in
      (went.0, subst (λ (b : Box). IsReadyAt p (meet_times p went.0 m) s (waits_by (p.outbox s) End) b peers) is_empty went.1)
  collect (k ∷ ks) m s n own peers at is few distinct room guarded has =
      let took = p.take s k.packet in
      let after : Move S = record { state = took.next; acts = taking k.packet ∷ []; lines = took.line; wait = acking n k.number } in
      let offers : answer_of own fetches ≡ stays (item k.number k.packet) own = fetched own ∙ ap (λ (xs : List Kept). stays (oldest xs) own) is in
      let takes : move p s (fetching n) (answer_of own fetches).reply ≡ after =
      ap (λ (a : Answer). move p s (fetching n) a.reply) offers ∙ if_false took.full _ _ room.0 in
      let own1 : Box = counted Owner 1 own in
      let one = at_own m s (fetching n) own peers fetches after at refl refl refl guarded (has_fewer Owner 1 (2 * length (k ∷ ks) + 1) own.guard (omega arith) has) takes in
      let m1 = meet_times p one.0 m in
      let first : IsReadyAt p m1 took.next (acking n k.number) own1 peers =
      subst (λ (b : Box). IsReadyAt p m1 took.next (acking n k.number) b peers) (ap (λ (a : Answer). counted Owner 1 a.next) offers) one.1 in
      let guarded1 = still_guarded p.keys Owner 1 own.guard guarded in
      let has1 : HasCounters Owner (2 * length ks + 2) own1.guard =
      still_has Owner 1 (2 * length ks + 2) own.guard (subst (λ (c : ℕ). HasCounters Owner c own.guard) (let e : 2 * length (k ∷ ks) + 1 ≡ 1 + (2 * length ks + 2) = omega arith in e) has) in
      let drops_it = acknowledges own1 k ks is distinct.0 in
      let acts_on : move p took.next (acking n k.number) (answer_of own1 (acks k.number)).reply ≡ goes p took.next (fetching (n + 1)) =
      ap (λ (a : Answer). move p took.next (acking n k.number) a.reply) drops_it ∙ if_false (n + 1 == ITEM_LIMIT) _ _ (below_limit n ITEM_LIMIT (omega (arith, few))) in
      let own2 : Box = counted Owner 1 (record own1 { packets = ks }) in
      let two = at_own m1 took.next (acking n k.number) own1 peers (acks k.number) (goes p took.next (fetching (n + 1))) first refl refl refl guarded1
      (has_fewer Owner 1 (2 * length ks + 2) own1.guard (omega arith) has1) acts_on in
      let m2 = meet_times p two.0 m1 in
      let second : IsReadyAt p m2 took.next (fetching (n + 1)) own2 peers =
      subst (λ (b : Box). IsReadyAt p m2 took.next (fetching (n + 1)) b peers) (ap (λ (a : Answer). counted Owner 1 a.next) drops_it) two.1 in
      let guarded2 = still_guarded p.keys Owner 1 own1.guard guarded1 in
      let has2 : HasCounters Owner (2 * length ks + 1) own2.guard =
      still_has Owner 1 (2 * length ks + 1) own1.guard (subst (λ (c : ℕ). HasCounters Owner c own1.guard) (let e : 2 * length ks + 2 ≡ 1 + (2 * length ks + 1) = omega arith in e) has1) in
      let rest = collect ks m2 took.next (n + 1) own2 peers second refl (omega (arith, few)) distinct.1 room.1 guarded2 has2 in
      let all : counted Owner (2 * length ks + 1) (emptied own2) ≡ counted Owner (2 * length (k ∷ ks) + 1) (emptied own) =
      ap (counted Owner (2 * length ks + 1)) (counts_on Owner 1 1 (emptied own)) ∙ counts_on Owner 2 (2 * length ks + 1) (emptied own)
      ∙ ap (λ (c : ℕ). counted Owner c (emptied own)) (let e : 2 + (2 * length ks + 1) ≡ 2 * length (k ∷ ks) + 1 = omega arith in e) in
      let end = taken_all p took.next ks in
      let wait = waits_by (p.outbox end) End in
      subst (λ (b : Box). ComesReady p m end wait b peers) all (then_comes p m end wait _ peers one.0 (then_comes p m1 end wait _ peers two.0 rest))

  -- ---- the second part

  posts_counted : (n : ℕ) (packets : List (List ℕ)) (box : Box) → with_posts (counted Poster n box) packets ≡ counted Poster n (with_posts box packets)
  posts_counted n [] box = refl
  posts_counted n (packet ∷ packets) box = posts_counted n packets (with_packet box packet)

  deliver : ((t : S) → p.outbox (p.sent t) ≡ drop 1 (p.outbox t)) → (packets : List (List ℕ)) (m : Meeting S) (s : S) (own peers : Box)
      → IsReadyAt p m s (waits_by packets End) own peers → p.outbox s ≡ packets → length peers.packets + length packets ≤ BOX_LIMIT → peers.last + length packets < 2 ^ 64
      → IsGuardedFor p.keys Poster peers.guard → HasCounters Poster (length packets) peers.guard
      → ComesReady p m (sent_all p (length packets) s) (over (ended End)) own (counted Poster (length packets) (with_posts peers packets))
  deliver drops [] m s own peers at is fits below guarded has =
      (zero, subst (λ (b : Box). IsReadyAt p m s (over (ended End)) own b) (sym (counts_none Poster peers)) at)
  deliver drops (packet ∷ packets) m s own peers at is fits below guarded has =
      let kept : Box = with_packet peers packet in
      let next : Box = counted Poster 1 kept in
      let stores : answer_of peers (posts packet) ≡ becomes (stored (peers.last + 1)) kept = posts_one peers packet (omega (arith, fits)) (omega (arith, below)) in
      let left : p.outbox (p.sent s) ≡ packets = drops s ∙ ap (drop 1) is in
      let asks : asked_in p s (posting End) ≡ Some (bare_request p.peers (posts packet)) = ap (posting_of p.peers) is in
      let after : Move S = stored_by p (p.sent s) (peers.last + 1) End in
      let one = at_peers m s (posting End) own peers (posts packet) after at asks refl refl guarded (has_fewer Poster 1 (length (packet ∷ packets)) peers.guard (omega arith) has)
      (ap (λ (a : Answer). move p s (posting End) a.reply) stores) in
      let m1 = meet_times p one.0 m in
      let went : IsReadyAt p m1 (p.sent s) (waits_by packets End) own next =
      subst (λ (b : Box). IsReadyAt p m1 (p.sent s) (waits_by packets End) own b) (ap (λ (a : Answer). counted Poster 1 a.next) stores)
      (subst (λ (xs : List (List ℕ)). IsReadyAt p m1 (p.sent s) (waits_by xs End) own (counted Poster 1 (answer_of peers (posts packet)).next)) left one.1) in
      let longer = length_push peers.packets (record { number = peers.last + 1; packet = packet }) in
      let has1 : HasCounters Poster (length packets) next.guard =
      still_has Poster 1 (length packets) peers.guard (subst (λ (c : ℕ). HasCounters Poster c peers.guard) (let e : length (packet ∷ packets) ≡ 1 + length packets = omega arith in e) has) in
      let rest = deliver drops packets m1 (p.sent s) own next went left (omega (arith, longer, fits)) (omega (arith, below)) (still_guarded p.keys Poster 1 peers.guard guarded) has1 in
      let all : counted Poster (length packets) (with_posts next packets) ≡ counted Poster (length (packet ∷ packets)) (with_posts kept packets) =
      ap (counted Poster (length packets)) (posts_counted 1 packets kept) ∙ counts_on Poster 1 (length packets) (with_posts kept packets)
      ∙ ap (λ (c : ℕ). counted Poster c (with_posts kept packets)) (let e : 1 + length packets ≡ length (packet ∷ packets) = omega arith in e) in
      let end = sent_all p (length packets) (p.sent s) in
      subst (λ (b : Box). ComesReady p m end (over (ended End)) own b) all (then_comes p m end (over (ended End)) own _ one.0 rest)

module _ {S : Type 0} (p : Party S) where
  pub outbox_kept : ((t : S) (packet : List ℕ) → p.outbox (p.take t packet).next ≡ p.outbox t) → (ks : List Kept) (s : S) → p.outbox (taken_all p s ks) ≡ p.outbox s
  outbox_kept keeps [] s = refl
  outbox_kept keeps (k ∷ ks) s = outbox_kept keeps ks (p.take s k.packet).next ∙ keeps s k.packet

  outbox_left : ((t : S) → p.outbox (p.sent t) ≡ drop 1 (p.outbox t)) → (packets : List (List ℕ)) (s : S) → p.outbox s ≡ packets → p.outbox (sent_all p (length packets) s) ≡ []
  outbox_left drops [] s is = is
  outbox_left drops (packet ∷ packets) s is = outbox_left drops packets (p.sent s) (drops s ∙ ap (drop 1) is)

pub outbox_leaves : {S : Type 0} (p : Party S) (s : S) → ((t : S) → p.outbox (p.sent t) ≡ drop 1 (p.outbox t)) → p.outbox (sent_all p (length (p.outbox s)) s) ≡ []
outbox_leaves p s drops = outbox_left p drops (p.outbox s) s refl

first_ready : (role : Role) (guard : Option Guard) → IsReady 1 role guard
first_ready role None = tt
first_ready role (Some guard) = omega arith

-- where the first part ends, and all else stands ready for the second
collects_ready : {S : Type 0} (p : Party S) (s : S) (boxes : List Box) (own peers : Box) → CanTransfer p s boxes own peers
    → ComesReady p (begins p s boxes) (taken_all p s own.packets) (waits_by (p.outbox s) End) (counted Owner (2 * length own.packets + 1) (emptied own)) peers
collects_ready p s boxes own peers can =
    let left = counted Owner (2 * length own.packets + 1) (emptied own) in
    let came = collect p can.apart own.packets (begins p s boxes) s 0 own peers (record {
      at = record { state = refl; waits = refl; own_box = can.own_box; peers_box = can.peers_box };
      fresh = refl;
      owner = first_ready Owner own.guard;
      poster = first_ready Poster peers.guard;
    }) refl (omega (arith, can.few)) can.distinct can.room can.own_guard can.own_counters in
    (came.0, subst (λ (xs : List (List ℕ)). IsReadyAt p (meet_times p came.0 (begins p s boxes)) (taken_all p s own.packets) (waits_by xs End) left peers) (outbox_kept p can.keeps own.packets s) came.1)

pub collects : {S : Type 0} (p : Party S) (s : S) (boxes : List Box) (own peers : Box) → CanTransfer p s boxes own peers
    → Comes p (begins p s boxes) (taken_all p s own.packets) (waits_by (p.outbox s) End) (counted Owner (2 * length own.packets + 1) (emptied own)) peers
collects p s boxes own peers can = let came = collects_ready p s boxes own peers can in (came.0, came.1.at)

pub delivers : {S : Type 0} (p : Party S) (s : S) (boxes : List Box) (own peers : Box) → CanTransfer p s boxes own peers → HasRoomForAll p.keys (p.outbox s) peers
    → Comes p (begins p s boxes) (sent_all p (length (p.outbox s)) (taken_all p s own.packets)) (over (ended End)) (counted Owner (2 * length own.packets + 1) (emptied own))
    (counted Poster (length (p.outbox s)) (with_posts peers (p.outbox s)))
delivers p s boxes own peers can fits =
    let one = collects_ready p s boxes own peers can in
    let left = counted Owner (2 * length own.packets + 1) (emptied own) in
    let two = deliver p can.apart can.drops (p.outbox s) (meet_times p one.0 (begins p s boxes)) (taken_all p s own.packets) left peers one.1
    (outbox_kept p can.keeps own.packets s) fits.room fits.numbers fits.key fits.counters in
    let came = then_comes p (begins p s boxes) _ _ left _ one.0 two in
    (came.0, came.1.at)
