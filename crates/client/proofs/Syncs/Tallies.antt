-- What a sync counts: acknowledgements behind packets that were taken, and packets that left the outbox behind replies that say
-- so.
use Rattle.std.proofs.Common.{Bool, List, None, Option, Some, [], ap, append-nil, arith, drop, false, refl, true, ℕ, ◌+◌, ◌++◌, ◌∙◌, ◌∷◌, ◌≡◌, ◌≤◌}
use Rattle.std.specs.Prelude.{if◌then◌else◌, not, option_map, ◌&&◌}
use Rattle.std.specs.List.{sum_by}
use Rattle.std.proofs.lemmas.List.{drop-drop}
use Rattle.std.proofs.lemmas.List.Sums.{sum_by-append, sum_by-cons}
use Rattle.relay_wire.specs.Replies.{Replied, absent, acked, bad, denied, box_full, empty, item, stored, unknown}
use Rattle.relay_wire.specs.Requests.{Asked}
use Rattle.sync_model.specs.Courses.{Course, as_list, begun, course_from, course_of, heard, made_requests, read_by, read_one, repeats}
use Rattle.sync_model.specs.Moves.{Move, Wait, acking, asked_in, box_is_full, denied_by, fetching, goes, move, no_such_box, over, posting, posting_of, role_in, waits_by, wrong}
use Rattle.sync_model.specs.Tokens.{SyncKeys, Tokens, tagged, tokens_by}
use Rattle.sync_model.specs.Parties.{Party}
use Rattle.sync_model.specs.declared.more.More.{More}
use Rattle.sync_model.specs.declared.more.More.TheVariants.{End, More as MoreStands}
use Rattle.sync_model.proofs.Cases.{acked_by, acknowledged_by, taken_by}
use Rattle.client.specs.Syncing.InOrder.{acks_after, acks_among, is_ack, kept_count, take_count}

-- ---- requests

step : (a b : Bool) → (if a && not b then 1 else 0) ≤ (if a && not false then 1 else 0)
step true true = omega arith
step true false = omega arith
step false b = omega arith

fewer_behind : (behind : Bool) (xs : List Asked) → acks_after behind xs ≤ acks_among xs
fewer_behind behind [] = omega arith
fewer_behind behind (x ∷ xs) = omega (arith, step (is_ack x.ask) behind)

acks_joined : (behind : Bool) (xs ys : List Asked) → acks_after behind (xs ++ ys) ≤ acks_after behind xs + acks_among ys
acks_joined behind [] ys = omega (arith, fewer_behind behind ys)
acks_joined behind (x ∷ xs) ys = omega (arith, acks_joined (is_ack x.ask) xs ys)

-- a request that is made again counts once
once_more : (behind : Bool) (xs : List Asked) (a b : Asked) → a.ask ≡ b.ask → acks_after behind ((xs ++ a ∷ []) ++ b ∷ []) ≡ acks_after behind (xs ++ a ∷ [])
once_more behind [] a b same = ap (λ (n : ℕ). (if is_ack a.ask && not behind then 1 else 0) + n) (none_again (is_ack a.ask) (is_ack b.ask) (ap is_ack same))
  where
    none_again : (was is : Bool) → was ≡ is → (if is && not was then 1 else 0) + 0 ≡ 0
    none_again true true same = refl
    none_again false false same = refl
    none_again true false same = refl
    none_again false true same = absurd (let e : false ≡ true = same in cc)
once_more behind (x ∷ xs) a b same = ap (λ (n : ℕ). (if is_ack x.ask && not behind then 1 else 0) + n) (once_more (is_ack x.ask) xs a b same)

again_none : (xs : List Asked) (o : Option Asked) (keys : Option SyncKeys) (was is : Tokens)
    → acks_among ((xs ++ as_list (option_map (tagged keys was) o)) ++ as_list (option_map (tagged keys is) o)) ≡ acks_among (xs ++ as_list (option_map (tagged keys was) o))
again_none xs None keys was is = ap acks_among (append-nil (xs ++ []))
again_none xs (Some asked) keys was is = once_more false xs (tagged keys was asked) (tagged keys is asked) refl

untold : (o : Option Asked) (keys : Option SyncKeys) (tokens : Tokens) → acks_among (as_list (option_map (tagged keys tokens) o)) ≡ acks_among (as_list o)
untold None keys tokens = refl
untold (Some asked) keys tokens = refl

-- ---- moves

module _ {S : Type 0} (p : Party S) where
  abbrev acks_at : S → Wait → ℕ
  acks_at s wait = acks_among (as_list (asked_in p s wait))

  posts_none : (name : List ℕ) (packets : List (List ℕ)) → acks_among (as_list (posting_of name packets)) ≡ 0
  posts_none name [] = refl
  posts_none name (packet ∷ packets) = refl

  then_none : (s : S) (packets : List (List ℕ)) (which : More) → acks_at s (waits_by packets which) ≡ 0
  then_none s [] which = refl
  then_none s (packet ∷ packets) which = posts_none p.peers (p.outbox s)

  -- of one move, where a reply says that the relay keeps as many packets
  record IsTally (s : S) (count : ℕ) (m : Move S) : Type 0 where
    acks : acks_at m.state m.wait ≤ sum_by take_count m.acts
    gone : ℕ
    few : gone ≤ count
    outbox : p.outbox m.state ≡ drop gone (p.outbox s)

  -- of a course
  pub record IsTallied (c : Course S) (packets : List (List ℕ)) (count : ℕ) : Type 0 where
    pub acks : acks_among (made_requests p c) ≤ sum_by take_count c.acts
    pub gone : ℕ
    pub few : gone ≤ count
    pub outbox : p.outbox c.state ≡ drop gone packets

  module _ (drops : (t : S) → p.outbox (p.sent t) ≡ drop 1 (p.outbox t))
      (keeps : (t : S) (packet : List ℕ) → p.outbox (p.take t packet).next ≡ p.outbox t) where
    idle : (s : S) (count : ℕ) (wait : Wait) → acks_at s wait ≡ 0 → IsTally s count (goes p s wait)
    idle s count wait none = record { acks = omega (arith, none); gone = 0; few = omega arith; outbox = refl }

    move_tally : (s : S) (wait : Wait) (reply : Replied) → IsTally s (kept_count reply) (move p s wait reply)
    move_tally s (fetching n) (item number packet) =
        taken_by p s (IsTally s 0) (λ ending. idle s 0 (over ending) refl) n number packet (p.take s packet)
        (record { acks = omega arith; gone = 0; few = omega arith; outbox = refl })
        (record { acks = omega arith; gone = 0; few = omega arith; outbox = keeps s packet })
    move_tally s (fetching n) (stored m) = idle s 1 (over wrong) refl
    move_tally s (fetching n) empty = idle s 0 (waits_by (p.outbox s) End) (then_none s (p.outbox s) End)
    move_tally s (fetching n) acked = idle s 0 (over wrong) refl
    move_tally s (fetching n) box_full = idle s 0 (over wrong) refl
    move_tally s (fetching n) unknown = idle s 0 (over no_such_box) refl
    move_tally s (fetching n) (absent m) = idle s 0 (over wrong) refl
    move_tally s (fetching n) (bad kind) = idle s 0 (over wrong) refl
    move_tally s (fetching n) (denied rule last) = idle s 0 (over (denied_by rule)) refl
    move_tally s (acking n number) reply =
        acked_by p s (IsTally s (kept_count reply)) (λ ending. idle s (kept_count reply) (over ending) refl) n number
        (acknowledged_by p s (IsTally s (kept_count reply)) (λ ending. idle s (kept_count reply) (over ending) refl) n
        (λ last. idle s (kept_count reply) (waits_by (p.outbox s) MoreStands) (then_none s (p.outbox s) MoreStands))
        (λ another. idle s (kept_count reply) (fetching (n + 1)) refl)) reply
    move_tally s (posting which) (stored number) = record {
      acks = omega (arith, then_none (p.sent s) (p.outbox (p.sent s)) which);
      gone = 1;
      few = omega arith;
      outbox = drops s;
    }
    move_tally s (posting which) (item m packet) = idle s 0 (over wrong) refl
    move_tally s (posting which) empty = idle s 0 (over wrong) refl
    move_tally s (posting which) acked = idle s 0 (over wrong) refl
    move_tally s (posting which) box_full = idle s 0 (over box_is_full) refl
    move_tally s (posting which) unknown = idle s 0 (over no_such_box) refl
    move_tally s (posting which) (absent m) = idle s 0 (over wrong) refl
    move_tally s (posting which) (bad kind) = idle s 0 (over wrong) refl
    move_tally s (posting which) (denied rule last) = idle s 0 (over (denied_by rule)) refl
    move_tally s (over ending) reply = idle s (kept_count reply) (over ending) refl

    by_again : (c : Course S) (packets : List (List ℕ)) (count : ℕ) (reply : Replied) (again : Bool) → IsTallied c packets count
        → IsTallied (read_by p c reply again) packets (count + kept_count reply)
    by_again c packets count reply true tally =
        let same = again_none c.requests (asked_in p c.state c.wait) p.keys c.tokens (tokens_by (role_in c.wait) c.tokens reply true) in
        record {
          acks = omega (arith, tally.acks, same, sum_by-append take_count c.acts []);
          gone = tally.gone;
          few = omega (arith, tally.few);
          outbox = tally.outbox;
        }
    by_again c packets count reply false tally =
        let m = move p c.state c.wait reply in
        let made = move_tally c.state c.wait reply in
        let tokens = tokens_by (role_in c.wait) c.tokens reply false in
        record {
          acks = omega (
            arith,
            tally.acks,
            made.acks,
            acks_joined false (made_requests p c) (as_list (option_map (tagged p.keys tokens) (asked_in p m.state m.wait))),
            untold (asked_in p m.state m.wait) p.keys tokens,
            sum_by-append take_count c.acts m.acts,
          );
          gone = tally.gone + made.gone;
          few = omega (arith, tally.few, made.few);
          outbox = made.outbox ∙ ap (drop made.gone) tally.outbox ∙ drop-drop made.gone tally.gone packets;
        }

    one_more : (c : Course S) (packets : List (List ℕ)) (count : ℕ) (reply : Replied) → IsTallied c packets count
        → IsTallied (read_one p c reply) packets (count + kept_count reply)
    one_more c packets count reply tally = by_again c packets count reply (repeats p c reply) tally

    all_more : (c : Course S) (packets : List (List ℕ)) (count : ℕ) (replies : List Replied) → IsTallied c packets count
        → IsTallied (course_from p c replies) packets (count + sum_by kept_count replies)
    all_more c packets count [] tally =
        record { acks = tally.acks; gone = tally.gone; few = omega (arith, tally.few); outbox = tally.outbox }
    all_more c packets count (reply ∷ replies) tally =
        let all = all_more (read_one p c reply) packets (count + kept_count reply) replies (one_more c packets count reply tally) in
        record {
          acks = all.acks;
          gone = all.gone;
          few = omega (arith, all.few, sum_by-cons kept_count reply replies);
          outbox = all.outbox;
        }

    pub tallied : (s : S) (replies : List Replied) → IsTallied (course_of p s replies) (p.outbox s) (sum_by kept_count replies)
    tallied s replies =
        let all = all_more (begun p s) (p.outbox s) 0 replies (record { acks = omega arith; gone = 0; few = omega arith; outbox = refl }) in
        record { acks = all.acks; gone = all.gone; few = omega (arith, all.few); outbox = all.outbox }

  -- with one more reply no fewer are taken
  pub takes_more : (c : Course S) (reply : Replied) → sum_by take_count c.acts ≤ sum_by take_count (read_one p c reply).acts
  takes_more c reply = omega (arith, sum_by-append take_count c.acts (heard p c reply (repeats p c reply)).acts)
