-- Where a sync ends, over a link that carries a relay's replies.
use Rattle.std.proofs.Common.{◌≡◌, ◌≢◌, ℕ, zero, suc, ◌≤◌, Bool, true, false, List, [], ◌∷◌, ◌++◌, length, drop, Ok, Some, None, sym, ◌∙◌, ap, subst, arith, append-nil}
use Rattle.std.specs.Prelude.{◌+◌, ◌*◌, All, option_map, if◌then◌else◌}
use Rattle.std.specs.List.{AllByRecursion}
use Rattle.std.specs.Str.{bytes_eq}
use Rattle.relay_wire.specs.Requests.{Asked, IsLawfulAsked}
use Rattle.relay_wire.specs.Replies.{Replied}
use Rattle.relay_core.specs.Boxes.{Kept, Box, answers_of, box_of, is_named}
use Rattle.relay_guard.specs.declared.guard.Role.TheVariants.{Owner, Poster}
use Rattle.relay_core.specs.Lawful.{IsLawfulBox, Rises}
use Rattle.relay_core.specs.Streams.{served}
use Rattle.relay_core.proofs.Lawfully.{lawful_next}
use Rattle.sync_model.specs.Parties.{Party}
use Rattle.sync_model.specs.Moves.{Wait, Ending, asked_in, ended, over}
use Rattle.sync_model.specs.Courses.{as_list, course_of, made_requests}
use Rattle.sync_model.specs.Tokens.{tagged}
use Rattle.sync_model.specs.Transfers.{HasCounters, HaveOtherNumbers, IsGuardedFor, counted, CanTransfer, HasRoomForAll, HasRoom, Meeting, StandsAt, begins, emptied, meet_times, with_posts, sent_all, taken_all}
use Rattle.sync_model.specs.Carried.{IsCarried, relay_after, request_bytes}
use Rattle.sync_model.specs.declared.more.More.TheVariants.{End}
use Rattle.sync_model.proofs.Carried.{meeting}
use Rattle.sync_model.proofs.Meeting.{collects, delivers}
use Rattle.sync_model.proofs.Replying.{relay_boxes}
use Rattle.sync_model.proofs.Stopping.{IsPast, past_end, same_end}

-- ---- lawful boxes

others_differ : (number low last : ℕ) (ks : List Kept) → number ≤ low → Rises low last ks → AllByRecursion (λ (other : Kept). other.number ≢ number) ks
others_differ number low last [] le rises = tt
others_differ number low last (k ∷ ks) le rises =
    ((λ same. absurd (let lt = rises.0 in omega (arith, le, lt, same))), others_differ number k.number last ks (let lt = rises.0 in omega (arith, le, lt)) rises.1)

distinct : (low last : ℕ) (ks : List Kept) → Rises low last ks → HaveOtherNumbers ks
distinct low last [] rises = tt
distinct low last (k ∷ ks) rises = (others_differ k.number k.number last ks (omega arith) rises.1, distinct k.number last ks rises.1)

some_is : (a b : Box) → Some a ≡ Some b → a ≡ b
some_is a b h = cc

pub lawful_named : (name : List ℕ) (boxes : List Box) (box : Box) → box_of name boxes ≡ Some box → All IsLawfulBox boxes → IsLawfulBox box
lawful_named name [] box is are = absurd (let e : None ≡ Some box = is in cc)
lawful_named name (b ∷ boxes) box is are =
    by_name (λ e. lawful_named name boxes box e (λ k d inside. are (suc k) d (omega (arith, inside)))) (is_named name b) is
  where
    by_name : (box_of name boxes ≡ Some box → IsLawfulBox box) → (test : Bool) → (if test then Some b else box_of name boxes) ≡ Some box → IsLawfulBox box
    by_name more true e = subst IsLawfulBox (some_is b box e) (are zero b (omega arith))
    by_name more false e = more e

-- boxes stay lawful
after_lawful : (boxes : List Box) (xs : List Asked) → All IsLawfulBox boxes → AllByRecursion IsLawfulAsked xs → All IsLawfulBox (relay_after boxes xs)
after_lawful boxes [] are lawful = are
after_lawful boxes (x ∷ xs) are lawful = after_lawful (answers_of boxes x).next xs (lawful_next boxes (Ok x) are lawful.0) lawful.1

-- nothing waits after the end
pub no_more : {S : Type 0} (p : Party S) (s : S) (replies : List Replied) (ending : Ending) → (course_of p s replies).wait ≡ over ending
    → made_requests p (course_of p s replies) ≡ (course_of p s replies).requests
no_more p s replies ending is_over =
    ap (λ (w : Wait). (course_of p s replies).requests ++ as_list (option_map (tagged p.keys (course_of p s replies).tokens) (asked_in p (course_of p s replies).state w))) is_over ∙ append-nil (course_of p s replies).requests

module _ {S : Type 0} (p : Party S) (s : S) (boxes : List Box) (own peers : Box) where
  pub can_transfer : bytes_eq p.own p.peers ≡ false → All IsLawfulBox boxes → box_of p.own boxes ≡ Some own → box_of p.peers boxes ≡ Some peers → HasRoom p s own.packets
      → IsGuardedFor p.keys Owner own.guard → HasCounters Owner (2 * length own.packets + 1) own.guard
      → ((t : S) → p.outbox (p.sent t) ≡ drop 1 (p.outbox t)) → ((t : S) (packet : List ℕ) → p.outbox (p.take t packet).next ≡ p.outbox t) → CanTransfer p s boxes own peers
  can_transfer apart lawful own_box peers_box room own_guard own_counters drops keeps =
      let of_own = lawful_named p.own boxes own own_box lawful in
      record {
        apart = apart;
        own_box = own_box;
        peers_box = peers_box;
        own_guard = own_guard;
        own_counters = own_counters;
        distinct = distinct zero own.last own.packets of_own.rises;
        few = omega (arith, of_own.count);
        room = room;
        drops = drops;
        keeps = keeps;
      }

  -- ---- a sync that is over

  module _ (can : CanTransfer p s boxes own peers) (replies : List Replied) (is : IsCarried p s boxes replies) (ending : Ending)
      (is_over : (course_of p s replies).wait ≡ over ending) where
    abbrev done : List Asked
    done = (course_of p s replies).requests

    -- the course, and the boxes that have answered what was sent
    abbrev pub final : Meeting S
    final = record { course = course_of p s replies; boxes = (served boxes (request_bytes done)).next }

    boxes_are : relay_after boxes done ≡ (served boxes (request_bytes done)).next
    boxes_are =
        let none = no_more p s replies ending is_over in
        sym (relay_boxes boxes done (subst (AllByRecursion IsLawfulAsked) none is.lawful_requests) (omega (arith, is.few, ap length none)))

    pub ends_lawful : All IsLawfulBox final.boxes
    ends_lawful =
        subst (All IsLawfulBox) boxes_are
        (after_lawful boxes done is.lawful_boxes (subst (AllByRecursion IsLawfulAsked) (no_more p s replies ending is_over) is.lawful_requests))

    met : meet_times p (length replies) (begins p s boxes) ≡ final
    met = meeting p s boxes replies is ∙ ap (λ (bs : List Box). record { course = course_of p s replies; boxes = bs }) boxes_are

    over_there : (meet_times p (length replies) (begins p s boxes)).course.wait ≡ over ending
    over_there = ap (λ (m : Meeting S). m.course.wait) met ∙ is_over

    -- the own box then
    abbrev pub own_left : Box
    own_left = counted Owner (2 * length own.packets + 1) (emptied own)

    abbrev pub peers_left : Box
    peers_left = counted Poster (length (p.outbox s)) (with_posts peers (p.outbox s))

    -- all of the own box was taken, and it is empty
    pub ends_collected : IsPast p own_left final (taken_all p s own.packets)
    ends_collected =
        let came = collects p s boxes own peers can in
        subst (λ (m : Meeting S). IsPast p own_left m (taken_all p s own.packets)) met
        (past_end p can.apart own_left came.0 (length replies) (begins p s boxes) (taken_all p s own.packets) (p.outbox s) End peers came.1 ending over_there)

    -- and all of the outbox stands in the peer's box
    pub ends_delivered : HasRoomForAll p.keys (p.outbox s) peers
        → StandsAt p final (sent_all p (length (p.outbox s)) (taken_all p s own.packets)) (over (ended End)) own_left peers_left
    ends_delivered fits =
        let came = delivers p s boxes own peers can fits in
        subst (λ (m : Meeting S). StandsAt p m (sent_all p (length (p.outbox s)) (taken_all p s own.packets)) (over (ended End)) own_left peers_left)
        (same_end p came.0 (length replies) (begins p s boxes) (ended End) ending came.1.waits over_there ∙ met) came.1
