-- The counters that a guarded box serves rise.
use Rattle.std.proofs.Common.{◌≡◌, ℕ, ◌+◌, Bool, true, false, List, [], ◌∷◌, ◌++◌, Option, Some, None, Result, Ok, Err, refl, sym, ◌∙◌, ap, subst, arith}
use Rattle.std.specs.Prelude.{map, if◌then◌else◌}
use Rattle.relay_guard.specs.Guards.{last_of, with_last}
use Rattle.relay_guard.specs.Histories.{Call, IsServed, RisesBetween, counter_served, guard_after, same_role}
use Rattle.relay_guard.specs.declared.guard.Denied.{Denied}
use Rattle.relay_guard.specs.declared.guard.Guard.{Guard}
use Rattle.relay_guard.specs.declared.guard.Role.{Role}
use Rattle.relay_guard.proofs.Rising.{GoesOn, answered, cut, last-own, own_role, served}
use Rattle.relay_core.specs.Alone.{box_after, next_alone, replies_alone}
use Rattle.relay_core.specs.Boxes.{Answer, Box, Kept, answer_by, answer_in, answer_of, becomes, box_of, by_verdict, has_number, is_full, judged_in, oldest, role_of, stays, with_packet, without_number}
use Rattle.relay_core.specs.Counters.{AreOwn, Passage, RiseBy, RiseIn, answers, box_through, counter_by, counter_in, counters, counters_through, cuts}
use Rattle.relay_core.specs.Streams.{BoxExchange, asks, replies, served as served_stream, served_within, told}
use Rattle.relay_core.specs.declared.limits.TheConstants.{EXCHANGE_LIMIT}
use Rattle.relay_core.proofs.Apart.{isolated_within}
use Rattle.relay_wire.specs.Replies.{Replied, absent, acked, box_full, stored}
use Rattle.relay_wire.specs.Frames.{frames_of}
use Rattle.relay_wire.specs.Requests.{Asked, Asking, acks, fetches, plain_body, posts}

abbrev call_of : Asked → Call
call_of asked = record { role = role_of asked.ask; token = asked.token; request = plain_body asked.name asked.ask }

-- ---- a reply to what was served is none that denies

either : (P : Answer → Type 0) (t : Bool) (a b : Answer) → P a → P b → P (if t then a else b)
either P true a b x y = x
either P false a b x y = y

oldest_counts : (role : Role) (asked : Asked) (packets : List Kept) → counter_by role asked (oldest packets) ≡ counter_in role (role_of asked.ask) asked.token
oldest_counts role asked [] = refl
oldest_counts role asked (kept ∷ more) = refl

counts : (role : Role) (box : Box) (asked : Asked) (ask : Asking) → counter_by role asked (answer_of box ask).reply ≡ counter_in role (role_of asked.ask) asked.token
unfolding answer_of
counts role box asked (posts packet) =
    either (λ a. counter_by role asked a.reply ≡ counter_in role (role_of asked.ask) asked.token) (is_full box) (stays box_full box) (becomes (stored (box.last + 1)) (with_packet box packet)) refl refl
counts role box asked fetches = oldest_counts role asked box.packets
counts role box asked (acks n) =
    either (λ a. counter_by role asked a.reply ≡ counter_in role (role_of asked.ask) asked.token) (has_number n box.packets) (becomes acked (without_number box n)) (stays (absent n) box) refl refl

-- the counter of what was served is the last one then
served_counts : (role : Role) (guard : Guard) (call : Call) (next : Guard) → IsServed guard call next → counter_in role call.role call.token ≡ counter_served role call (Ok next)
served_counts role guard call next is =
    ap (counter_in role call.role) is.there ∙ by_role (same_role role call.role) refl
  where
    by_role : (t : Bool) → same_role role call.role ≡ t → (if t then is.token.counter ∷ [] else []) ≡ (if t then last_of next role ∷ [] else [])
    by_role false e = refl
    by_role true e =
        let same : role ≡ call.role = own_role role call.role e in
        ap (λ (n : ℕ). n ∷ []) (sym (ap (λ (g : Guard). last_of g role) is.next_is ∙ ap (λ (r : Role). last_of (with_last guard call.role is.token.counter) r) same ∙ last-own guard call.role is.token.counter))

-- ---- one request to a guarded box

record Steps (role : Role) (box : Box) (guard : Guard) (asked : Asked) (a : Answer) : Type 0 where
  guarded : a.next.guard ≡ Some (guard_after guard (judged_in guard asked))
  counted : counter_by role asked a.reply ≡ counter_served role (call_of asked) (judged_in guard asked)

by_judged : (role : Role) (box : Box) (guard : Guard) (asked : Asked) (is : box.guard ≡ Some guard) (v : Result Guard Denied) → judged_in guard asked ≡ v
    → ((by_verdict box (answer_of box asked.ask) v).next.guard ≡ Some (guard_after guard v)) × (counter_by role asked (by_verdict box (answer_of box asked.ask) v).reply ≡ counter_served role (call_of asked) v)
by_judged role box guard asked is (Ok next) h =
    (refl, counts role box asked asked.ask ∙ served_counts role guard (call_of asked) next (served guard (role_of asked.ask) asked.token (plain_body asked.name asked.ask) next h))
by_judged role box guard asked is (Err d) h = (is, refl)

steps : (role : Role) (box : Box) (guard : Guard) (asked : Asked) → box.guard ≡ Some guard → Steps role box guard asked (answer_in box asked)
unfolding answer_in
steps role box guard asked is =
    let both = by_judged role box guard asked is (judged_in guard asked) refl in
    subst (λ (o : Option Guard). Steps role box guard asked (answer_by box asked o)) (sym is) (record { guarded = both.0; counted = both.1 })

-- ---- all that it goes through

-- from a guard, through the rest
record Goes (role : Role) (guard : Guard) (after : Option Box) (list : List ℕ) : Type 0 where
  box : Box
  there : after ≡ Some box
  last : Guard
  guarded : box.guard ≡ Some last
  rises : RisesBetween (last_of guard role) (last_of last role) list

goes_through : (role : Role) (box : Box) (guard : Guard) (passages : List Passage) → box.guard ≡ Some guard → AreOwn (Some box) passages
    → Goes role guard (box_through (Some box) passages) (counters_through role passages)
goes_through role box guard [] is own = record { box = box; there = refl; last = guard; guarded = is; rises = omega arith }
goes_through role box guard (answers t ∷ more) is own =
    let step = steps role box guard t.asked is in
    let v = judged_in guard t.asked in
    let on : GoesOn role guard (guard_after guard v) (counter_served role (call_of t.asked) v) = answered role guard (call_of t.asked) v refl in
    let rest = goes_through role (answer_in box t.asked).next (guard_after guard v) more step.guarded own.1 in
    let told : counter_by role t.asked t.reply ≡ counter_served role (call_of t.asked) v = ap (counter_by role t.asked) own.0 ∙ step.counted in
    record {
      box = rest.box;
      there = rest.there;
      last = rest.last;
      guarded = rest.guarded;
      rises = subst (λ (l : List ℕ). RisesBetween (last_of guard role) (last_of rest.last role) (l ++ counters_through role more)) (sym told)
          (on.told_is (counters_through role more) (last_of rest.last role) rest.rises);
    }
goes_through role box guard (cuts false asked ∷ more) is own = goes_through role box guard more is own.1
goes_through role box guard (cuts true asked ∷ more) is own =
    let step = steps role box guard asked is in
    let v = judged_in guard asked in
    let on : GoesOn role guard (guard_after guard v) [] = cut role guard (call_of asked) v refl in
    let rest = goes_through role (answer_in box asked).next (guard_after guard v) more step.guarded own.1 in
    record {
      box = rest.box;
      there = rest.there;
      last = rest.last;
      guarded = rest.guarded;
      rises = on.told_is (counters_through role more) (last_of rest.last role) rest.rises;
    }

rise_by : (role : Role) (box : Box) (passages : List Passage) (guard : Option Guard) → box.guard ≡ guard → AreOwn (Some box) passages
    → (after : Option Box) → box_through (Some box) passages ≡ after → RiseIn role (Some (record box { guard = guard })) after (counters_through role passages)
rise_by role box passages (Some guard) is own (Some after) there =
    let goes = goes_through role box guard passages is own in
    let same : goes.box ≡ after = (let e : (let o : Option Box = Some goes.box in o) ≡ Some after = sym goes.there ∙ there in cc) in
    subst (λ (o : Option Guard). RiseBy role (Some guard) o (counters_through role passages)) (sym (ap (λ (b : Box). b.guard) (sym same) ∙ goes.guarded)) goes.rises
rise_by role box passages (Some guard) is own None there =
    let goes = goes_through role box guard passages is own in
    absurd (let e : (let o : Option Box = Some goes.box in o) ≡ None = sym goes.there ∙ there in cc)
rise_by role box passages None is own (Some after) there = tt
rise_by role box passages None is own None there = through_some (Some box) passages box refl there
  where
    through_some : (o : Option Box) (list : List Passage) (b : Box) → o ≡ Some b → box_through o list ≡ None → ⊥
    through_some None list b h none = (let e : (let o : Option Box = None in o) ≡ Some b = h in cc)
    through_some (Some x) [] b h none = (let e : (let o : Option Box = Some x in o) ≡ None = none in cc)
    through_some (Some x) (answers t ∷ list) b h none = through_some (Some (answer_in x t.asked).next) list (answer_in x t.asked).next refl none
    through_some (Some x) (cuts true asked ∷ list) b h none = through_some (Some (answer_in x asked).next) list (answer_in x asked).next refl none
    through_some (Some x) (cuts false asked ∷ list) b h none = through_some (Some x) list x refl none

pub rises_through : (role : Role) (box : Option Box) (passages : List Passage) → AreOwn box passages → RiseIn role box (box_through box passages) (counters_through role passages)
rises_through role None passages own = tt
rises_through role (Some box) passages own = rise_by role box passages box.guard refl own (box_through (Some box) passages) refl

-- ---- a stream

own_replies : (box : Option Box) (list : List BoxExchange) → replies list ≡ replies_alone box (asks list) → AreOwn box (map answers list)
own_replies box [] is = tt
own_replies box (t ∷ list) is = (heads t.reply _ (replies list) _ is, own_replies (next_alone box t.asked) list (tails t.reply _ (replies list) _ is))
  where
    heads : (a b : Replied) (xs ys : List Replied) → a ∷ xs ≡ b ∷ ys → a ≡ b
    heads a b xs ys h = cc

    tails : (a b : Replied) (xs ys : List Replied) → a ∷ xs ≡ b ∷ ys → xs ≡ ys
    tails a b xs ys h = cc

through_all : (box : Option Box) (list : List BoxExchange) → box_through box (map answers list) ≡ box_after box (asks list)
through_all box [] = refl
through_all box (t ∷ list) = through_all (next_alone box t.asked) list

all_counters : (role : Role) (list : List BoxExchange) → counters_through role (map answers list) ≡ counters role list
all_counters role [] = refl
all_counters role (t ∷ list) = ap (λ (l : List ℕ). counter_by role t.asked t.reply ++ l) (all_counters role list)

pub rises_within : (n : ℕ) (role : Role) (name : List ℕ) (boxes : List Box) (frames : List (List ℕ))
    → RiseIn role (box_of name boxes) (box_of name (served_within n boxes frames).next) (counters role (told name (served_within n boxes frames).exchanges))
rises_within n role name boxes frames =
    let apart = isolated_within n name boxes frames in
    let list = told name (served_within n boxes frames).exchanges in
    let own = own_replies (box_of name boxes) list apart.replied in
    subst (λ (b : Option Box). RiseIn role (box_of name boxes) b (counters role list)) (through_all (box_of name boxes) list ∙ sym apart.next)
    (subst (λ (l : List ℕ). RiseIn role (box_of name boxes) (box_through (box_of name boxes) (map answers list)) l) (all_counters role list)
    (rises_through role (box_of name boxes) (map answers list) own))

pub rises_in_stream : (role : Role) (name : List ℕ) (boxes : List Box) (stream : List ℕ)
    → RiseIn role (box_of name boxes) (box_of name (served_stream boxes stream).next) (counters role (told name (served_stream boxes stream).exchanges))
unfolding served_stream
rises_in_stream role name boxes stream = rises_within EXCHANGE_LIMIT role name boxes (frames_of stream)
