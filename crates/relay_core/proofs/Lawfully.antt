-- Boxes stay lawful, and replies are lawful.
use Rattle.std.proofs.Common.{◌≡◌, ℕ, zero, suc, ◌+◌, ◌^◌, ◌<◌, Bool, true, false, List, [], ◌∷◌, length, get_or, Option, Some, None, Result, Ok, Err, refl, ap, subst, arith}
use Rattle.std.specs.Prelude.{◌-◌, ◌||◌, ◌==◌, nat_le, nat_lt, All, if◌then◌else◌}
use Rattle.std.proofs.lemmas.Bool.Decides.{nat_tests}
use Rattle.relay_core.specs.declared.limits.TheConstants.{BOX_LIMIT}
use Rattle.relay_core.specs.Boxes.{Kept, Box, Answer, Answers, answer_by, answer_in, answer_of, by_verdict, judged_in, role_of, answers_of, answers_read, of_first, after_box, is_named, is_full, has_number, oldest, stays, becomes, with_packet, without_number}
use Rattle.relay_core.specs.Lawful.{HasLawfulGuard, IsLawfulBox, IsLawfulGuard, IsLawfulRead}
use Rattle.relay_core.proofs.Rising.{lawful_post, lawful_without, rises-at}
use Rattle.relay_wire.specs.Names.{is_packet}
use Rattle.relay_wire.specs.Replies.{IsLawfulReplied, is_rule, stored, box_full, acked, absent}
use Rattle.relay_wire.specs.Requests.{Asking, posts, fetches, acks, IsLawfulAsked, IsLawfulAsking, IsLawfulToken, Asked, plain_body}
use Rattle.relay_guard.specs.Guards.{Token, is_tagged, judged, last_of, no_token, old_counter, with_last, wrong_tag}
use Rattle.relay_guard.specs.declared.guard.Denied.{Denied}
use Rattle.relay_guard.specs.declared.guard.Guard.{Guard}
use Rattle.relay_guard.specs.declared.guard.Role.{Role}
use Rattle.relay_guard.specs.declared.guard.Role.TheVariants.{Owner, Poster}

-- ---- one box

record IsLawfulAnswer (a : Answer) : Type 0 where
  reply : IsLawfulReplied a.reply
  next : IsLawfulBox a.next

either_lawful : (is : Bool) (a b : Answer) → (is ≡ true → IsLawfulAnswer a) → (is ≡ false → IsLawfulAnswer b) → IsLawfulAnswer (if is then a else b)
either_lawful true a b one two = one refl
either_lawful false a b one two = two refl

lawful_oldest : (box : Box) (packets : List Kept) → box.packets ≡ packets → IsLawfulBox box → IsLawfulReplied (oldest packets)
lawful_oldest box [] same lawful = tt
lawful_oldest box (kept ∷ more) same lawful =
    let inside : 0 < length box.packets = omega (arith, ap (λ (l : List Kept). length l) same) in
    let at = rises-at 0 box.last box.packets lawful.rises 0 kept inside in
    let packet = lawful.packets 0 kept inside in
    let first = ap (λ (l : List Kept). get_or l 0 kept) same in
    let number = ap (λ (k : Kept). k.number) first in
    (omega (arith, number, at.1, lawful.numbered), subst (λ (k : Kept). is_packet k.packet ≡ true) first packet)

below_last : (box : Box) → IsLawfulBox box → is_full box ≡ false → box.last + 1 < 2 ^ 64
below_last box lawful room = (lawful_post_numbered box.last (length box.packets) lawful.numbered room)
  where
    lawful_post_numbered : (last n : ℕ) → last < 2 ^ 64
        → (nat_le BOX_LIMIT n || last == 2 ^ 64 - 1) ≡ false → last + 1 < 2 ^ 64
    lawful_post_numbered last n fits room = grind (arith, nat_tests)

lawful_answer : (box : Box) (ask : Asking) → IsLawfulBox box → IsLawfulAsking ask → IsLawfulAnswer (answer_of box ask)
unfolding answer_of
lawful_answer box (posts packet) lawful is =
    either_lawful (is_full box) (stays box_full box) (becomes (stored (box.last + 1)) (with_packet box packet))
    (λ full. record { reply = tt; next = lawful })
    (λ room. record { reply = below_last box lawful room; next = lawful_post box packet lawful room is })
lawful_answer box fetches lawful is = record { reply = lawful_oldest box box.packets refl lawful; next = lawful }
lawful_answer box (acks n) lawful is =
    either_lawful (has_number n box.packets) (becomes acked (without_number box n)) (stays (absent n) box)
    (λ there. record { reply = tt; next = lawful_without box n lawful })
    (λ absent. record { reply = is; next = lawful })

-- ---- behind a guard

counter_kept : (guard : Guard) (role : Role) (n : ℕ) → n < 2 ^ 64 → IsLawfulGuard guard
    → IsLawfulGuard (with_last guard role n)
counter_kept guard Owner n fits lawful =
    record { owner = lawful.owner; poster = lawful.poster; owner_last = fits; poster_last = lawful.poster_last }
counter_kept guard Poster n fits lawful =
    record { owner = lawful.owner; poster = lawful.poster; owner_last = lawful.owner_last; poster_last = fits }

last_fits : (guard : Guard) (role : Role) → IsLawfulGuard guard → last_of guard role < 2 ^ 64
last_fits guard Owner lawful = lawful.owner_last
last_fits guard Poster lawful = lawful.poster_last

record IsLawfulVerdict (v : Result Guard Denied) : Type 0 where
  ok : (next : Guard) → v ≡ Ok next → IsLawfulGuard next
  err : (d : Denied) → v ≡ Err d → (is_rule d.rule ≡ true) × (d.last < 2 ^ 64)

of_ok : (guard : Guard) → IsLawfulGuard guard → IsLawfulVerdict (Ok guard)
of_ok guard lawful = record {
  ok = λ next h. subst IsLawfulGuard (let e : (let r : Result Guard Denied = Ok guard in r) ≡ Ok next = h in let s : guard ≡ next = cc in s) lawful;
  err = λ d h. absurd (let e : (let r : Result Guard Denied = Ok guard in r) ≡ Err d = h in cc);
}

of_err : (denied_ : Denied) → is_rule denied_.rule ≡ true → denied_.last < 2 ^ 64 → IsLawfulVerdict (Err denied_)
of_err denied_ rule fits = record {
  ok = λ next h. absurd (let e : (let r : Result Guard Denied = Err denied_ in r) ≡ Ok next = h in cc);
  err = λ d h. subst (λ (x : Denied). (is_rule x.rule ≡ true) × (x.last < 2 ^ 64)) (let e : (let r : Result Guard Denied = Err denied_ in r) ≡ Err d = h in let s : denied_ ≡ d = cc in s) (rule, fits);
}

lawful_judged : (guard : Guard) (role : Role) (token : Option Token) (request : List ℕ) → IsLawfulGuard guard → IsLawfulToken token
    → IsLawfulVerdict (judged guard role token request)
unfolding judged
lawful_judged guard role None request lawful is = of_err no_token refl (omega arith)
lawful_judged guard role (Some token) request lawful is = by_tests (is_tagged guard role token request) (nat_lt (last_of guard role) token.counter)
  where
    by_tests : (t u : Bool) → IsLawfulVerdict (if t then (if u then Ok (with_last guard role token.counter) else Err (old_counter (last_of guard role))) else Err wrong_tag)
    by_tests true true = of_ok (with_last guard role token.counter) (counter_kept guard role token.counter is.0 lawful)
    by_tests true false = of_err (old_counter (last_of guard role)) refl (last_fits guard role lawful)
    by_tests false u = of_err wrong_tag refl (omega arith)

with_guard : (box : Box) (guard : Option Guard) → IsLawfulBox box → HasLawfulGuard guard → IsLawfulBox (record box { guard = guard })
with_guard box guard lawful is = record {
  named = lawful.named;
  numbered = lawful.numbered;
  count = lawful.count;
  rises = lawful.rises;
  packets = lawful.packets;
  guard = is;
}

lawful_by : (box : Box) (asked : Asked) (guard : Option Guard) → IsLawfulBox box → HasLawfulGuard guard → IsLawfulAsked asked
    → IsLawfulAnswer (answer_by box asked guard)
lawful_by box asked None lawful is may = lawful_answer box asked.ask lawful may.1
lawful_by box asked (Some guard) lawful is may =
    by_judged (judged_in guard asked) (lawful_judged guard (role_of asked.ask) asked.token (plain_body asked.name asked.ask) is may.2)
  where
    by_judged : (v : Result Guard Denied) → IsLawfulVerdict v → IsLawfulAnswer (by_verdict box (answer_of box asked.ask) v)
    by_judged (Ok next) v =
        let made = lawful_answer box asked.ask lawful may.1 in
        record { reply = made.reply; next = with_guard (answer_of box asked.ask).next (Some next) made.next (v.ok next refl) }
    by_judged (Err d) v = record { reply = v.err d refl; next = lawful }

lawful_in : (box : Box) (asked : Asked) → IsLawfulBox box → IsLawfulAsked asked → IsLawfulAnswer (answer_in box asked)
unfolding answer_in
lawful_in box asked lawful is = lawful_by box asked box.guard lawful lawful.guard is

-- ---- all boxes

all_tail : (box : Box) (boxes : List Box) → All IsLawfulBox (box ∷ boxes) → All IsLawfulBox boxes
all_tail box boxes are k d inside = are (suc k) d (omega (arith, inside))

all_more : (box : Box) (boxes : List Box) → IsLawfulBox box → All IsLawfulBox boxes → All IsLawfulBox (box ∷ boxes)
all_more box boxes is are zero d inside = is
all_more box boxes is are (suc k) d inside = are k d (omega (arith, inside))

record AreLawfulAnswers (a : Answers) : Type 0 where
  reply : IsLawfulReplied a.reply
  next : All IsLawfulBox a.next

lawful_asked : (boxes : List Box) (asked : Asked) → All IsLawfulBox boxes → IsLawfulAsked asked → AreLawfulAnswers (answers_of boxes asked)
unfolding answers_of
lawful_asked [] asked are is = record { reply = tt; next = are }
lawful_asked (box ∷ boxes) asked are is = by_name (is_named asked.name box) (lawful_asked boxes asked (all_tail box boxes are) is)
  where
    first : IsLawfulBox box
    first = are 0 box (omega arith)

    by_name : (named : Bool) → AreLawfulAnswers (answers_of boxes asked)
        → AreLawfulAnswers (if named then of_first (answer_in box asked) boxes else after_box box (answers_of boxes asked))
    by_name true more =
        let a = lawful_in box asked first is in
        record { reply = a.reply; next = all_more (answer_in box asked).next boxes a.next (all_tail box boxes are) }
    by_name false more = record { reply = more.reply; next = all_more box (answers_of boxes asked).next first more.next }

pub lawful_reply : (boxes : List Box) (asked : Result Asked ℕ) → All IsLawfulBox boxes → IsLawfulRead asked → IsLawfulReplied (answers_read boxes asked).reply
lawful_reply boxes (Ok asked) are is = (lawful_asked boxes asked are is).reply
lawful_reply boxes (Err kind) are is = is

pub lawful_next : (boxes : List Box) (asked : Result Asked ℕ) → All IsLawfulBox boxes → IsLawfulRead asked → All IsLawfulBox (answers_read boxes asked).next
lawful_next boxes (Ok asked) are is = (lawful_asked boxes asked are is).next
lawful_next boxes (Err kind) are is = are
