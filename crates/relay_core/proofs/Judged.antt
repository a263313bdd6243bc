-- A box behind a guard answers as without one, once the guard has let the request through.
use Rattle.std.proofs.Common.{◌≡◌, ℕ, ◌+◌, Bool, true, false, Option, Some, None, Result, Ok, Err, refl, ◌∙◌, ap, subst}
use Rattle.std.specs.Prelude.{if◌then◌else◌, is_some, ◌||◌}
use Rattle.relay_guard.specs.declared.guard.Denied.{Denied}
use Rattle.relay_guard.specs.declared.guard.Guard.{Guard}
use Rattle.relay_core.specs.Boxes.{Answer, Box, answer_by, answer_in, answer_of, becomes, by_verdict, guard_then, has_number, is_full, judged_in, passed_by, stays, with_packet, without_number}
use Rattle.relay_wire.specs.Replies.{absent, acked, box_full, denied, stored}
use Rattle.relay_wire.specs.Requests.{Asked, Asking, acks, fetches, posts}

abbrev pub guarded_by : Option Guard → Answer → Answer
guarded_by guard a = record { reply = a.reply; next = record a.next { guard = guard }; changed = a.changed }

either : (guard : Option Guard) (t : Bool) (a b c d : Answer) → a ≡ guarded_by guard c → b ≡ guarded_by guard d → (if t then a else b) ≡ guarded_by guard (if t then c else d)
either guard true a b c d x y = x
either guard false a b c d x y = y

-- what is asked of the packets has nothing to do with the guard
pub apart : (box : Box) (guard : Option Guard) (ask : Asking) → answer_of (record box { guard = guard }) ask ≡ guarded_by guard (answer_of box ask)
unfolding answer_of
apart box guard (posts packet) = either guard (is_full box) _ _ (stays box_full box) (becomes (stored (box.last + 1)) (with_packet box packet)) refl refl
apart box guard fetches = refl
apart box guard (acks n) = either guard (has_number n box.packets) _ _ (becomes acked (without_number box n)) (stays (absent n) box) refl refl

-- and leaves the guard
pub guard_stays : (box : Box) (ask : Asking) → (answer_of box ask).next.guard ≡ box.guard
guard_stays box ask = ap (λ (a : Answer). a.next.guard) (apart box box.guard ask)

-- it let the request through
pub record Serves (box : Box) (asked : Asked) (guard : Option Guard) (a : Answer) : Type 0 where
  pub reply : a.reply ≡ (answer_of box asked.ask).reply
  pub next : a.next ≡ record (answer_of box asked.ask).next { guard = guard }
  pub changed : a.changed ≡ (is_some guard || (answer_of box asked.ask).changed)

keeps_guard : (box : Box) (ask : Asking) → (answer_of box ask).next ≡ record (answer_of box ask).next { guard = box.guard }
keeps_guard box ask = ap (λ (a : Answer). a.next) (apart box box.guard ask)

served_by : (box : Box) (asked : Asked) (guard : Guard) (v : Result Guard Denied) (next : Option Guard) → guard_then v ≡ Ok next
    → Serves box asked next (by_verdict box (answer_of box asked.ask) v)
served_by box asked guard (Err d) next h = absurd (let e : (let r : Result (Option Guard) Denied = Err d in r) ≡ Ok next = h in cc)
served_by box asked guard (Ok g) next h =
    let same : (let o : Option Guard = Some g in o) ≡ next = (let e : (let r : Result (Option Guard) Denied = Ok (Some g) in r) ≡ Ok next = h in cc) in
    subst (λ (o : Option Guard). Serves box asked o (by_verdict box (answer_of box asked.ask) (Ok g))) same (record { reply = refl; next = refl; changed = refl })

by_guard : (box : Box) (asked : Asked) (guard next : Option Guard) → box.guard ≡ guard → passed_by guard asked ≡ Ok next → Serves box asked next (answer_by box asked guard)
by_guard box asked (Some guard) next is h = served_by box asked guard (judged_in guard asked) next h
by_guard box asked None next is h =
    let same : (let o : Option Guard = None in o) ≡ next = (let e : (let r : Result (Option Guard) Denied = Ok None in r) ≡ Ok next = h in cc) in
    subst (λ (o : Option Guard). Serves box asked o (answer_of box asked.ask)) same
    (record { reply = refl; next = keeps_guard box asked.ask ∙ ap (λ (o : Option Guard). record (answer_of box asked.ask).next { guard = o }) is; changed = refl })

pub serves : (box : Box) (asked : Asked) (next : Option Guard) → passed_by box.guard asked ≡ Ok next → Serves box asked next (answer_in box asked)
unfolding answer_in
serves box asked next h = by_guard box asked box.guard next refl h

denied_by : (box : Box) (made : Answer) (v : Result Guard Denied) (d : Denied) → guard_then v ≡ Err d → by_verdict box made v ≡ stays (denied d.rule d.last) box
denied_by box made (Ok g) d h = absurd (let e : (let r : Result (Option Guard) Denied = Ok (Some g) in r) ≡ Err d = h in cc)
denied_by box made (Err f) d h =
    let same : f ≡ d = (let e : (let r : Result (Option Guard) Denied = Err f in r) ≡ Err d = h in cc) in
    ap (λ (x : Denied). stays (denied x.rule x.last) box) same

refused_by : (box : Box) (asked : Asked) (guard : Option Guard) (d : Denied) → passed_by guard asked ≡ Err d → answer_by box asked guard ≡ stays (denied d.rule d.last) box
refused_by box asked None d h = absurd (let e : (let r : Result (Option Guard) Denied = Ok None in r) ≡ Err d = h in cc)
refused_by box asked (Some guard) d h = denied_by box (answer_of box asked.ask) (judged_in guard asked) d h

pub refuses : (box : Box) (asked : Asked) (d : Denied) → passed_by box.guard asked ≡ Err d → answer_in box asked ≡ stays (denied d.rule d.last) box
unfolding answer_in
refuses box asked d h = refused_by box asked box.guard d h

-- ---- either way

-- A box serves a request, and then its reply and its packets are those of a box without a guard; or it
-- denies it, and stays.
pub data IsAnswered (box : Box) (asked : Asked) (a : Answer) : Type 0 where
  is_served : a.reply ≡ (answer_of box asked.ask).reply → a.next.packets ≡ (answer_of box asked.ask).next.packets
      → IsAnswered box asked a
  is_denied : (rule last : ℕ) → a ≡ stays (denied rule last) box → IsAnswered box asked a

pub is_answered : (box : Box) (asked : Asked) → IsAnswered box asked (answer_in box asked)
unfolding answer_in
is_answered box asked = by_guard box.guard
  where
    by_judged : (v : Result Guard Denied) → IsAnswered box asked (by_verdict box (answer_of box asked.ask) v)
    by_judged (Ok next) = is_served refl refl
    by_judged (Err d) = is_denied d.rule d.last refl

    by_guard : (guard : Option Guard) → IsAnswered box asked (answer_by box asked guard)
    by_guard None = is_served refl refl
    by_guard (Some guard) = by_judged (judged_in guard asked)
