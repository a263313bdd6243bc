-- How a deed of a script went, by how its line ended.
use Rattle.std.specs.Prelude.{Bool, List, false, is_some, not, option_map, true, ℕ}
use Rattle.dr_disk.specs.declared.call.Call.{Call}
use Rattle.dr_model.specs.Machines.Sides.{Sides}
use Rattle.session_model.specs.Clients.{Client}
use Rattle.parties.specs.Shuts.{Shut}
use Rattle.std.proofs.Common.{Option, Some, ◌≡◌, ◌≤◌, None, Result, Ok, Err, OnOk, MatchResult, refl, subst, sym, arith}
use Rattle.dr_ports.specs.Ports.{Rose, appended}
use Rattle.dr_ports.specs.States.{SinkState}
use Rattle.dr_ports.specs.Writing.{TookBeginning, Writes}
use Rattle.dr_base.specs.declared.position.Side.{Side}
use Rattle.kem_laws.specs.Mechanism.{Mechanism}
use Rattle.scripts.specs.Deeds.{Deed}
use Rattle.scripts.specs.Lined.{lined_deed}
use Rattle.scripts.specs.Sides.{deed_side}
use Rattle.scripts.specs.declared.lined.Lined.{Lined}
use Rattle.duet.specs.Held.{DuetNow, after_deed, beside}
use Rattle.duet.specs.Outcomes.{SidesPlayed, barring, deed_on, freely_on, opened, lines_alone, unless_barred}
use Rattle.duet.specs.Playing.{PlaysAs, PlaysDeed, PlaysFreely}
use Rattle.duet.specs.Replies.{closed_line, open_line}
use Rattle.duet.specs.Tally.{counted_all}
use Rattle.duet.specs.declared.deeds.Cut.{Cut}
use Rattle.duet.specs.declared.deeds.Cut.TheVariants.{Write}
use Rattle.duet.specs.declared.tally.Tally.{Tally}

-- it was done, and its lines are written
pub goes_well : (side : Side) (made : SidesPlayed) (duet next : DuetNow) (tally more : Tally) (old new : SinkState)
    → next ≡ after_deed duet made → more ≡ counted_all side made.answers tally
    → new.taken ≡ appended old.taken made.lines → new.faults ≡ old.faults
    → PlaysAs side made duet tally more old new (Ok next)
goes_well side made duet next tally more old new steps counts wrote quiet = record {
  next = steps;
  counts = counts;
  whole = wrote;
  memory = λ h. absurd (cc h);
  part = λ h. absurd (cc h);
  rose = λ h. absurd (cc h);
  later = omega (arith, quiet);
  quiet = λ h. quiet;
}

-- a write failed
pub goes_unwritten : (side : Side) (made : SidesPlayed) (duet : DuetNow) (tally more : Tally) (old new : SinkState)
    → TookBeginning old.taken new.taken made.lines → Rose old.faults new.faults → old.faults ≤ new.faults
    → PlaysAs side made duet tally more old new (Err Write)
goes_unwritten side made duet tally more old new part rose later = record {
  next = _;
  counts = _;
  whole = _;
  memory = λ h. absurd (cc h);
  part = λ h. part;
  rose = λ h. rose;
  later = later;
  quiet = λ h. absurd (h refl);
}

-- what is so on an Ok, where there is one
pub of_ok : {T E P : Type 0} (r : Result T E) (v : T) → r ≡ Ok v → OnOk r P → P
of_ok {T} {E} {P} r v is holds = subst (λ (s : Result T E). OnOk s P) is holds

-- its lines were written, or a write failed
pub goes_written : {T E : Type 0} (side : Side) (made : SidesPlayed) (duet next : DuetNow) (tally more : Tally) (old new : SinkState)
    (written : Result T E) (result : Result DuetNow Cut) → MatchResult written (λ _. result ≡ Ok next) (λ _. result ≡ Err Write)
    → ((v : T) → written ≡ Ok v → next ≡ after_deed duet made)
    → more ≡ counted_all side made.answers tally
    → Writes old new made.lines written
    → PlaysAs side made duet tally more old new result
goes_written side made duet next tally more old new (Ok v) result is steps counts writes =
    subst (λ (r : Result DuetNow Cut). PlaysAs side made duet tally more old new r) (sym is)
    (goes_well side made duet next tally more old new (steps v refl) counts writes.whole writes.cause.passed)
goes_written side made duet next tally more old new (Err e) result is steps counts writes =
    subst (λ (r : Result DuetNow Cut). PlaysAs side made duet tally more old new r) (sym is)
    (goes_unwritten side made duet tally more old new writes.part writes.cause.failed writes.cause.later)

-- a line of this kind
pub goes_along : (k : Mechanism) (line other : Lined) (duet : DuetNow) (tally more : Tally) (old new : SinkState)
    (result : Result DuetNow Cut) → line ≡ other → PlaysFreely k (lined_deed other) duet tally more old new result
    → PlaysFreely k (lined_deed line) duet tally more old new result
goes_along k line other duet tally more old new result is goes =
    subst (λ l. PlaysFreely k (lined_deed l) duet tally more old new result) (sym is) goes

-- a deed that isn't barred
pub goes_freely : (k : Mechanism) (deed : Deed) (duet : DuetNow) (tally more : Tally) (old new : SinkState)
    (result : Result DuetNow Cut) → barring duet.shuts deed ≡ None
    → PlaysFreely k deed duet tally more old new result → PlaysDeed k deed duet tally more old new result
unfolding deed_on
goes_freely k deed duet tally more old new result free goes =
    subst (λ o. PlaysAs (deed_side deed) (unless_barred (deed_side deed) (beside duet) (freely_on k (beside duet) deed) o) duet tally more old new result)
    (sym free) goes

pub not_barred : (shut : Option (Shut Client)) → None ≡ option_map (λ (left : Shut Client). left.call) shut → shut ≡ None
not_barred None is = refl
not_barred (Some left) is = cc

-- a line alone
pub goes_told : {T E : Type 0} (side : Side) (made : SidesPlayed) (duet next : DuetNow) (tally : Tally) (old new : SinkState)
    (line : List ℕ) (written : Result T E) (result : Result DuetNow Cut) → next ≡ after_deed duet made
    → tally ≡ counted_all side made.answers tally → line ≡ made.lines
    → MatchResult written (λ _. result ≡ Ok next) (λ _. result ≡ Err Write)
    → Writes old new line written → PlaysAs side made duet tally tally old new result
goes_told side made duet next tally old new line written result steps none is ends writes =
    goes_written side made duet next tally tally old new written result ends (λ v _. steps) none
    (subst (λ bytes. Writes old new bytes written) is writes)

-- a deed that is barred, by a client that this kind of call has closed
pub goes_barred : {T E : Type 0} (k : Mechanism) (deed : Deed) (duet : DuetNow) (tally : Tally) (old new : SinkState) (call : Call)
    (line : List ℕ) (written : Result T E) (result : Result DuetNow Cut)
    → Some call ≡ option_map (λ (left : Shut Client). left.call) (barring duet.shuts deed)
    → line ≡ closed_line (deed_side deed) call
    → MatchResult written (λ _. result ≡ Ok duet) (λ _. result ≡ Err Write)
    → Writes old new line written → PlaysDeed k deed duet tally tally old new result
unfolding deed_on
goes_barred {T} {E} k deed duet tally old new call line written result barred is ends writes =
    by_shut (barring duet.shuts deed) barred
  where
    by_shut : (shut : Option (Shut Client)) → Some call ≡ option_map (λ (left : Shut Client). left.call) shut
        → PlaysAs (deed_side deed) (unless_barred (deed_side deed) (beside duet) (freely_on k (beside duet) deed) shut) duet tally tally old new result
    by_shut None same = absurd (cc same)
    by_shut (Some shut) same =
        let own : call ≡ shut.call = cc in
        goes_told (deed_side deed) (lines_alone (closed_line (deed_side deed) shut.call) (beside duet)) duet duet tally old new line written result
        refl refl (subst (λ kind. line ≡ closed_line (deed_side deed) kind) own is) ends writes

-- an opening of a client that is open, and of one that is closed
pub goes_unopened : {T E : Type 0} (side : Side) (duet : DuetNow) (by : Client → Sides) (tally : Tally) (old new : SinkState)
    (call : Option Call) (none : Bool) (shut : Option (Shut Client)) (line : List ℕ) (written : Result T E) (result : Result DuetNow Cut)
    → call ≡ option_map (λ (left : Shut Client). left.call) shut → is_some call ≡ not none → none ≡ true
    → line ≡ open_line side false → MatchResult written (λ _. result ≡ Ok duet) (λ _. result ≡ Err Write)
    → Writes old new line written → PlaysAs side (opened side (beside duet) by shut) duet tally tally old new result
goes_unopened side duet by tally old new call none None line written result shown some test is ends writes =
    goes_told side (lines_alone (open_line side false) (beside duet)) duet duet tally old new line written result refl refl is ends writes
goes_unopened side duet by tally old new None none (Some shut) line written result shown some test is ends writes = absurd (cc shown)
goes_unopened side duet by tally old new (Some call) none (Some shut) line written result shown some test is ends writes =
    absurd (cc (some, test))

pub goes_opened : {T E : Type 0} (side : Side) (duet next : DuetNow) (by : Client → Sides) (tally : Tally) (old new : SinkState)
    (call : Option Call) (none : Bool) (shut : Option (Shut Client)) (line : List ℕ) (written : Result T E) (result : Result DuetNow Cut)
    → call ≡ option_map (λ (left : Shut Client). left.call) shut → is_some call ≡ not none → none ≡ false
    → next ≡ after_deed duet (opened side (beside duet) by shut)
    → line ≡ open_line side true → MatchResult written (λ _. result ≡ Ok next) (λ _. result ≡ Err Write)
    → Writes old new line written → PlaysAs side (opened side (beside duet) by shut) duet tally tally old new result
goes_opened side duet next by tally old new call none (Some shut) line written result shown some test steps is ends writes =
    goes_told side (opened side (beside duet) by (Some shut)) duet next tally old new line written result steps refl is ends writes
goes_opened side duet next by tally old new (Some call) none None line written result shown some test steps is ends writes = absurd (cc shown)
goes_opened side duet next by tally old new None none None line written result shown some test steps is ends writes =
    absurd (cc (some, test))
