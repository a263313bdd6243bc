-- What is asked before a table is wiped.
use Rattle.std.proofs.Common.{◌≡◌, ◌≢◌, ℕ, ◌+◌, ◌-◌, ◌^◌, ◌≤◌, ◌<◌, Bool, true, false, List, length, take, replicate, Result, Ok, Err, OnOk, ⊎_elim, ◌∙◌, ap, arith}
use Rattle.std.proofs.lemmas.Bool.{cases_Bool}
use Rattle.std.proofs.lemmas.List.{take-replicate}
use Rattle.dr_base.specs.declared.limits.TheConstants.{PAGE}
use Rattle.dr_disk.specs.State.{Always, DiskState, OnSeen}
use Rattle.pages.specs.declared.layout.TheConstants.{OPEN}
use Rattle.pages.specs.Clearing.{AreUnmarked}
use Rattle.pages.specs.Layouts.{IsSound}
use Rattle.pages.specs.Tables.{AreZeros, table_at}
use Rattle.pages.specs.Tidying.{AreNamed, IsMute, IsToTidy}
use Rattle.pages.proofs.SoundLayouts.{area_sound}
use Rattle.record_pages.specs.Tables.{record_names}
use Rattle.slot_store.specs.Areas.{Area, IsArea, area_end, layout_of}
use Rattle.pages.specs.Judged.{table_with}
use Rattle.slot_store.specs.Settling.{IsSettledArea}

pub on_ok : {T E : Type 0} {A B : Type 0} (r : Result T E) → (A → B) → OnOk r A → OnOk r B
on_ok (Ok x) to a = to a
on_ok (Err e) to a = a

pub sound_area : (area : Area) (size : ℕ) → IsArea area → size < 2 ^ 64 → area_end area ≤ size
    → IsSound (layout_of area) size
sound_area area size lawful ends within =
    area_sound area.start area.upper area.pages size ends (omega (arith, lawful.least)) lawful.behind within

-- with zeros
pub zeros_for : (area : Area) (zeros rest : List ℕ) → zeros ≡ replicate PAGE 0 → rest ≡ take (PAGE - 1) zeros
    → AreZeros (layout_of area) zeros rest
zeros_for area zeros rest zero is = record {
  page_zero = zero;
  rest_zero = is ∙ ap (λ (l : List ℕ). take (PAGE - 1) l) zero ∙ take-replicate (PAGE - 1) PAGE 0 (omega arith);
}

pub blank_true : (b : Bool) (body : List ℕ) → (b ≡ false → body ≢ replicate (length body) 0)
    → body ≡ replicate (PAGE - 1) 0 → length body + 1 ≡ PAGE → b ≡ true
blank_true b body others zero long = ⊎_elim (λ yes. yes)
    (λ no. absurd (others no (zero ∙ ap (λ k. replicate k 0) (let e : PAGE - 1 ≡ length body = omega arith in e))))
    (cases_Bool b)

-- a table as it was read
module _ (area : Area) (second : Bool) (gate : ℕ) (body : List ℕ) (disk : DiskState) (ready : IsSettledArea area disk)
    (read : OnSeen (λ s. table_at (layout_of area) second s ≡ table_with gate body) disk) where
  pub to_tidy : (blank : Bool) (named : List Bool) → IsArea area → disk.size < 2 ^ 64 → length body + 1 ≡ PAGE
      → (blank ≡ true → body ≡ replicate (length body) 0)
      → Always (AreNamed record_names (layout_of area)) disk
      → AreUnmarked record_names (layout_of area) named disk
      → (gate ≡ OPEN → Always (IsMute (layout_of area) second) disk)
      → IsToTidy record_names (layout_of area) second gate blank named disk
  to_tidy blank named lawful ends long zeros named_pages unnamed mute = record {
    ready = record { sound = sound_area area disk.size lawful ends ready.within; named = named_pages };
    settled = ready.settled;
    unnamed = unnamed;
    gate_is = λ c left. ap (λ t. t.gate) (read c (ready.settled c left));
    blank_is = λ is c left. ap (λ t. t.body) (read c (ready.settled c left)) ∙ zeros is
        ∙ ap (λ k. replicate k 0) (let e : length body ≡ PAGE - 1 = omega arith in e);
    mute = mute;
  }
