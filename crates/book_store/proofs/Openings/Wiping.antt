-- What is asked before a table is wiped.
use Rattle.std.proofs.Common.{◌≡◌, ◌≢◌, ℕ, ◌+◌, ◌-◌, ◌^◌, ◌<◌, Bool, true, false, List, length, take, replicate, ⊎_elim, ◌∙◌, ap, arith}
use Rattle.std.proofs.lemmas.Bool.{cases_Bool}
use Rattle.std.proofs.lemmas.List.{take-replicate}
use Rattle.dr_base.specs.declared.limits.TheConstants.{PAGE}
use Rattle.dr_disk.specs.State.{Always, DiskState, OnSeen}
use Rattle.pages.specs.declared.layout.TheConstants.{OPEN}
use Rattle.pages.specs.Clearing.{AreUnmarked}
use Rattle.pages.specs.Judged.{table_with}
use Rattle.pages.specs.Tables.{AreZeros, table_at}
use Rattle.pages.specs.Tidying.{AreNamed, IsMute, IsToTidy}
use Rattle.book_store.proofs.Sound.{book_sound}
use Rattle.book_store.specs.Layout.{book_layout}
use Rattle.book_store.specs.Rows.{book_names}
use Rattle.book_store.specs.Settling.{IsSettledBook}
use Rattle.book_store.specs.declared.layout.TheConstants.{BOOK_TABLE}

-- with zeros
pub zeros_for : (rows : ℕ) (zeros page : List ℕ) → zeros ≡ replicate (BOOK_TABLE - 1) 0 → page ≡ take PAGE zeros
    → AreZeros (book_layout rows) page zeros
zeros_for rows zeros page zero is = record {
  page_zero = is ∙ ap (λ (l : List ℕ). take PAGE l) zero ∙ take-replicate PAGE (BOOK_TABLE - 1) 0 (omega arith);
  rest_zero = zero;
}

pub blank_true : (b : Bool) (body : List ℕ) → (b ≡ false → body ≢ replicate (length body) 0)
    → body ≡ replicate (BOOK_TABLE - 1) 0 → length body + 1 ≡ BOOK_TABLE → b ≡ true
blank_true b body others zero long = ⊎_elim (λ yes. yes)
    (λ no. absurd (others no (zero ∙ ap (λ k. replicate k 0) (let e : BOOK_TABLE - 1 ≡ length body = omega arith in e))))
    (cases_Bool b)

-- a table as it was read
module _ (rows : ℕ) (second : Bool) (gate : ℕ) (body : List ℕ) (disk : DiskState) (ready : IsSettledBook rows disk)
    (read : OnSeen (λ s. table_at (book_layout rows) second s ≡ table_with gate body) disk) where
  pub to_tidy : (blank : Bool) (named : List Bool) → disk.size < 2 ^ 64 → length body + 1 ≡ BOOK_TABLE
      → (blank ≡ true → body ≡ replicate (length body) 0)
      → Always (AreNamed book_names (book_layout rows)) disk
      → AreUnmarked book_names (book_layout rows) named disk
      → (gate ≡ OPEN → Always (IsMute (book_layout rows) second) disk)
      → IsToTidy book_names (book_layout rows) second gate blank named disk
  to_tidy blank named ends long zeros named_pages unnamed mute = record {
    ready = record { sound = book_sound rows disk.size ends ready.within; named = named_pages };
    settled = ready.settled;
    unnamed = unnamed;
    gate_is = λ c left. ap (λ t. t.gate) (read c (ready.settled c left));
    blank_is = λ is c left. ap (λ t. t.body) (read c (ready.settled c left)) ∙ zeros is
        ∙ ap (λ k. replicate k 0) (let e : length body ≡ BOOK_TABLE - 1 = omega arith in e);
    mute = mute;
  }
