-- What a change of a book comes to on a disk that stops meanwhile, and crashes.
use Rattle.std.proofs.Common.{Err, List, Ok, Option, Some, ap, arith, false, if◌then◌else◌, inl, inr, subst, sym, true, ℕ, ◌+◌, ◌-◌, ◌∙◌, ◌≡◌}
use Rattle.std.specs.Prelude.{nat_le}
use Rattle.dr_disk.specs.MemoryDisks.{state_of}
use Rattle.dr_disk.specs.MemoryLaws.{memory_lawful}
use Rattle.dr_disk.specs.State.{Always, DiskState, IsLawful, to_failure}
use Rattle.dr_disk.proofs.Exactly.{fails_exactly}
use Rattle.dr_disk.specs.declared.call.Mode.{Mode}
use Rattle.dr_disk.specs.declared.memory.MemoryDisk.{MemoryDisk}
use Rattle.pages.specs.Stops.{put_took}
use Rattle.book_store.specs.Committing.{HasRows, IsOldOrNewBook, call_of}
use Rattle.book_store.specs.Reading.{IsUndamagedBook}
use Rattle.book_store.specs.Shown.{BookRow, stored_rows}
use Rattle.book_store.specs.Store.{BookStore}
use Rattle.book_store.specs.declared.errors.StoreFault.{StoreFault}
use Rattle.book.specs.Changing.{TakesPlaceOf, change_calls}

-- the count of a disk is told while a call on it is told to fail
abbrev pub IsCounted : DiskState → Type 0
IsCounted disk = (j : ℕ) → to_failure disk.fate ≡ Some j → (m : ℕ) × (disk.passed ≡ Some m)

pub lawful_disk : (d : MemoryDisk) → IsLawful (state_of d)
lawful_disk d =
    memory_lawful d.platter.bytes.items d.platter.durable.items d.platter.asked.items
    d.platter.marks.items d.meter.fate d.meter.passed
    (record { reads = d.reads; writes = d.writes; syncs = d.syncs; tried = d.tried }) d.platter.agrees
    d.platter.asks
    d.platter.one_mark_each

module _ (n after : ℕ) (staged new : BookStore) (old : List (Option BookRow)) (start now : MemoryDisk)
    (fails : to_failure (state_of start).fate ≡ Some after) (anew : (state_of start).passed ≡ Some 0) where
  -- enough calls passed where it was acknowledged
  pub many : TakesPlaceOf {T = Unit} n staged new old (state_of start) (state_of now) (Ok tt) → IsCounted (state_of now)
      → true ≡ nat_le (change_calls n staged) after
  many takes told =
      let left = takes.went.calls.went.ahead after fails in
      let m = told left.0 left.1 in
      fails_exactly (change_calls n staged) after (state_of start) (state_of now) fails call_of
      (IsOldOrNewBook staged.rows old staged.held (state_of start)) (Ok tt)
      takes.any_moment takes.went.calls m.0 m.1

  module _ (fault : StoreFault) (takes : TakesPlaceOf {T = Unit} n staged new old (state_of start) (state_of now) (Err fault)) where
    -- as many passed as were to
    pub passed_all : (state_of now).passed ≡ Some after
    passed_all =
        let end = takes.went.calls.went.ended after fails in
        let none : end.1 ≡ 0 = let e : Some end.1 ≡ Some 0 = sym end.2 ∙ anew in cc in
        let all : end.1 + after ≡ after = omega (arith, none) in
        end.3 ∙ ap Some all

    -- which weren't enough
    pub too_few : false ≡ nat_le (change_calls n staged) after
    too_few = fails_exactly (change_calls n staged) after (state_of start) (state_of now) fails call_of
        (IsOldOrNewBook staged.rows old staged.held (state_of start)) (Err fault)
        takes.any_moment takes.went.calls after passed_all

    module _ (mode : Mode) (left : List ℕ) (is : (state_of now).leaves mode ≡ Some left) (rows : ℕ)
        (count : staged.rows ≡ rows) (stands : Always (HasRows rows old) (state_of start)) where
      abbrev chosen : List (Option BookRow)
      chosen = if put_took n after mode then staged.held else old

      rows_are : stored_rows rows left ≡ chosen
      rows_are =
          let off : after - 0 ≡ after = omega arith in
          ap (λ r. stored_rows r left) (sym count)
          ∙ takes.stopped.crash 0 after mode left anew passed_all is
          ∙ ap (λ m. if put_took n m mode then staged.held else old) off

      undamaged : IsUndamagedBook rows left
      undamaged =
          elim (takes.any_moment.last left ((lawful_disk now).leaves_now mode left is)) [
            | inl entry ↦ (stands left entry).undamaged
            | inr one ↦ elim one.either [
              | inl was ↦ subst (λ r. IsUndamagedBook r left) count was.undamaged
              | inr next ↦ subst (λ r. IsUndamagedBook r left) count next.undamaged
            ]
          ]

      -- all rows are the old ones, or all the new ones, by how many passed and by the mode
      pub left_rows : HasRows rows (if put_took n after mode then staged.held else old) left
      left_rows = record { are = rows_are; undamaged = undamaged }
