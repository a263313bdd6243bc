-- The session of a name is forgotten.
use Rattle.std.specs.Prelude.{Err, List, None, Ok, Result, Some, ℕ, ◌≡◌}
use Rattle.book_model.specs.Rows.{under, without}
use Rattle.book_store.specs.Store.{without_row}
use Rattle.book_store.specs.declared.errors.StoreFault.{StoreFault}
use Rattle.dr_disk.specs.State.{DiskState}
use Rattle.book.specs.Beginning.{ChangesBook, IsUntouched}
use Rattle.book.specs.Books.{BookNow}
use Rattle.book.specs.Naming.{IsPlaceOf}
use Rattle.book.specs.declared.refusals.ForgetError.{ForgetError}
use Rattle.book.specs.declared.refusals.ForgetError.TheVariants.{Closed, NoName, StoreFault as Faulted}

-- its row is made absent
abbrev pub ClearsRow : {T : Type 0} → List ℕ → BookNow → BookNow → DiskState → DiskState
    → Result T StoreFault → Type 0
ClearsRow name old new start now result = (old.closed ≡ None)
    × ((at : ℕ) × IsPlaceOf name old.rows at
    × ChangesBook 0 (without_row old.store at) (without name old.rows) old new start now result)

-- Each refusal has its cause, the first of these; and then nothing has changed, but for a fault.
abbrev pub ForgetsIn : {X : Type 0} → (X → DiskState) → List ℕ → BookNow → BookNow → X → X
    → Result Unit ForgetError → Type 0
ForgetsIn state name old new start now (Ok u) =
    ClearsRow name old new (state start) (state now) (Ok u)
ForgetsIn state name old new start now (Err (Faulted call)) =
    ClearsRow {T = Unit} name old new (state start) (state now) (Err (record { call = call }))
ForgetsIn state name old new start now (Err (Closed call)) =
    (old.closed ≡ Some call) × IsUntouched old new start now
ForgetsIn state name old new start now (Err NoName) =
    (old.closed ≡ None) × (under name old.rows ≡ None) × IsUntouched old new start now
