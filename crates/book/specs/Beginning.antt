-- A session is begun under a name.
use Rattle.std.specs.Prelude.{Err, IfErr, IsNone, IsSome, List, None, Ok, OnErr, OnOk, Result, Some, false, length, true, ℕ, ◌≡◌}
use Rattle.book_model.specs.Rows.{Rows, begun, is_full, under}
use Rattle.book_store.specs.Store.{BookStore, with_row, writes_at}
use Rattle.book_store.specs.declared.errors.StoreFault.{StoreFault}
use Rattle.dr_disk.specs.State.{DiskState}
use Rattle.kem_laws.specs.Mechanism.{Mechanism}
use Rattle.relay_wire.specs.Names.{is_name}
use Rattle.session_model.specs.Clients.{Client}
use Rattle.session_model.specs.Schedule.{agreement_seed}
use Rattle.session_record.specs.Record.{record_text}
use Rattle.client.specs.Beginning.{HasPair, begun_client}
use Rattle.client.specs.declared.begin.Begin.{Begin}
use Rattle.book.specs.Books.{BookNow, IsBookReady}
use Rattle.book.specs.Changing.{TakesPlaceOf}
use Rattle.book.specs.Naming.{IsFree}
use Rattle.book.specs.declared.refusals.BookBeginError.{BookBeginError}
use Rattle.book.specs.declared.refusals.BookBeginError.TheVariants.{BadName, BookFull, Closed, Memory, NameTaken, NoPair, StoreFault as Faulted}

-- What is staged takes the place of the book's rows on its disk, and `next` that of its rows. A
-- call on the disk that fails closes the book, which keeps its rows.
pub record ChangesBook {T : Type 0} (n : ℕ) (staged : BookStore) (next : Rows Client)
    (old new : BookNow) (start now : DiskState) (result : Result T StoreFault) : Type 0 where
  pub takes : TakesPlaceOf n staged new.store old.store.held start now result
  pub rows : OnOk result (new.rows ≡ next)
  pub stays_open : OnOk result (new.closed ≡ None)
  pub ready : OnOk result (IsBookReady new now)
  pub keeps : OnErr result (new.rows ≡ old.rows)
  pub closes : IfErr result (λ fault. new.closed ≡ Some fault.call)

-- nothing has changed, and no call on the disk was made
abbrev pub IsUntouched : {X : Type 0} → BookNow → BookNow → X → X → Type 0
IsUntouched old new start now = (new ≡ old) × (now ≡ start)

-- ---- where a session may begin

-- an open book, a lawful name that no row has, and the lowest absent row
pub record HasPlaceFor (name : List ℕ) (book : BookNow) (at : ℕ) : Type 0 where
  pub is_open : book.closed ≡ None
  pub lawful : is_name name ≡ true
  pub fresh : under name book.rows ≡ None
  pub free : IsFree book.rows at

-- the session's record is put there
abbrev pub PutsFirst : {T : Type 0} → Mechanism → List ℕ → Begin → BookNow → BookNow → DiskState → DiskState
    → Result T StoreFault → Type 0
PutsFirst k name begin old new start now result = (at : ℕ) × HasPlaceFor name old at × HasPair k begin
    × ChangesBook (writes_at old.store at (record_text (begun_client k begin)))
    (with_row old.store at name (record_text (begun_client k begin)))
    (begun name (begun_client k begin) old.rows) old new start now result

-- Each refusal has its cause, the first of these; and then nothing has changed, but for a fault.
abbrev pub BeginsIn : {X : Type 0} → (X → DiskState) → Mechanism → List ℕ → Begin → BookNow → BookNow → X → X
    → Result Unit BookBeginError → Type 0
BeginsIn state k name begin old new start now (Ok u) =
    PutsFirst k name begin old new (state start) (state now) (Ok u)
BeginsIn state k name begin old new start now (Err (Faulted call)) =
    PutsFirst {T = Unit} k name begin old new (state start) (state now) (Err (record { call = call }))
BeginsIn state k name begin old new start now (Err (Closed call)) =
    (old.closed ≡ Some call) × IsUntouched old new start now
BeginsIn state k name begin old new start now (Err BadName) =
    (old.closed ≡ None) × (is_name name ≡ false) × IsUntouched old new start now
BeginsIn state k name begin old new start now (Err NameTaken) =
    (old.closed ≡ None) × (is_name name ≡ true) × IsSome (under name old.rows)
    × IsUntouched old new start now
BeginsIn state k name begin old new start now (Err (BookFull rows)) =
    (old.closed ≡ None) × (is_name name ≡ true) × (under name old.rows ≡ None)
    × (is_full old.rows ≡ true) × (rows ≡ length old.rows) × IsUntouched old new start now
BeginsIn state k name begin old new start now (Err Memory) =
    ((at : ℕ) × HasPlaceFor name old at) × IsUntouched old new start now
BeginsIn state k name begin old new start now (Err NoPair) =
    ((at : ℕ) × HasPlaceFor name old at) × IsNone (k.meaning.pair_of (agreement_seed begin.key.bytes))
    × IsUntouched old new start now
