-- What the command that begins a session under a name comes to, before its last line.
use Rattle.std.specs.Prelude.{IsNone, IsSome, List, None, Some, [], false, true, ℕ, ◌≡◌, ◌⊎◌}
use Rattle.bodies.specs.declared.format.Format.{Format}
use Rattle.dr_base.specs.Causes.{Rose}
use Rattle.dr_base.specs.declared.key.Key32.{Key32}
use Rattle.dr_base.specs.declared.position.Side.{Side}
use Rattle.dr_disk.specs.Spans.{IsQuiet, Span}
use Rattle.dr_disk.specs.State.{DiskState, OnSeen}
use Rattle.dr_disk.specs.declared.call.Call.{Call}
use Rattle.dr_model.specs.Conversations.Formats.{formats_of}
use Rattle.dr_model.specs.Machines.WorldSides.{kept_in}
use Rattle.dr_model.specs.Machines.Worlds.{World, opening_world}
use Rattle.dr_model.specs.Theorems.LawfulWorlds.{IsLawfulWorld}
use Rattle.dr_ports.specs.States.{SourceState}
use Rattle.endings.specs.declared.ending.Ending.{Ending}
use Rattle.endings.specs.declared.ending.Ending.TheVariants.{BadKey, DiskFault, Done}
use Rattle.kem_laws.specs.Mechanism.{Mechanism}
use Rattle.relay_wire.specs.Names.{is_name}
use Rattle.session_model.specs.Clients.{Client}
use Rattle.session_model.specs.Schedule.{agreement_seed, session_of}
use Rattle.session_record.specs.Record.{record_text}
use Rattle.book_model.specs.Rows.{Rows, is_full, under}
use Rattle.book_store.specs.Reading.{IsUndamagedBook, record_under}
use Rattle.book_store.specs.declared.errors.BookOpenError.{BookOpenError}
use Rattle.book_store.specs.declared.layout.TheConstants.{BOOK_ROWS}
use Rattle.client.specs.Beginning.{HasPair, begin_of, begun_client}
use Rattle.client.specs.Opening.{CellReadsAsSide}
use Rattle.client.specs.declared.begin.Begin.{Begin}
use Rattle.book.specs.Opening.{IsAsReadBook}
use Rattle.book.specs.declared.refusals.BookBeginError.{BookBeginError}
use Rattle.book.specs.declared.refusals.BookBeginError.TheVariants.{BadName, BookFull, Closed, Memory, NameTaken, NoPair, StoreFault}
use Rattle.command_lines.specs.Inputs.{IsInput, IsNoInput, key_in_hex}
use Rattle.command_lines.specs.Lines.{session_line}
use Rattle.command_lines.specs.Places.{RunsOnInCell, StaysSoundInCell}
use Rattle.command_lines.specs.declared.input.TheConstants.{KEY_TEXT_LIMIT}
use Rattle.book_commands.specs.Opening.{IsBookUnopened, IsRowAtRest, LeavesBookAsRead, ReadsSessions, ending_of_begin_book, ending_of_open_book}
use Rattle.book_commands.specs.Places.{name_cell}

-- among these sessions there is a place for the name: it is lawful, no row has it, and some row is
-- absent
pub record HasPlaceAmong (name : List ℕ) (sessions : Rows Client) : Type 0 where
  pub lawful : is_name name ≡ true
  pub fresh : under name sessions ≡ None
  pub room : is_full sessions ≡ false

-- why an open book of these sessions begins none under the name: the first of these
abbrev pub IsCause : Mechanism → List ℕ → Begin → Rows Client → BookBeginError → Type 0
IsCause k name begin sessions BadName = is_name name ≡ false
IsCause k name begin sessions NameTaken =
    (is_name name ≡ true) × IsSome (under name sessions)
IsCause k name begin sessions (BookFull rows) =
    (is_name name ≡ true) × (under name sessions ≡ None) × (is_full sessions ≡ true)
    × (rows ≡ BOOK_ROWS)
IsCause k name begin sessions Memory = HasPlaceAmong name sessions
IsCause k name begin sessions NoPair =
    HasPlaceAmong name sessions × IsNone (k.meaning.pair_of (agreement_seed begin.key.bytes))
IsCause k name begin sessions (Closed call) = ⊥
IsCause k name begin sessions (StoreFault call) = ⊥

-- bytes with the first record of a session under the name, read without damage, which is put only
-- where what was read had none and the key has a pair; the other rows are as they were
pub record IsFirstUnder (k : Mechanism) (name : List ℕ) (begin : Begin) (start : DiskState)
    (c : List ℕ) : Type 0 where
  pub none : OnSeen (λ s. record_under BOOK_ROWS name s ≡ None) start
  pub pair : HasPair k begin
  pub holds : record_under BOOK_ROWS name c ≡ Some (record_text (begun_client k begin))
  pub undamaged : IsUndamagedBook BOOK_ROWS c
  pub sound : StaysSoundInCell (name_cell k name) start c

-- the disk is at rest for a side of a lawful world, under the name
pub record RowRestsIn (k : Mechanism) (name : List ℕ) (w : World) (side : Side) (disk : DiskState)
    : Type 0 where
  pub lawful : IsLawfulWorld k w
  pub rests : IsRowAtRest name (Some (kept_in k w side)) disk

-- The book wasn't opened, or refused, or a call on the disk failed, of this kind; or a session was
-- begun, where what was read had none of the name, and the disk is at rest for it: its side of the
-- world in which the conversation begins, whichever the peer's format.
pub data BegunUnder {X : Type 0} (state : X → DiskState) (k : Mechanism) (name : List ℕ)
    (begin : Begin) (start now : X) : Ending → List ℕ → Type 0 where
  wasnt_opened : (error : BookOpenError) → IsBookUnopened k (state start) (state now) error
      → LeavesBookAsRead k (state start) (state now)
      → BegunUnder state k name begin start now (ending_of_open_book error) []
  wasnt_begun : (sessions : Rows Client) (error : BookBeginError)
      → ReadsSessions k sessions (state start) → IsCause k name begin sessions error
      → LeavesBookAsRead k (state start) (state now)
      → IsRowAtRest name (under name sessions) (state now) → IsQuiet (state start) (state now)
      → BegunUnder state k name begin start now (ending_of_begin_book error) []
  was_cut : (sessions : Rows Client) (call : Call) → ReadsSessions k sessions (state start)
      → HasPlaceAmong name sessions → HasPair k begin
      → Rose ((state start).faults call) ((state now).faults call)
      → BegunUnder state k name begin start now DiskFault []
  was_begun : (sessions : Rows Client) → ReadsSessions k sessions (state start)
      → HasPlaceAmong name sessions → HasPair k begin
      → ((other : Format) → RowRestsIn k name
      (opening_world begin.key.bytes (formats_of begin.side begin.format other)) begin.side
      (state now))
      → IsQuiet (state start) (state now)
      → BegunUnder state k name begin start now Done (session_line (session_of begin.key.bytes))

-- With what each crash meanwhile leaves and a read gives: what it did, but for what was tidied and
-- for the records in the newest version, or the first record, where there was none. So a world that
-- the disk reads under the name stays.
pub record BeginsUnder {X : Type 0} (state : X → DiskState) (k : Mechanism) (name : List ℕ)
    (begin : Begin) (start now : X) (ending : Ending) (lines : List ℕ) : Type 0 where
  pub begun : BegunUnder state k name begin start now ending lines
  pub any_moment : Span (state start) (state now) (λ c. (state start).image c
      ⊎ IsAsReadBook k BOOK_ROWS (state start) c ⊎ IsFirstUnder k name begin (state start) c)
  pub reads : OnSeen (λ s. IsAsReadBook k BOOK_ROWS (state start) s
      ⊎ IsFirstUnder k name begin (state start) s) (state now)
  pub in_worlds : (w : World) (whose : Side) → IsLawfulWorld k w
      → CellReadsAsSide (name_cell k name) k w whose (state start)
      → RunsOnInCell (name_cell k name) k whose w w (state start) (state now)

-- The source holds no key, and the disk is left alone; or the session of the key is begun under the
-- name.
pub data RunsBeginUnder {X : Type 0} (state : X → DiskState) (k : Mechanism) (name : List ℕ)
    (side : Side) (format : Format) (from to : SourceState) (start now : X)
    : Ending → List ℕ → Type 0 where
  had_no_key : (ending : Ending) → IsNoInput KEY_TEXT_LIMIT key_in_hex BadKey from to ending
      → now ≡ start
      → RunsBeginUnder state k name side format from to start now ending []
  had_key : (key : Key32) (ending : Ending) (lines : List ℕ)
      → IsInput KEY_TEXT_LIMIT key_in_hex from to key.bytes
      → BeginsUnder state k name (begin_of side format key) start now ending lines
      → RunsBeginUnder state k name side format from to start now ending lines
