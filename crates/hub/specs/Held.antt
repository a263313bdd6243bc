-- A book that is open on a disk in memory, and what such a disk holds.
use Rattle.std.specs.Prelude.{List, None, Some, get_or, length, ℕ, ⊤, ◌≡◌}
use Rattle.book.specs.Books.{BookNow, IsBookOpen}
use Rattle.book.specs.Rows.{stored}
use Rattle.book_model.specs.Rows.{Row, Rows}
use Rattle.book_store.specs.Committing.{HasRows}
use Rattle.book_store.specs.declared.errors.BookOpenError.{BookOpenError}
use Rattle.book_store.specs.declared.errors.BookOpenError.TheVariants.{Memory}
use Rattle.dr_disk.specs.MemoryDisks.{state_of}
use Rattle.dr_disk.specs.State.{DiskState, all_pass}
use Rattle.dr_disk.specs.declared.call.Mode.{Mode}
use Rattle.dr_disk.specs.declared.memory.MemoryDisk.{MemoryDisk}
use Rattle.kem_laws.specs.Mechanism.{Mechanism}
use Rattle.session_model.specs.Clients.{Client}
use Rattle.session_record.specs.Lawful.{IsLawfulClient}

-- the session of each row is lawful
abbrev pub AreLawful : Mechanism → Rows Client → Type 0
AreLawful k rows =
    (r : ℕ) (row : Row Client) → get_or rows r None ≡ Some row → IsLawfulClient k row.kept

-- an open book of so many rows: its disk is at rest for it, and all calls on it pass
pub record IsHeld (rows : ℕ) (book : BookNow) (disk : MemoryDisk) : Type 0 where
  pub is_open : IsBookOpen book (state_of disk)
  pub count : book.store.rows ≡ rows
  pub passes : (state_of disk).fate ≡ all_pass

-- what a read gives has these sessions, all of them lawful, and is read without damage
pub record HoldsRows (k : Mechanism) (rows : ℕ) (sessions : Rows Client) (disk : DiskState)
    : Type 0 where
  pub bytes : List ℕ
  pub told : disk.seen ≡ Some bytes
  pub long : length sessions ≡ rows
  pub lawful : AreLawful k sessions
  pub has : HasRows rows (stored sessions) bytes

abbrev pub HoldsSessions : Mechanism → ℕ → DiskState → Type 0
HoldsSessions k rows disk = (sessions : Rows Client) × HoldsRows k rows sessions disk

-- what a crash of this kind would leave has them
pub record LeavesRows (k : Mechanism) (rows : ℕ) (sessions : Rows Client) (mode : Mode)
    (disk : DiskState) : Type 0 where
  pub bytes : List ℕ
  pub told : disk.leaves mode ≡ Some bytes
  pub long : length sessions ≡ rows
  pub lawful : AreLawful k sessions
  pub has : HasRows rows (stored sessions) bytes

abbrev pub LeavesSessions : Mechanism → ℕ → Mode → DiskState → Type 0
LeavesSessions k rows mode disk =
    (sessions : Rows Client) × LeavesRows k rows sessions mode disk

-- memory was wanting
abbrev pub IsWantOfMemory : BookOpenError → Type 0
IsWantOfMemory Memory = ⊤
IsWantOfMemory _ = ⊥
