-- Where the session of a command is kept, and what of a run's ports that is.
use Rattle.std.specs.Prelude.{[], List, ℕ, ◌≡◌}
use Rattle.dr_disk.specs.State.{DiskState}
use Rattle.command_words.specs.Commands.{value}
use Rattle.command_words.specs.declared.command.Where.{Where}
use Rattle.command_words.specs.declared.command.Where.TheVariants.{Book, Folder}
use Rattle.command_lines.specs.Places.{Place}
use Rattle.command_lines.specs.Runs.{Runs}
use Rattle.endings.specs.Ends.{Ends}
use Rattle.endings.specs.declared.ending.Ending.{Ending}
use Rattle.session_commands.specs.Disks.{client_place}
use Rattle.book_commands.specs.Places.{name_place}
use Rattle.sntrup761.specs.Mechanism.{sntrup761_kem}
use Rattle.messenger_cli.specs.Held.{IsOffline, LeavesAllButSink, PortTypes, PortsNow, Seen}

-- The disk of a command, what it tells, and the place there. What is aside is another disk with
-- sessions, which the command leaves alone.
pub record Home (P : PortTypes) : Type 1 where
  pub Store : Type 0
  pub store : PortsNow P → Store
  pub tells : Store → DiskState
  pub place : Place
  pub aside : PortsNow P → PortsNow P → Type 0

-- the session of the folder has a disk of its own; in the book it is the one of the name
abbrev pub home_of : {P : PortTypes} → Seen P → Where → List (List ℕ) → Home P
home_of {P} seen Folder values = record {
  Store = P.Disk;
  store = λ ports. ports.disk;
  tells = seen.disk;
  place = client_place sntrup761_kem;
  aside = λ old new. new.book ≡ old.book;
}
home_of {P} seen Book values = record {
  Store = P.Book;
  store = λ ports. ports.book;
  tells = seen.book;
  place = name_place sntrup761_kem (value values 0);
  aside = λ old new. new.disk ≡ old.disk;
}

-- the text that is said: in a book it stands behind the name
abbrev pub text_of : Where → List (List ℕ) → List ℕ
text_of Folder values = value values 0
text_of Book values = value values 1

-- ---- what a command leaves alone

-- a command that comes to an ending with its lines, and what was written of them
abbrev pub WritesEnding : {P : PortTypes} → (Ending → List ℕ → Type 0) → Seen P
    → PortsNow P → PortsNow P → ℕ → Type 0
WritesEnding comes seen old new code = Runs comes (seen.sink old.sink) (seen.sink new.sink) code

-- nothing was done: just this last line was written
pub record EndsIdle {P : PortTypes} (ending : Ending) (seen : Seen P) (old new : PortsNow P)
    (code : ℕ) : Type 0 where
  pub ends : Ends ending [] (seen.sink old.sink) (seen.sink new.sink) code
  pub idle : LeavesAllButSink old new

-- a command at its home, on the source
pub record ReadsAndWrites {P : PortTypes} (home : Home P) (comes : Ending → List ℕ → Type 0)
    (seen : Seen P) (old new : PortsNow P) (code : ℕ) : Type 0 where
  pub writes : WritesEnding comes seen old new code
  pub draws : new.draws ≡ old.draws
  pub aside : home.aside old new
  pub offline : IsOffline old new

-- a command at its home, on the draws
pub record DrawsAndWrites {P : PortTypes} (home : Home P) (comes : Ending → List ℕ → Type 0)
    (seen : Seen P) (old new : PortsNow P) (code : ℕ) : Type 0 where
  pub writes : WritesEnding comes seen old new code
  pub source : new.source ≡ old.source
  pub aside : home.aside old new
  pub offline : IsOffline old new

-- a command at its home alone
pub record WritesAlone {P : PortTypes} (home : Home P) (comes : Ending → List ℕ → Type 0)
    (seen : Seen P) (old new : PortsNow P) (code : ℕ) : Type 0 where
  pub writes : WritesEnding comes seen old new code
  pub source : new.source ≡ old.source
  pub draws : new.draws ≡ old.draws
  pub aside : home.aside old new
  pub offline : IsOffline old new
