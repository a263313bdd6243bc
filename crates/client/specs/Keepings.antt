-- What keeps a client: the record of what is kept lies in a place on a disk.
use Rattle.std.specs.Prelude.{None, Option, Some, ◌≡◌}
use Rattle.dr_disk.specs.State.{Always, DiskState}
use Rattle.dr_disk.specs.declared.call.Call.{Call}
use Rattle.session_model.specs.Clients.{Client}
use Rattle.session_record.specs.Record.{record_text}
use Rattle.client.specs.Cells.{Cell, client_cell}
use Rattle.client.specs.Clients.{ClientNow, IsReady}

pub record Keeping (S : Type 0) : Type 1 where
  -- what it keeps
  pub kept : S → Client
  -- the call on the disk that closed it
  pub closed : S → Option Call
  -- it keeps a session: one that may be without says no more of what it keeps then
  pub there : S → Type 0
  -- which place it has, and what lies there. No act changes that.
  pub Place : Type 0
  pub place : S → Place
  pub cell : Place → Cell
  -- the disk is at rest for the record of what is kept
  pub ready : S → DiskState → Type 0

-- what lies where it keeps
abbrev pub cell_of : {S : Type 0} → Keeping S → S → Cell
cell_of keeping s = keeping.cell (keeping.place s)

-- it is open, and the disk is at rest for what it keeps
abbrev pub IsKeeperOpen : {S : Type 0} → Keeping S → S → DiskState → Type 0
IsKeeperOpen keeping s disk = (keeping.closed s ≡ None) × keeping.ready s disk

-- where it is open, the disk is at rest for what it keeps
abbrev pub MayKeeperAct : {S : Type 0} → Keeping S → S → DiskState → Type 0
MayKeeperAct keeping s disk = keeping.closed s ≡ None → keeping.ready s disk

-- where a disk is at rest for what is kept, each image has its record
abbrev pub HoldsKept : {S : Type 0} → Keeping S → DiskState → Type 0
HoldsKept {S = S} keeping disk =
    (s : S) → keeping.ready s disk
    → Always (λ c. (cell_of keeping s).record_in c ≡ Some (record_text (keeping.kept s))) disk

-- a client, which is alone on its disk
abbrev pub client_keeping : Keeping ClientNow
client_keeping = record {
  kept = λ client. client.kept;
  closed = λ client. client.closed;
  there = λ client. Unit {0};
  Place = Unit {0};
  place = λ client. tt;
  cell = λ place. client_cell;
  ready = λ client disk. IsReady client.kept client.store disk;
}
