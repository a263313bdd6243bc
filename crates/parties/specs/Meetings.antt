-- A client syncs over a link to a relay in memory: a scene, by how it ends.
use Rattle.std.specs.Prelude.{◌≡◌, ◌≤◌, List, None, Some, Result, Ok, Err, IsErr}
use Rattle.dr_base.specs.declared.failed.Failed.{Failed}
use Rattle.dr_base.specs.declared.position.Side.{Side}
use Rattle.dr_disk.specs.State.{all_pass}
use Rattle.dr_ports.specs.States.{SinkState}
use Rattle.dr_ports.specs.Writing.{Writes}
use Rattle.relay_wire.specs.Requests.{Asked}
use Rattle.relay_core.specs.Boxes.{Box}
use Rattle.session_model.specs.Clients.{Client}
use Rattle.sync_model.specs.Parties.{Party}
use Rattle.sync_model.specs.Moves.{Ending, ended, over}
use Rattle.sync_model.specs.Courses.{all_lines, asked_now}
use Rattle.sync_model.specs.Transfers.{Meeting}
use Rattle.sync_model.specs.declared.more.More.{More}
use Rattle.client.specs.Clients.{IsReady}
use Rattle.client.specs.Syncing.Moments.{Moment, Wrote, WroteBeginning}
use Rattle.client.specs.Syncing.Rounds.{sync_fault_of}
use Rattle.client.specs.declared.syncing.faults.SyncFault.{SyncFault}
use Rattle.client.specs.declared.syncing.faults.SyncFault.TheVariants.{Closed, Link, Peer, Refused, Store, Write}
use Rattle.parties.specs.SyncLines.{fault_line}

-- the client is open, and its disk is at rest for it, whose calls all pass
pub record IsOpenAtRest (b : Moment) : Type 0 where
  pub is_open : b.client.closed ≡ None
  pub ready : IsReady b.client.kept b.client.store b.disk
  pub passes : b.disk.fate ≡ all_pass

-- it keeps what the scene does, and the boxes are the scene's
pub record Reaches (m : Meeting Client) (b : Moment) (boxes : List Box) : Type 0 where
  pub keeps : b.client.kept ≡ m.course.state
  pub rests : IsOpenAtRest b
  pub boxes_are : boxes ≡ m.boxes

-- the scene has this end
abbrev pub EndsBy : Party Client → Meeting Client → Moment → Moment → Ending → Type 0
EndsBy p m a b ending = (m.course.wait ≡ over ending) × Wrote (all_lines p m.course) a b

-- The scene has ended; or it still waits, and a reply is lost; or a write has failed, in a beginning
-- of its lines.
abbrev pub Plays : Party Client → Meeting Client → Moment → Moment → List Box
    → Result More SyncFault → Type 0
Plays p m a b boxes (Ok which) = Reaches m b boxes × EndsBy p m a b (ended which)
Plays p m a b boxes (Err (Refused refusal)) = Reaches m b boxes
    × ((ending : Ending) × (sync_fault_of ending ≡ Some (Refused refusal)) × EndsBy p m a b ending)
Plays p m a b boxes (Err Link) = Reaches m b boxes
    × ((asked : Asked) × (asked_now p m.course ≡ Some asked)) × Wrote m.course.lines a b
Plays p m a b boxes (Err Write) = IsOpenAtRest b × WroteBeginning (all_lines p m.course) a b
    × (a.sink.faults ≤ b.sink.faults)
Plays p m a b boxes (Err (Peer at what)) = ⊥
Plays p m a b boxes (Err (Store call)) = ⊥
Plays p m a b boxes (Err (Closed call)) = ⊥

-- the last line, where the client has written none: it is written, or nothing where a write has failed before
abbrev pub Tells : Side → SyncFault → SinkState → SinkState → Result Unit Failed → Type 0
Tells side Write old new result = IsErr result × (new.taken ≡ old.taken) × (new.faults ≡ old.faults)
Tells side fault old new result = Writes old new (fault_line side fault) result
