-- What the command that syncs with a relay comes to, before its last line.
use Rattle.std.specs.Prelude.{Err, List, Ok, Result, Some, [], drop, length, option_map, take, ℕ, ⊤, ◌++◌, ◌-◌, ◌∷◌, ◌<◌, ◌^◌, ◌≡◌, ◌⊎◌}
use Rattle.std.specs.List.{AllByRecursion}
use Rattle.dr_base.specs.Causes.{Rose}
use Rattle.dr_base.specs.declared.position.Side.{Side}
use Rattle.dr_disk.specs.Spans.{IsQuiet, Span}
use Rattle.dr_disk.specs.State.{Always, DiskState}
use Rattle.dr_disk.specs.declared.call.Call.{Call}
use Rattle.dr_model.specs.Machines.WorldSides.{kept_in}
use Rattle.dr_model.specs.Machines.Worlds.{World}
use Rattle.dr_model.specs.Theorems.LawfulWorlds.{IsLawfulWorld}
use Rattle.dr_ports.specs.Ports.{appended}
use Rattle.dr_ports.specs.States.{SinkState}
use Rattle.dr_ports.specs.Wires.{Port, connected, hung_up}
use Rattle.dr_ports.specs.Writing.{TookBeginning}
use Rattle.dr_ports.specs.declared.pipe.Part.TheVariants.{Flow, Gate}
use Rattle.endings.specs.declared.ending.Ending.{Ending}
use Rattle.endings.specs.declared.ending.Ending.TheVariants.{BoxFull, Denied, DiskFault, Done, LinkFault, NoBox, Peer, Refused}
use Rattle.kem_laws.specs.Mechanism.{Mechanism}
use Rattle.relay_pipe.specs.Asking.{fault_at}
use Rattle.relay_wire.specs.Replies.{IsLawfulReplied, Replied}
use Rattle.session_model.specs.Clients.{Client}
use Rattle.session_model.specs.declared.answer.Refusal.TheVariants.{InboxFull}
use Rattle.sync_model.specs.Courses.{all_lines, course_of}
use Rattle.sync_model.specs.Moves.{Ending as CourseEnding, ended, over}
use Rattle.sync_model.specs.Parties.{Party}
use Rattle.sync_model.specs.Simulation.{IsSameCourse}
use Rattle.sync_model.specs.declared.more.More.{More}
use Rattle.client.specs.InWorlds.{StandsFor}
use Rattle.client.specs.Opening.{IsUnopened, ReadsAsSide}
use Rattle.client.specs.Syncing.Arrivals.{OpensArrived}
use Rattle.client.specs.Receipts.{TellTruly}
use Rattle.client.specs.Syncing.InWorlds.{AreUnforged, IsKeptIn, course_in}
use Rattle.client.specs.Syncing.Parties.{client_party}
use Rattle.client.specs.Syncing.Rounds.{sync_fault_of}
use Rattle.client.specs.Syncing.SoFar.{Talked}
use Rattle.client.specs.Syncing.Syncs.{HasRecord, IsRequestCut, IsUnheard}
use Rattle.client.specs.Syncing.Transfers.{Transfers}
use Rattle.client.specs.declared.refusals.OpenRefusal.{OpenRefusal}
use Rattle.client.specs.declared.syncing.faults.SyncFault.{SyncFault}
use Rattle.client.specs.declared.syncing.faults.SyncFault.TheVariants.{Closed as SyncClosed, Link as SyncLink, Peer as SyncPeer, Refused as SyncRefused, Store as SyncStore, Write as SyncWrite}
use Rattle.client.specs.declared.syncing.faults.SyncRefusal.TheVariants.{BoxFull as SyncBoxFull, Denied as SyncDenied, InboxFull as SyncInboxFull, Unknown as SyncUnknown}
use Rattle.session_commands.specs.Disks.{IsClientAtRest, ReadsAsKept, LeavesAtRest, LeavesAsRead, RunsOn}
use Rattle.session_commands.specs.Opening.{ending_of_open}
use Rattle.session_commands.specs.SyncMoments.{LeavesCourse, StandsForCourse}

-- ---- how the command ends

-- a write that failed has no ending of its own: the status says it
abbrev pub ending_of_fault : SyncFault → Ending
ending_of_fault (SyncClosed call) = DiskFault
ending_of_fault SyncLink = LinkFault
ending_of_fault (SyncPeer at what) = Peer what at
ending_of_fault (SyncRefused SyncInboxFull) = Refused InboxFull
ending_of_fault (SyncRefused SyncBoxFull) = BoxFull
ending_of_fault (SyncRefused SyncUnknown) = NoBox
ending_of_fault (SyncRefused (SyncDenied rule)) = Denied rule
ending_of_fault (SyncStore call) = DiskFault
ending_of_fault SyncWrite = Done

abbrev pub ending_of_sync : Result More SyncFault → Ending
ending_of_sync (Ok which) = Done
ending_of_sync (Err fault) = ending_of_fault fault

-- where a call on the disk failed: the replies whose steps were made, and the one in whose step it failed
abbrev pub made_of : List Replied → List Replied
made_of replies = take (length replies - 1) replies

abbrev pub broken_of : List Replied → List Replied
broken_of replies = drop (length replies - 1) replies

-- a place that the last line shows
abbrev pub HasPrintedPlace : SyncFault → Type 0
HasPrintedPlace (SyncPeer at what) = at < 2 ^ 32
HasPrintedPlace _ = ⊤

-- the course's lines: where a call on the disk failed, those before the last reply
abbrev pub lines_of_sync : Party Client → Client → List Replied → Result More SyncFault → List ℕ
lines_of_sync p kept replies (Err (SyncStore call)) = (course_of p kept (made_of replies)).lines
lines_of_sync p kept replies _ = all_lines p (course_of p kept replies)

-- they were written, or a write failed after a beginning of them
abbrev pub HasWritten : List ℕ → SinkState → SinkState → Result More SyncFault → Type 0
HasWritten lines old new (Err SyncWrite) = TookBeginning old.taken new.taken lines
    × Rose old.faults new.faults
HasWritten lines old new _ = (new.taken ≡ appended old.taken lines) × (new.faults ≡ old.faults)

-- ---- how the sync ends

-- all is at rest for what the course keeps, and no call on the disk failed
pub record IsStored (p : Party Client) (kept : Client) (replies : List Replied) (start now : DiskState) : Type 0 where
  pub rests : IsClientAtRest (course_of p kept replies).state now
  pub quiet : IsQuiet start now

-- the course has this end
pub record CameToEnd (p : Party Client) (kept : Client) (replies : List Replied) (ending : CourseEnding) (start now : DiskState)
    (link left : Port) : Type 0 where
  pub is_over : (course_of p kept replies).wait ≡ over ending
  pub talked : Talked p kept replies link left
  pub stored : IsStored p kept replies start now

-- A call on the disk failed, of this kind, in the step that the last reply asks for: each image has
-- the record of before that step, or the one after it.
pub record IsStepBroken (p : Party Client) (kept : Client) (replies : List Replied) (call : Call)
    (start now : DiskState) (link left : Port) : Type 0 where
  pub before : List Replied
  pub last : Replied
  pub split : replies ≡ before ++ last ∷ []
  pub leaves : Always (λ c. HasRecord (course_of p kept before).state c
      ⊎ HasRecord (course_of p kept replies).state c) now
  pub rose : Rose (start.faults call) (now.faults call)
  pub talked : Talked p kept replies link left

abbrev pub SyncEnds : Party Client → Client → List Replied → DiskState → DiskState → Port → Port → ℕ → ℕ → Result More SyncFault → Type 0
SyncEnds p kept replies start now link left before after (Ok which) = CameToEnd p kept replies (ended which) start now link left
SyncEnds p kept replies start now link left before after (Err (SyncRefused refusal)) =
    (ending : CourseEnding) × (sync_fault_of ending ≡ Some (SyncRefused refusal)) × CameToEnd p kept replies ending start now link left
SyncEnds p kept replies start now link left before after (Err (SyncPeer at kind)) =
    ((ending : CourseEnding) × (sync_fault_of ending ≡ Some (SyncPeer at kind)) × CameToEnd p kept replies ending start now link left)
    ⊎ (IsUnheard p kept replies link left (fault_at at kind) × IsStored p kept replies start now)
SyncEnds p kept replies start now link left before after (Err SyncLink) =
    IsRequestCut p kept replies link left × IsStored p kept replies start now
SyncEnds p kept replies start now link left before after (Err SyncWrite) =
    Talked p kept replies link left × IsStored p kept replies start now × Rose before after
SyncEnds p kept replies start now link left before after (Err (SyncStore call)) =
    IsStepBroken p kept replies call start now link left
SyncEnds p kept replies start now link left before after (Err (SyncClosed call)) = ⊥

-- ---- in worlds

-- a call on the disk failed in the step that the last reply asks for: each image stands for the
-- world before that step, or for the one after it
pub record IsStepInDoubt (k : Mechanism) (side : Side) (w : World) (replies : List Replied)
    (now : DiskState) : Type 0 where
  pub before : List Replied
  pub last : Replied
  pub split : replies ≡ before ++ last ∷ []
  pub either : Always (λ c. StandsFor k (course_in k [] side w before).state side c
      ⊎ StandsFor k (course_in k [] side w replies).state side c) now

-- where no call on the disk failed, all is at rest for the world that the course reaches
abbrev pub RestsIn : Mechanism → Side → World → List Replied → DiskState → Result More SyncFault → Type 0
RestsIn k side w replies now (Err (SyncStore call)) = IsStepInDoubt k side w replies now
RestsIn k side w replies now _ = IsClientAtRest (kept_in k (course_in k [] side w replies).state side) now

pub record SyncRunsIn (k : Mechanism) (side : Side) (w : World) (kept : Client) (replies : List Replied) (start now : DiskState)
    (result : Result More SyncFault) : Type 0 where
  pub same : IsSameCourse (IsKeptIn k side) (course_of (client_party k [] kept) kept replies) (course_in k [] side w replies)
  pub any_moment : Span start now (λ c. start.image c ⊎ StandsForCourse k side w replies start c)
  pub reads : (s : List ℕ) → now.seen ≡ Some s → StandsForCourse k side w replies start s
  pub rests : RestsIn k side w replies now result
  pub arrived : (s : List ℕ) → now.seen ≡ Some s → TellTruly k w side s

-- ---- the command

-- The link was connected to the address, this was done over it, and then the connection was ended.
pub record HasTalkedTo (address : List ℕ) (link left : Port) (talk : Port → Port → Type 0) : Type 0 where
  pub opened : Port
  pub last : Port
  pub connects : opened.told ≡ option_map (connected address) link.told
  pub quiet : opened.faults Flow ≡ link.faults Flow
  pub talks : talk opened last
  pub ends : left.told ≡ option_map hung_up last.told
  pub counts : left.faults Flow ≡ last.faults Flow

-- The client wasn't opened, and the link is left alone; or the link wasn't opened; or the client synced at the address, by
-- these replies. Where they are those of a relay, what comes of it. What is kept is what was read at entry. Each with what it
-- is in a world that the disk reads at entry.
pub data RunsSync {X L : Type 0} (state : X → DiskState) (port : L → Port) (k : Mechanism) (address : List ℕ) (start now : X) (link left : L)
    (before after : ℕ) : Ending → List ℕ → Type 0 where
  wasnt_synced : (refusal : OpenRefusal) → IsUnopened state k start now refusal
      → LeavesAsRead k (state start) (state now) → left ≡ link
      → ((w : World) (side : Side) → IsLawfulWorld k w → ReadsAsSide k w side (state start) → RunsOn k side w w (state start) (state now))
      → RunsSync state port k address start now link left before after (ending_of_open refusal) []
  wasnt_linked : (kept : Client) → ReadsAsKept k (state start) kept
      → LeavesAtRest k kept kept (state start) (state now)
      → (port left).told ≡ (port link).told → (port left).faults Flow ≡ (port link).faults Flow
      → Rose ((port link).faults Gate) ((port left).faults Gate)
      → ((w : World) (side : Side) → IsLawfulWorld k w → ReadsAsSide k w side (state start) → RunsOn k side w w (state start) (state now))
      → RunsSync state port k address start now link left before after LinkFault []
  was_synced : (kept : Client) (replies : List Replied) (result : Result More SyncFault) → ReadsAsKept k (state start) kept
      → AllByRecursion IsLawfulReplied replies → Transfers (client_party k [] kept) kept replies → OpensArrived k [] kept replies
      → LeavesCourse state k kept replies start now
      → HasTalkedTo address (port link) (port left) (λ opened last.
      SyncEnds (client_party k [] kept) kept replies (state start) (state now) opened last before after result)
      → (port left).faults Gate ≡ (port link).faults Gate
      → ((w : World) (side : Side) → IsLawfulWorld k w → ReadsAsSide k w side (state start) → AreUnforged k [] side w replies
      → SyncRunsIn k side w kept replies (state start) (state now) result)
      → RunsSync state port k address start now link left before after (ending_of_sync result) (lines_of_sync (client_party k [] kept) kept replies result)
