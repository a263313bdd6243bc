-- A sync in a world that the client stands for.
use Rattle.std.specs.Prelude.{Err, List, Result, [], ⊤, ◌++◌, ◌∷◌, ◌≡◌, ◌≢◌, ◌⊎◌, ℕ}
use Rattle.dr_base.specs.declared.position.Position.{Position}
use Rattle.dr_base.specs.declared.position.Side.{Side}
use Rattle.dr_disk.specs.Spans.{Span}
use Rattle.dr_disk.specs.State.{Always, DiskState}
use Rattle.dr_model.specs.Machines.Acts.{taking}
use Rattle.dr_model.specs.Machines.WorldActs.{act_in}
use Rattle.dr_model.specs.Machines.WorldSides.{kept_in}
use Rattle.dr_model.specs.Machines.Worlds.{World}
use Rattle.dr_model.specs.Theorems.Fairness.{IsUnforged}
use Rattle.dr_model.specs.Theorems.LawfulWorlds.{IsLawfulWorld}
use Rattle.kem_laws.specs.Mechanism.{Mechanism}
use Rattle.relay_wire.specs.Replies.{Replied, item}
use Rattle.session_model.specs.Clients.{Client}
use Rattle.session_model.specs.declared.answer.Answer.TheVariants.{Opened}
use Rattle.slot_store.specs.Reading.{IsUndamaged}
use Rattle.slot_store.specs.Store.{KeepsOutsideArea}
use Rattle.sync_model.specs.Courses.{Course, begun, course_of}
use Rattle.sync_model.specs.Moves.{fetching}
use Rattle.sync_model.specs.Simulation.{AreFairFrom, IsSameCourse}
use Rattle.sync_model.specs.declared.more.More.{More}
use Rattle.client.specs.Clients.{client_area}
use Rattle.client.specs.InWorlds.{IsIn, StandsFor}
use Rattle.client.specs.Receipts.{HaveArrived, TellTruly}
use Rattle.client.specs.Spent.{IsErasedOn, IsUsed}
use Rattle.client.specs.declared.syncing.faults.SyncFault.{SyncFault}
use Rattle.client.specs.declared.syncing.faults.SyncFault.TheVariants.{Store}
use Rattle.client.specs.Syncing.Moments.{Moment}
use Rattle.client.specs.Syncing.Parties.{client_party, world_party}

-- what is kept is what a side keeps in a lawful world
pub record IsKeptIn (k : Mechanism) (side : Side) (kept : Client) (w : World) : Type 0 where
  pub lawful : IsLawfulWorld k w
  pub keeps : kept ≡ kept_in k w side

-- the course of a side of a world
abbrev pub course_in : Mechanism → List ℕ → Side → World → List Replied → Course World
course_in k prefix side w replies = course_of (world_party k prefix side w) w replies

-- no packet that these replies bring is forged at its turn
abbrev pub AreUnforged : Mechanism → List ℕ → Side → World → List Replied → Type 0
AreUnforged k prefix side w replies =
    AreFairFrom (world_party k prefix side w) (λ turn packet. IsUnforged k turn side packet) (begun (world_party k prefix side w) w) replies

-- bytes that stand for the world that the course reaches after a beginning of the replies, and are read without damage; outside
-- the client's area they are as they were
pub record IsReachedIn (k : Mechanism) (prefix : List ℕ) (side : Side) (w : World) (replies : List Replied) (start : DiskState) (c : List ℕ)
    : Type 0 where
  pub front : List Replied
  pub back : List Replied
  pub split : replies ≡ front ++ back
  pub stands : StandsFor k (course_in k prefix side w front).state side c
  pub undamaged : IsUndamaged client_area c
  pub outside : KeepsOutsideArea client_area start c

-- The client is in the world that the course reaches, and each image stands for it; where a call on the disk failed, it is in
-- the world before the last reply, and each image stands for that one or for the one after it.
abbrev pub LeadsTo : Mechanism → List ℕ → Side → World → List Replied → Moment → Result More SyncFault → Type 0
LeadsTo k prefix side w replies b (Err (Store call)) =
    (before : List Replied) × (last : Replied) × (replies ≡ before ++ last ∷ []) × IsIn k (course_in k prefix side w before).state side b.client
    × Always (λ c. StandsFor k (course_in k prefix side w before).state side c ⊎ StandsFor k (course_in k prefix side w replies).state side c) b.disk
LeadsTo k prefix side w replies b _ =
    IsIn k (course_in k prefix side w replies).state side b.client × Always (StandsFor k (course_in k prefix side w replies).state side) b.disk

-- Each own text that waited, and doesn't any more for the client, was opened by the other side. So
-- it is of what each crash leaves meanwhile, and then.
pub record SyncArrives (k : Mechanism) (side : Side) (w : World) (a b : Moment) : Type 0 where
  pub shown : HaveArrived w side a.client.kept b.client.kept
  pub stored : Span a.disk b.disk (TellTruly k w side)

-- The course is the client's: the same is asked, printed and waited for. Each crash meanwhile leaves a world of the course.
-- What its packets say has arrived was opened.
pub record SyncsIn (k : Mechanism) (prefix : List ℕ) (side : Side) (w : World) (replies : List Replied) (a b : Moment)
    (result : Result More SyncFault) : Type 0 where
  pub same : IsSameCourse (IsKeptIn k side) (course_of (client_party k prefix a.client.kept) a.client.kept replies) (course_in k prefix side w replies)
  pub leads : LeadsTo k prefix side w replies b result
  pub passed : Span a.disk b.disk (IsReachedIn k prefix side w replies a.disk)
  pub arrived : SyncArrives k side w a b

-- ---- once a sync has ended

-- these replies are behind one whose step was made: all steps were, but for the last where a call on the disk failed
abbrev pub AreBehind : Result More SyncFault → List Replied → Type 0
AreBehind (Err (Store call)) back = back ≢ []
AreBehind _ back = ⊤

-- these are behind when a sync has ended: none, or the last one where a call on the disk failed in its step
abbrev pub AreLeft : Result More SyncFault → List Replied → Type 0
AreLeft (Err (Store call)) back = (last : Replied) × (back ≡ last ∷ [])
AreLeft _ back = back ≡ []

-- Once a packet was opened its key is used up, and no image gives a key that was used up by then.
pub record SyncSpends (k : Mechanism) (prefix : List ℕ) (side : Side) (w : World) (replies : List Replied) (now : DiskState)
    (result : Result More SyncFault) : Type 0 where
  pub used : (front : List Replied) (n number : ℕ) (packet : List ℕ) (p : Position) → (course_in k prefix side w front).wait ≡ fetching n
      → (act_in k (course_in k prefix side w front).state side (taking packet)).answer ≡ Opened p
      → IsUsed (course_in k prefix side w (front ++ item number packet ∷ [])).state side p
  pub erased : (front back : List Replied) → replies ≡ front ++ back → AreBehind result back
      → (p : Position) → IsUsed (course_in k prefix side w front).state side p → IsErasedOn k p now
