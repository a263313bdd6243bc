-- What a sync leaves on the disk at each moment: while its client is opened, and behind that.
use Rattle.std.specs.Prelude.{List, Some, [], ℕ, ◌++◌, ◌≡◌, ◌⊎◌}
use Rattle.dr_base.specs.declared.position.Side.{Side}
use Rattle.dr_disk.specs.Spans.{Span}
use Rattle.dr_disk.specs.State.{Always, DiskState}
use Rattle.dr_model.specs.Machines.Worlds.{World}
use Rattle.dr_model.specs.Theorems.LawfulWorlds.{IsLawfulWorld}
use Rattle.kem_laws.specs.Mechanism.{Mechanism}
use Rattle.relay_wire.specs.Replies.{Replied}
use Rattle.session_model.specs.Clients.{Client}
use Rattle.sync_model.specs.Courses.{course_of}
use Rattle.sync_model.specs.Parties.{Party}
use Rattle.client.specs.InWorlds.{StandsFor}
use Rattle.client.specs.Opening.{IsAsRead, ReadsAsSide}
use Rattle.client.specs.Syncing.InWorlds.{AreUnforged, course_in}
use Rattle.client.specs.Syncing.Parties.{client_party}
use Rattle.session_commands.specs.Disks.{ClientStandsOpen, HasRecordUnharmed, RunsOn, StaysSound}

-- bytes as those that were read, or with the record of what the course keeps after a beginning of
-- the replies
pub data IsSyncLeft (k : Mechanism) (p : Party Client) (kept : Client) (replies : List Replied)
    (start : DiskState) (c : List ℕ) : Type 0 where
  is_as_read : IsAsRead k start c → IsSyncLeft k p kept replies start c
  is_of_course : (front back : List Replied) → replies ≡ front ++ back
      → HasRecordUnharmed (course_of p kept front).state start c
      → IsSyncLeft k p kept replies start c

-- ---- in worlds

-- bytes that stand for the world that the course reaches after a beginning of the replies, and are sound
pub record StandsForCourse (k : Mechanism) (side : Side) (w : World) (replies : List Replied) (start : DiskState) (c : List ℕ)
    : Type 0 where
  pub front : List Replied
  pub back : List Replied
  pub split : replies ≡ front ++ back
  pub stands : StandsFor k (course_in k [] side w front).state side c
  pub sound : StaysSound start c

-- At a moment each image stands for the world that was read, and all until then was its opening.
-- From then on each crash leaves what stands for one that the course reaches.
pub record SyncsBehind (k : Mechanism) (side : Side) (w : World) (replies : List Replied)
    (start opened now : DiskState) : Type 0 where
  pub opening : RunsOn k side w w start opened
  pub stands : Always (StandsFor k w side) opened
  pub passed : Span opened now (StandsForCourse k side w replies start)

-- ---- the whole sync

-- Each crash meanwhile leaves what one might have left at entry, or what was read, or the record of
-- what the course keeps after a beginning of the replies; a read gives such. At the moment behind
-- which all is sent and written the client is open. The link and the sink are as they were at entry
-- then, since what is sent and written is counted from there (`HasTalkedTo`, `Runs`). From then on a
-- crash leaves what one might have left at entry no more.
pub record LeavesCourse {X : Type 0} (state : X → DiskState) (k : Mechanism) (kept : Client)
    (replies : List Replied) (start now : X) : Type 0 where
  pub any_moment : Span (state start) (state now) (λ c. (state start).image c
      ⊎ IsSyncLeft k (client_party k [] kept) kept replies (state start) c)
  pub reads : (s : List ℕ) → (state now).seen ≡ Some s
      → IsSyncLeft k (client_party k [] kept) kept replies (state start) s
  pub opened : X
  pub stands : ClientStandsOpen k kept (state start) (state opened)
  pub behind : Span (state opened) (state now)
      (IsSyncLeft k (client_party k [] kept) kept replies (state start))
  pub in_worlds : (w : World) (side : Side) → IsLawfulWorld k w
      → ReadsAsSide k w side (state start) → AreUnforged k [] side w replies
      → SyncsBehind k side w replies (state start) (state opened) (state now)
