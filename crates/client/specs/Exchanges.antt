-- The smallest exchange between both sides, as the clauses of their calls tell it.
use Rattle.std.specs.Prelude.{List, None, Ok, Some, [], slice_get, true, ℕ, ◌∷◌, ◌≡◌}
use Rattle.boxes.specs.Posts.{Post}
use Rattle.dr_base.specs.declared.position.Position.{Position}
use Rattle.dr_base.specs.declared.position.Side.{Side}
use Rattle.dr_base.specs.declared.position.Side.TheVariants.{First}
use Rattle.dr_disk.specs.State.{DiskState}
use Rattle.dr_model.specs.Conversations.Views.{has_opened}
use Rattle.dr_model.specs.Machines.Acts.{taking}
use Rattle.dr_model.specs.Machines.Worlds.{World, made_at, view_of}
use Rattle.dr_model.specs.Theorems.Fairness.{IsUnforged}
use Rattle.dr_model.specs.Theorems.LawfulWorlds.{IsLawfulWorld}
use Rattle.dr_ports.specs.States.{DrawsState}
use Rattle.kem_laws.specs.Mechanism.{Mechanism}
use Rattle.client.specs.Clients.{ClientNow}
use Rattle.client.specs.InWorlds.{ActsIn, IsIn}
use Rattle.client.specs.Moments.{AreLinked, Known, settled_in}
use Rattle.client.specs.Opening.{OpensIn, ReadsAsSide}
use Rattle.client.specs.Outcomes.{said_as, taken_as}
use Rattle.client.specs.Saying.{SaysIn}
use Rattle.session_model.specs.Contents.{Content}

-- a call of a side: its client and its disk, before and after it
pub record Call (D : Type 0) : Type 0 where
  pub old : ClientNow
  pub new : ClientNow
  pub start : D
  pub now : D

-- An open client said a text, and its packet stands in its outbox.
pub record Spoke {D V : Type 0} (state : D → DiskState) (draws : V → DrawsState) (k : Mechanism)
    (call : Call D)
    (content : Content) (post : Post) : Type 0 where
  pub source : V
  pub left : V
  pub position : Position
  pub was_open : call.old.closed ≡ None
  pub says : (w : World) (side : Side) → IsIn k w side call.old
      → SaysIn draws k w side content call.old call.new (state call.start) (state call.now) source left (said_as (Ok position))
  pub at : ℕ
  pub stands : slice_get call.new.kept.outbox at ≡ Some post

-- A client took a packet, and opened it.
pub record HasTaken {D : Type 0} (state : D → DiskState) (k : Mechanism) (call : Call D) (packet : List ℕ) : Type 0 where
  pub position : Position
  pub takes : (w : World) (side : Side) → IsIn k w side call.old → IsUnforged k w side packet
      → ActsIn k w side (taking packet) call.old call.new (state call.start) (state call.now) (taken_as (Ok position))

-- First says a text. Second, whose disk is its own, takes the packet and says one. First's disk crashes, a client is opened from
-- what the crash left, and that takes Second's packet.
pub record IsExchange {D E V : Type 0} (state : D → DiskState) (peers : E → DiskState)
    (draws : V → DrawsState)
    (k : Mechanism) (asks : Call D) (hears answers : Call E) (crashed : D) (reads : Call D) (question answer : Post) : Type 0 where
  pub content : Content
  pub asked : Spoke state draws k asks content question
  pub heard : HasTaken peers k hears question.packet
  pub again : answers.old ≡ hears.new
  pub reply : Content
  pub answered : Spoke peers draws k answers reply answer
  pub crashes : (c : List ℕ) → (state crashed).image c → (state asks.now).image c
  pub read : List ℕ
  pub told : (state crashed).seen ≡ Some read
  pub opens : (w : World) (side : Side) → IsLawfulWorld k w → ReadsAsSide k w side (state crashed)
      → OpensIn k w side (state crashed) (state reads.start) (Ok reads.old)
  pub took : HasTaken state k reads answer.packet

-- First's moments are linked. What it takes is, in the world that it was opened in, the packet of a text that Second said; and
-- at the last moment it has opened it.
pub record IsHistory {D : Type 0} (state : D → DiskState) (k : Mechanism) (w : World) (asks : Call D) (crashed : D) (reads : Call D)
    (answer : Post) : Type 0 where
  pub known : ℕ → Known
  pub linked : AreLinked state
      (asks.start ∷ asks.now ∷ asks.now ∷ asks.now ∷ crashed ∷ reads.start ∷ reads.now ∷ []) k First w known
  pub opened : World
  pub there : known 5 ≡ settled_in opened
  pub honest : made_at k opened answer.packet ≡ Some answer.position
  pub unforged : IsUnforged k opened First answer.packet
  pub last : World
  pub ends : known 6 ≡ settled_in last
  pub is_in : IsIn k last First reads.new
  pub has : has_opened (view_of last First) answer.position ≡ true
