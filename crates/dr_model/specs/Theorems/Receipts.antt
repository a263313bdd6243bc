-- Receipts are true when they are sent, and stay so: what a side learns from them has happened.
use Rattle.std.specs.Prelude.{All, Bool, List, Option, is_some, length, false, true, ℕ, ◌+◌, ◌≡◌, ◌≤◌}
use Rattle.std.specs.List.{list_any}
use Rattle.bodies.specs.Bodies.{Body}
use Rattle.bodies.specs.Lawful.{IsReceiptOrNone}
use Rattle.bodies.specs.Receipts.{Receipt}
use Rattle.dr_base.specs.Position.{is_at, peer_of}
use Rattle.dr_base.specs.declared.position.Position.{Position}
use Rattle.dr_base.specs.declared.position.Side.{Side}
use Rattle.kem_laws.specs.Mechanism.{Mechanism}
use Rattle.session_model.specs.Schedule.{agreement_seed}
use Rattle.dr_model.specs.Conversations.Formats.{Formats}
use Rattle.dr_model.specs.Conversations.Conversation.{Conversation, with_text, with_turn}
use Rattle.dr_model.specs.Conversations.Receipts.{IsTrue, view_receipt}
use Rattle.dr_model.specs.Conversations.Views.{View, after_opening, has_opened}
use Rattle.dr_model.specs.Machines.Events.{Event, PacketSource, cuts, does, takes}
use Rattle.dr_model.specs.Machines.Worlds.{World, opening_world, run_of, step_of, view_of}
use Rattle.dr_model.specs.Theorems.Fairness.{IsSeedWhole}
use Rattle.dr_model.specs.Theorems.LawfulWorlds.{IsLawfulWorld}
use Rattle.dr_model.specs.Theorems.Sessions.{StandsIn}

-- an own text of a side's waits for a receipt
abbrev pub waits_in : World → Side → Position → Bool
waits_in w side p = list_any (is_at p) (view_of w side).awaiting

-- a step ends the waiting of an own text of a side's
pub record EndsWaiting (w next : World) (side : Side) (p : Position) : Type 0 where
  pub waited : waits_in w side p ≡ true
  pub over : waits_in next side p ≡ false

-- The receipt that a side sends is true, and is one that the other side may open. A true receipt
-- stays true, whatever its sender opens, and whatever either side says: so it does over every run.
-- So a text that a side takes to have arrived, since a packet that it took says so, was opened by
-- the other side.
pub record ReceiptsAreTrue (k : Mechanism) : Type 0 where
  pub sent : (c : Conversation) (side : Side) (v : View) → StandsIn k c side v
      → IsTrue c v (view_receipt c v)
  pub lawful : (c : Conversation) (side : Side) (v : View) → StandsIn k c side v
      → IsReceiptOrNone (peer_of side) (view_receipt c v)
  -- its sender opens a packet
  pub opening : (c : Conversation) (v : View) (receipt : Option Receipt) (p : Position)
      → IsTrue c v receipt → IsTrue c (after_opening c v p) receipt
  -- either side says another text, in the last epoch, or in the one before where it doesn't know of
  -- the last
  pub saying : (c : Conversation) (v : View) (receipt : Option Receipt) (epoch : ℕ) (body : Body)
      → length c.seeds ≤ epoch + 1 → IsTrue c v receipt → IsTrue (with_text c epoch body) v receipt
  -- either side begins the next epoch
  pub turning : (c : Conversation) (v : View) (receipt : Option Receipt) (seed : List ℕ) (body : Body)
      → IsTrue c v receipt → IsTrue (with_turn c seed (length c.seeds + 1) body) v receipt
  -- anything happens, in any order
  pub lasting : (w : World) (hs : List Event) (side : Side) (receipt : Option Receipt)
      → IsLawfulWorld k w → All IsSeedWhole hs → IsTrue w.conversation (view_of w side) receipt
      → let last = run_of k w hs in IsTrue last.conversation (view_of last side) receipt
  -- each text whose waiting a take ends was opened by the other side, also where the take is cut off
  pub arrived : (w : World) (side : Side) (source : PacketSource) (p : Position) → IsLawfulWorld k w
      → EndsWaiting w (step_of k w (does side (takes source))).next side p
      → has_opened (view_of w (peer_of side)) p ≡ true
  pub arrived_cut : (w : World) (side : Side) (took : Bool) (source : PacketSource) (p : Position)
      → IsLawfulWorld k w
      → EndsWaiting w (step_of k w (cuts took (does side (takes source)))).next side p
      → has_opened (view_of w (peer_of side)) p ≡ true
  -- so it is in every run of a conversation
  pub arrived_in_runs : (key : List ℕ) (formats : Formats) (hs : List Event) (side : Side) (source : PacketSource)
      (p : Position) → is_some (k.meaning.pair_of (agreement_seed key)) ≡ true → All IsSeedWhole hs
      → let w = run_of k (opening_world key formats) hs in
      EndsWaiting w (step_of k w (does side (takes source))).next side p
      → has_opened (view_of w (peer_of side)) p ≡ true
