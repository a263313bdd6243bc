-- A whole sync: how it ends, and what comes of it.
use Rattle.std.specs.Prelude.{List, Result, ℕ}
use Rattle.dr_base.specs.declared.position.Side.{Side}
use Rattle.dr_model.specs.Machines.Worlds.{World}
use Rattle.dr_ports.specs.Wires.{Port}
use Rattle.kem_laws.specs.Mechanism.{Mechanism}
use Rattle.relay_wire.specs.Replies.{Replied}
use Rattle.sync_model.specs.declared.more.More.{More}
use Rattle.client.specs.InWorlds.{IsIn}
use Rattle.client.specs.declared.syncing.faults.SyncFault.{SyncFault}
use Rattle.client.specs.Syncing.Arrivals.{OpensArrived}
use Rattle.client.specs.Syncing.InWorlds.{AreUnforged, SyncSpends, SyncsIn}
use Rattle.client.specs.Syncing.Moments.{Moment}
use Rattle.client.specs.Syncing.Parties.{client_party}
use Rattle.client.specs.Syncing.Syncs.{Syncs, SyncsBy}
use Rattle.client.specs.Syncing.Transfers.{Carries, Transfers}

module _ (k : Mechanism) (prefix : List ℕ) (a b : Moment) (start now : Port)
    (result : Result More SyncFault) where
  -- what comes of a sync by these replies
  pub record HasDone (replies : List Replied) : Type 0 where
    -- in each world that the client stands for, where no packet that is taken is forged
    pub in_worlds : (w : World) (side : Side) → IsIn k w side a.client
        → AreUnforged k prefix side w replies → SyncsIn k prefix side w replies a b result
    -- there, once a packet was opened, its key is used up, and nothing that a crash leaves gives it
    pub spent : (w : World) (side : Side) → IsIn k w side a.client
        → AreUnforged k prefix side w replies → SyncSpends k prefix side w replies b.disk result
    -- where the replies are those of a relay with these boxes: the own box is collected, and the
    -- outbox delivered
    pub transfer : Transfers (client_party k prefix a.client.kept) a.client.kept replies
    -- and in each world that the client stands for, what the box holds of the peer's packets is
    -- opened, in order, each once
    pub opens : OpensArrived k prefix a.client.kept replies
    -- so they are over a link that tells that it carries a relay's replies, where no call fails
    pub carries : Carries (client_party k prefix a.client.kept) replies a b start now

  -- From one moment and port to the other an open client syncs, exactly; and whichever replies it
  -- has synced by, this comes of them.
  pub record IsSyncOf : Type 0 where
    pub exact : Syncs (client_party k prefix a.client.kept) a b start now result
    pub done : (replies : List Replied)
        → SyncsBy (client_party k prefix a.client.kept) replies a b start now result
        → HasDone replies
