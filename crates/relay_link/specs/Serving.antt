-- How far a connection is.
use Rattle.std.specs.Prelude.{◌≡◌, ◌⊎◌, ◌<◌, ◌≤◌, ℕ, List, ◌++◌, length}
use Rattle.relay_wire.specs.Frames.{IsPartial, frames_of}
use Rattle.relay_core.specs.Streams.{prepend, served, served_within}
use Rattle.relay_link.specs.Connections.{LinkConnection, HasLost, replies_coming, exchanges_of}
use Rattle.relay_link.specs.Desks.{DeskNow}
use Rattle.relay_link.specs.declared.limits.TheConstants.{REPLY_LIMIT, SENT_LIMIT}

-- Less than a frame is held. Whatever more is sent, the desk answers as the relay does: what was sent, and then that.
pub record IsServing (c : LinkConnection) (desk : DeskNow) (held : List ℕ) : Type 0 where
  pub partial : IsPartial held
  pub ahead : (more : List ℕ) → served c.start (c.sent ++ more) ≡ prepend (exchanges_of c) (served_within desk.left desk.boxes (frames_of (held ++ more)))
  pub count : desk.answered ≡ length (exchanges_of c)
  pub replies : desk.replies ≡ replies_coming c
  pub received : c.at ≤ length desk.replies
  pub same : desk.kept ≡ c.kept
  pub few : c.kept ≤ REPLY_LIMIT
  pub failed : 0 < c.faults → HasLost c ⊎ (SENT_LIMIT ≤ length c.sent)
