-- What one text under several names comes to in the worlds of the sessions.
use Rattle.std.specs.Prelude.{List, Ok, Option, ℕ}
use Rattle.dr_base.specs.declared.key.Key32.{Key32}
use Rattle.dr_disk.specs.State.{DiskState}
use Rattle.dr_ports.specs.States.{DrawsState}
use Rattle.kem_laws.specs.Mechanism.{Mechanism}
use Rattle.session_model.specs.Clients.{Client}
use Rattle.book_model.specs.Rows.{Rows}
use Rattle.book.specs.FanWorlds.{NamedWorlds, ReachesAll, StandIn}
use Rattle.book.specs.Fanning.{AsksInTurn}
use Rattle.book.specs.Fans.{Fan, fan_of}
use Rattle.book_commands.specs.Fanning.{AddsInTurn, all_said}
use Rattle.book_commands.specs.Listing.{IsBookAtRestFor}
use Rattle.book_commands.specs.Opening.{ReadsSessions}

-- in whichever worlds sessions stand, those of a fan reach their peers, and all others stay
abbrev pub ReachesInWorlds : Mechanism → Rows Client → Fan → Type 0
ReachesInWorlds k sessions fan = (worlds : NamedWorlds) → StandIn k sessions worlds
    → (after : NamedWorlds) × ReachesAll k fan (all_said k fan) worlds after

-- The sessions of a book were read, and those of the names say the text, with what was drawn: they
-- reach their peers, and the book is at rest with what all keep then.
pub record ReachesNamed {X W : Type 0} (state : X → DiskState) (draws : W → DrawsState)
    (k : Mechanism) (text : List ℕ) (names : List (List ℕ)) (start now : X) (source left : W)
    : Type 0 where
  pub sessions : Rows Client
  pub read : ReadsSessions k sessions (state start)
  pub list : List ℕ
  pub added : AddsInTurn names sessions list (Ok tt)
  pub seeds : List (Option Key32)
  pub asked : AsksInTurn draws k text sessions list source left seeds (Ok tt)
  pub reaches : ReachesInWorlds k sessions (fan_of sessions list text seeds)
  pub rests : IsBookAtRestFor (all_said k (fan_of sessions list text seeds)) (state now)
