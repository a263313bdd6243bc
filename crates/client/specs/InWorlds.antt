-- What a call on a client does in a world that it stands for.
use Rattle.std.specs.Prelude.{List, Ok, Some, option_map, ℕ, ◌⊎◌, ◌≡◌}
use Rattle.dr_base.specs.declared.position.Side.{Side}
use Rattle.dr_disk.specs.Spans.{Span}
use Rattle.dr_disk.specs.State.{Always, DiskState}
use Rattle.dr_model.specs.Machines.Acts.{Act}
use Rattle.dr_model.specs.Machines.WorldActs.{act_in}
use Rattle.dr_model.specs.Machines.WorldSides.{kept_in}
use Rattle.dr_model.specs.Machines.Worlds.{World}
use Rattle.dr_model.specs.Theorems.LawfulWorlds.{IsLawfulWorld}
use Rattle.kem_laws.specs.Mechanism.{Mechanism}
use Rattle.session_model.specs.declared.answer.Answer.TheVariants.{Refused}
use Rattle.session_record.specs.Record.{record_read}
use Rattle.client.specs.Cells.{Cell, KeepsOutsideCell, client_cell}
use Rattle.client.specs.Clients.{ClientNow}
use Rattle.client.specs.Keepings.{Keeping, cell_of, client_keeping}
use Rattle.client.specs.Outcomes.{Outcome, acknowledged, faulted, is_closed, refused, undrawn}

-- what keeps a side of a lawful world
pub record IsKeeperIn {S : Type 0} (keeping : Keeping S) (k : Mechanism) (w : World) (side : Side)
    (s : S) : Type 0 where
  pub lawful : IsLawfulWorld k w
  pub keeps : keeping.kept s ≡ kept_in k w side

-- bytes that stand for a side of a world: the record that a place has is read as what the side
-- keeps there
abbrev pub CellStandsFor : Cell → Mechanism → World → Side → List ℕ → Type 0
CellStandsFor cell k w side c =
    option_map (record_read k) (cell.record_in c) ≡ Some (Ok (kept_in k w side))

-- bytes that stand for a side of one of two worlds, and are read without damage; outside the place
-- they are as they were
pub record CellStandsForEither (cell : Cell) (k : Mechanism) (side : Side) (before after : World)
    (start : DiskState) (c : List ℕ) : Type 0 where
  pub either : CellStandsFor cell k before side c ⊎ CellStandsFor cell k after side c
  pub undamaged : cell.undamaged c
  pub outside : KeepsOutsideCell cell start c

-- from one moment to the other each crash leaves the one world or the other
abbrev pub IsBetweenInCell : Cell → Mechanism → Side → World → World → DiskState → DiskState
    → Type 0
IsBetweenInCell cell k side before after start now =
    Span start now (CellStandsForEither cell k side before after start)

-- ---- where a client lies

abbrev pub StandsFor : Mechanism → World → Side → List ℕ → Type 0
StandsFor = CellStandsFor client_cell

abbrev pub StandsForEither : Mechanism → Side → World → World → DiskState → List ℕ → Type 0
StandsForEither = CellStandsForEither client_cell

abbrev pub IsBetween : Mechanism → Side → World → World → DiskState → DiskState → Type 0
IsBetween = IsBetweenInCell client_cell

-- The answer is the machine's. Meanwhile each crash leaves the world before the act or the one after it, and once it is
-- acknowledged, the one after it. A refusal leaves the world. Where a call on the disk fails the client shows the world
-- before.
abbrev pub KeeperActsIn : {S : Type 0} → Keeping S → Mechanism → World → Side → Act → S → S
    → DiskState → DiskState → Outcome → Type 0
KeeperActsIn keeping k w side act old new start now (is_closed call) = new ≡ old
KeeperActsIn keeping k w side act old new start now (refused refusal) =
    ((act_in k w side act).answer ≡ Refused refusal) × (new ≡ old)
    × IsKeeperIn keeping k (act_in k w side act).next side new
KeeperActsIn keeping k w side act old new start now undrawn = ⊥
KeeperActsIn keeping k w side act old new start now (acknowledged answer) =
    ((act_in k w side act).answer ≡ answer)
    × IsKeeperIn keeping k (act_in k w side act).next side new
    × IsBetweenInCell (cell_of keeping old) k side w (act_in k w side act).next start now
    × Always (CellStandsFor (cell_of keeping old) k (act_in k w side act).next side) now
KeeperActsIn keeping k w side act old new start now (faulted call) =
    (keeping.kept new ≡ keeping.kept old)
    × IsBetweenInCell (cell_of keeping old) k side w (act_in k w side act).next start now

-- ---- of a client

-- a client that keeps a side of a lawful world
abbrev pub IsIn : Mechanism → World → Side → ClientNow → Type 0
IsIn = IsKeeperIn client_keeping

abbrev pub ActsIn : Mechanism → World → Side → Act → ClientNow → ClientNow → DiskState → DiskState → Outcome → Type 0
ActsIn = KeeperActsIn client_keeping
