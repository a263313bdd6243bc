-- A client that was opened, alone on its disk, is opened at its place.
use Rattle.std.proofs.Common.{Ok, Result, refl}
use Rattle.dr_base.specs.declared.position.Side.{Side}
use Rattle.dr_disk.specs.State.{DiskState}
use Rattle.dr_model.specs.Machines.Worlds.{World}
use Rattle.kem_laws.specs.Mechanism.{Mechanism}
use Rattle.slot_store.proofs.Outside.{twice_outside}
use Rattle.client.specs.Cells.{client_cell}
use Rattle.client.specs.Clients.{ClientNow, client_area}
use Rattle.client.specs.Keepings.{client_keeping}
use Rattle.client.specs.Opening.{IsClientOpened, OpensIn, StandsInOpening}
use Rattle.client.specs.declared.refusals.OpenRefusal.{OpenRefusal}
use Rattle.command_lines.specs.Places.{IsOpenedAt}
use Rattle.command_lines.proofs.Acts.{OpensInPlace}
use Rattle.command_lines.proofs.Standing.{Fits}
use Rattle.session_commands.specs.Disks.{client_place}

pub client_fits : (k : Mechanism) (client : ClientNow) → Fits (client_place k) client_keeping client
client_fits k client = record {
  record_is = λ c. refl;
  undamaged = λ c is. is;
  outside = λ a b c first next. twice_outside client_area a b c first next;
  rests = λ t disk same ready. record { store = t.store; ready = ready };
}

pub opened_at : (k : Mechanism) (client : ClientNow) (start now : DiskState) → IsClientOpened k client start now
    → IsOpenedAt (client_place k) client_keeping k client start now
opened_at k client start now is =
    record { is_open = is.is_open; ready = is.ready; read = is.read; alike = is.alike; quiet = is.quiet }

-- in a world
pub stands_at : (k : Mechanism) (w : World) (side : Side) (start now : DiskState) (result : Result ClientNow OpenRefusal)
    → OpensIn k w side start now result → StandsInOpening client_cell k w side start now
stands_at k w side start now result opens = record { any_moment = opens.any_moment; reads = opens.reads }

pub opens_at : (k : Mechanism) (w : World) (side : Side) (client : ClientNow) (start now : DiskState)
    → OpensIn k w side start now (Ok client) → OpensInPlace (client_place k) client_keeping k w side client start now
opens_at k w side client start now opens = record {
  is = opens.client.0;
  stand = opens.client.1;
  opens = stands_at k w side start now (Ok client) opens;
}
