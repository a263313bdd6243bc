-- the areas so far were opened
use Rattle.relay_server.specs.Areas.{AreOpened}
use Rattle.relay_server.proofs.areas.open_areas.Given as goal

abbrev pub invariant-areas : goal.invariant-areas
invariant-areas g l = AreOpened l.k l.count l.stores.items (g.D.Disk.state l.fn.disk) (g.D.Disk.state l.disk)
