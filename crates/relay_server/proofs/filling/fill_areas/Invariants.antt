-- the areas so far have their boxes
use Rattle.dr_disk.specs.Spans.{IsQuiet, Span}
use Rattle.relay_server.specs.Filling.{AreFilled, IsFilling}
use Rattle.relay_server.specs.Places.{HasBoxMemory}
use Rattle.relay_server.proofs.filling.fill_areas.Given as goal

abbrev pub invariant-boxes : goal.invariant-boxes
invariant-boxes g l = record {
  filled : AreFilled l.place l.relay l.stores (g.D.Disk.state l.disk);
  during : Span (g.D.Disk.state l.fn.disk) (g.D.Disk.state l.disk) (IsFilling l.relay (g.D.Disk.state l.fn.disk));
  quiet : IsQuiet (g.D.Disk.state l.fn.disk) (g.D.Disk.state l.disk);
  room : HasBoxMemory l.text;
}
