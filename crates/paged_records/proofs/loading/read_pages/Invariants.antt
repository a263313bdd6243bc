-- the pages so far were read
use Rattle.std.proofs.Common.{◌≡◌, map, take, Ok}
use Rattle.dr_disk.specs.State.{OnSeen}
use Rattle.pages.specs.Runs.{ReadsAlone}
use Rattle.pages.specs.Snapshots.{page_of}
use Rattle.record_pages.specs.Pages.{cut}
use Rattle.paged_records.proofs.loading.read_pages.Given as goal

abbrev pub invariant-pages : goal.invariant-pages
invariant-pages g l = record {
  read : OnSeen (λ s. cut l.i l.bytes ≡ map (page_of l.layout s) (take l.i l.numbers)) (g.D.Disk.state l.fn.disk);
  looks : ReadsAlone {T = Unit} l.i (g.D.Disk.state l.fn.disk) (g.D.Disk.state l.disk) (Ok tt);
}
