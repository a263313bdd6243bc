use Rattle.std.proofs.Common.{◌≡◌}
use Rattle.book.specs.Fans.{fan_of, fanned_store}
use Rattle.book.specs.Putting.{StagesFirst, with_store}
use Rattle.book.proofs.shelf.Shelf.stage_fan.Given as goal

abbrev pub invariant-list : goal.invariant-list
invariant-list g l =
    record {
      so : StagesFirst g.K.Kem.mechanism (fan_of l.fn.self.book.rows l.list l.text l.seeds.items)
          l.fn.self.book.store (g.D.Disk.state l.fn.disk) (g.D.Disk.state l.disk) l.i;
      self_is : l.self ≡ with_store l.fn.self (fanned_store g.K.Kem.mechanism
          (fan_of l.fn.self.book.rows l.list l.text l.seeds.items) l.fn.self.book.store l.i);
    }
