use Rattle.std.proofs.Common.{◌≡◌}
use Rattle.book.specs.Fans.{fan_of, fanned_rows}
use Rattle.book.specs.Putting.{with_rows}
use Rattle.book.proofs.shelf.Shelf.accept_fan.Given as goal

abbrev pub invariant-list : goal.invariant-list
invariant-list g l = l.self ≡ with_rows l.fn.self (fanned_rows g.K.Kem.mechanism
    (fan_of l.fn.self.book.rows l.list l.text l.seeds.items) l.i)
