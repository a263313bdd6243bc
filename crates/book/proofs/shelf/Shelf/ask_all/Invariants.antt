use Rattle.std.proofs.Common.{◌≡◌}
use Rattle.book.specs.Fans.{AreAsked}
use Rattle.book.proofs.shelf.Shelf.ask_all.Given as goal

abbrev pub invariant-list : goal.invariant-list
invariant-list g l =
    record {
      asked : AreAsked g.W.Draws.at g.K.Kem.mechanism l.text l.fn.self.book.rows l.list l.fn.draws l.i l.draws
          l.seeds.items;
      same : l.self.book ≡ l.fn.self.book;
    }
