use Rattle.std.proofs.Common.{rules, ◌≡◌, sym, subst}
use Rattle.book_store.specs.Kept.{AreOwnNumbers}
use Rattle.book_store.proofs.Books.Dropping.{kept_own}
use Rattle.book_store.proofs.held.HeldRow.clear.Goals as goal

pub invariant_of-self-clause-gone : goal.invariant_of-self-clause-gone
invariant_of-self-clause-gone c =
    let same : c.extend_from_slice.new.self.items ≡ c.args.self.now.kept.numbers.items = search rules in
    subst AreOwnNumbers (sym same) (kept_own c.args.self.now.kept c.args.self.now.record)
