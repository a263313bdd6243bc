use Rattle.std.proofs.Common.{rules, ◌≡◌, take}
use Rattle.record_pages.specs.Pages.{pages_in}
use Rattle.record_pages.specs.Plans.{dropped}
use Rattle.book_store.specs.Kept.{text_of}
use Rattle.book_store.proofs.Books.Dropping.{gone_own}
use Rattle.book_store.proofs.held.HeldRow.stage.Goals as goal

pub invariant_of-self-clause-gone : goal.invariant_of-self-clause-gone
invariant_of-self-clause-gone g c =
    let news = pages_in (take c.args.len c.args.text.now.items) in
    let same : c.swap.new.x.items ≡ dropped (pages_in (text_of c.args.self.now.kept)) c.args.self.now.kept.numbers.items news = search rules in
    gone_own c.args.self.now.kept c.args.self.now.record news c.swap.new.x.items same
