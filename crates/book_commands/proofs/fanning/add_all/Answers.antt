use Rattle.std.proofs.Common.{List, arith, length, subst, sym, ℕ, ◌<◌, ◌≤◌}
use Rattle.book.specs.Fans.{AreListed}
use Rattle.book_commands.specs.Fanning.{AreAdded, none_added}
use Rattle.book_commands.proofs.FanAdded.{added_more, all_added, not_added, texts}
use Rattle.book_commands.proofs.fanning.add_all.Goals as goal

pub names-init : goal.names-init
names-init g c = record {
  added = subst (λ (l : List ℕ). AreAdded (texts c.args.names.now) c.args.book.now.rows 0 l) (sym c.requires) none_added;
  listed = subst (λ (l : List ℕ). AreListed c.args.book.now.rows l) (sym c.requires) (λ i lt. absurd (omega (arith, lt)));
}

pub returns-in-Err-clause-adds : goal.returns-in-Err-clause-adds
returns-in-Err-clause-adds g c =
    let lt : c.names.i < length c.args.names.now = omega (arith, c.names-test.true) in
    not_added c.args.names.now c.args.book.now.rows c.names.i c.names.list lt c.names.invariant.added
    c.add.new.self c.in-Err.error c.in-Err.ensures.adds

pub names-preserved : goal.names-preserved
names-preserved g c =
    let lt : c.names.i < length c.args.names.now = omega (arith, c.names-test.true) in
    record {
      added = added_more c.args.names.now c.args.book.now.rows c.names.i c.names.list lt c.names.invariant.added
          c.add.new.self c.in-Ok.ensures.adds;
      listed = c.add.ensures.listed c.names.invariant.listed;
    }

pub returns-clause-adds : goal.returns-clause-adds
returns-clause-adds g c =
    let most : length c.args.names.now ≤ c.names.i = omega (arith, c.names-test.false) in
    let least : c.names.i ≤ length c.args.names.now = omega (arith, c.names-test.false) in
    all_added c.args.names.now c.args.book.now.rows c.names.i c.names.list most least c.names.invariant.added
