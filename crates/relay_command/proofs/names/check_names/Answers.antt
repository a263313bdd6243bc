use Rattle.std.proofs.Common.{[], arith}
use Rattle.relay_command.proofs.NamesLemmas.{all_named, are_few, is_bad, is_named}
use Rattle.relay_command.proofs.names.check_names.Goals as goal

pub returns-then-not-is_box_name-clause-bad : goal.returns-then-not-is_box_name-clause-bad
returns-then-not-is_box_name-clause-bad c =
    is_bad c.args.words.now c.words.k (record { ref_ptr = (0, 0); now = [] }) c.is_box_name.result c.words-test.true c.words.invariant.names c.is_box_name.ensures c.if-not-is_box_name.true

pub words-preserved : goal.words-preserved
words-preserved c = record {
  names = is_named c.args.words.now c.words.k (record { ref_ptr = (0, 0); now = [] }) c.is_box_name.result c.words-test.true c.words.invariant.names c.is_box_name.ensures c.if-not-is_box_name.false;
  few = are_few c.args.words.now c.words.k (record { ref_ptr = (0, 0); now = [] }) c.is_box_name.result c.words-test.true c.words.invariant.names c.is_box_name.ensures c.if-not-is_box_name.false;
}

pub returns-clause-names : goal.returns-clause-names
returns-clause-names c = all_named c.args.words.now c.words.k (omega arith) c.words.invariant.names
