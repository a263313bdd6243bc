use Rattle.std.proofs.Common.{[]}
use Rattle.relay_command.proofs.NamesLemmas.{none_said, word_says}
use Rattle.relay_command.proofs.names.specs_of.Goals as goal

pub unreachable-requires : goal.unreachable-requires
unreachable-requires c =
    none_said _ c.as_bytes.result.now c.spec_in.result c.spec_in.ensures c.in-None.is c.as_bytes.ensures.value
    (word_says c.args.words.now c.words.word-index (record { ref_ptr = (0, 0); now = [] }) c.words-test.true c.requires)
