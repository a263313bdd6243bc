use Rattle.std.proofs.Common.{arith}
use Rattle.dr_chacha20.proofs.Blocks.{block_words_are}
use Rattle.dr_chacha20.proofs.rows.block_words.Goals as goal

pub returns : goal.returns
returns c = block_words_are c.rounds._round _ _ _ (omega arith) c.rounds.invariant c.sum.ensures
