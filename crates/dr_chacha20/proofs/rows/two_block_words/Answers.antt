use Rattle.std.proofs.Common.{arith}
use Rattle.dr_chacha20.proofs.Blocks.{block_words_are, double_round_more}
use Rattle.dr_chacha20.proofs.rows.two_block_words.Goals as goal

pub rounds-preserved : goal.rounds-preserved
rounds-preserved c = record {
  first = double_round_more c.rounds._round _ _ _ _ c.rounds.invariant.first c.column_round.ensures c.diagonal_round-x.ensures;
  second = double_round_more c.rounds._round _ _ _ _ c.rounds.invariant.second c.column_round-in-rounds.ensures c.diagonal_round-y.ensures;
}

pub returns-clause-first : goal.returns-clause-first
returns-clause-first c =
    block_words_are c.rounds._round _ _ _ (omega arith) c.rounds.invariant.first c.sum.ensures

pub returns-clause-second : goal.returns-clause-second
returns-clause-second c =
    block_words_are c.rounds._round _ _ _ (omega arith) c.rounds.invariant.second c.sum-2.ensures
