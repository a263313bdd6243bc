use Rattle.std.proofs.Common.{◌≡◌}
use Rattle.dr_chacha20.specs.Block.{double_rounds}
use Rattle.dr_chacha20.specs.Rows.{words_of}
use Rattle.dr_chacha20.proofs.rows.block_words.Given as goal

abbrev pub invariant-rounds : goal.invariant-rounds
invariant-rounds l = words_of l.x ≡ double_rounds l._round (words_of l.start)
