use Rattle.std.proofs.Common.{refl, arith}
use Rattle.ntru_ring.proofs.Vectors.Rounds.{IsMovedWord-more, word_low, word_rest, word_end}
use Rattle.ntru_ring.proofs.products_three.moved_word.Goals as goal

pub loop-k-init : goal.loop-k-init
loop-k-init c = record { long = refl; first = refl; done = λ i l. absurd (omega arith) }

pub loop-k-preserved : goal.loop-k-preserved
loop-k-preserved c = IsMovedWord-more c.args.words.now c.loop-k.moved c.loop-k.k (omega arith) (omega arith) c.loop-k.invariant

pub returns-clause-low : goal.returns-clause-low
returns-clause-low c = word_low c.args.words.now c.loop-k.moved _ c.loop-k.k (omega arith) refl c.loop-k.invariant

pub returns-clause-rest : goal.returns-clause-rest
returns-clause-rest c = word_rest c.args.words.now c.loop-k.moved _ c.loop-k.k (omega arith) refl c.loop-k.invariant

pub returns-clause-end : goal.returns-clause-end
returns-clause-end c = word_end c.args.words.now c.loop-k.moved _ c.loop-k.k (omega arith) refl c.loop-k.invariant
