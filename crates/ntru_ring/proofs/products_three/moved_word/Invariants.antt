use Rattle.ntru_ring.proofs.Vectors.Rounds.{IsMovedWord}
use Rattle.ntru_ring.proofs.products_three.moved_word.Given as goal

abbrev pub invariant-loop-k : goal.invariant-loop-k
invariant-loop-k l = IsMovedWord l.words l.moved l.k
