use Rattle.std.proofs.Common.{◌≡◌, count_by, take}
use Rattle.ntru_ring.specs.Small.{is_nonzero}
use Rattle.ntru_ring.proofs.modulo_three.R3.weight.Given as goal

abbrev pub invariant-loop-c : goal.invariant-loop-c
invariant-loop-c l = l.weight ≡ count_by is_nonzero (take l.c-index l.self.coefficients)
