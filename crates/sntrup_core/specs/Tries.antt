-- What a try of key generation answers: the pair, or which of its two elements has no inverse, with what shows it.
use Rattle.std.specs.Prelude.{◌≡◌, List, None, IsSome, ℤ}
use Rattle.ntru_ring.specs.Reduction.{Annihilates}
use Rattle.sntrup_core.specs.Inverse.{inverse}
use Rattle.sntrup_core.specs.Core.{IsPair}
use Rattle.sntrup_core.specs.declared.pair.PairTry.{PairTry}
use Rattle.sntrup_core.specs.declared.pair.PairTry.TheVariants.{Pair, NoInverseG, NoInverseF}

-- g has no inverse in R/3: z isn't zero, and g * z = 0
pub record IsWithoutG (g z : List ℤ) : Type 0 where
  pub none : inverse 1 g ≡ None
  pub shown : Annihilates 1 g z

-- f has no inverse in R/q, but g has one in R/3: z isn't zero, and f * z = 0
pub record IsWithoutF (g f z : List ℤ) : Type 0 where
  pub other : IsSome (inverse 1 g)
  pub none : inverse 2295 f ≡ None
  pub shown : Annihilates 2295 f z

abbrev pub IsTry : List ℤ → List ℤ → PairTry → Type 0
IsTry g f (Pair h v) = IsPair g f h.coefficients v.coefficients
IsTry g f (NoInverseG z) = IsWithoutG g z.coefficients
IsTry g f (NoInverseF z) = IsWithoutF g f z.coefficients
