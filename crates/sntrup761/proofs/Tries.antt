-- The tries of key generation: what all of them without an inverse give, and what the first with one gives.
use Rattle.std.proofs.Common.{◌≡◌, ℕ, ◌<◌, Some, None, List, ℤ, refl, ap, ap₂, sym, ◌∙◌, arith, Option}
use Rattle.std.specs.Prelude.{is_some}
use Rattle.ntru_codec.specs.Elements.{rq_encoded}
use Rattle.ntru_codec.proofs.Digits.{find-none, find-some}
use Rattle.sntrup_core.specs.Inverse.{inverse}
use Rattle.sntrup_core.specs.Core.{IsPair, quotient}
use Rattle.sntrup_core.proofs.Quotients.{quotient-inverse}
use Rattle.sntrup761.specs.Draws.{drawn_g, drawn_f, drawn_rho}
use Rattle.sntrup761.specs.Mechanism.{first_try, secret_of, keys_from, keys_of, pair}

-- the first n tries have no inverse
pub record AreWithout (h : ℕ) (drawn : ℕ → List ℤ) (n : ℕ) : Type 0 where
  pub none : (j : ℕ) → j < n → inverse h (drawn j) ≡ None

first_try-none : (h : ℕ) (drawn : ℕ → List ℤ) (n : ℕ) → AreWithout h drawn n → first_try h drawn n ≡ None
unfolding first_try
first_try-none h drawn n w = find-none (λ j. is_some (inverse h (drawn j))) n 0
    (λ j _ l. ap is_some (w.none j (omega arith)))

first_try-some : (h : ℕ) (drawn : ℕ → List ℤ) (n i : ℕ) (v : List ℤ) → i < n → AreWithout h drawn i
    → inverse h (drawn i) ≡ Some v → first_try h drawn n ≡ Some i
unfolding first_try
first_try-some h drawn n i v l w e =
    find-some (λ j. is_some (inverse h (drawn j))) n 0 i (omega arith) (omega arith) (ap is_some e)
    (λ j _ m. ap is_some (w.none j m))

-- all tries for g, or all for f, have no inverse
pub no-g : (seed : List ℕ) → AreWithout 1 (drawn_g seed) 16 → pair seed ≡ None
unfolding pair keys_of
no-g seed w = ap (λ i. keys_of seed i (first_try 2295 (drawn_f seed) 4)) (first_try-none 1 (drawn_g seed) 16 w)

keys_of-none : (seed : List ℕ) (i : Option ℕ) → keys_of seed i None ≡ None
unfolding keys_of
keys_of-none seed None = refl
keys_of-none seed (Some i) = refl

pub no-f : (seed : List ℕ) → AreWithout 2295 (drawn_f seed) 4 → pair seed ≡ None
unfolding pair
no-f seed w =
    ap (keys_of seed (first_try 1 (drawn_g seed) 16)) (first_try-none 2295 (drawn_f seed) 4 w)
    ∙ keys_of-none seed (first_try 1 (drawn_g seed) 16)

-- the first tries with inverses give the keys
pub keys-are : (seed : List ℕ) (i j : ℕ) (g f h v : List ℤ) → i < 16 → j < 4 → AreWithout 1 (drawn_g seed) i
    → AreWithout 2295 (drawn_f seed) j
    → g ≡ drawn_g seed i → f ≡ drawn_f seed j → IsPair g f h v
    → pair seed ≡ Some (rq_encoded h, secret_of f v (rq_encoded h) (drawn_rho seed))
unfolding pair keys_of keys_from
keys-are seed i j g f h v li lj wi wj ge fe p =
    let w = quotient-inverse g f h p.quotient_is in
    let for_g = first_try-some 1 (drawn_g seed) 16 i v li wi (ap (inverse 1) (sym ge) ∙ p.inverse_is) in
    let for_f = first_try-some 2295 (drawn_f seed) 4 j w.0 lj wj (ap (inverse 2295) (sym fe) ∙ w.1) in
    ap₂ (λ a b. keys_of seed a b) for_g for_f
    ∙ ap₂ (λ a b. keys_from (drawn_rho seed) b (inverse 1 a) (quotient a b)) (sym ge) (sym fe)
    ∙ ap₂ (λ a b. keys_from (drawn_rho seed) f a b) p.inverse_is p.quotient_is
