-- The public key h = g/(3f): the element with 3 * f * h = g.
use Rattle.std.proofs.Common.{◌≡◌, inl, inr, ℕ, suc, Some, None, List, length, ℤ, pos, refl, ap, sym, ◌∙◌, subst, arith, All}
use Rattle.std.specs.Option.{option_map}
use Rattle.ntru_ring.specs.Ring.{scale, times, one_of}
use Rattle.ntru_ring.specs.Reduction.{centred, reduced, IsWithin, IsInverse}
use Rattle.ntru_ring.proofs.Rings.Algebra.{times-scale, scale-scale, scale_one, length-scale, length-times}
use Rattle.ntru_ring.proofs.Rings.Unit.{times_assoc, one_times}
use Rattle.ntru_ring.proofs.Rings.Congruence.{length-reduced, reduced_keeps, reduced_within, reduced-scale, reduced-scale_by, reduced-times_right, reduced-times_left, scale_same}
use Rattle.ntru_ring.proofs.Rings.Bound.{All-wider}
use Rattle.sntrup_core.specs.Inverse.{inverse}
use Rattle.sntrup_core.specs.Core.{quotient, IsPair}
use Rattle.sntrup_core.proofs.InverseLaws.{option_cases, inverse-some, inverse-found}

-- 3 * 3061 is 1 modulo 4591
third-is : centred 2295 (pos 9183) ≡ pos 1
unfolding centred
third-is = refl

thrice-third : (y : List ℤ) → reduced 2295 (scale (pos 3) (scale (pos 3061) y)) ≡ reduced 2295 y
thrice-third y =
    ap (reduced 2295) (scale-scale (pos 3) (pos 3061) y) ∙ sym (reduced-scale_by 2295 (pos 9183) y)
    ∙ ap (λ c. reduced 2295 (scale c y)) third-is ∙ ap (reduced 2295) (scale_one y)

-- f * (w * g) = g where w is an inverse of f
pub cancelled : (h n : ℕ) (f w g : List ℤ) → length f ≡ suc n → length w ≡ suc n → length g ≡ suc n
    → All (IsWithin h) g → IsInverse h f w
    → reduced h (times f (times w g)) ≡ g
cancelled h n f w g lf lw lg small i =
    ap (reduced h) (sym (times_assoc f w g (lf ∙ sym lw) (lw ∙ sym lg))) ∙ sym (reduced-times_left h (times f w) g)
    ∙ ap (λ t. reduced h (times t g)) (i ∙ ap one_of lf) ∙ ap (reduced h) (one_times g n lg) ∙ reduced_keeps h g small

pub quotient-exact : (n : ℕ) (f w g : List ℤ) → length f ≡ suc n → length w ≡ suc n → length g ≡ suc n
    → All (IsWithin 1) g → IsInverse 2295 f w
    → reduced 2295 (scale (pos 3) (times f (reduced 2295 (scale (pos 3061) (times w g))))) ≡ g
quotient-exact n f w g lf lw lg small i =
    scale_same 2295 (pos 3) (times f (reduced 2295 (scale (pos 3061) (times w g))))
    (times f (scale (pos 3061) (times w g))) (reduced-times_right 2295 f (scale (pos 3061) (times w g)))
    ∙ ap (λ t. reduced 2295 (scale (pos 3) t)) (times-scale f (pos 3061) (times w g))
    ∙ thrice-third (times f (times w g))
    ∙ cancelled 2295 n f w g lf lw lg (All-wider 1 2295 (omega arith) g small) i

pub quotient-some : (n : ℕ) (f w g : List ℤ) → length f ≡ suc n → length w ≡ suc n → All (IsWithin 2295) w
    → IsInverse 2295 f w
    → quotient g f ≡ Some (reduced 2295 (scale (pos 3061) (times w g)))
unfolding quotient
quotient-some n f w g lf lw within i =
    ap (option_map (λ w. reduced 2295 (scale (pos 3061) (times w g)))) (inverse-found 2295 n f w lf lw within i)

-- what a quotient comes from
pub quotient-inverse : (g f h : List ℤ) → quotient g f ≡ Some h
    → (w : List ℤ) × (inverse 2295 f ≡ Some w) × (h ≡ reduced 2295 (scale (pos 3061) (times w g)))
unfolding quotient
quotient-inverse g f h e =
    let by : List ℤ → List ℤ = λ w. reduced 2295 (scale (pos 3061) (times w g)) in
    elim (option_cases (inverse 2295 f)) [
      | inl none ↦ absurd (let without : option_map by (inverse 2295 f) ≡ None = ap (option_map by) none in cc)
      | inr s ↦
          let is : Some (by s.0) ≡ Some h = sym (ap (option_map by) s.1) ∙ e in
          let same : by s.0 ≡ h = cc in
          (s.0, s.1, sym same)
    ]

pub length-quotient : (g f h : List ℤ) → quotient g f ≡ Some h → length h ≡ length g
length-quotient g f h e =
    let made = quotient-inverse g f h e in
    ap length made.2 ∙ length-reduced 2295 (scale (pos 3061) (times made.0 g))
    ∙ length-scale (pos 3061) (times made.0 g) ∙ length-times made.0 g

pub quotient-within : (g f h : List ℤ) → quotient g f ≡ Some h → All (IsWithin 2295) h
quotient-within g f h e =
    let made = quotient-inverse g f h e in
    let P : List ℤ → Type 0 = λ a. All (IsWithin 2295) a in
    subst P (sym made.2) (reduced_within 2295 (scale (pos 3061) (times made.0 g)))

-- an inverse and a quotient make a pair
pub pair-from : (n : ℕ) (g f h v : List ℤ) → length g ≡ suc n → length f ≡ suc n → All (IsWithin 1) g
    → inverse 1 g ≡ Some v → quotient g f ≡ Some h → IsPair g f h v
pair-from n g f h v lg lf small i q =
    let made = quotient-inverse g f h q in
    let found = inverse-some 2295 f made.0 made.1 in
    record {
      inverse_is = i;
      quotient_is = q;
      exact = ap (λ t. reduced 2295 (scale (pos 3) (times f t))) made.2
          ∙ quotient-exact n f made.0 g lf (found.long ∙ lf) lg small found.inverts;
    }

-- what a try makes: v inverts g in R/3, w inverts f in R/q, and h is 3061 * w * g
pub made-pair : (n : ℕ) (g f lifted v w product h : List ℤ) → length g ≡ suc n → length f ≡ suc n → length v ≡ suc n
    → length w ≡ suc n
    → All (IsWithin 1) g → All (IsWithin 1) v → All (IsWithin 2295) w → IsInverse 1 g v → lifted ≡ f
    → IsInverse 2295 lifted w
    → product ≡ reduced 2295 (times w g) → h ≡ reduced 2295 (scale (pos 3061) product) → IsPair g f h v
made-pair n g f lifted v w product h lg lf lv lw sg sv sw iv same iw e d =
    let i : IsInverse 2295 f w = subst (λ (t : List ℤ). IsInverse 2295 t w) same iw in
    let is : h ≡ reduced 2295 (scale (pos 3061) (times w g)) = d ∙ ap (λ t. reduced 2295 (scale (pos 3061) t)) e
    ∙ reduced-scale 2295 (pos 3061) (times w g) in
    pair-from n g f h v lg lf sg (inverse-found 1 n g v lg lv sv iv) (quotient-some n f w g lf lw sw i ∙ ap Some (sym is))
