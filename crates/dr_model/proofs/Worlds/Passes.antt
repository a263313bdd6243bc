-- Which of some tests is the first that passes.
use Rattle.std.proofs.Common.{◌≡◌, Bool, true, false, ◌∙◌}
use Rattle.std.specs.Prelude.{if◌then◌else◌}
use Rattle.std.proofs.lemmas.Bool.{cond-true, cond-false}

-- no test of three passes
pub none_passes : {A : Type 0} (a b c : Bool) (x y z v : A) → a ≡ false → b ≡ false → c ≡ false
    → (if a then x else (if b then y else (if c then z else v))) ≡ v
none_passes a b c x y z v h k l = cond-false a x _ h ∙ cond-false b y _ k ∙ cond-false c z v l

-- the second test is the first that passes
pub second_passes : {A : Type 0} (a b : Bool) (x y z : A) → a ≡ false → b ≡ true
    → (if a then x else (if b then y else z)) ≡ y
second_passes a b x y z h k = cond-false a x _ h ∙ cond-true b y z k

-- the third is
pub third_passes : {A : Type 0} (a b c : Bool) (x y z v : A) → a ≡ false → b ≡ false → c ≡ true
    → (if a then x else (if b then y else (if c then z else v))) ≡ z
third_passes a b c x y z v h k l = cond-false a x _ h ∙ second_passes b c y z v k l
