-- Which epochs are a side's own: they take turns.
use Rattle.std.proofs.Common.{◌≡◌, ◌≢◌, ℕ, ◌+◌, ◌-◌, ◌%◌, ◌==◌, ◌≤◌, Bool, true, false, not, refl, sym, ◌∙◌, ap, arith}
use Rattle.std.proofs.lemmas.Bool.Decides.{nat_tests}
use Rattle.dr_base.specs.declared.position.Side.{Side}
use Rattle.dr_base.specs.declared.position.Side.TheVariants.{First, Second}
use Rattle.dr_base.specs.Position.{is_own, peer_of}

-- the next one is the other side's
odd_next : (t : ℕ) → ((t + 1) % 2 == 1) ≡ not (t % 2 == 1)
odd_next t = grind (arith, nat_tests)

even_next : (t : ℕ) → ((t + 1) % 2 == 0) ≡ not (t % 2 == 0)
even_next t = grind (arith, nat_tests)

pub own_next : (side : Side) (t : ℕ) → is_own side (t + 1) ≡ not (is_own side t)
own_next First t = odd_next t
own_next Second t = even_next t

-- one side's own epochs are not the other's
own_second : (t : ℕ) → is_own Second t ≡ not (is_own First t)
own_second t = grind (arith, nat_tests)

own_first : (t : ℕ) → is_own First t ≡ not (is_own Second t)
own_first t = grind (arith, nat_tests)

pub own_peer : (side : Side) (t : ℕ) → is_own (peer_of side) t ≡ not (is_own side t)
own_peer First t = own_second t
own_peer Second t = own_first t

-- an own epoch comes after a peer's
pub own_after : (side : Side) (t : ℕ) → is_own side t ≡ false → is_own side (t + 1) ≡ true
own_after side t peers = own_next side t ∙ ap not peers

-- what is negated
negated : (a b : Bool) → a ≡ not b → b ≡ not a
negated true true h = cc
negated true false h = refl
negated false true h = refl
negated false false h = cc

-- an own epoch before a peer's
pub own_before : (side : Side) (t : ℕ) → 1 ≤ t → is_own side t ≡ false → is_own side (t - 1) ≡ true
own_before side t one peers =
    let step : t - 1 + 1 ≡ t = omega arith in
    negated (is_own side (t - 1 + 1)) (is_own side (t - 1)) (own_next side (t - 1)) ∙ ap not (ap (is_own side) step ∙ peers)

-- an own epoch isn't a peer's
pub own_other : (side : Side) (s t : ℕ) → is_own side s ≡ true → is_own side t ≡ false → s ≢ t
own_other side s t own peers same = let e : true ≡ false = sym own ∙ ap (is_own side) same ∙ peers in cc
