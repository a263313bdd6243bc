-- Whose epoch an epoch is.
use Rattle.std.proofs.Common.{◌≡◌, ◌%◌, ◌==◌, ℕ, true, arith}
use Rattle.std.proofs.lemmas.Bool.{cond-false, cond-true}
use Rattle.std.proofs.lemmas.Bool.Decides.{nat_tests}
use Rattle.dr_base.specs.Position.{is_own, side_of}
use Rattle.dr_base.specs.declared.position.Side.{Side}
use Rattle.dr_base.specs.declared.position.Side.TheVariants.{First, Second}

-- an own epoch is the side's
pub own_side : (side : Side) (epoch : ℕ) → is_own side epoch ≡ true → side_of epoch ≡ side
own_side First epoch own = cond-true (epoch % 2 == 1) First Second own
own_side Second epoch own = cond-false (epoch % 2 == 1) First Second (grind (arith, nat_tests))
