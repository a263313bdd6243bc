-- What was opened is no longer than a text, where a plain packet sealed no more.
use Rattle.std.proofs.Common.{◌≡◌, ℕ, ◌==◌, ◌≤◌, Bool, true, false, List, length, Some, refl, arith}
use Rattle.std.proofs.lemmas.Bool.{eqb-true}
use Rattle.dr_base.specs.declared.limits.TheConstants.{PLAIN, TEXT_LIMIT}
use Rattle.dr_base.specs.declared.position.Side.{Side}
use Rattle.bodies.specs.Bodies.{Body, opened_body}
use Rattle.bodies.proofs.Lengths.{differs}
use Rattle.bodies.proofs.Opened.{opened-fits, opened-place}

pub opened_short : (version : ℕ) (side : Side) (bytes : List ℕ) (body : Body) → opened_body version side bytes ≡ Some body
    → (version ≡ PLAIN → length bytes ≤ TEXT_LIMIT) → length body.content ≤ TEXT_LIMIT
opened_short version side bytes body opens plain = by_version (version == PLAIN) refl
  where
    by_version : (b : Bool) → (version == PLAIN) ≡ b → length body.content ≤ TEXT_LIMIT
    by_version true is =
        omega (arith, (opened-place version side bytes body opens).inside, plain (eqb-true version PLAIN is))
    by_version false is = opened-fits version side bytes body opens (differs version PLAIN is)
