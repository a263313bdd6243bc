-- The limits of bodies in numbers.
use Rattle.std.specs.Prelude.{◌≡◌}
use Rattle.bodies.specs.declared.limits.TheConstants.{BODY_LIMIT}
use Rattle.boxes.specs.declared.kinds.TheConstants.{TEXT_KIND}

-- the kind of a text, and the bytes of a body
pub record HasLimits : Type 0 where
  pub kind : TEXT_KIND ≡ 0
  pub body : BODY_LIMIT ≡ 4363
