-- What a draw did.
use Rattle.std.specs.Prelude.{◌≡◌, [], ◌∷◌, Result, IfOk, OnErr}
use Rattle.dr_base.specs.declared.key.Key32.{Key32}
use Rattle.dr_ports.specs.Ports.{HasCause}
use Rattle.dr_ports.specs.Seeds.{drawn}
use Rattle.dr_ports.specs.States.{DrawsState}

-- The next seed was given; or the draw failed, and none was.
pub record DrawsSeed {E : Type 0} (old new : DrawsState) (result : Result Key32 E) : Type 0 where
  pub seed : IfOk result (λ seed. old.coming ≡ drawn (seed.bytes ∷ []) new.coming)
  pub err : OnErr result (new.coming ≡ old.coming)
  pub cause : HasCause old.faults new.faults result
