-- How often a short way is tried, as a number.
use Rattle.std.specs.Prelude.{◌≡◌}
use Rattle.ntru_ring.specs.declared.elimination_q.TheConstants.{TRIALS}

-- trials of a candidate for an inverse in R/q, before the plain way is taken
pub record HasLimits : Type 0 where
  pub trials : TRIALS ≡ 8
