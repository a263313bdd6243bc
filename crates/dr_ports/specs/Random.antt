-- Draws from a source of random bytes.
use Rattle.std.specs.Prelude.{ℕ, None}
use Rattle.dr_ports.specs.States.{DrawsState}

-- the source, and how often a call of it failed
pub record Sourced (Source : Type 0) : Type 0 where
  pub source : Source
  pub faults : ℕ

-- the seeds to come aren't told
abbrev pub untold : {Source : Type 0} → Sourced Source → DrawsState
untold draws = record { coming = None; faults = draws.faults }
