-- How a port stands.
use Rattle.std.specs.Prelude.{ℕ, List, Option}
use Rattle.dr_ports.specs.Seeds.{Seeds}

-- a source: the bytes that are left, where it tells them, and how often a call has failed
pub record SourceState : Type 0 where
  pub left : Option (List ℕ)
  pub faults : ℕ

-- a sink: the bytes taken so far, where it tells them, and how often a call has failed
pub record SinkState : Type 0 where
  pub taken : Option (List ℕ)
  pub faults : ℕ

-- draws: the seeds to come, where they are told, and how often a call has failed
pub record DrawsState : Type 0 where
  pub coming : Option Seeds
  pub faults : ℕ
