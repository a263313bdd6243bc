-- What the ports in memory show.
use Rattle.std.specs.Prelude.{◌≡◌, ◌⊎◌, ◌↔◌, ℕ, ◌+◌, ◌-◌, ◌%◌, ◌<◌, min, List, [], length, slice_index_or, Contains, Some, Result, IfOk, IsErr}
use Rattle.dr_base.specs.declared.key.Key32.{Key32}
use Rattle.dr_ports.specs.Ports.{one_more}
use Rattle.dr_ports.specs.Seeds.{Seeds}
use Rattle.dr_ports.specs.States.{SourceState, SinkState, DrawsState}

-- which calls of a port are to fail, how many it has had, and how many failed
pub record Plan : Type 0 where
  pub fails : List ℕ
  pub calls : ℕ
  pub faults : ℕ

-- the next call is one of those that are to fail
abbrev pub IsDue : Plan → Type 0
IsDue plan = Contains plan.fails (one_more plan.calls)

-- before the first call
abbrev pub planned : List ℕ → Plan
planned fails = record { fails = fails; calls = 0; faults = 0 }

-- a call that is counted, and fails just where this is so; which calls are to fail stays
pub record IsPlayed {T E : Type 0} (Fails : Type 0) (old new : Plan) (result : Result T E)
    : Type 0 where
  pub exact : IsErr result ↔ Fails
  pub calls : new.calls ≡ one_more old.calls
  pub list : new.fails ≡ old.fails

-- a source that never fails, and holds these bytes
abbrev pub steady_at : List ℕ → SourceState
steady_at bytes = record { left = Some bytes; faults = 0 }

-- a source: the bytes that are left, and its plan
pub record Holding : Type 0 where
  pub left : List ℕ
  pub plan : Plan

abbrev pub source_at : Holding → SourceState
source_at source = record { left = Some source.left; faults = source.plan.faults }

-- a sink: the bytes that it took, its room, and its plan
pub record Taking : Type 0 where
  pub taken : List ℕ
  pub room : ℕ
  pub plan : Plan

abbrev pub sink_at : Taking → SinkState
sink_at sink = record { taken = Some sink.taken; faults = sink.plan.faults }

-- a sink has no room for the first of these bytes
pub record IsFull (sink : Taking) (bytes : List ℕ) : Type 0 where
  pub no_room : length sink.taken ≡ sink.room
  pub needed : 0 < length bytes

-- a write: the sink takes as many of the bytes as it has room for, and keeps its room
pub record FillsUp {E : Type 0} (old new : Taking) (bytes : List ℕ) (result : Result ℕ E)
    : Type 0 where
  pub played : IsPlayed (IsDue old.plan ⊎ IsFull old bytes) old.plan new.plan result
  pub room : new.room ≡ old.room
  pub most : IfOk result (λ count. count ≡ min (length bytes) (old.room - length old.taken))

-- seeds that are given in turn, from the first again after the last, and the place of the next
pub record Turning : Type 0 where
  pub seeds : List Key32
  pub at : ℕ

-- the seeds to come
abbrev pub coming_of : Turning → Seeds
coming_of turning k = (slice_index_or turning.seeds ((turning.at + k) % length turning.seeds) (record { bytes = [] })).bytes

-- a source of draws: its seeds, and its plan
pub record Drawing : Type 0 where
  pub turning : Turning
  pub plan : Plan

-- draws that never fail, and draws that fail as their plan says
abbrev pub turning_at : Turning → DrawsState
turning_at turning = record { coming = Some (coming_of turning); faults = 0 }

abbrev pub draws_at : Drawing → DrawsState
draws_at draws = record { coming = Some (coming_of draws.turning); faults = draws.plan.faults }
