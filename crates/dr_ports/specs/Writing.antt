-- What a call did that writes to a sink.
use Rattle.std.specs.Prelude.{◌≡◌, ℕ, ◌<◌, ◌≤◌, List, ◌++◌, length, take, Option, Result, IfOk, OnOk, OnErr}
use Rattle.dr_ports.specs.Ports.{HasCause, appended}
use Rattle.dr_ports.specs.States.{SinkState}

-- One write: the sink took a beginning of the bytes, of a piece that isn't empty at least one; or it
-- failed, and took none.
pub record WritesSome {E : Type 0} (old new : SinkState) (bytes : List ℕ) (result : Result ℕ E)
    : Type 0 where
  pub bound : IfOk result (λ count. count ≤ length bytes)
  pub progress : IfOk result (λ count. 0 < length bytes → 0 < count)
  pub content : IfOk result (λ count. new.taken ≡ appended old.taken (take count bytes))
  pub err : OnErr result (new.taken ≡ old.taken)
  pub cause : HasCause old.faults new.faults result

-- A sink took a beginning of the bytes and no more.
pub record TookBeginning (old new : Option (List ℕ)) (bytes : List ℕ) : Type 0 where
  pub beginning : List ℕ
  pub remainder : List ℕ
  pub split : bytes ≡ beginning ++ remainder
  pub took : new ≡ appended old beginning

-- A sink took all the bytes, or failed and took a beginning of them.
pub record Writes {T E : Type 0} (old new : SinkState) (bytes : List ℕ) (result : Result T E)
    : Type 0 where
  pub whole : OnOk result (new.taken ≡ appended old.taken bytes)
  pub part : OnErr result (TookBeginning old.taken new.taken bytes)
  pub cause : HasCause old.faults new.faults result
