-- What a call left in a source.
use Rattle.std.specs.Prelude.{◌≡◌, ℕ, ◌<◌, ◌≤◌, List, [], length, take, Option, Result, IfOk, OnErr, IfSome}
use Rattle.dr_ports.specs.Ports.{HasCause, prepended}
use Rattle.dr_ports.specs.States.{SourceState}

-- A read into a piece, which held `before` and holds `after`: the source gave the next bytes, into a piece
-- that isn't empty none only at the end; or it failed, and gave none.
pub record Reads {E : Type 0} (old new : SourceState) (before after : List ℕ) (result : Result ℕ E)
    : Type 0 where
  pub bound : IfOk result (λ count. count ≤ length before)
  pub content : IfOk result (λ count. old.left ≡ prepended (take count after) new.left)
  pub end : IfOk result (λ count.
      count ≡ 0 → 0 < length before → IfSome old.left (λ bytes. bytes ≡ []))
  pub err : OnErr result (new.left ≡ old.left)
  pub cause : HasCause old.faults new.faults result

-- A source gave a beginning of its bytes, at most this many of them.
pub record GaveAtMost (most : ℕ) (old new : Option (List ℕ)) : Type 0 where
  pub given : List ℕ
  pub few : length given ≤ most
  pub gave : old ≡ prepended given new
