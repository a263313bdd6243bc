-- The areas of a relay are looked at, and settled later.
use Rattle.std.specs.Prelude.{◌≡◌, List, length, Result, IfErr, IfOk}
use Rattle.dr_disk.specs.declared.call.Call.{Call}
use Rattle.dr_disk.specs.Spans.{IsQuiet, Span}
use Rattle.dr_disk.specs.State.{DiskState}
use Rattle.relay_core.specs.declared.spec.BoxSpec.{BoxSpec}
use Rattle.relay_server.specs.Areas.{HasLooked}
use Rattle.relay_server.specs.Durable.{FailsByCall, IsServerReady, ServerNow}
use Rattle.relay_server.specs.Filling.{AreFilled, IsFilling}
use Rattle.relay_server.specs.Opening.{AreBoxesRead, IsServerUnopened}
use Rattle.relay_server.specs.declared.errors.ServerOpenError.{ServerOpenError}

-- each area has the record of its box, or none where the box is empty
abbrev pub IsUnsettled : ServerNow → DiskState → Type 0
IsUnsettled server disk = AreFilled 0 server.boxes server.stores disk

-- A server has the boxes that were read, and its areas are not settled.
pub record IsLooked (specs : List BoxSpec) (server : ServerNow) (start now : DiskState)
    : Type 0 where
  pub unsettled : IsUnsettled server now
  pub boxes : AreBoxesRead specs server.boxes start
  pub quiet : IsQuiet start now

-- A look at the areas of the boxes of these specs: what it gives, and what it does meanwhile and in
-- each ending.
pub record LooksAt (specs : List BoxSpec) (start now : DiskState)
    (result : Result ServerNow ServerOpenError) : Type 0 where
  pub looked : IfOk result (λ server. IsLooked specs server start now)
  pub unopened : IfErr result (IsServerUnopened specs start now)
  pub looks : HasLooked (length specs) start now

-- It was settled, and is ready with the same boxes.
pub record HasSettled (looked server : ServerNow) (start now : DiskState) : Type 0 where
  pub boxes : server.boxes ≡ looked.boxes
  pub ready : IsServerReady server now
  pub quiet : IsQuiet start now

-- A look was settled: what it gave is ready, empty boxes' records were put meanwhile, and an error is
-- a call that failed.
pub record Settles {T : Type 0} (looked : ServerNow) (server : T → ServerNow)
    (start now : DiskState) (result : Result T Call) : Type 0 where
  pub settled : IfOk result (λ done. HasSettled looked (server done) start now)
  pub any_moment : Span start now (IsFilling looked.boxes start)
  pub fault : FailsByCall start now result
