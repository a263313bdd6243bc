-- All areas have their boxes.
use Rattle.std.proofs.Common.{◌≡◌, ℕ, ◌<◌, List, length, Option, Some, None, ap, arith}
use Rattle.std.specs.Prelude.{Err, Ok, OnOk, Result}
use Rattle.std.proofs.lemmas.Option.{slice_get_within}
use Rattle.dr_disk.specs.Spans.{IsQuiet}
use Rattle.dr_disk.specs.State.{DiskState}
use Rattle.slot_store.specs.Store.{SlotStore, content}
use Rattle.relay_core.specs.Boxes.{Box}
use Rattle.relay_server.specs.Durable.{IsServerReady, ServerNow}
use Rattle.relay_server.specs.Filling.{AreFilled, HasBox}
use Rattle.relay_server.specs.Looking.{HasSettled}
use Rattle.relay_server.specs.Reading.{HasRecordOf}
use Rattle.relay_server.proofs.Replacing.{with_stores}

has_record : (n k : ℕ) (box : Box) (text : Option (List ℕ)) → k < n → HasBox n k box text → HasRecordOf box text
has_record n k box None less has = absurd (omega (arith, less, has.0))
has_record n k box (Some t) less has = has

pub filled_ready : (boxes : List Box) (stores : List SlotStore) (disk : DiskState) → AreFilled (length boxes) boxes stores disk → IsServerReady (with_stores boxes stores) disk
filled_ready boxes stores disk filled = record {
  few = filled.few;
  count = filled.count;
  within = λ k inside. omega (arith, inside, filled.within);
  areas = filled.areas;
  holds = λ k store box there boxed. has_record (length boxes) k box (content store) (slice_get_within boxes k box boxed) (filled.each k store box there boxed);
  rests = filled.rests;
}

module _ (server : ServerNow) (boxes : List Box) (stores news : List SlotStore) (start now : DiskState) (seen : with_stores boxes stores ≡ server) where
  pub settled_then : {A E : Type 0} (r : Result A E) → OnOk r (AreFilled (length boxes) boxes news now) → OnOk r (IsQuiet start now)
      → OnOk r (HasSettled server (with_stores boxes news) start now)
  settled_then (Ok a) filled quiet = record { boxes = ap (λ (s : ServerNow). s.boxes) seen; ready = filled_ready boxes news now filled; quiet = quiet }
  settled_then (Err e) filled quiet = tt
