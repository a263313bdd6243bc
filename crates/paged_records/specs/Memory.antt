-- What there is room for.
use Rattle.std.specs.Prelude.{◌≡◌, ◌+◌, ◌-◌, ◌*◌, ◌<◌, ◌≤◌, length, replicate, vec_capacity}
use Rattle.dr_base.specs.declared.limits.TheConstants.{PAGE}
use Rattle.paged_records.specs.declared.draft.Draft.{Draft}
use Rattle.paged_records.specs.declared.kept.Kept.{Kept}
use Rattle.paged_records.specs.Bounded.{Bounds, HasRecordMemory}

-- for the plans of a record, with zeros for a page
pub record HasPlanRoom (bounds : Bounds) (draft : Draft) : Type 0 where
  pub places : bounds.most ≤ vec_capacity draft.plan.places
  pub dropped : bounds.most < vec_capacity draft.plan.dropped
  pub free : bounds.count - bounds.least ≤ vec_capacity draft.free
  pub body : length draft.body.items + 1 ≡ PAGE
  pub zero : draft.zeros.items ≡ replicate PAGE 0

-- for a record, and for the numbers of its pages; what it has is no longer than such a record
pub record HasRoomToLoad (bounds : Bounds) (kept : Kept) : Type 0 where
  pub few : kept.len ≤ PAGE * bounds.most
  pub long : HasRecordMemory bounds kept.bytes
  pub room : bounds.most ≤ vec_capacity kept.numbers
