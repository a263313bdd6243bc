-- What stands in a lower half stands in its area.
use Rattle.std.proofs.Common.{◌≡◌, ℕ, ◌<◌, ◌≤◌, List, ◌++◌, length, refl, arith}
use Rattle.slot_store.specs.Laws.{IsWider, StandsInWider}
use Rattle.slot_store.specs.Reading.{AreaReading, area_reading, damaged, holds, no_content}
use Rattle.relay_core.specs.declared.limits.TheConstants.{RELAY_LIMIT}
use Rattle.relay_server.specs.LowerHalves.{ReadsLowerHalves, lower_area}
use Rattle.relay_server.specs.Reading.{IsUndamagedReading, area_read, box_fault}
use Rattle.relay_server.specs.Places.{area_of}
use Rattle.relay_server.specs.declared.limits.TheConstants.{RECORD_PAGES, UPPER_START}

module _ (wide : StandsInWider) (most k : ℕ) (c more : List ℕ) (few : most ≤ RECORD_PAGES) (under : k < RELAY_LIMIT) (long : UPPER_START ≤ length c) where
  is_wider : IsWider (lower_area most k) (area_of k)
  is_wider = record { start = refl; least = omega arith; lower = omega arith; pages = omega arith; most = few }

  read_as_before : (r : AreaReading) → area_reading box_fault (lower_area most k) c ≡ r → IsUndamagedReading r
      → area_read k (c ++ more) ≡ r
  read_as_before no_content is whole =
      wide.none box_fault (lower_area most k) (area_of k) c more is_wider (omega (arith, under, long)) is
  read_as_before (holds text) is whole =
      wide.content box_fault (lower_area most k) (area_of k) c more text is_wider (omega (arith, under, long)) is
  read_as_before (damaged slot at) is whole = absurd whole

pub reads_lower : StandsInWider → ReadsLowerHalves
reads_lower wide = record {
  reads = λ most k c more few under long whole.
      read_as_before wide most k c more few under long (area_reading box_fault (lower_area most k) c) refl whole;
}
