-- A disk whose boxes have lower halves alone, as all relays' had once.
use Rattle.std.specs.Prelude.{◌≡◌, ◌<◌, ◌≤◌, ◌+◌, ℕ, List, ◌++◌, length}
use Rattle.slot_store.specs.Areas.{Area}
use Rattle.slot_store.specs.Reading.{area_reading}
use Rattle.relay_core.specs.declared.limits.TheConstants.{RELAY_LIMIT}
use Rattle.relay_server.specs.Reading.{IsUndamagedReading, area_read, box_fault}
use Rattle.relay_server.specs.Places.{halves_size}
use Rattle.relay_server.specs.declared.limits.TheConstants.{HALF_PAGES, HALF_SIZE, RECORD_PAGES, UPPER_START}

-- the lower half of a box's area, for records of so many pages
abbrev pub lower_area : ℕ → ℕ → Area
lower_area most k = record {
  start = halves_size k;
  upper = halves_size k + HALF_SIZE;
  pages = HALF_PAGES;
  most = most;
}

-- With any bytes behind the lower halves each box is read as it was from its lower half, where that
-- isn't damaged.
pub record ReadsLowerHalves : Type 0 where
  pub reads : (most k : ℕ) (c more : List ℕ)
      → most ≤ RECORD_PAGES → k < RELAY_LIMIT → UPPER_START ≤ length c
      → IsUndamagedReading (area_reading box_fault (lower_area most k) c)
      → area_read k (c ++ more) ≡ area_reading box_fault (lower_area most k) c
