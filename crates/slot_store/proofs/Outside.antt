-- What is the same outside of an area's tables and pages, over two moments.
use Rattle.std.proofs.Common.{List, ℕ}
use Rattle.dr_disk.specs.State.{Always, DiskState}
use Rattle.pages.proofs.Around.{around_twice, outside_twice, same_outside}
use Rattle.slot_store.specs.Areas.{Area, IsSameOutsideArea, layout_of}
use Rattle.slot_store.specs.Store.{KeepsOutsideArea}

module _ (area : Area) where
  pub self_outside : (d : List ℕ) → IsSameOutsideArea area d d
  self_outside = same_outside (layout_of area)

  pub twice_outside : (d e c : List ℕ) → IsSameOutsideArea area d e → IsSameOutsideArea area e c → IsSameOutsideArea area d c
  twice_outside = outside_twice (layout_of area)

  pub keeps_twice : (start mid : DiskState) → Always (KeepsOutsideArea area start) mid
      → (c : List ℕ) → KeepsOutsideArea area mid c → KeepsOutsideArea area start c
  keeps_twice = around_twice (layout_of area)
