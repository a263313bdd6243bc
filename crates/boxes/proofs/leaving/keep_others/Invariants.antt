-- of the first numbers those that stay stand first, in their order
use Rattle.std.specs.Prelude.{not}
use Rattle.std.specs.List.Sorted.{IsPermutation}
use Rattle.std.proofs.lemmas.List.Filters.{FiltersInPlace}
use Rattle.boxes.specs.Items.{is_item_of}
use Rattle.boxes.specs.Rooms.{item_in}
use Rattle.boxes.proofs.leaving.keep_others.Given as goal

abbrev pub invariant-held : goal.invariant-held
invariant-held g l = record {
  filters : FiltersInPlace (λ number. not (is_item_of l.id (item_in l.rooms number))) l.initial.order l.order l.kept l.i;
  same : IsPermutation l.initial.order l.order;
}
