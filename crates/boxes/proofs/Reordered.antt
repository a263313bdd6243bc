-- Rooms whose items go are held no more.
use Rattle.std.proofs.Common.{◌≡◌, ◌≢◌, ℕ, ◌≤◌, Bool, true, false, List, length, map, take, refl, sym, ap, ◌∙◌, arith}
use Rattle.std.specs.Prelude.{Err, Ok, filter, not}
use Rattle.std.specs.List.{list_any, range_with_len}
use Rattle.std.specs.List.Sorted.{IsPermutation}
use Rattle.std.proofs.lemmas.List.Sorted.{IsPermutation-trans}
use Rattle.boxes.specs.Changes.{DropsAll}
use Rattle.boxes.specs.Items.{Item}
use Rattle.boxes.specs.Rooms.{AreRooms, item_in, standing}
use Rattle.boxes.proofs.Filters.{all_left, filter-shown, none_goes, one_goes}
use Rattle.boxes.proofs.Rooms.{length-standing}

module _ {limit room : ℕ} {rooms : List Item} {held : ℕ} {order : List ℕ} (is : AreRooms limit room rooms held order) where
  -- the order changes, and fewer are held
  pub reordered : (after : List ℕ) (kept : ℕ) → IsPermutation order after → kept ≤ held → AreRooms limit room rooms kept after
  reordered after kept moved few = record {
    few = is.few;
    once = IsPermutation-trans (range_with_len 0 (length rooms)) order after is.once moved;
    first = omega (arith, is.first);
    fits = is.fits;
  }

  module _ (goes : Item → Bool) (after : List ℕ) (kept : ℕ) (moved : IsPermutation order after) (few : kept ≤ held)
      (front : take kept after ≡ filter (λ number. not (goes (item_in rooms number))) (take held order)) where
    -- what stands then
    left : standing rooms kept after ≡ filter (λ item. not (goes item)) (standing rooms held order)
    left = ap (map (item_in rooms)) front ∙ filter-shown (item_in rooms) (λ item. not (goes item)) (take held order)

    many : length (standing rooms kept after) ≡ kept
    many = length-standing (reordered after kept moved few)

    pub none_went : kept ≡ held → DropsAll goes (standing rooms held order) (standing rooms kept after) (Err (record {}))
    none_went same =
        let none : list_any goes (standing rooms held order) ≡ false =
        none_goes goes (standing rooms held order) (omega (arith, many, ap length left, length-standing is)) in
        record {
          variant = (λ (e : false ≡ true). absurd (let f : false ≡ true = e in cc), λ any. let f : true ≡ false = sym any ∙ none in absurd cc);
          ok = search arith;
          err = left ∙ all_left goes (standing rooms held order) none;
        }

    pub some_went : kept ≢ held → DropsAll goes (standing rooms held order) (standing rooms kept after) (Ok tt)
    some_went other =
        let some : list_any goes (standing rooms held order) ≡ true =
        one_goes goes (standing rooms held order) (omega (arith, many, ap length left, length-standing is)) in
        record { variant = (λ _. some, λ _. refl); ok = left; err = search arith }
