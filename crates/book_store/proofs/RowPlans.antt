-- A row's record and the text that takes its place: the plan is one for the row.
use Rattle.std.proofs.Common.{◌≡◌, ◌≢◌, ℕ, ◌+◌, ◌*◌, ◌<◌, ◌≤◌, List, [], ◌∷◌, length, map, take, refl, sym, ◌∙◌, ap, subst, arith}
use Rattle.std.specs.Prelude.{All, slice_index}
use Rattle.std.proofs.lemmas.List.{ext_get_or, get_or-map, get_or-take, length-map, length-take-le}
use Rattle.std.proofs.lemmas.List.Elements.{All-take, All-weaker, All-from_get_or}
use Rattle.dr_base.specs.declared.limits.TheConstants.{PAGE}
use Rattle.dr_disk.specs.State.{Always, DiskState}
use Rattle.pages.specs.Layouts.{IsSound}
use Rattle.pages.specs.Snapshots.{IsBeside, IsUnnamed, Snapshot}
use Rattle.pages.specs.Writing.{AreBeside, AreToWrite, AreUnnamed}
use Rattle.record_pages.specs.Pages.{cut, pages_in}
use Rattle.record_pages.specs.Plans.{changed, changed_places, numbered}
use Rattle.record_pages.proofs.ChangedPlaces.{changed_piece, place_inside, places_count}
use Rattle.record_pages.proofs.Dropped.{IsNone}
use Rattle.record_pages.proofs.FreeEnough.{free_entries, free_unused}
use Rattle.record_pages.proofs.LawfulEntries.{AreEntries, AreNone, IsEntry, entries_distinct, entries_lawful, entries_take, entry_at}
use Rattle.record_pages.proofs.Planned.{planned}
use Rattle.record_pages.proofs.Renumbered.{numbered_short}
use Rattle.paged_records.specs.Bounded.{Fits, IsBounded}
use Rattle.paged_records.proofs.Replanned.{IsKept, free_left, named_lawful}
use Rattle.book_store.specs.Desk.{IsReplanned, IsRowPlan, pieces}
use Rattle.book_store.specs.Kept.{free_of_row, row_bounds}
use Rattle.book_store.specs.Layout.{book_layout}
use Rattle.book_store.specs.Rows.{book_names, shifted}
use Rattle.book_store.specs.declared.layout.TheConstants.{ROW_PAGES}
use Rattle.book_store.proofs.Pieces.{piece, pieces_long}

pub bounded : IsBounded row_bounds
bounded = record { least = omega arith; short = omega arith; named = omega arith }

-- ---- a row's numbers, as those of the book

pub shifted_at : (row : ℕ) (ns : List ℕ) (j : ℕ) → j < length ns
    → slice_index (shifted row ns) j ≡ ROW_PAGES * row + slice_index ns j
shifted_at row ns j lt = get_or-map (λ n. ROW_PAGES * row + n) ns j 0 0 lt

pub shifted_long : (row : ℕ) (ns : List ℕ) → length (shifted row ns) ≡ length ns
shifted_long row ns = length-map ns (λ n. ROW_PAGES * row + n)

-- what holds of all of them holds of the first ones
pub of_first : (P : ℕ → Type 0) (row k : ℕ) (ns : List ℕ) → k ≤ length ns
    → ((j : ℕ) → j < length (shifted row ns) → P (slice_index (shifted row ns) j))
    → (j : ℕ) → j < length (shifted row (take k ns)) → P (slice_index (shifted row (take k ns)) j)
of_first P row k ns fits all j lt =
    let below : j < length (take k ns) = omega (arith, lt, shifted_long row (take k ns)) in
    let here : j < k = omega (arith, below, length-take-le k ns fits) in
    subst P (shifted_at row ns j (omega (arith, here, fits))
    ∙ ap (λ n. ROW_PAGES * row + n) (sym (get_or-take k ns j 0 here))
    ∙ sym (shifted_at row (take k ns) j below))
    (all j (omega (arith, here, fits, shifted_long row ns)))

map_shifted : (f : ℕ → List ℕ) (row : ℕ) (ns : List ℕ)
    → map f (shifted row ns) ≡ map (λ n. f (ROW_PAGES * row + n)) ns
map_shifted f row [] = refl
map_shifted f row (n ∷ ns) = ap (λ (l : List (List ℕ)). f (ROW_PAGES * row + n) ∷ l) (map_shifted f row ns)

-- numbers of a row's pages that don't have this one among them
pub shifted_none : (row m : ℕ) (ns : List ℕ) → IsNone m ns → All (λ n. n ≢ ROW_PAGES * row + m) (shifted row ns)
shifted_none row m ns none = All-from_get_or (λ n. n ≢ ROW_PAGES * row + m) (shifted row ns) 0
    (λ i lt. let below : i < length ns = omega (arith, lt, shifted_long row ns) in
    λ e. none i 0 below (omega (arith, e, shifted_at row ns i below)))

module _ (row len : ℕ) (bytes numbers : List ℕ)
    (kept : IsKept row_bounds len bytes numbers) (text : List ℕ) (fits : Fits row_bounds text) where
  abbrev pub old : List (List ℕ)
  old = pages_in (take len bytes)

  abbrev pub new : List (List ℕ)
  new = pages_in text

  abbrev pub free : List ℕ
  free = free_of_row numbers

  abbrev pub places : List ℕ
  places = changed_places 0 old new

  -- the row's numbers that changed pages get
  abbrev pub own : List ℕ
  own = take (length places) free

  abbrev pub fresh : List ℕ
  fresh = shifted row own

  pub enough : length places ≤ length free
  unfolding free_of_row
  enough = omega (arith, free_left row_bounds bounded len bytes numbers kept text fits, places_count 0 old new)

  pub own_long : length own ≡ length places
  own_long = length-take-le (length places) free enough

  pub own_are : AreEntries 0 ROW_PAGES own
  unfolding free_of_row
  own_are = entries_take 0 ROW_PAGES (length places) free (free_entries 0 ROW_PAGES numbers)

  pub own_small : All (λ n. n < ROW_PAGES) own
  own_small = All-weaker (IsEntry 0 ROW_PAGES) (λ n. n < ROW_PAGES) (λ n is. is.1) own own_are.within

  pub fresh_long : length fresh ≡ length places
  fresh_long = shifted_long row own ∙ own_long

  abbrev named : List ℕ
  named = numbered old numbers new free

  pub named_small : All (λ n. n < ROW_PAGES) named
  unfolding free_of_row
  named_small = All-weaker (IsEntry 0 ROW_PAGES) (λ n. n < ROW_PAGES) (λ n is. is.1) named
      (entries_lawful 0 ROW_PAGES named (named_lawful row_bounds bounded len bytes numbers kept text fits)).within

  inside : (j : ℕ) → j < length fresh → j < length own
  inside j lt = omega (arith, lt, fresh_long, own_long)

  pub fresh_least : (j : ℕ) → j < length fresh → ROW_PAGES * row ≤ slice_index fresh j
  fresh_least j lt = omega (arith, shifted_at row own j (inside j lt))

  pub fresh_below : (j : ℕ) → j < length fresh → slice_index fresh j < ROW_PAGES * row + ROW_PAGES
  fresh_below j lt = omega (arith, shifted_at row own j (inside j lt), (entry_at 0 ROW_PAGES own own_are j (inside j lt)).1)

  pub unused : AreNone own numbers
  unfolding free_of_row
  unused = All-take (λ m. IsNone m numbers) (length places) free (free_unused 0 ROW_PAGES numbers)

  -- ---- over the new bytes
  module _ (rows : ℕ) (here : row < rows) (n : ℕ) (now : List ℕ) (is : new ≡ cut n now) where
    pub pieces_are : pieces now places ≡ changed old new
    pieces_are =
        ext_get_or [] (pieces now places) (changed old new) (pieces_long now places ∙ places_count 0 old new)
        (λ j lt. let below : j < length places = omega (arith, lt, pieces_long now places) in
        piece now places j below
        ∙ sym (changed_piece old new n now is j (omega (arith, below, places_count 0 old new))))

    replanned : IsReplanned row numbers named fresh old (pieces now places) new
    replanned f stands written =
        map_shifted f row named
        ∙ ap (map (λ m. f (ROW_PAGES * row + m)))
        (numbered_short old numbers new free
        ∙ ap (λ k. numbered old numbers new (take k free)) (sym (places_count 0 old new)))
        ∙ planned (λ m. f (ROW_PAGES * row + m)) old numbers new own
        (sym (map_shifted f row numbers) ∙ stands)
        (sym (map_shifted f row own) ∙ written ∙ pieces_are)

    pub row_plan : (was : Snapshot) → AreBeside book_names (book_layout rows) (shifted row free) was
        → IsRowPlan rows row numbers named fresh places now was old new
    row_plan was beside = record {
      here = here;
      beside = of_first (λ m. IsBeside book_names (book_layout rows) m was.table) row (length places) free enough beside;
      distinct = λ i j lt in_j. λ e. entries_distinct 0 ROW_PAGES own own_are i j lt (inside j in_j)
          (omega (arith, e, shifted_at row own i (omega (arith, lt, inside j in_j)), shifted_at row own j (inside j in_j)));
      least = fresh_least;
      below = fresh_below;
      others = λ j lt. subst (λ m. All (λ n. n ≢ m) (shifted row numbers)) (sym (shifted_at row own j (inside j lt)))
          (shifted_none row (slice_index own j) numbers (unused j 0 (inside j lt)));
      entries = named_small;
      replanned = replanned;
    }

    pub to_write : (disk : DiskState) → PAGE * n ≤ length now → IsSound (book_layout rows) disk.size
        → AreUnnamed book_names (book_layout rows) (shifted row free) disk
        → AreToWrite book_names (book_layout rows) fresh places now disk
    to_write disk room sound unnamed = record {
      free = record {
        sound = sound;
        pages = λ j lt. (omega arith, omega (arith, fresh_below j lt, here));
        unnamed = of_first (λ m. Always (IsUnnamed book_names (book_layout rows) m) disk) row (length places) free enough unnamed;
      };
      pieces = record {
        each = sym fresh_long;
        inside = place_inside old new n now is room;
      };
    }
