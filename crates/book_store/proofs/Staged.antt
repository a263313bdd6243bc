-- A row more is staged.
use Rattle.std.proofs.Common.{◌≡◌, ◌≢◌, ⊎_elim, ℕ, ◌+◌, ◌*◌, ◌≤◌, ◌<◌, Bool, true, false, List, [], ◌∷◌, length, map, refl, sym, ◌∙◌, ap, subst, arith}
use Rattle.std.specs.Prelude.{◌==◌, All, if◌then◌else◌, slice_index}
use Rattle.std.proofs.lemmas.Bool.{cases_eq}
use Rattle.std.proofs.lemmas.Bool.Decides.{nat_tests}
use Rattle.std.proofs.lemmas.List.{ext_get_or, get_or-map, length-map}
use Rattle.std.proofs.lemmas.List.Elements.{All-cons, All-head, All-nil, All-tail}
use Rattle.dr_disk.specs.State.{DiskState, OnSeen}
use Rattle.pages.specs.declared.layout.Layout.{Layout}
use Rattle.pages.specs.Layouts.{IsPage}
use Rattle.pages.specs.Snapshots.{Snapshot, page_of}
use Rattle.pages.specs.Writing.{ArePieces, AreWritten, Stages, piece_at}
use Rattle.book_store.proofs.Pieces.{piece, pieces_long}
use Rattle.book_store.specs.Desk.{IsRowPlan, StandsStaged, holding, pieces}
use Rattle.book_store.specs.Layout.{book_layout}
use Rattle.book_store.specs.Rows.{book_names, row_in, row_names, shifted}
use Rattle.book_store.specs.declared.layout.TheConstants.{BOOK_ROWS, ROW_PAGES}

-- numbers of a row are pages of the book
pub row_pages : (rows row : ℕ) → row < rows → (ns : List ℕ) → All (λ n. n < ROW_PAGES) ns
    → All (IsPage (book_layout rows)) (shifted row ns)
row_pages rows row here [] all = All-nil (IsPage (book_layout rows))
row_pages rows row here (n ∷ ns) all =
    let lt : n < ROW_PAGES = All-head (λ n. n < ROW_PAGES) n ns all in
    All-cons (IsPage (book_layout rows)) (ROW_PAGES * row + n) (shifted row ns)
    (omega arith, omega (arith, lt, here))
    (row_pages rows row here ns (All-tail (λ n. n < ROW_PAGES) n ns all))

-- pages of one row are none of another's
other_pages : (row r m : ℕ) → r ≢ row → ROW_PAGES * row ≤ m → m < ROW_PAGES * row + ROW_PAGES
    → (ns : List ℕ) → All (λ n. n < ROW_PAGES) ns → All (λ k. k ≢ m) (shifted r ns)
other_pages row r m other least below [] all = All-nil (λ k. k ≢ m)
other_pages row r m other least below (n ∷ ns) all =
    let lt : n < ROW_PAGES = All-head (λ n. n < ROW_PAGES) n ns all in
    All-cons (λ k. k ≢ m) (ROW_PAGES * r + n) (shifted r ns)
    (λ e. omega (arith, e, lt, least, below, other))
    (other_pages row r m other least below ns (All-tail (λ n. n < ROW_PAGES) n ns all))

-- pages that weren't written stay
kept : (l : Layout) (fresh : List ℕ) (content : ℕ → List ℕ) (start : DiskState) (s : List ℕ)
    (late : AreWritten l fresh content (length fresh) start s) (ms : List ℕ) → All (IsPage l) ms
    → ((j : ℕ) → j < length fresh → All (λ m. m ≢ slice_index fresh j) ms)
    → map (page_of l s) ms ≡ map (page_of l late.read) ms
kept l fresh content start s late [] all none = refl
kept l fresh content start s late (m ∷ ms) all none =
    ap (λ (p : List ℕ). p ∷ map (page_of l s) ms)
    (late.others m (All-head (IsPage l) m ms all)
    (λ j lt. All-head (λ k. k ≢ slice_index fresh j) m ms (none j lt)))
    ∙ ap (λ (ps : List (List ℕ)). page_of l late.read m ∷ ps)
    (kept l fresh content start s late ms (All-tail (IsPage l) m ms all)
    (λ j lt. All-tail (λ k. k ≢ slice_index fresh j) m ms (none j lt)))

-- and those that were are what was written
wrote : (l : Layout) (fresh places pages : List ℕ) (start : DiskState) (s : List ℕ)
    → AreWritten l fresh (piece_at pages places) (length fresh) start s
    → ((i j : ℕ) → i < j → j < length fresh → slice_index fresh i ≢ slice_index fresh j)
    → length places ≡ length fresh → map (page_of l s) fresh ≡ pieces pages places
wrote l fresh places pages start s late distinct each =
    let long : length (map (page_of l s) fresh) ≡ length fresh = length-map fresh (page_of l s) in
    ext_get_or [] (map (page_of l s) fresh) (pieces pages places)
    (long ∙ sym each ∙ sym (pieces_long pages places))
    (λ i lt. let inside : i < length fresh = omega (arith, lt, long) in
    get_or-map (page_of l s) fresh i 0 [] inside ∙ late.written distinct i inside
    ∙ sym (piece pages places i (omega (arith, inside, each))))

module _ (rows row : ℕ) (second : Bool) (turn : ℕ) (body new : List ℕ) (was : Snapshot)
    (held : ℕ → List (List ℕ)) (next : List (List ℕ)) (start now : DiskState)
    (numbers fresh places pages : List ℕ)
    (before : StandsStaged rows second turn body was held start)
    (plan : IsRowPlan rows row (row_names (row_in body row)) numbers fresh places pages was (held row) next)
    (stages : Stages book_names (book_layout rows) fresh start now)
    (written : OnSeen (AreWritten (book_layout rows) fresh (piece_at pages places) (length fresh) start) now)
    (are : ArePieces fresh places pages) (inside : row < BOOK_ROWS)
    (this : row_names (row_in new row) ≡ numbers)
    (others : (r : ℕ) → r ≢ row → row_in new r ≡ row_in body r) where
  abbrev l : Layout
  l = book_layout rows

  names_here : (r : ℕ) → r ≢ row → row_names (row_in new r) ≡ row_names (row_in body r)
  names_here r other = ap row_names (others r other)

  abbrev IsNamed : ℕ → Type 0
  IsNamed r = All (IsPage l) (shifted r (row_names (row_in new r)))

  named : (r : ℕ) → r < BOOK_ROWS → IsNamed r
  named r lt = ⊎_elim
      (λ same. subst IsNamed (sym same)
      (subst (λ ns. All (IsPage l) (shifted row ns)) (sym this) (row_pages rows row plan.here numbers plan.entries)))
      (λ other. subst (λ ns. All (IsPage l) (shifted r ns)) (sym (names_here r other)) (before.named r lt))
      (cases_eq r row)

  abbrev IsOwn : ℕ → Type 0
  IsOwn r = All (λ n. n < ROW_PAGES) (row_names (row_in new r))

  own : (r : ℕ) → r < BOOK_ROWS → IsOwn r
  own r lt = ⊎_elim
      (λ same. subst IsOwn (sym same) (subst (All (λ n. n < ROW_PAGES)) (sym this) plan.entries))
      (λ other. subst (All (λ n. n < ROW_PAGES)) (sym (names_here r other)) (before.own r lt))
      (cases_eq r row)

  abbrev Holds : List ℕ → ℕ → Type 0
  Holds s r = map (page_of l s) (shifted r (row_names (row_in new r))) ≡ holding held row next r

  held_here : (s : List ℕ) → AreWritten l fresh (piece_at pages places) (length fresh) start s → Holds s row
  held_here s late =
      ap (λ (ns : List ℕ). map (page_of l s) (shifted row ns)) this
      ∙ plan.replanned (page_of l s)
      (kept l fresh (piece_at pages places) start s late (shifted row (row_names (row_in body row)))
      (before.named row inside) plan.others
      ∙ before.holds row inside late.read late.told)
      (wrote l fresh places pages start s late plan.distinct are.each)
      ∙ sym (ap (λ b. if b then next else held row) (let e : (row == row) ≡ true = grind (arith, nat_tests) in e))

  held_there : (s : List ℕ) → AreWritten l fresh (piece_at pages places) (length fresh) start s
      → (r : ℕ) → r < BOOK_ROWS → r ≢ row → Holds s r
  held_there s late r lt other =
      ap (λ (ns : List ℕ). map (page_of l s) (shifted r ns)) (names_here r other)
      ∙ kept l fresh (piece_at pages places) start s late (shifted r (row_names (row_in body r)))
      (before.named r lt)
      (λ j in_j. other_pages row r (slice_index fresh j) other (plan.least j in_j) (plan.below j in_j)
      (row_names (row_in body r)) (before.own r lt))
      ∙ before.holds r lt late.read late.told
      ∙ sym (ap (λ b. if b then next else held r) (let e : (r == row) ≡ false = grind (arith, nat_tests) in e))

  pub staged : StandsStaged rows second turn new was (holding held row next) now
  staged = record {
    place = before.place;
    turn_is = before.turn_is;
    still = λ c left. ((stages.staging was before.still plan.beside).still c left).still;
    was_named = before.was_named;
    named = named;
    own = own;
    holds = λ r lt s told. ⊎_elim
        (λ same. subst (Holds s) (sym same) (held_here s (written s told)))
        (λ other. held_there s (written s told) r lt other)
        (cases_eq r row);
  }
