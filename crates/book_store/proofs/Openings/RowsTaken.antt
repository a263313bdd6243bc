-- The rows of a book in memory, as they were read one after the other.
use Rattle.std.proofs.Common.{◌≡◌, ◌≢◌, ⊎_elim, ℕ, zero, suc, ◌+◌, ◌≤◌, ◌<◌, List, [], ◌∷◌, ◌++◌, Option, None, Some, get_or, length, take, drop, refl, sym, ◌∙◌, ap, subst, arith}
use Rattle.std.specs.Prelude.{slice_index}
use Rattle.std.proofs.lemmas.Bool.{cases_lt}
use Rattle.std.proofs.lemmas.List.{length-append, length-map}
use Rattle.std.proofs.Math.ListN.{get_or-append}
use Rattle.std.proofs.Math.Seq.{drop-append_seam, get_or-append_seam, take-append_seam}
use Rattle.dr_disk.specs.State.{DiskState}
use Rattle.pages.specs.Snapshots.{page_of}
use Rattle.book_store.proofs.Openings.RowLoaded.{present_as}
use Rattle.book_store.proofs.Openings.RowTaken.{held_whole}
use Rattle.book_store.specs.Held.{row_seen}
use Rattle.book_store.specs.Layout.{HasBook}
use Rattle.book_store.specs.Marks.{IsLaidRow}
use Rattle.book_store.specs.Readers.{HasReadRow}
use Rattle.book_store.specs.Reading.{RowDamage, damage_from, or_later, row_damage, rows_damage}
use Rattle.book_store.specs.RowReading.{IsRowAdded, IsRowHeld, IsRowRefused, pages_read, row_layout}
use Rattle.book_store.specs.Rows.{pages_by, row_in, row_names}
use Rattle.book_store.specs.RowsReading.{AreLaidRows, AreRowsHeld, AreRowsRefused, book_read}
use Rattle.book_store.specs.declared.errors.BookOpenError.{BookOpenError}
use Rattle.book_store.specs.declared.errors.BookOpenError.TheVariants.{DamagedRow, DamagedTable, Memory, StoreFault}
use Rattle.book_store.specs.declared.held.HeldRow.{HeldRow}
use Rattle.book_store.specs.declared.layout.TheConstants.{BOOK_ROWS}

-- one element more
last_at : {A : Type 0} (xs ys : List A) (x d : A) (k r : ℕ) → ys ≡ xs ++ x ∷ [] → length xs ≡ k → r ≡ k → get_or ys r d ≡ x
last_at {A = A} xs ys x d k r is long same = ap (λ (l : List A). get_or l r d) is
    ∙ ap (λ n. get_or (xs ++ x ∷ []) n d) (same ∙ sym long) ∙ get_or-append_seam xs x [] d

before_at : {A : Type 0} (xs ys : List A) (x d : A) (k r : ℕ) → ys ≡ xs ++ x ∷ [] → length xs ≡ k → r < k
    → get_or ys r d ≡ get_or xs r d
before_at {A = A} xs ys x d k r is long lt = ap (λ (l : List A). get_or l r d) is ∙ get_or-append xs (x ∷ []) d r (omega (arith, long, lt))

one_longer : {A : Type 0} (xs ys : List A) (x : A) (k : ℕ) → ys ≡ xs ++ x ∷ [] → length xs ≡ k → length ys ≡ k + 1
one_longer {A = A} xs ys x k is long = ap (λ (l : List A). length l) is ∙ omega (arith, length-append xs (x ∷ []), long)

-- where a read gives the same
pub held_before : (fault_at : List ℕ → Option ℕ) (r : ℕ) (row : List ℕ) (held : HeldRow) (start now : DiskState)
    → now.seen ≡ start.seen → IsRowHeld fault_at r row held now → IsRowHeld fault_at r row held start
held_before fault_at r row held start now same is = record {
  mark = is.mark;
  text = is.text;
  pages = λ s told. is.pages s (same ∙ told);
}

-- and one row more
module _ {R : Type 0} (fault_at : List ℕ → Option ℕ) (has_read : R → List ℕ → Type 0) (k : ℕ) (body : List ℕ)
    (old new : List HeldRow) (olds news : List (Option R)) (start now : DiskState)
    (are : AreRowsHeld fault_at has_read k body old olds start) (same : now.seen ≡ start.seen)
    (is : IsRowAdded fault_at has_read k (row_in body k) old new olds news now) where
  more_each : (r : ℕ) (d : HeldRow) → r < k + 1 → IsRowHeld fault_at r (row_in body r) (get_or new r d) start
  more_each r d lt = ⊎_elim
      (λ below. subst (λ h. IsRowHeld fault_at r (row_in body r) h start)
      (sym (before_at old new is.held d k r is.rows are.all below)) (are.each r d below))
      (λ above. let here : r ≡ k = omega (arith, lt, above) in
      subst (λ h. IsRowHeld fault_at r (row_in body r) h start) (sym (last_at old new is.held d k r is.rows are.all here))
      (subst (λ n. IsRowHeld fault_at n (row_in body n) is.held start) (sym here)
      (held_before fault_at k (row_in body k) is.held start now same is.is)))
      (cases_lt r k)

  more_read : (r : ℕ) (d : HeldRow) → r < k + 1 → HasReadRow has_read (get_or news r None) (row_seen (get_or new r d))
  more_read r d lt = ⊎_elim
      (λ below. subst (λ o. HasReadRow has_read o (row_seen (get_or new r d)))
      (sym (before_at olds news is.reader None k r is.readers are.readers_all below))
      (subst (λ h. HasReadRow has_read (get_or olds r None) (row_seen h))
      (sym (before_at old new is.held d k r is.rows are.all below)) (are.read r d below)))
      (λ above. let here : r ≡ k = omega (arith, lt, above) in
      subst (λ o. HasReadRow has_read o (row_seen (get_or new r d)))
      (sym (last_at olds news is.reader None k r is.readers are.readers_all here))
      (subst (λ h. HasReadRow has_read is.reader (row_seen h)) (sym (last_at old new is.held d k r is.rows are.all here)) is.read))
      (cases_lt r k)

  pub rows_more : AreRowsHeld fault_at has_read (k + 1) body new news start
  rows_more = record {
    all = one_longer old new is.held k is.rows are.all;
    readers_all = one_longer olds news is.reader k is.readers are.readers_all;
    each = more_each;
    read = more_read;
  }

-- ---- the first damage

-- of a row and those behind it
split_damage : (fault_at : List ℕ → Option ℕ) (n r : ℕ) (body : List ℕ) (held : ℕ → List (List ℕ))
    → length (held r) ≡ length (row_names (row_in body r))
    → damage_from fault_at (suc n) r body (pages_by (suc n) r held)
    ≡ or_later (row_damage fault_at r (row_in body r) (held r)) (damage_from fault_at n (suc r) body (pages_by n (suc r) held))
split_damage fault_at n r body held long =
    let rest = pages_by n (suc r) held in
    ap (λ m. or_later (row_damage fault_at r (row_in body r) (take m (held r ++ rest)))
    (damage_from fault_at n (suc r) body (drop m (held r ++ rest)))) (sym long)
    ∙ ap (λ (l : List (List ℕ)). or_later (row_damage fault_at r (row_in body r) l)
    (damage_from fault_at n (suc r) body (drop (length (held r)) (held r ++ rest))))
    (take-append_seam (held r) rest)
    ∙ ap (λ (l : List (List ℕ)). or_later (row_damage fault_at r (row_in body r) (held r)) (damage_from fault_at n (suc r) body l))
    (drop-append_seam (held r) rest)

stops : (damage later : Option RowDamage) → damage ≢ None → or_later damage later ≡ damage
stops None later some = absurd (some refl)
stops (Some d) later some = refl

-- the damage of the j-th of these rows, where those before it have none
first_damage : (fault_at : List ℕ → Option ℕ) (n r j : ℕ) (body : List ℕ) (held : ℕ → List (List ℕ)) (damage : Option RowDamage)
    → ((s : ℕ) → length (held s) ≡ length (row_names (row_in body s)))
    → j < n → ((s : ℕ) → r ≤ s → s < r + j → row_damage fault_at s (row_in body s) (held s) ≡ None)
    → row_damage fault_at (r + j) (row_in body (r + j)) (held (r + j)) ≡ damage → damage ≢ None
    → damage_from fault_at n r body (pages_by n r held) ≡ damage
first_damage fault_at zero r j body held damage each lt none is some = absurd (omega arith)
first_damage fault_at (suc n) r zero body held damage each lt none is some =
    split_damage fault_at n r body held (each r)
    ∙ ap (λ d. or_later d (damage_from fault_at n (suc r) body (pages_by n (suc r) held)))
    (ap (λ m. row_damage fault_at m (row_in body m) (held m)) (let e : r ≡ r + 0 = omega arith in e) ∙ is)
    ∙ stops damage (damage_from fault_at n (suc r) body (pages_by n (suc r) held)) some
first_damage fault_at (suc n) r (suc j) body held damage each lt none is some =
    split_damage fault_at n r body held (each r)
    ∙ ap (λ d. or_later d (damage_from fault_at n (suc r) body (pages_by n (suc r) held))) (none r (omega arith) (omega arith))
    ∙ first_damage fault_at n (suc r) j body held damage each (omega arith)
    (λ s le less. none s (omega arith) (omega arith))
    (ap (λ m. row_damage fault_at m (row_in body m) (held m)) (let e : suc r + j ≡ r + suc j = omega arith in e) ∙ is) some

module _ {R : Type 0} (fault_at : List ℕ → Option ℕ) (has_read : R → List ℕ → Type 0) (k : ℕ) (body : List ℕ)
    (rows : List HeldRow) (readers : List (Option R)) (disk : DiskState)
    (are : AreRowsHeld fault_at has_read k body rows readers disk) (few : k ≤ BOOK_ROWS)
    (laid : (r : ℕ) → r < BOOK_ROWS → IsLaidRow (row_in body r)) (s : List ℕ) (told : disk.seen ≡ Some s) where
  as_long : (r : ℕ) → length (pages_read r (row_in body r) s) ≡ length (row_names (row_in body r))
  as_long r = length-map (row_names (row_in body r)) (page_of (row_layout r) s)

  -- of a list that isn't empty there is an element
  whole_of : (l : List HeldRow) → l ≡ rows → (r : ℕ) → r < k → row_damage fault_at r (row_in body r) (pages_read r (row_in body r) s) ≡ None
  whole_of [] is r lt = absurd (omega (arith, lt, are.all, ap (λ (x : List HeldRow). length x) is))
  whole_of (d ∷ l) is r lt = held_whole fault_at r (row_in body r) (get_or rows r d) disk (laid r (omega (arith, lt, few)))
      (are.each r d lt) s told

  pub rows_damaged : k < BOOK_ROWS → (damage : RowDamage)
      → row_damage fault_at k (row_in body k) (pages_read k (row_in body k) s) ≡ Some damage
      → rows_damage fault_at body (book_read body s) ≡ Some damage
  unfolding rows_damage
  rows_damaged lt damage is =
      first_damage fault_at BOOK_ROWS 0 k body (λ r. pages_read r (row_in body r) s) (Some damage) as_long lt
      (λ r le less. whole_of rows refl r (omega arith))
      (ap (λ n. row_damage fault_at n (row_in body n) (pages_read n (row_in body n) s)) (let e : 0 + k ≡ k = omega arith in e) ∙ is)
      (λ none. let e : Some damage ≡ None = none in cc)

-- why the next row can't be held is why not all can
pub rows_refused : {R : Type 0} (fault_at : List ℕ → Option ℕ) (has_read : R → List ℕ → Type 0) (k : ℕ) (body : List ℕ)
    (rows : List HeldRow) (readers : List (Option R)) (start now : DiskState)
    → AreRowsHeld fault_at has_read k body rows readers start → k < BOOK_ROWS
    → ((r : ℕ) → r < BOOK_ROWS → IsLaidRow (row_in body r)) → now.seen ≡ start.seen → (error : BookOpenError)
    → IsRowRefused fault_at k (row_in body k) error now → AreRowsRefused fault_at body error start
rows_refused fault_at has_read k body rows readers start now are lt laid same Memory is = tt
rows_refused fault_at has_read k body rows readers start now are lt laid same (DamagedRow which at) is = λ s told.
    rows_damaged fault_at has_read k body rows readers start are (omega (arith, lt)) laid s told lt
    (record { row = which; at = at }) (is s (same ∙ told))
rows_refused fault_at has_read k body rows readers start now are lt laid same (DamagedTable table at) is = absurd is
rows_refused fault_at has_read k body rows readers start now are lt laid same (StoreFault call) is = absurd is

-- the pages of a present row lie on the disk
pub row_within : (body : List ℕ) (start now : DiskState) → AreLaidRows body start → now.size ≡ start.size
    → (r : ℕ) → r < BOOK_ROWS → slice_index (row_in body r) 0 ≢ 0 → HasBook (r + 1) now
row_within body start now laid size r lt other =
    let is = present_as (row_in body r) (laid.laid r lt) other in
    omega (arith, laid.within r is.mark lt is.said_is, size)
