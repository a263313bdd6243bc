-- Rows beside the one that is written.
use Rattle.std.proofs.Common.{◌≡◌, ◌≢◌, ⊎_elim, ℕ, ◌+◌, ◌-◌, ◌≤◌, List, length, take, drop, sym, ◌∙◌, ap, arith}
use Rattle.std.specs.Prelude.{slice_range}
use Rattle.std.proofs.lemmas.Bool.{cases_lt}
use Rattle.std.proofs.lemmas.List.{drop-take}
use Rattle.std.proofs.lemmas.Slice.{drop-put_mid, take-put_mid_below}
use borrow.Rule.Slice.PartMut.{put_mid}
use Rattle.book_store.specs.Rows.{row_in, row_place}
use Rattle.book_store.specs.declared.layout.TheConstants.{TABLE_ROW}

module _ (a k n : ℕ) (xs ys : List ℕ) (fits : a ≤ length xs) (long : length ys ≡ k) where
  below : (s : ℕ) → s + n ≤ a → slice_range (put_mid a k xs ys) s (s + n) ≡ slice_range xs s (s + n)
  below s le =
      let m : s + n - s ≡ n = omega arith in
      ap (λ m. take m (drop s (put_mid a k xs ys))) m
      ∙ sym (drop-take s n (put_mid a k xs ys))
      ∙ ap (drop s) (take-put_mid_below a k xs ys (s + n) le fits)
      ∙ drop-take s n xs
      ∙ sym (ap (λ m. take m (drop s xs)) m)

  above : (s : ℕ) → a + k ≤ s → slice_range (put_mid a k xs ys) s (s + n) ≡ slice_range xs s (s + n)
  above s le = ap (λ l. take (s + n - s) l) (drop-put_mid a k xs ys s le fits long)

pub other_row : (row r k : ℕ) (xs ys : List ℕ) → row_place row + TABLE_ROW ≤ length xs → length ys ≡ k
    → k ≡ TABLE_ROW → r ≢ row
    → row_in (put_mid (row_place row) k xs ys) r ≡ row_in xs r
other_row row r k xs ys fits long is other = ⊎_elim
    (λ lt. below (row_place row) k TABLE_ROW xs ys (omega arith) long (row_place r) (omega arith))
    (λ ge. above (row_place row) k TABLE_ROW xs ys (omega arith) long (row_place r) (omega (arith, ge, other)))
    (cases_lt r row)
