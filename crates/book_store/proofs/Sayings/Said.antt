-- What the bytes of a table say, row by row.
use Rattle.std.proofs.Common.{◌≡◌, ⊎_elim, ℕ, zero, suc, ◌+◌, ◌<◌, Bool, true, false, List, None, Some, get_or, length, refl, sym, ◌∙◌, ap, arith, if◌then◌else◌}
use Rattle.std.specs.Prelude.{◌==◌, slice_index}
use Rattle.std.proofs.lemmas.Bool.{cases_lt, eqb-true}
use Rattle.std.proofs.lemmas.List.{get_or_past}
use Rattle.book_store.specs.Marks.{RowMark, mark_in, marks_by, marks_in}
use Rattle.book_store.specs.Rows.{name_in, row_in, row_length, row_names}
use Rattle.book_store.specs.declared.layout.TheConstants.{BOOK_ROWS}

-- ---- what is said, row by row

pub marks_long : (k r : ℕ) (body : List ℕ) → length (marks_by k r body) ≡ k
marks_long zero r body = refl
marks_long (suc k) r body = ap suc (marks_long k (suc r) body)

marks_at : (k r s : ℕ) (body : List ℕ) → s < k → get_or (marks_by k r body) s None ≡ mark_in (row_in body (r + s))
marks_at zero r s body lt = absurd (omega arith)
marks_at (suc k) r zero body lt = ap (λ n. mark_in (row_in body n)) (let e : r ≡ r + 0 = omega arith in e)
marks_at (suc k) r (suc s) body lt = marks_at k (suc r) s body (omega arith)
    ∙ ap (λ n. mark_in (row_in body n)) (let e : suc r + s ≡ r + suc s = omega arith in e)

pub said_at : (body : List ℕ) (r : ℕ) → r < BOOK_ROWS → get_or (marks_in body) r None ≡ mark_in (row_in body r)
unfolding marks_in
said_at body r lt = marks_at BOOK_ROWS 0 r body lt ∙ ap (λ n. mark_in (row_in body n)) (let e : 0 + r ≡ r = omega arith in e)

pub said_long : (body : List ℕ) → length (marks_in body) ≡ BOOK_ROWS
unfolding marks_in
said_long body = marks_long BOOK_ROWS 0 body

pub said_inside : (body : List ℕ) (r : ℕ) (mark : RowMark) → get_or (marks_in body) r None ≡ Some mark → r < BOOK_ROWS
said_inside body r mark is = ⊎_elim (λ lt. lt)
    (λ past. absurd (let e : None ≡ Some mark = sym (get_or_past (marks_in body) r None (omega (arith, past, said_long body))) ∙ is in cc))
    (cases_lt r BOOK_ROWS)

-- the row that says it
pub record IsSaid (row : List ℕ) (mark : RowMark) : Type 0 where
  pub one : slice_index row 0 ≡ 1
  pub name : name_in row ≡ mark.name
  pub len : row_length row ≡ mark.len
  pub numbers : row_names row ≡ mark.numbers

pub said : (row : List ℕ) (mark : RowMark) → mark_in row ≡ Some mark → IsSaid row mark
unfolding mark_in
said row mark is = by (slice_index row 0 == 1) refl is
  where
    by : (b : Bool) → (slice_index row 0 == 1) ≡ b
        → (if b then Some (record { name = name_in row; len = row_length row; numbers = row_names row }) else None) ≡ Some mark
        → IsSaid row mark
    by false isnt h = absurd (let e : None ≡ Some mark = h in cc)
    by true is_so h =
        let e : (record { name = name_in row; len = row_length row; numbers = row_names row }) ≡ mark = inner _ mark h in
        record {
          one = eqb-true (slice_index row 0) 1 is_so;
          name = ap (λ (m : RowMark). m.name) e;
          len = ap (λ (m : RowMark). m.len) e;
          numbers = ap (λ (m : RowMark). m.numbers) e;
        }
      where
        inner : (x y : RowMark) → Some x ≡ Some y → x ≡ y
        inner x y h = cc
