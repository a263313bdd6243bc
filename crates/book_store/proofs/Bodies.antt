-- A table's bytes, row by row.
use Rattle.std.proofs.Common.{◌≡◌, ℕ, zero, suc, ◌+◌, ◌-◌, ◌*◌, ◌≤◌, ◌<◌, List, [], ◌∷◌, ◌++◌, Option, None, get_or, length, take, drop, replicate, refl, sym, ◌∙◌, ap, append_assoc, arith}
use Rattle.std.specs.Prelude.{All}
use Rattle.std.proofs.lemmas.List.{length-append, length-replicate}
use Rattle.std.proofs.lemmas.List.Elements.{All-head, All-tail}
use Rattle.std.proofs.Math.Seq.{drop-append-add, take-append-add, take-append_seam}
use Rattle.std.proofs.Math.ListN.{set}
use borrow.Rule.Slice.PartMut.{put_mid}
use Rattle.record_pages.specs.Tables.{printed}
use Rattle.relay_wire.specs.declared.limits.TheConstants.{NAME_LIMIT}
use Rattle.book_store.proofs.RowTables.{printed_long}
use Rattle.book_store.specs.Marks.{RowMark, book_body, mark_text, rows_text}
use Rattle.book_store.specs.Rows.{row_head, row_in, row_place, row_rest, row_text}
use Rattle.book_store.specs.declared.layout.TheConstants.{BOOK_ROWS, BOOK_TABLE, RECORD_PLACE, ROW_MOST, TABLE_ROW}

-- as long as its place
abbrev pub IsSized : Option RowMark → Type 0
IsSized mark = length (mark_text mark) ≡ TABLE_ROW

pub row_long : (name : List ℕ) (len : ℕ) (numbers : List ℕ) → length name ≤ NAME_LIMIT
    → length numbers ≤ ROW_MOST → length (row_text name len numbers) ≡ TABLE_ROW
row_long name len numbers named few =
    let n = TABLE_ROW - RECORD_PLACE - (5 + 2 * length numbers) in
    omega (
      arith,
      named,
      few,
      length-append (row_head name) (row_rest len numbers),
      length-append name (replicate (NAME_LIMIT - length name) 0),
      length-replicate {A = ℕ} (NAME_LIMIT - length name) 0,
      length-append (printed numbers) (replicate n 0),
      printed_long numbers,
      length-replicate {A = ℕ} n 0,
    )

abbrev pub tail : List ℕ
tail = replicate (BOOK_TABLE - (TABLE_ROW * BOOK_ROWS) - TABLE_ROW) 0

-- the rows, and all behind them
abbrev pub rows_and_tail : List (Option RowMark) → List ℕ
rows_and_tail marks = rows_text marks ++ tail

-- behind the first row
next_row : (m : Option RowMark) (marks : List (Option RowMark)) (k : ℕ) → IsSized m
    → drop (TABLE_ROW + k) (rows_and_tail (m ∷ marks)) ≡ drop k (rows_and_tail marks)
next_row m marks k sized =
    ap (drop (TABLE_ROW + k)) (append_assoc (mark_text m) (rows_text marks) tail)
    ∙ ap (λ n. drop (n + k) (mark_text m ++ rows_and_tail marks)) (sym sized)
    ∙ drop-append-add (mark_text m) (rows_and_tail marks) k

row_at : (marks : List (Option RowMark)) (r : ℕ) → All IsSized marks → r < length marks
    → take TABLE_ROW (drop (TABLE_ROW * r) (rows_and_tail marks)) ≡ mark_text (get_or marks r None)
row_at [] r all lt = absurd (omega arith)
row_at (m ∷ marks) zero all lt =
    ap (take TABLE_ROW) (append_assoc (mark_text m) (rows_text marks) tail)
    ∙ ap (λ n. take n (mark_text m ++ rows_and_tail marks)) (sym (All-head IsSized m marks all))
    ∙ take-append_seam (mark_text m) (rows_and_tail marks)
row_at (m ∷ marks) (suc r) all lt =
    ap (λ k. take TABLE_ROW (drop k (rows_and_tail (m ∷ marks))))
    (let e : TABLE_ROW * suc r ≡ TABLE_ROW + TABLE_ROW * r = omega arith in e)
    ∙ ap (take TABLE_ROW) (next_row m marks (TABLE_ROW * r) (All-head IsSized m marks all))
    ∙ row_at marks r (All-tail IsSized m marks all) (omega arith)

-- another row in the place of one
replaced : (marks : List (Option RowMark)) (r : ℕ) (new : Option RowMark) → All IsSized marks
    → r < length marks
    → take (TABLE_ROW * r) (rows_and_tail marks)
    ++ (mark_text new ++ drop TABLE_ROW (drop (TABLE_ROW * r) (rows_and_tail marks)))
    ≡ rows_and_tail (set marks r new)
replaced [] r new all lt = absurd (omega arith)
replaced (m ∷ marks) zero new all lt =
    ap (λ (l : List ℕ). mark_text new ++ l) (next_row m marks 0 (All-head IsSized m marks all))
    ∙ sym (append_assoc (mark_text new) (rows_text marks) tail)
replaced (m ∷ marks) (suc r) new all lt =
    let sized = All-head IsSized m marks all in
    let place : TABLE_ROW * suc r ≡ TABLE_ROW + TABLE_ROW * r = omega arith in
    ap (λ k. take k (rows_and_tail (m ∷ marks))
    ++ (mark_text new ++ drop TABLE_ROW (drop k (rows_and_tail (m ∷ marks))))) place
    ∙ ap (λ (l : List ℕ). take (TABLE_ROW + TABLE_ROW * r) (rows_and_tail (m ∷ marks))
    ++ (mark_text new ++ drop TABLE_ROW l)) (next_row m marks (TABLE_ROW * r) sized)
    ∙ ap (λ (l : List ℕ). l
    ++ (mark_text new ++ drop TABLE_ROW (drop (TABLE_ROW * r) (rows_and_tail marks))))
    (ap (take (TABLE_ROW + TABLE_ROW * r)) (append_assoc (mark_text m) (rows_text marks) tail)
    ∙ ap (λ n. take (n + TABLE_ROW * r) (mark_text m ++ rows_and_tail marks)) (sym sized)
    ∙ take-append-add (mark_text m) (rows_and_tail marks) (TABLE_ROW * r))
    ∙ append_assoc (mark_text m) (take (TABLE_ROW * r) (rows_and_tail marks))
    (mark_text new ++ drop TABLE_ROW (drop (TABLE_ROW * r) (rows_and_tail marks)))
    ∙ ap (λ (l : List ℕ). mark_text m ++ l) (replaced marks r new (All-tail IsSized m marks all) (omega arith))
    ∙ sym (append_assoc (mark_text m) (rows_text (set marks r new)) tail)

-- ---- the table

abbrev pub front : ℕ → List ℕ
front turn = turn ∷ replicate (TABLE_ROW - 2) 0

pub front_long : (turn : ℕ) → length (front turn) ≡ TABLE_ROW - 1
front_long turn = omega (arith, length-replicate {A = ℕ} (TABLE_ROW - 2) 0)

pub behind_front : (turn : ℕ) (marks : List (Option RowMark)) (k : ℕ)
    → drop (TABLE_ROW - 1 + k) (book_body turn marks) ≡ drop k (rows_and_tail marks)
behind_front turn marks k =
    ap (λ n. drop (n + k) (front turn ++ rows_and_tail marks)) (sym (front_long turn))
    ∙ drop-append-add (front turn) (rows_and_tail marks) k

module _ (turn : ℕ) (marks : List (Option RowMark)) (r : ℕ) (all : All IsSized marks)
    (inside : r < length marks) where
  pub row_is : row_in (book_body turn marks) r ≡ mark_text (get_or marks r None)
  row_is =
      ap (λ n. take n (drop (row_place r) (book_body turn marks)))
      (let e : row_place r + TABLE_ROW - row_place r ≡ TABLE_ROW = omega arith in e)
      ∙ ap (take TABLE_ROW) (behind_front turn marks (TABLE_ROW * r))
      ∙ row_at marks r all inside

  pub row_put : (new : Option RowMark)
      → put_mid (row_place r) TABLE_ROW (book_body turn marks) (mark_text new) ≡ book_body turn (set marks r new)
  row_put new =
      ap (λ (l : List ℕ). take (row_place r) (book_body turn marks) ++ (mark_text new ++ drop TABLE_ROW l))
      (behind_front turn marks (TABLE_ROW * r))
      ∙ ap (λ (l : List ℕ). l
      ++ (mark_text new ++ drop TABLE_ROW (drop (TABLE_ROW * r) (rows_and_tail marks))))
      (ap (λ n. take (n + TABLE_ROW * r) (front turn ++ rows_and_tail marks)) (sym (front_long turn))
      ∙ take-append-add (front turn) (rows_and_tail marks) (TABLE_ROW * r))
      ∙ append_assoc (front turn) (take (TABLE_ROW * r) (rows_and_tail marks))
      (mark_text new ++ drop TABLE_ROW (drop (TABLE_ROW * r) (rows_and_tail marks)))
      ∙ ap (λ (l : List ℕ). front turn ++ l) (replaced marks r new all inside)

-- behind all rows
pub behind_rows : (marks : List (Option RowMark)) → All IsSized marks
    → drop (TABLE_ROW * length marks) (rows_and_tail marks) ≡ tail
behind_rows [] all = refl
behind_rows (m ∷ marks) all =
    ap (λ k. drop k (rows_and_tail (m ∷ marks)))
    (let e : TABLE_ROW * suc (length marks) ≡ TABLE_ROW + TABLE_ROW * length marks = omega arith in e)
    ∙ next_row m marks (TABLE_ROW * length marks) (All-head IsSized m marks all)
    ∙ behind_rows marks (All-tail IsSized m marks all)
