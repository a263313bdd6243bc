-- The rows of a committed table.
use Rattle.std.proofs.Common.{◌≡◌, ℕ, zero, suc, ◌+◌, ◌*◌, ◌^◌, ◌≤◌, ◌<◌, List, ◌∷◌, ◌++◌, Option, Some, length, take, drop, refl, sym, ◌∙◌, ap, arith}
use Rattle.std.proofs.Math.Seq.{drop-append_seam, take-append_seam}
use Rattle.dr_base.specs.declared.limits.TheConstants.{PAGE}
use Rattle.pages.specs.Snapshots.{Snapshot, shot}
use Rattle.record_pages.specs.Pages.{joined, page_count, pages_in}
use Rattle.record_pages.proofs.Planned.{read_back}
use Rattle.relay_wire.specs.declared.limits.TheConstants.{NAME_LIMIT}
use Rattle.book_store.specs.Desk.{book_shot}
use Rattle.book_store.specs.Rows.{pages_by, row_in, row_length, row_names, row_text}
use Rattle.book_store.specs.Shown.{BookRow, row_with, rows_by, rows_from, rows_in}
use Rattle.book_store.specs.declared.layout.TheConstants.{BOOK_ROWS}
use Rattle.book_store.proofs.Names.{length_back, name_back}

pub split_back : (k r : ℕ) (body : List ℕ) (held : ℕ → List (List ℕ))
    → ((s : ℕ) → r ≤ s → s < r + k → length (held s) ≡ length (row_names (row_in body s)))
    → rows_from k r body (pages_by k r held) ≡ rows_by k r (λ s. row_with (row_in body s) (held s))
split_back zero r body held each = refl
split_back (suc k) r body held each =
    let rest = pages_by k (suc r) held in
    let long : length (row_names (row_in body r)) ≡ length (held r) = sym (each r (omega arith) (omega arith)) in
    ap (λ n. row_with (row_in body r) (take n (held r ++ rest)) ∷ rows_from k (suc r) body (drop n (held r ++ rest))) long
    ∙ ap (λ (l : List (List ℕ)). row_with (row_in body r) l ∷ rows_from k (suc r) body (drop (length (held r)) (held r ++ rest)))
    (take-append_seam (held r) rest)
    ∙ ap (λ (l : List (List ℕ)). row_with (row_in body r) (held r) ∷ rows_from k (suc r) body l)
    (drop-append_seam (held r) rest)
    ∙ ap (λ (l : List (Option BookRow)). row_with (row_in body r) (held r) ∷ l)
    (split_back k (suc r) body held (λ s le lt. each s (omega arith) (omega arith)))

pub staged_rows : (was : Snapshot) (body : List ℕ) (held : ℕ → List (List ℕ))
    → ((r : ℕ) → r < BOOK_ROWS → length (held r) ≡ length (row_names (row_in body r)))
    → rows_in (shot (book_shot was body held)) ≡ rows_by BOOK_ROWS 0 (λ r. row_with (row_in body r) (held r))
unfolding rows_in
staged_rows was body held each = split_back BOOK_ROWS 0 body held (λ s le lt. each s (omega (arith, lt)))

pub laid_row : (name text numbers : List ℕ) → length name ≤ NAME_LIMIT → length text < 2 ^ 32
    → length text ≤ PAGE * page_count (length text)
    → row_with (row_text name (length text) numbers) (pages_in text)
    ≡ Some (record { name = name; text = text })
unfolding row_with
laid_row name text numbers few small fits =
    let back : take (row_length (row_text name (length text) numbers)) (joined (pages_in text)) ≡ text =
    ap (λ n. take n (joined (pages_in text))) (length_back name (length text) numbers few small)
    ∙ read_back (page_count (length text)) text fits in
    λ i. Some (record { name = name_back name (length text) numbers i; text = back i })
