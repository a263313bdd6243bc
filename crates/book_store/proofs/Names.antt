-- The pages that a book's table names, row by row.
use Rattle.std.proofs.Common.{◌≡◌, ℕ, zero, suc, ◌+◌, ◌-◌, ◌*◌, ◌^◌, ◌≤◌, ◌<◌, List, [], ◌∷◌, ◌++◌, length, map, take, drop-cons, replicate, refl, ◌∙◌, ap, append_assoc, arith}
use Rattle.std.specs.Prelude.{All, slice_index}
use Rattle.std.proofs.lemmas.List.{drop-append-le, drop_all, length-append, length-replicate}
use Rattle.std.proofs.lemmas.List.Elements.{All-append, All-nil}
use Rattle.std.proofs.Math.Seq.{take-append_seam}
use Rattle.record_pages.specs.Pages.{page_count}
use Rattle.record_pages.specs.Tables.{length_in, record_names, table_body}
use Rattle.record_pages.proofs.TableTexts.{length_back as table_length_back, names_back as table_names_back}
use Rattle.relay_wire.specs.declared.limits.TheConstants.{NAME_LIMIT}
use Rattle.book_store.specs.Rows.{name_in, names_by, pages_by, record_table, row_head, row_length, row_names, row_rest, row_text, shifted}
use Rattle.book_store.specs.declared.layout.TheConstants.{RECORD_PLACE, TABLE_ROW}

-- a row has the name that it was laid out with
pub name_back : (name : List ℕ) (len : ℕ) (numbers : List ℕ)
    → name_in (row_text name len numbers) ≡ name
name_back name len numbers =
    let zeros = replicate (NAME_LIMIT - length name) 0 in
    ap (take (length name)) (append_assoc name zeros (row_rest len numbers))
    ∙ take-append_seam name (zeros ++ row_rest len numbers)

module _ (name : List ℕ) (len : ℕ) (numbers : List ℕ) (few : length name ≤ NAME_LIMIT) where
  head_long : length (row_head name) ≡ RECORD_PLACE + 1
  head_long = omega (
    arith,
    few,
    length-append name (replicate (NAME_LIMIT - length name) 0),
    length-replicate {A = ℕ} (NAME_LIMIT - length name) 0,
  )

  abbrev last : ℕ
  last = slice_index (row_head name) RECORD_PLACE

  abbrev zeros : ℕ
  zeros = TABLE_ROW - RECORD_PLACE - (5 + 2 * length numbers)

  -- behind its name a row is the table of its record
  pub record_back : record_table (row_text name len numbers) ≡ table_body last len numbers zeros
  record_back =
      drop-append-le RECORD_PLACE (row_head name) (row_rest len numbers) (omega (arith, head_long))
      ∙ ap (λ (l : List ℕ). l ++ row_rest len numbers)
      (drop-cons (row_head name) RECORD_PLACE 0 (omega (arith, head_long))
      ∙ ap (λ (l : List ℕ). last ∷ l) (drop_all (RECORD_PLACE + 1) (row_head name) (omega (arith, head_long))))

  pub length_back : len < 2 ^ 32 → row_length (row_text name len numbers) ≡ len
  length_back small = ap length_in record_back
      ∙ table_length_back last len numbers zeros small

  -- a row names the numbers that it was laid out with
  pub names_back : len < 2 ^ 32 → length numbers ≡ page_count len
      → All (λ n. n < 2 ^ 16) numbers → row_names (row_text name len numbers) ≡ numbers
  unfolding row_names
  names_back small each all = ap record_names record_back
      ∙ table_names_back last len numbers zeros small each all

-- ---- all rows

pub rows_same : (k r : ℕ) (f g : ℕ → List ℕ) → ((s : ℕ) → r ≤ s → s < r + k → f s ≡ g s)
    → names_by k r f ≡ names_by k r g
rows_same zero r f g same = refl
rows_same (suc k) r f g same =
    ap (λ (l : List ℕ). shifted r l ++ names_by k (suc r) f) (same r (omega arith) (omega arith))
    ∙ ap (λ (l : List ℕ). shifted r (g r) ++ l)
    (rows_same k (suc r) f g (λ s le lt. same s (omega arith) (omega arith)))

map_both : (f : ℕ → List ℕ) (xs ys : List ℕ) → map f (xs ++ ys) ≡ map f xs ++ map f ys
map_both f [] ys = refl
map_both f (x ∷ xs) ys = ap (λ (l : List (List ℕ)). f x ∷ l) (map_both f xs ys)

-- what stands at the pages of all rows, where that is told row by row
pub mapped : (f : ℕ → List ℕ) (k r : ℕ) (numbers : ℕ → List ℕ) (held : ℕ → List (List ℕ))
    → ((s : ℕ) → r ≤ s → s < r + k → map f (shifted s (numbers s)) ≡ held s)
    → map f (names_by k r numbers) ≡ pages_by k r held
mapped f zero r numbers held each = refl
mapped f (suc k) r numbers held each =
    map_both f (shifted r (numbers r)) (names_by k (suc r) numbers)
    ∙ ap (λ (l : List (List ℕ)). l ++ map f (names_by k (suc r) numbers)) (each r (omega arith) (omega arith))
    ∙ ap (λ (l : List (List ℕ)). held r ++ l)
    (mapped f k (suc r) numbers held (λ s le lt. each s (omega arith) (omega arith)))

-- and what holds of each row's pages holds of all
pub all_rows : (P : ℕ → Type 0) (k r : ℕ) (numbers : ℕ → List ℕ)
    → ((s : ℕ) → r ≤ s → s < r + k → All P (shifted s (numbers s))) → All P (names_by k r numbers)
all_rows P zero r numbers each = All-nil P
all_rows P (suc k) r numbers each =
    All-append P (shifted r (numbers r)) (names_by k (suc r) numbers) (each r (omega arith) (omega arith))
    (all_rows P k (suc r) numbers (λ s le lt. each s (omega arith) (omega arith)))
