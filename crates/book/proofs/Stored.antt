-- A book's rows as its store has them.
use Rattle.std.proofs.Common.{Bool, List, None, Option, Some, [], ap, arith, false, get_or, length, map, refl, sym, true, zero, suc, ℕ, ◌++◌, ◌-◌, ◌<◌, ◌∙◌, ◌∷◌, ◌≡◌}
use Rattle.std.proofs.Math.ListN.{set}
use Rattle.std.proofs.lemmas.List.{length-map, length-set, map-set, set-append_left}
use Rattle.std.specs.Prelude.{if◌then◌else◌, is_some, option_map}
use Rattle.std.specs.Str.{bytes_eq}
use Rattle.book_model.specs.Rows.{Row, Rows, under, without}
use Rattle.book_store.specs.Reading.{under as recorded}
use Rattle.book_store.specs.Shown.{BookRow, absent}
use Rattle.book_store.specs.declared.layout.TheConstants.{BOOK_ROWS}
use Rattle.book_store.proofs.Books.Over.{none_absent}
use Rattle.session_model.specs.Clients.{Client}
use Rattle.session_record.specs.Record.{record_text}
use Rattle.book.specs.RowCells.{beside}
use Rattle.book.specs.Rows.{stored, stored_row}

abbrev pub name_in : Option BookRow → List ℕ
name_in None = []
name_in (Some row) = row.name

-- ---- place by place

-- what is present stands inside
pub present_inside : {A : Type 0} (xs : List (Option A)) (i : ℕ) (x : A) → get_or xs i None ≡ Some x
    → i < length xs
present_inside [] i x is = absurd (let e : None ≡ Some x = is in cc)
present_inside (o ∷ xs) zero x is = omega arith
present_inside (o ∷ xs) (suc i) x is = let lt = present_inside xs i x is in omega arith

pub present : {A : Type 0} (o : Option A) → is_some o ≡ true → (x : A) × (o ≡ Some x)
present None is = absurd (let e : false ≡ true = is in cc)
present (Some x) is = (x, refl)

padded_at : (k : ℕ) (rows : Rows Client) (r : ℕ)
    → get_or (map stored_row rows ++ absent k) r None ≡ stored_row (get_or rows r None)
padded_at k [] r = none_absent k r
padded_at k (o ∷ rows) zero = refl
padded_at k (o ∷ rows) (suc r) = padded_at k rows r

pub stored_at : (rows : Rows Client) (r : ℕ) → get_or (stored rows) r None ≡ stored_row (get_or rows r None)
stored_at rows r = padded_at (BOOK_ROWS - length rows) rows r

pub stored_set : (rows : Rows Client) (at : ℕ) (o : Option (Row Client)) → at < length rows
    → set (stored rows) at (stored_row o) ≡ stored (set rows at o)
stored_set rows at o lt =
    set-append_left (map stored_row rows) (absent (BOOK_ROWS - length rows)) at (stored_row o)
    (omega (arith, length-map rows stored_row))
    ∙ ap (λ (l : List (Option BookRow)). l ++ absent (BOOK_ROWS - length rows)) (sym (map-set stored_row rows at o))
    ∙ ap (λ n. map stored_row (set rows at o) ++ absent (BOOK_ROWS - n)) (sym (length-set rows at o))

-- ---- under a name, and beside it

module _ (name : List ℕ) where
  none_under : (k : ℕ) → recorded name (absent k) ≡ None
  none_under zero = refl
  none_under (suc k) = none_under k

  padded_under : (k : ℕ) (rows : Rows Client)
      → recorded name (map stored_row rows ++ absent k) ≡ option_map record_text (under name rows)
  padded_under k [] = none_under k
  padded_under k (None ∷ rows) = padded_under k rows
  padded_under k (Some row ∷ rows) =
      ap (λ (o : Option (List ℕ)). if bytes_eq row.name name then Some (record_text row.kept) else o)
      (padded_under k rows) ∙ by (bytes_eq row.name name)
    where
      by : (b : Bool) → (if b then Some (record_text row.kept) else option_map record_text (under name rows))
          ≡ option_map record_text (if b then Some row.kept else under name rows)
      by true = refl
      by false = refl

  pub stored_under : (rows : Rows Client) → recorded name (stored rows) ≡ option_map record_text (under name rows)
  stored_under rows = padded_under (BOOK_ROWS - length rows) rows

  none_beside : (k : ℕ) → beside name (absent k) ≡ absent k
  none_beside zero = refl
  none_beside (suc k) = ap (λ (l : List (Option BookRow)). None ∷ l) (none_beside k)

  padded_beside : (k : ℕ) (rows : Rows Client)
      → beside name (map stored_row rows ++ absent k) ≡ map stored_row (without name rows) ++ absent k
  padded_beside k [] = none_beside k
  padded_beside k (None ∷ rows) = ap (λ (l : List (Option BookRow)). None ∷ l) (padded_beside k rows)
  padded_beside k (Some row ∷ rows) =
      ap (λ (l : List (Option BookRow)). (if bytes_eq row.name name then None else stored_row (Some row)) ∷ l)
      (padded_beside k rows)
      ∙ ap (λ (o : Option BookRow). o ∷ (map stored_row (without name rows) ++ absent k)) (by (bytes_eq row.name name))
    where
      by : (b : Bool) → (if b then None else stored_row (Some row)) ≡ stored_row (if b then None else Some row)
      by true = refl
      by false = refl

  without_long : (rows : Rows Client) → length (without name rows) ≡ length rows
  without_long [] = refl
  without_long (None ∷ rows) = ap suc (without_long rows)
  without_long (Some row ∷ rows) = ap suc (without_long rows)

  pub stored_beside : (rows : Rows Client) → beside name (stored rows) ≡ stored (without name rows)
  stored_beside rows = padded_beside (BOOK_ROWS - length rows) rows
      ∙ ap (λ n. map stored_row (without name rows) ++ absent (BOOK_ROWS - n)) (sym (without_long rows))
