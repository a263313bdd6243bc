-- A store as its rows in memory show it, with another row.
use Rattle.std.proofs.Common.{◌≡◌, ℕ, zero, suc, ◌*◌, ◌<◌, Bool, true, false, List, [], ◌∷◌, ◌++◌, ◌+◌, ◌-◌, Option, None, Some, append_assoc, get_or, length, map, replicate, take, refl, sym, ◌∙◌, ap, arith}
use Rattle.std.specs.Prelude.{if◌then◌else◌}
use Rattle.book_store.specs.Rows.{names_by, shifted}
use Rattle.std.proofs.Math.ListN.{set}
use Rattle.std.proofs.lemmas.List.{get_or-map, map-set}
use Rattle.dr_base.specs.declared.limits.TheConstants.{PAGE}
use Rattle.record_pages.specs.Pages.{pages_in}
use Rattle.book_store.specs.AtRest.{row_pages}
use Rattle.book_store.specs.Held.{drops_seen, numbers_seen, row_seen, seen_as, store_seen}
use Rattle.book_store.specs.Kept.{text_of}
use Rattle.book_store.specs.Shown.{BookRow}
use Rattle.book_store.specs.Store.{numbers_of, with_staged}
use Rattle.book_store.specs.declared.held.HeldRow.{HeldRow}

pub drops_set : (staged : List Bool) (rows : List HeldRow) (r : ℕ) (row : HeldRow) → length staged ≡ length rows
    → drops_seen (set staged r true) (set rows r row) ≡ set (drops_seen staged rows) r row.dropped.items
drops_set [] rows r row each = refl
drops_set (s ∷ staged) [] r row each = absurd (omega arith)
drops_set (s ∷ staged) (h ∷ rows) zero row each = refl
drops_set (s ∷ staged) (h ∷ rows) (suc r) row each =
    ap (λ (l : List (List ℕ)). drops_seen (s ∷ []) (h ∷ []) ++ l) (drops_set staged rows r row (omega arith))

-- ---- one row

module _ (row : HeldRow) where
  pages_as : (name : Option (List ℕ)) → (name ≡ None → row.kept.len ≡ 0)
      → pages_in (text_of row.kept) ≡ row_pages (seen_as name (text_of row.kept))
  pages_as None none = ap (λ n. pages_in (take n row.kept.bytes.items)) (none refl)
  pages_as (Some name) none = refl

  pub seen_pages : pages_in (text_of row.kept) ≡ row_pages (row_seen row)
  seen_pages = pages_as row.name row.none

  none_numbered : (numbers : List ℕ) → PAGE * length numbers < row.kept.len + PAGE → row.kept.len ≡ 0 → numbers ≡ []
  none_numbered [] least none = refl
  none_numbered (n ∷ numbers) least none = absurd (omega (arith, least, none))

  numbers_as : (name : Option (List ℕ)) → (name ≡ None → row.kept.len ≡ 0)
      → row.kept.numbers.items ≡ numbers_of (seen_as name (text_of row.kept)) row.kept.numbers.items
  numbers_as None none = none_numbered row.kept.numbers.items row.kept.least (none refl)
  numbers_as (Some name) none = refl

  pub seen_numbers : row.kept.numbers.items ≡ numbers_of (row_seen row) row.kept.numbers.items
  seen_numbers = numbers_as row.name row.none

-- ---- at its place

module _ (rows : List HeldRow) (r : ℕ) (row : HeldRow) (lt : r < length rows) (is : row ≡ get_or rows r row) where
  pub held_at : get_or (map row_seen rows) r None ≡ row_seen row
  held_at = get_or-map row_seen rows r row None lt ∙ ap row_seen (sym is)

  pub own_at : get_or (map numbers_seen rows) r [] ≡ row.kept.numbers.items
  own_at = get_or-map numbers_seen rows r row [] lt ∙ ap numbers_seen (sym is)

  pub pages_here : pages_in (text_of row.kept) ≡ row_pages (get_or (map row_seen rows) r None)
  pages_here = seen_pages row ∙ sym (ap row_pages held_at)

  pub numbers_here : row.kept.numbers.items
      ≡ numbers_of (get_or (map row_seen rows) r None) (get_or (map numbers_seen rows) r [])
  numbers_here = seen_numbers row ∙ sym (ap (numbers_of (row_seen row)) own_at)
      ∙ sym (ap (λ o. numbers_of o (get_or (map numbers_seen rows) r [])) held_at)

-- ---- with another row there

module _ (count count' : ℕ) (second second' : Bool) (turn turn' : ℕ) (rows : List HeldRow) (staged : List Bool)
    (replaced : Bool) (r : ℕ) (new : HeldRow) (row : Option BookRow) (ns gone : List ℕ)
    (count_is : count' ≡ count) (second_is : second' ≡ second) (turn_is : turn' ≡ turn)
    (each : length staged ≡ length rows) (shown : row_seen new ≡ row) (numbers : new.kept.numbers.items ≡ ns)
    (dropped : new.dropped.items ≡ gone) where
  held_is : map row_seen (set rows r new) ≡ set (map row_seen rows) r row
  held_is = map-set row_seen rows r new ∙ ap (set (map row_seen rows) r) shown

  numbers_are : map numbers_seen (set rows r new) ≡ set (map numbers_seen rows) r ns
  numbers_are = map-set numbers_seen rows r new ∙ ap (set (map numbers_seen rows) r) numbers

  drops_are : drops_seen (set staged r true) (set rows r new) ≡ set (drops_seen staged rows) r gone
  drops_are = drops_set staged rows r new each ∙ ap (set (drops_seen staged rows) r) dropped

  pub seen_with : store_seen count' second' turn' (set rows r new) (set staged r true) replaced
      ≡ with_staged (store_seen count second turn rows staged replaced) r row ns gone
  seen_with = λ i. record {
    rows = count_is i;
    mark = record { second = second_is i; turn = turn_is i; numbers = numbers_are i };
    held = held_is i;
    staged = set staged r true;
    drops = drops_are i;
    replaced = replaced;
  }

-- ---- what the staged rows dropped

pub drops_at_row : (staged : List Bool) (rows : List HeldRow) (r : ℕ) (row : HeldRow) (d : Bool) → length staged ≡ length rows
    → r < length rows → row ≡ get_or rows r row
    → get_or (drops_seen staged rows) r [] ≡ (if get_or staged r d then row.dropped.items else [])
drops_at_row [] [] r row d each lt is = absurd (omega arith)
drops_at_row [] (h ∷ rows) r row d each lt is = absurd (omega arith)
drops_at_row (s ∷ staged) [] r row d each lt is = absurd (omega arith)
drops_at_row (s ∷ staged) (h ∷ rows) zero row d each lt is = ap (λ (x : HeldRow). if s then x.dropped.items else []) (sym is)
drops_at_row (s ∷ staged) (h ∷ rows) (suc r) row d each lt is = drops_at_row staged rows r row d (omega arith) (omega arith) is

pub gathered_next : (count r : ℕ) (f : ℕ → List ℕ) (out more : List ℕ) → r < count → more ≡ out ++ shifted r (f r)
    → out ++ names_by (count - r) r f ≡ more ++ names_by (count - (r + 1)) (r + 1) f
gathered_next count r f out more lt is =
    ap (λ k. out ++ names_by k r f) (let e : count - r ≡ suc (count - (r + 1)) = omega (arith, lt) in e)
    ∙ ap (λ n. out ++ (shifted r (f r) ++ names_by (count - (r + 1)) n f)) (let e : suc r ≡ r + 1 = omega arith in e)
    ∙ sym (append_assoc out (shifted r (f r)) (names_by (count - (r + 1)) (r + 1) f))
    ∙ ap (λ (l : List ℕ). l ++ names_by (count - (r + 1)) (r + 1) f) (sym is)

-- no row is staged
pub none_dropped : (rows : List HeldRow) → drops_seen (replicate (length rows) false) rows ≡ replicate (length rows) []
none_dropped [] = refl
none_dropped (h ∷ rows) = ap (λ (l : List (List ℕ)). [] ∷ l) (none_dropped rows)
