-- What a row without a fault has.
use Rattle.std.proofs.Common.{◌≡◌, ℕ, ◌+◌, ◌-◌, ◌≤◌, Bool, true, false, List, Option, None, Some, drop, refl, sym, ◌∙◌, ap, if◌then◌else◌}
use Rattle.std.specs.Prelude.{◌==◌, ◌&&◌, nat_le, not, slice_index, slice_range}
use Rattle.std.proofs.lemmas.Bool.{and_parts, eqb-true, leb-true, not-true}
use Rattle.record_pages.specs.Tables.{nonzero_from, or_else, table_fault}
use Rattle.relay_wire.specs.Names.{is_name}
use Rattle.relay_wire.specs.declared.limits.TheConstants.{NAME_LIMIT}
use Rattle.book_store.specs.Judging.{is_taken, name_fault, pages_fault, placed, row_at, row_fault}
use Rattle.book_store.specs.Rows.{name_in, record_table}
use Rattle.book_store.specs.declared.layout.TheConstants.{RECORD_PLACE, ROW_MOST, ROW_PAGES}

pub none_of : (a b : Option ℕ) → or_else a b ≡ None → (a ≡ None) × (b ≡ None)
none_of None b h = (refl, h)
none_of (Some at) b h = absurd (let e : Some at ≡ None = h in cc)

not_placed : (r : ℕ) (o : Option ℕ) → placed r o ≡ None → o ≡ None
not_placed r None h = refl
not_placed r (Some at) h = absurd (let e : Some (row_at r + (RECORD_PLACE - 1) + at) ≡ None = h in cc)

-- what a name without a fault has
pub record IsNamed (body : List ℕ) (r : ℕ) (row : List ℕ) : Type 0 where
  pub low : 1 ≤ slice_index row 1
  pub high : slice_index row 1 ≤ NAME_LIMIT
  pub named : is_name (name_in row) ≡ true
  pub free : is_taken r body (name_in row) ≡ false
  pub zeros : nonzero_from (row_at r + 2 + slice_index row 1)
      (slice_range row (2 + slice_index row 1) (RECORD_PLACE + 1)) ≡ None

pub name_of : (body : List ℕ) (r : ℕ) (row : List ℕ) → name_fault body r row ≡ None → IsNamed body r row
unfolding name_fault
name_of body r row none = by (nat_le 1 (slice_index row 1) && nat_le (slice_index row 1) NAME_LIMIT) refl
    (is_name (name_in row) && not (is_taken r body (name_in row))) refl none
  where
    by : (s : Bool) → (nat_le 1 (slice_index row 1) && nat_le (slice_index row 1) NAME_LIMIT) ≡ s
        → (t : Bool) → (is_name (name_in row) && not (is_taken r body (name_in row))) ≡ t
        → (if s then (if t then nonzero_from (row_at r + 2 + slice_index row 1)
        (slice_range row (2 + slice_index row 1) (RECORD_PLACE + 1)) else Some (row_at r + 2)) else Some (row_at r + 1)) ≡ None
        → IsNamed body r row
    by false long t new h = absurd (let e : Some (row_at r + 1) ≡ None = h in cc)
    by true long false new h = absurd (let e : Some (row_at r + 2) ≡ None = h in cc)
    by true long true new h =
        let bounds = and_parts (nat_le 1 (slice_index row 1)) (nat_le (slice_index row 1) NAME_LIMIT) long in
        let both = and_parts (is_name (name_in row)) (not (is_taken r body (name_in row))) new in
        record {
          low = leb-true 1 (slice_index row 1) bounds.0;
          high = leb-true (slice_index row 1) NAME_LIMIT bounds.1;
          named = both.0;
          free = not-true (is_taken r body (name_in row)) both.1;
          zeros = h;
        }

-- what a row without a fault has: it is zeros, or it may be present and has a name and a record's table
pub record IsPresent (may : Bool) (body : List ℕ) (r : ℕ) (row : List ℕ) : Type 0 where
  pub may_be : may ≡ true
  pub name : IsNamed body r row
  pub table : table_fault 0 ROW_PAGES ROW_MOST (record_table row) ≡ None

pub present : (may : Bool) (body : List ℕ) (r : ℕ) (row : List ℕ) → row_fault may body r row ≡ None
    → (slice_index row 0 == 0) ≡ false → IsPresent may body r row
unfolding row_fault
present may body r row none other = by (slice_index row 0 == 1 && may) refl
    (sym (ap (λ b. if b then nonzero_from (row_at r + 1) (drop 1 row)
    else (if slice_index row 0 == 1 && may then or_else (name_fault body r row) (pages_fault r row) else Some (row_at r))) other) ∙ none)
  where
    by : (b : Bool) → (slice_index row 0 == 1 && may) ≡ b
        → (if b then or_else (name_fault body r row) (pages_fault r row) else Some (row_at r)) ≡ None → IsPresent may body r row
    by false is h = absurd (let e : Some (row_at r) ≡ None = h in cc)
    by true is h =
        let both = none_of (name_fault body r row) (pages_fault r row) h in
        record {
          may_be = (and_parts (slice_index row 0 == 1) may is).1;
          name = name_of body r row both.0;
          table = not_placed r (table_fault 0 ROW_PAGES ROW_MOST (record_table row)) both.1;
        }

pub is_present : (may : Bool) (body : List ℕ) (r : ℕ) (row : List ℕ) → row_fault may body r row ≡ None
    → (slice_index row 0 == 0) ≡ false → slice_index row 0 ≡ 1
unfolding row_fault
is_present may body r row none other = by (slice_index row 0 == 1 && may) refl
    (sym (ap (λ b. if b then nonzero_from (row_at r + 1) (drop 1 row)
    else (if slice_index row 0 == 1 && may then or_else (name_fault body r row) (pages_fault r row) else Some (row_at r))) other) ∙ none)
  where
    by : (b : Bool) → (slice_index row 0 == 1 && may) ≡ b
        → (if b then or_else (name_fault body r row) (pages_fault r row) else Some (row_at r)) ≡ None → slice_index row 0 ≡ 1
    by false is h = absurd (let e : Some (row_at r) ≡ None = h in cc)
    by true is h = eqb-true (slice_index row 0) 1 (and_parts (slice_index row 0 == 1) may is).0
