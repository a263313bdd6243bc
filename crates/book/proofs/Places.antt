-- What stands under a name, by the place of the row that has it.
use Rattle.std.proofs.Common.{List, None, Option, Some, [], ap, arith, false, get_or, length, refl, suc, sym, true, zero, ℕ, ◌<◌, ◌∙◌, ◌∷◌, ◌≡◌, ◌≢◌}
use Rattle.std.proofs.Math.ListN.{set}
use Rattle.std.specs.Prelude.{if◌then◌else◌, is_some}
use Rattle.std.specs.Str.{bytes_eq}
use Rattle.book_model.specs.Rows.{Row, Rows, begun, is_full, keeping, under, without}
use Rattle.book.specs.Naming.{HasNone, IsFree, IsPlaceOf, is_named}

-- another row of this name, or an absent one, takes no part among the others
abbrev pub IsOf : {C : Type 0} → List ℕ → Option (Row C) → Type 0
IsOf name None = Unit {0}
IsOf name (Some row) = bytes_eq row.name name ≡ true

module _ {C : Type 0} (name : List ℕ) where
  tail_of : (o : Option (Row C)) (rows : Rows C) (at : ℕ) → IsPlaceOf name (o ∷ rows) (suc at)
      → IsPlaceOf name rows at
  tail_of o rows at is =
      record { named = is.named; first = λ q lt. is.first (suc q) (omega arith) }

  pub under_none : (rows : Rows C) → HasNone name rows → under name rows ≡ None
  under_none [] none = refl
  under_none (None ∷ rows) none = under_none rows (λ q. none (suc q))
  under_none (Some row ∷ rows) none =
      ap (λ b. if b then Some row.kept else under name rows) (none 0)
      ∙ under_none rows (λ q. none (suc q))

  pub under_at : (rows : Rows C) (at : ℕ) (row : Row C) → IsPlaceOf name rows at
      → get_or rows at None ≡ Some row → under name rows ≡ Some row.kept
  under_at [] at row is here = absurd (let e : None ≡ Some row = here in cc)
  under_at (None ∷ rows) zero row is here = absurd (let e : None ≡ Some row = here in cc)
  under_at (Some was ∷ rows) zero row is here =
      ap (λ b. if b then Some was.kept else under name rows) is.named
      ∙ ap (λ (r : Row C). Some r.kept) (let e : Some was ≡ Some row = here in let f : was ≡ row = cc in f)
  under_at (None ∷ rows) (suc at) row is here = under_at rows at row (tail_of None rows at is) here
  under_at (Some was ∷ rows) (suc at) row is here =
      ap (λ b. if b then Some was.kept else under name rows) (is.first 0 (omega arith))
      ∙ under_at rows at row (tail_of (Some was) rows at is) here

  -- and where the row at that place is another
  pub under_set : (rows : Rows C) (at : ℕ) (row : Row C) → IsPlaceOf name rows at
      → bytes_eq row.name name ≡ true → under name (set rows at (Some row)) ≡ Some row.kept
  under_set [] at row is named = absurd (let e : false ≡ true = is.named in cc)
  under_set (o ∷ rows) zero row is named =
      ap (λ b. if b then Some row.kept else under name rows) named
  under_set (None ∷ rows) (suc at) row is named =
      under_set rows at row (tail_of None rows at is) named
  under_set (Some was ∷ rows) (suc at) row is named =
      ap (λ b. if b then Some was.kept else under name (set rows at (Some row)))
      (is.first 0 (omega arith))
      ∙ under_set rows at row (tail_of (Some was) rows at is) named

  -- no other row changes where one of this name, or an absent one, becomes another such
  pub without_set : (rows : Rows C) (at : ℕ) (o : Option (Row C)) → IsOf name (get_or rows at None)
      → IsOf name o → without name (set rows at o) ≡ without name rows
  without_set [] at o was is = refl
  without_set (None ∷ rows) zero None was is = refl
  without_set (None ∷ rows) zero (Some row) was is =
      ap (λ b. (if b then None else Some row) ∷ without name rows) is
  without_set (Some old ∷ rows) zero None was is =
      sym (ap (λ b. (if b then None else Some old) ∷ without name rows) was)
  without_set (Some old ∷ rows) zero (Some row) was is =
      ap (λ b. (if b then None else Some row) ∷ without name rows) is
      ∙ sym (ap (λ b. (if b then None else Some old) ∷ without name rows) was)
  without_set (None ∷ rows) (suc at) o was is =
      ap (λ (l : Rows C). None ∷ l) (without_set rows at o was is)
  without_set (Some old ∷ rows) (suc at) o was is =
      ap (λ (l : Rows C). (if bytes_eq old.name name then None else Some old) ∷ l)
      (without_set rows at o was is)

  -- ---- where no other row has the name

  keeping_none : (c : C) (rows : Rows C) → HasNone name rows → keeping name c rows ≡ rows
  keeping_none c [] none = refl
  keeping_none c (None ∷ rows) none =
      ap (λ (l : Rows C). None ∷ l) (keeping_none c rows (λ q. none (suc q)))
  keeping_none c (Some row ∷ rows) none =
      ap (λ b. (if b then Some (record { name = row.name; kept = c }) else Some row)
      ∷ keeping name c rows) (none 0)
      ∙ ap (λ (l : Rows C). Some row ∷ l) (keeping_none c rows (λ q. none (suc q)))

  without_none : (rows : Rows C) → HasNone name rows → without name rows ≡ rows
  without_none [] none = refl
  without_none (None ∷ rows) none =
      ap (λ (l : Rows C). None ∷ l) (without_none rows (λ q. none (suc q)))
  without_none (Some row ∷ rows) none =
      ap (λ b. (if b then None else Some row) ∷ without name rows) (none 0)
      ∙ ap (λ (l : Rows C). Some row ∷ l) (without_none rows (λ q. none (suc q)))

  -- it is the only one of the name
  pub record IsOnly (rows : Rows C) (at : ℕ) (row : Row C) : Type 0 where
    pub here : get_or rows at None ≡ Some row
    pub named : bytes_eq row.name name ≡ true
    pub others : (q : ℕ) → q ≢ at → is_named name (get_or rows q None) ≡ false

  rest_of : (o : Option (Row C)) (rows : Rows C) (at : ℕ) (row : Row C)
      → IsOnly (o ∷ rows) (suc at) row → IsOnly rows at row
  rest_of o rows at row is = record {
    here = is.here;
    named = is.named;
    others = λ q other. is.others (suc q) (λ same. other (omega arith));
  }

  pub keeping_is : (c : C) (rows : Rows C) (at : ℕ) (row : Row C) → IsOnly rows at row
      → keeping name c rows ≡ set rows at (Some (record { name = row.name; kept = c }))
  keeping_is c [] at row is = absurd (let e : None ≡ Some row = is.here in cc)
  keeping_is c (None ∷ rows) zero row is = absurd (let e : None ≡ Some row = is.here in cc)
  keeping_is c (Some was ∷ rows) zero row is =
      let same : was ≡ row = let e : Some was ≡ Some row = is.here in cc in
      ap (λ b. (if b then Some (record { name = was.name; kept = c }) else Some was)
      ∷ keeping name c rows) (ap (λ (r : Row C). bytes_eq r.name name) same ∙ is.named)
      ∙ ap (λ (l : Rows C). Some (record { name = was.name; kept = c }) ∷ l)
      (keeping_none c rows (λ q. is.others (suc q) (λ e. absurd (omega arith))))
      ∙ ap (λ (r : Row C). Some (record { name = r.name; kept = c }) ∷ rows) same
  keeping_is c (None ∷ rows) (suc at) row is =
      ap (λ (l : Rows C). None ∷ l) (keeping_is c rows at row (rest_of None rows at row is))
  keeping_is c (Some was ∷ rows) (suc at) row is =
      ap (λ b. (if b then Some (record { name = was.name; kept = c }) else Some was)
      ∷ keeping name c rows) (is.others 0 (λ e. absurd (omega arith)))
      ∙ ap (λ (l : Rows C). Some was ∷ l) (keeping_is c rows at row (rest_of (Some was) rows at row is))

  pub without_is : (rows : Rows C) (at : ℕ) (row : Row C) → IsOnly rows at row
      → without name rows ≡ set rows at None
  without_is [] at row is = refl
  without_is (None ∷ rows) zero row is = absurd (let e : None ≡ Some row = is.here in cc)
  without_is (Some was ∷ rows) zero row is =
      let same : was ≡ row = let e : Some was ≡ Some row = is.here in cc in
      ap (λ b. (if b then None else Some was) ∷ without name rows)
      (ap (λ (r : Row C). bytes_eq r.name name) same ∙ is.named)
      ∙ ap (λ (l : Rows C). None ∷ l)
      (without_none rows (λ q. is.others (suc q) (λ e. absurd (omega arith))))
  without_is (None ∷ rows) (suc at) row is =
      ap (λ (l : Rows C). None ∷ l) (without_is rows at row (rest_of None rows at row is))
  without_is (Some was ∷ rows) (suc at) row is =
      ap (λ b. (if b then None else Some was) ∷ without name rows)
      (is.others 0 (λ e. absurd (omega arith)))
      ∙ ap (λ (l : Rows C). Some was ∷ l) (without_is rows at row (rest_of (Some was) rows at row is))

-- ---- the lowest absent row

module _ {C : Type 0} where
  next_free : (o : Option (Row C)) (rows : Rows C) (at : ℕ) → IsFree (o ∷ rows) (suc at)
      → IsFree rows at
  next_free o rows at is = record {
    inside = let e = is.inside in omega arith;
    absent = is.absent;
    first = λ q lt. is.first (suc q) (omega arith);
  }

  pub begun_is : (name : List ℕ) (c : C) (rows : Rows C) (at : ℕ) → IsFree rows at
      → begun name c rows ≡ set rows at (Some (record { name = name; kept = c }))
  begun_is name c [] at is = absurd (let e = is.inside in omega arith)
  begun_is name c (None ∷ rows) zero is = refl
  begun_is name c (Some row ∷ rows) zero is = absurd (let e : true ≡ false = is.absent in cc)
  begun_is name c (None ∷ rows) (suc at) is =
      absurd (let e : false ≡ true = is.first 0 (omega arith) in cc)
  begun_is name c (Some row ∷ rows) (suc at) is =
      ap (λ (l : Rows C). Some row ∷ l) (begun_is name c rows at (next_free (Some row) rows at is))

  pub not_full : (rows : Rows C) (at : ℕ) → IsFree rows at → is_full rows ≡ false
  not_full [] at is = absurd (let e = is.inside in omega arith)
  not_full (None ∷ rows) at is = refl
  not_full (Some row ∷ rows) zero is = absurd (let e : true ≡ false = is.absent in cc)
  not_full (Some row ∷ rows) (suc at) is = not_full rows at (next_free (Some row) rows at is)

  pub full : (rows : Rows C) → ((q : ℕ) → q < length rows → is_some (get_or rows q None) ≡ true)
      → is_full rows ≡ true
  full [] all = refl
  full (None ∷ rows) all = absurd (let e : false ≡ true = all 0 (omega arith) in cc)
  full (Some row ∷ rows) all = full rows (λ q lt. all (suc q) (omega arith))
