-- The names of peers, and where they stand among a hub's rows.
use Rattle.std.proofs.Common.{Bool, List, None, Option, Some, [], ap, append_assoc, arith, false, get_or, length, refl, replicate, suc, sym, true, zero, ℕ, ◌+◌, ◌++◌, ◌-◌, ◌<◌, ◌∙◌, ◌∷◌, ◌≡◌, ◌≤◌}
use Rattle.std.specs.Prelude.{if◌then◌else◌, ◌&&◌, ◌==◌}
use Rattle.std.specs.Str.{bytes_eq}
use Rattle.std.proofs.lemmas.Bool.Decides.{nat_tests}
use Rattle.std.proofs.lemmas.Fmt.{decimal_digit}
use Rattle.std.proofs.lemmas.List.{length-append, length-replicate}
use Rattle.book_model.specs.Rows.{Row, Rows, begun, is_full, under}
use Rattle.hub.specs.Peers.{peer_name, rows_begun}

-- ---- the names

pub name_is : (n : ℕ) → n ≤ 8 → peer_name n ≡ 112 ∷ (48 + n) ∷ []
name_is n le = ap (λ (d : List ℕ). 112 ∷ d) (decimal_digit n (omega (arith, le)))

pub named : (n m : ℕ) → n ≡ m → m ≤ 8 → 112 ∷ (48 + m) ∷ [] ≡ peer_name n
named n m is le = sym (name_is m le) ∙ ap peer_name (sym is)

pub apart : (a b : ℕ) → a < b → b ≤ 8 → bytes_eq (peer_name a) (peer_name b) ≡ false
apart a b lt le =
    let differ : (48 + a == 48 + b) ≡ false = grind (arith, nat_tests) in
    ap (λ (n : List ℕ). bytes_eq n (peer_name b)) (name_is a (omega (arith, lt, le)))
    ∙ ap (λ (n : List ℕ). bytes_eq (112 ∷ (48 + a) ∷ []) n) (name_is b le)
    ∙ ap (λ x. x && true) differ

-- ---- the rows

module _ {C : Type 0} (c : ℕ → C) where
  abbrev row_of : ℕ → Option (Row C)
  row_of number = Some (record { name = peer_name number; kept = c number })

  abbrev firsts : ℕ → Rows C
  firsts zero = []
  firsts (suc n) = firsts n ++ row_of (suc n) ∷ []

  behind : (n : ℕ) (rows : Rows C) → firsts (suc n) ++ rows ≡ firsts n ++ (row_of (suc n) ∷ rows)
  behind n rows = append_assoc (firsts n) (row_of (suc n) ∷ []) rows

  begun_behind : (name : List ℕ) (d : C) (n : ℕ) (rows : Rows C)
      → begun name d (firsts n ++ rows) ≡ firsts n ++ begun name d rows
  begun_behind name d zero rows = refl
  begun_behind name d (suc n) rows =
      ap (begun name d) (behind n rows) ∙ begun_behind name d n (row_of (suc n) ∷ rows)
      ∙ sym (behind n (begun name d rows))

  full_behind : (n : ℕ) (rows : Rows C) → is_full (firsts n ++ rows) ≡ is_full rows
  full_behind zero rows = refl
  full_behind (suc n) rows = ap is_full (behind n rows) ∙ full_behind n (row_of (suc n) ∷ rows)

  under_behind : (m : ℕ) → m ≤ 8 → (n : ℕ) → n < m → (rows : Rows C)
      → under (peer_name m) (firsts n ++ rows) ≡ under (peer_name m) rows
  under_behind m le zero lt rows = refl
  under_behind m le (suc n) lt rows =
      ap (under (peer_name m)) (behind n rows)
      ∙ under_behind m le n (omega (arith, lt)) (row_of (suc n) ∷ rows)
      ∙ ap (λ b. if b then Some (c (suc n)) else under (peer_name m) rows) (apart (suc n) m lt le)

  none_under : (name : List ℕ) (n : ℕ) → under {C = C} name (replicate n None) ≡ None
  none_under name zero = refl
  none_under name (suc n) = none_under name n

  firsts_long : (n : ℕ) → length (firsts n) ≡ n
  firsts_long zero = refl
  firsts_long (suc n) =
      length-append {A = Option (Row C)} (firsts n) (row_of (suc n) ∷ [])
      ∙ (let e : length (firsts n) + 1 ≡ suc n = omega (arith, firsts_long n) in e)

  -- the rows, with those that have no peer yet behind
  pub rows_are : (peers n : ℕ) → n ≤ peers → rows_begun c peers n ≡ firsts n ++ replicate (peers - n) None
  rows_are peers zero le = ap (λ n. replicate n None) (let e : peers ≡ peers - 0 = omega arith in e)
  rows_are peers (suc n) le =
      ap (begun (peer_name (suc n)) (c (suc n))) (rows_are peers n (omega (arith, le)))
      ∙ begun_behind (peer_name (suc n)) (c (suc n)) n (replicate (peers - n) None)
      ∙ ap (λ k. firsts n ++ begun (peer_name (suc n)) (c (suc n)) (replicate k None))
      (let e : peers - n ≡ suc (peers - suc n) = omega (arith, le) in e)
      ∙ sym (behind n (replicate (peers - suc n) None))

  -- the next name is free, and so is a row
  pub next_is_fresh : (peers n : ℕ) → n < peers → peers ≤ 8 → under (peer_name (suc n)) (rows_begun c peers n) ≡ None
  next_is_fresh peers n lt le =
      ap (under (peer_name (suc n))) (rows_are peers n (omega (arith, lt)))
      ∙ under_behind (suc n) (omega (arith, lt, le)) n (omega arith) (replicate (peers - n) None)
      ∙ none_under (peer_name (suc n)) (peers - n)

  pub next_has_room : (peers n : ℕ) → n < peers → is_full (rows_begun c peers n) ≡ false
  next_has_room peers n lt =
      ap is_full (rows_are peers n (omega (arith, lt)))
      ∙ full_behind n (replicate (peers - n) None)
      ∙ ap (λ k. is_full {C = C} (replicate k None)) (let e : peers - n ≡ suc (peers - suc n) = omega (arith, lt) in e)

  pub rows_long : (peers n : ℕ) → n ≤ peers → length (rows_begun c peers n) ≡ peers
  rows_long peers n le =
      ap length (rows_are peers n le)
      ∙ length-append {A = Option (Row C)} (firsts n) (replicate (peers - n) None)
      ∙ (let e : length (firsts n) + length {A = Option (Row C)} (replicate (peers - n) None) ≡ peers =
      omega (arith, firsts_long n, length-replicate {A = Option (Row C)} (peers - n) None, le) in e)

  at_end : (xs : Rows C) (o : Option (Row C)) (rows : Rows C) → get_or (xs ++ (o ∷ rows)) (length xs) None ≡ o
  at_end [] o rows = refl
  at_end (x ∷ xs) o rows = at_end xs o rows

  first_at : (n j : ℕ) → j < n → (rows : Rows C) → get_or (firsts n ++ rows) j None ≡ row_of (suc j)
  first_at zero j lt rows = absurd (let e : ⊥ = omega (arith, lt) in e)
  first_at (suc n) j lt rows =
      ap (λ (l : Rows C). get_or l j None) (behind n rows)
      ∙ by (j == n) refl (λ lower. first_at n j lower (row_of (suc n) ∷ rows))
    where
      by : (b : Bool) → (j == n) ≡ b
          → (j < n → get_or (firsts n ++ (row_of (suc n) ∷ rows)) j None ≡ row_of (suc j))
          → get_or (firsts n ++ (row_of (suc n) ∷ rows)) j None ≡ row_of (suc j)
      by true is before =
          let same : j ≡ n = grind (arith, nat_tests) in
          ap (λ i. get_or (firsts n ++ (row_of (suc n) ∷ rows)) i None) (same ∙ sym (firsts_long n))
          ∙ at_end (firsts n) (row_of (suc n)) rows ∙ ap (λ i. row_of (suc i)) (sym same)
      by false isnt before =
          let lower : j < n = grind (arith, nat_tests) in
          before lower

  -- each peer has its row
  pub row_at_place : (peers j : ℕ) → j < peers → get_or (rows_begun c peers peers) j None ≡ row_of (suc j)
  row_at_place peers j lt =
      ap (λ (l : Rows C). get_or l j None) (rows_are peers peers (omega arith))
      ∙ first_at peers j lt (replicate (peers - peers) None)
