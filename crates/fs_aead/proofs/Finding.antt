-- Where the key of a position stands.
use Rattle.std.proofs.Common.{◌≡◌, ◌≢◌, ℕ, ◌<◌, ◌==◌, Bool, true, List, length, get_or, Option, Some, None, sym, ◌∙◌, ap, subst, arith, nat_lt}
use Rattle.std.specs.Prelude.{position}
use Rattle.std.specs.List.{position_or_len}
use Rattle.std.proofs.lemmas.Bool.{and_from, and_parts, cond-false, cond-true, eq-eqb, eqb-true, false_from_ne_true, le-ltb, lt-ltb}
use Rattle.std.proofs.lemmas.List.Sums.{position_or_len_is}
use Rattle.dr_base.specs.declared.key.Kept.{Kept}
use Rattle.dr_base.specs.declared.position.Position.{Position}
use Rattle.fs_aead.specs.declared.rows.Row.{Row}
use Rattle.fs_aead.specs.Rows.{IsInRow, IsPlaceIn, epoch_at, index_at, no_kept, row_at, starts_of}
use Rattle.fs_aead.specs.Table.{IsAscending, is_kept_at}
use Rattle.fs_aead.proofs.Directory.{are-rows}

module _ (keys : List Kept) (up : IsAscending keys) (p : Position) where
  abbrev is_here : ℕ → Bool
  is_here i = is_kept_at p (get_or keys i no_kept)

  -- what a test tells of the key at a place
  here-is : (i : ℕ) → is_here i ≡ true → (epoch_at keys i ≡ p.epoch) × (index_at keys i ≡ p.index)
  here-is i here =
      let parts = and_parts (epoch_at keys i == p.epoch) (index_at keys i == p.index) here in
      (eqb-true _ _ parts.0, eqb-true _ _ parts.1)

  found : (i : ℕ) → i < length keys → epoch_at keys i ≡ p.epoch → index_at keys i ≡ p.index
      → Some i ≡ position (is_kept_at p) keys
  found i inside epoch index =
      let n = position_or_len (is_kept_at p) keys in
      let first : n ≡ i = position_or_len_is (is_kept_at p) keys i no_kept (omega arith)
      (λ k less. false_from_ne_true (is_here k) (λ here.
      let is = here-is k here in
      let order = (up k i no_kept less inside).1 (is.0 ∙ sym epoch) in
      let same = is.1 in
      absurd (omega arith)))
      (λ _. and_from _ _ (eq-eqb _ _ epoch) (eq-eqb _ _ index)) in
      sym (cond-true (nat_lt n (length keys)) (Some n) None (lt-ltb n (length keys) (omega arith)) ∙ ap Some first)

  none : ((i : ℕ) → i < length keys → is_here i ≡ true → ⊥) → None ≡ position (is_kept_at p) keys
  none all =
      let n = position_or_len (is_kept_at p) keys in
      let end : n ≡ length keys = position_or_len_is (is_kept_at p) keys (length keys) no_kept (omega arith)
      (λ k less. false_from_ne_true (is_here k) (all k less)) (λ less. absurd (omega arith)) in
      sym (cond-false (nat_lt n (length keys)) (Some n) None (le-ltb n (length keys) (omega arith)))

  -- what is found in the row of the epoch
  pub in-row : (k : ℕ) (row : Row) (place : Option ℕ) → k < length (starts_of keys) → row ≡ row_at keys k → row.epoch ≡ p.epoch
      → IsPlaceIn keys row p.index place → place ≡ position (is_kept_at p) keys
  in-row k row (Some i) below is epoch place =
      let rows = are-rows keys up in
      let there = subst (λ (r : Row). IsInRow r i) is place.0 in
      let high = there.1 in
      let inside : i < length keys = omega (arith, rows.inside k below) in
      found i inside ((rows.exact k i no_kept below inside).1 there ∙ sym (ap (λ (r : Row). r.epoch) is) ∙ epoch) place.1
  in-row k row None below is epoch place =
      let rows = are-rows keys up in
      none (λ i inside here.
      let at = here-is i here in
      let there = (rows.exact k i no_kept below inside).0 (at.0 ∙ sym epoch ∙ ap (λ (r : Row). r.epoch) is) in
      place i (subst (λ (r : Row). IsInRow r i) (sym is) there) at.1)

  -- no row has the epoch
  pub in-no-row : ((k : ℕ) → k < length (starts_of keys) → (row_at keys k).epoch ≢ p.epoch) → None ≡ position (is_kept_at p) keys
  in-no-row other =
      let rows = are-rows keys up in
      none (λ i inside here.
      let row = rows.every i inside in
      other row.0 row.1 (sym ((rows.exact row.0 i no_kept row.1 inside).1 row.2) ∙ (here-is i here).0))
