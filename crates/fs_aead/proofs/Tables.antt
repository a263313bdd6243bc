-- Tables whose positions ascend.
use Rattle.std.proofs.Common.{◌≡◌, ◌≢◌, ℕ, ◌+◌, ◌<◌, true, false, List, [], length, get_or, Some, None, refl, sym, ap, ap₂, ◌∙◌, inl, inr, arith}
use Rattle.std.specs.Prelude.{not, ◌⊎◌, filter, remove, position, option_map, is_some, IsSome, Contains}
use Rattle.std.proofs.lemmas.Bool.{cases_Bool, not-true}
use Rattle.std.proofs.lemmas.Bool.Decides.{nat_tests}
use Rattle.std.proofs.lemmas.List.Quantifiers.{position-Some}
use Rattle.std.proofs.lemmas.List.Edits.{length-remove}
use Rattle.std.proofs.lemmas.List.Kept.{AllPairs-filter}
use Rattle.std.proofs.lemmas.List.Elements.{filter_passes}
use Rattle.dr_base.specs.declared.key.Kept.{Kept}
use Rattle.dr_base.specs.declared.position.Position.{Position}
use Rattle.dr_base.specs.Position.{IsBefore}
use Rattle.fs_aead.specs.Table.{IsAscending, is_kept_at, kept_key, without}
use Rattle.fs_aead.proofs.Places.{filter-none, filter-one, find-first, find-none, find-filter, position-None}

-- a test passes at its position
is_kept_at-same : (kept : Kept) → is_kept_at kept.position kept ≡ true
is_kept_at-same kept = grind (arith, nat_tests)

-- a test passes at its position alone
is_kept_at-true : (p : Position) (kept : Kept) → is_kept_at p kept ≡ true → kept.position ≡ p
is_kept_at-true p kept h =
    let epoch : kept.position.epoch ≡ p.epoch = grind (arith, nat_tests) in
    let index : kept.position.index ≡ p.index = grind (arith, nat_tests) in
    let make : ℕ → ℕ → Position = λ e i. record { epoch = e; index = i } in
    ap₂ make epoch index

-- of two keys in order, a test passes at one at most
fails_behind : (p : Position) (a b : Kept) → IsBefore a.position b.position → is_kept_at p a ≡ true → is_kept_at p b ≡ false
fails_behind p a b h here = grind (arith, nat_tests)

fails_ahead : (p : Position) (a b : Kept) → IsBefore a.position b.position → is_kept_at p b ≡ true → is_kept_at p a ≡ false
fails_ahead p a b h here = grind (arith, nat_tests)

cases_apart : (k i : ℕ) → k ≢ i → (k < i) ⊎ (i < k)
cases_apart k i ne = grind arith

-- an ascending table has one key at most for a position
others_fail : (keys : List Kept) (p : Position) (i : ℕ) → IsAscending keys → i < length keys → ((d : Kept) → is_kept_at p (get_or keys i d) ≡ true)
    → (k : ℕ) (d : Kept) → k < length keys → k ≢ i → is_kept_at p (get_or keys k d) ≡ false
others_fail keys p i up below here k d lt ne =
    elim (cases_apart k i ne) as (λ _. is_kept_at p (get_or keys k d) ≡ false) [
      | inl before ↦ fails_ahead p (get_or keys k d) (get_or keys i d) (up k i d before below) (here d)
      | inr behind ↦ fails_behind p (get_or keys i d) (get_or keys k d) (up i k d behind lt) (here d)
    ]

-- a place that was found is one of the table's
pub position-below : (keys : List Kept) (p : Position) (i : ℕ) → position (is_kept_at p) keys ≡ Some i → i < length keys
position-below keys p i found =
    let some : Kept = record { position = p; key = record { bytes = [] } } in
    (position-Some (is_kept_at p) keys i some found).0

-- what `take` finds and leaves, at the place that it found
pub kept_key-at : (keys : List Kept) (p : Position) (i : ℕ) (d : Kept) → position (is_kept_at p) keys ≡ Some i → kept_key keys p ≡ Some (get_or keys i d).key.bytes
unfolding kept_key
kept_key-at keys p i d found =
    let place = position-Some (is_kept_at p) keys i d found in
    ap (option_map (λ (kept : Kept). kept.key.bytes)) (find-first (is_kept_at p) keys i d place.0 place.1 place.2)

pub without-at : (keys : List Kept) (p : Position) (i : ℕ) → IsAscending keys → position (is_kept_at p) keys ≡ Some i → without keys p ≡ remove keys i
unfolding without
without-at keys p i up found =
    let place = λ (d : Kept). position-Some (is_kept_at p) keys i d found in
    let below = position-below keys p i found in
    filter-one (is_kept_at p) keys i below (λ d. (place d).1) (others_fail keys p i up below (λ d. (place d).1))

-- what it finds and leaves where the position isn't kept
pub kept_key-none : (keys : List Kept) (p : Position) → position (is_kept_at p) keys ≡ None → kept_key keys p ≡ None
unfolding kept_key
kept_key-none keys p missing =
    ap (option_map (λ (kept : Kept). kept.key.bytes)) (find-none (is_kept_at p) keys (position-None (is_kept_at p) keys missing))

pub without-none : (keys : List Kept) (p : Position) → position (is_kept_at p) keys ≡ None → without keys p ≡ keys
unfolding without
without-none keys p missing = filter-none (is_kept_at p) keys (position-None (is_kept_at p) keys missing)

-- a key that was taken is kept no more
pub kept_key-without : (keys : List Kept) (p : Position) → kept_key (without keys p) p ≡ None
unfolding kept_key without
kept_key-without keys p =
    ap (option_map (λ (kept : Kept). kept.key.bytes))
    (find-none (is_kept_at p) (filter (λ kept. not (is_kept_at p kept)) keys)
    (λ k d below. not-true _ (filter_passes (λ kept. not (is_kept_at p kept)) keys k d below)))

-- two positions that one test passes at
apart : (p q : Position) → p ≢ q → (kept : Kept) → is_kept_at q kept ≡ true → not (is_kept_at p kept) ≡ true
apart p q ne kept here =
    let at_q = is_kept_at-true q kept here in
    elim (cases_Bool (is_kept_at p kept)) as (λ _. not (is_kept_at p kept) ≡ true) [
      | inl passes ↦ absurd (ne (sym (is_kept_at-true p kept passes) ∙ at_q))
      | inr fails ↦ ap not fails
    ]

-- the keys of other positions stay
pub kept_key-without_other : (keys : List Kept) (p q : Position) → p ≢ q → kept_key (without keys p) q ≡ kept_key keys q
unfolding kept_key without
kept_key-without_other keys p q ne =
    ap (option_map (λ (kept : Kept). kept.key.bytes)) (find-filter (λ kept. not (is_kept_at p kept)) (is_kept_at q) (apart p q ne) keys)

-- each key of an ascending table is the one under its position
pub kept_key-Contains : (keys : List Kept) (kept : Kept) → IsAscending keys → Contains keys kept → kept_key keys kept.position ≡ Some kept.key.bytes
unfolding kept_key
kept_key-Contains keys kept up there =
    let p = kept.position in
    let here : is_kept_at p (get_or keys there.0 kept) ≡ true = ap (is_kept_at p) there.2 ∙ is_kept_at-same kept in
    ap (option_map (λ (x : Kept). x.key.bytes))
    (find-first (is_kept_at p) keys there.0 kept there.1 here (λ k before. fails_ahead p (get_or keys k kept) (get_or keys there.0 kept) (up k there.0 kept before there.1) here)
    ∙ ap (λ (x : Kept). Some x) there.2)

-- the place of a key that is kept
place_of_key : (keys : List Kept) (p : Position) → IsSome (kept_key keys p) → (i : ℕ) × (position (is_kept_at p) keys ≡ Some i)
place_of_key keys p there =
    elim (position (is_kept_at p) keys) as (λ o. position (is_kept_at p) keys ≡ o → (i : ℕ) × (position (is_kept_at p) keys ≡ Some i)) [
      | Some i ↦ λ is. (i, is)
      | None ↦ λ is. let none = kept_key-none keys p is in cc
    ] refl

-- a key that is found stands in the table under its position
pub Contains-kept_key : (keys : List Kept) (p : Position) (key : List ℕ) → kept_key keys p ≡ Some key
    → Contains keys (record { position = p; key = record { bytes = key } })
Contains-kept_key keys p key found =
    let place = place_of_key keys p (ap is_some found) in
    let entry : List ℕ → Position → Kept = λ bytes at. record { position = at; key = record { bytes = bytes } } in
    let there : Kept = get_or keys place.0 (entry key p) in
    let passes = position-Some (is_kept_at p) keys place.0 (entry key p) place.1 in
    let at : there.position ≡ p = is_kept_at-true p there passes.1 in
    let given : Some there.key.bytes ≡ Some key = sym (kept_key-at keys p place.0 (entry key p) place.1) ∙ found in
    let bytes : there.key.bytes ≡ key = cc in
    (place.0, passes.0, ap₂ entry bytes at)

-- one key goes
pub length-without : (keys : List Kept) (p : Position) → IsAscending keys → IsSome (kept_key keys p) → length (without keys p) + 1 ≡ length keys
length-without keys p up there =
    let place = place_of_key keys p there in
    rw (without-at keys p place.0 up place.1) (length-remove keys place.0 (position-below keys p place.0 place.1))

-- a table stays in order
pub IsAscending-without : (keys : List Kept) (p : Position) → IsAscending keys → IsAscending (without keys p)
unfolding without
IsAscending-without keys p up = AllPairs-filter (λ (a b : Kept). IsBefore a.position b.position) (λ kept. not (is_kept_at p kept)) keys up
