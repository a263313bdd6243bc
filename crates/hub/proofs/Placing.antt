-- The places of all peers' sessions, and how they are put into a fan.
use Rattle.std.proofs.Common.{Bool, Err, List, None, Ok, Option, Some, [], ap, arith, false, get_or, length, refl, subst, suc, sym, true, zero, ℕ, ◌+◌, ◌++◌, ◌-◌, ◌<◌, ◌∙◌, ◌∷◌, ◌≡◌, ◌≤◌}
use Rattle.std.specs.Prelude.{nat_lt, ◌==◌}
use Rattle.std.proofs.lemmas.Bool.Decides.{nat_tests}
use Rattle.std.proofs.lemmas.List.{length-append}
use Rattle.book.proofs.Places.{under_at}
use Rattle.book.specs.Fanning.{AddsTo, IsUnlisted}
use Rattle.book.specs.Naming.{IsPlaceOf, is_named}
use Rattle.book.specs.declared.fans.list.FanAddError.{FanAddError}
use Rattle.book.specs.declared.fans.list.FanAddError.TheVariants.{FanFull, NoName, Twice}
use Rattle.book.specs.declared.fans.list.TheConstants.{FAN_LIMIT}
use Rattle.book_model.proofs.Names.{same_self}
use Rattle.book_model.specs.Rows.{Row, Rows}
use Rattle.client.specs.Beginning.{begun_client}
use Rattle.kem_laws.specs.Mechanism.{Mechanism}
use Rattle.session_model.specs.Clients.{Client}
use Rattle.hub.specs.Peers.{hub_begin, hub_rows, peer_name, places}
use Rattle.hub.proofs.Names.{apart, row_at_place}

-- ---- one name has one place

module _ (name : List ℕ) (rows : Rows Client) where
  same_place : (a b : ℕ) → IsPlaceOf name rows a → IsPlaceOf name rows b → a ≡ b
  same_place a b p q = by (nat_lt a b) (nat_lt b a) refl refl
    where
      by : (x y : Bool) → nat_lt a b ≡ x → nat_lt b a ≡ y → a ≡ b
      by true y lt is =
          let lower : a < b = grind (arith, nat_tests) in
          absurd (let e : true ≡ false = sym p.named ∙ q.first a lower in cc)
      by false true isnt lt =
          let lower : b < a = grind (arith, nat_tests) in
          absurd (let e : true ≡ false = sym q.named ∙ p.first b lower in cc)
      by false false isnt is = grind (arith, nat_tests)

  has_row : (o : Option (Row Client)) → is_named name o ≡ true → (row : Row Client) × (o ≡ Some row)
  has_row None named = absurd (let e : false ≡ true = named in cc)
  has_row (Some row) named = (row, refl)

  -- ---- the session of a place is added, in which it isn't yet

  module _ (at : ℕ) (place : IsPlaceOf name rows at) (old new : List ℕ) (unlisted : IsUnlisted at old)
      (room : length old < FAN_LIMIT) where
    pub is_added : AddsTo name rows old new (Ok tt) → new ≡ old ++ at ∷ []
    is_added adds = adds.4 ∙ ap (λ i. old ++ i ∷ []) (same_place adds.0 at adds.1 place)

    pub not_refused : (e : FanAddError) → AddsTo name rows old new (Err e) → ⊥
    not_refused NoName adds =
        let row = has_row (get_or rows at None) place.named in
        let e : None ≡ Some row.0.kept = sym adds.0 ∙ under_at name rows at row.0 place row.1 in cc
    not_refused Twice adds =
        let listed = adds.2 in
        unlisted listed.0 listed.1 (listed.2 ∙ same_place adds.0 at adds.1 place)
    not_refused FanFull adds = omega (arith, room, adds.3)

-- ---- the place of a peer's session

pub placed : (k : Mechanism) (peers j : ℕ) → j < peers → peers ≤ 8 → IsPlaceOf (peer_name (suc j)) (hub_rows k peers) j
placed k peers j lt few = record {
  named = ap (is_named (peer_name (suc j))) (row_at_place c peers j lt) ∙ same_self (peer_name (suc j));
  first = λ q less.
      ap (is_named (peer_name (suc j))) (row_at_place c peers q (omega (arith, less, lt)))
      ∙ apart (suc q) (suc j) (omega (arith, less)) (omega (arith, lt, few));
}
  where
    c : ℕ → Client
    c number = begun_client k (hub_begin number)

-- ---- the places in a fan

pub places_long : (n : ℕ) → length (places n) ≡ n
places_long zero = refl
places_long (suc n) = length-append {A = ℕ} (places n) (n ∷ [])
    ∙ (let e : length (places n) + 1 ≡ suc n = omega (arith, places_long n) in e)

at_front : (xs ys : List ℕ) (i : ℕ) → i < length xs → get_or (xs ++ ys) i 0 ≡ get_or xs i 0
at_front [] ys i lt = absurd (let e : ⊥ = omega (arith, lt) in e)
at_front (x ∷ xs) ys zero lt = refl
at_front (x ∷ xs) ys (suc i) lt = at_front xs ys i (omega (arith, lt))

at_end : (xs : List ℕ) (y : ℕ) → get_or (xs ++ y ∷ []) (length xs) 0 ≡ y
at_end [] y = refl
at_end (x ∷ xs) y = at_end xs y

pub places_at : (n i : ℕ) → i < n → get_or (places n) i 0 ≡ i
places_at zero i lt = absurd (let e : ⊥ = omega (arith, lt) in e)
places_at (suc n) i lt = by (i == n) refl (λ lower. places_at n i lower)
  where
    by : (b : Bool) → (i == n) ≡ b → (i < n → get_or (places n) i 0 ≡ i) → get_or (places n ++ n ∷ []) i 0 ≡ i
    by true is before =
        let same : i ≡ n = grind (arith, nat_tests) in
        ap (λ j. get_or (places n ++ n ∷ []) j 0) (same ∙ sym (places_long n)) ∙ at_end (places n) n ∙ sym same
    by false isnt before =
        let lower : i < n = grind (arith, nat_tests) in
        at_front (places n) (n ∷ []) i (omega (arith, lower, places_long n)) ∙ before lower

-- the next isn't among them
pub next_unlisted : (n : ℕ) → IsUnlisted n (places n)
next_unlisted n = λ i lt is.
    let lower : i < n = omega (arith, lt, places_long n) in
    let e : ⊥ = omega (arith, lower, sym (places_at n i lower) ∙ is) in e

-- ---- as a loop has them, that adds one after the other

same_number : (at : ℕ) → suc at ≡ at + 1
same_number at = omega arith

same_at : (at : ℕ) → at ≡ at + 1 - 1
same_at at = omega arith

pub placed_next : (k : Mechanism) (peers at : ℕ) (rows : Rows Client) → rows ≡ hub_rows k peers → at < peers → peers ≤ 8
    → IsPlaceOf (peer_name (at + 1)) rows (at + 1 - 1)
placed_next k peers at rows is lt few =
    subst (λ (r : Rows Client). IsPlaceOf (peer_name (at + 1)) r (at + 1 - 1)) (sym is)
    (subst (λ n. IsPlaceOf (peer_name n) (hub_rows k peers) (at + 1 - 1)) (same_number at)
    (subst (λ q. IsPlaceOf (peer_name (suc at)) (hub_rows k peers) q) (same_at at) (placed k peers at lt few)))

pub unlisted_next : (at : ℕ) (list : List ℕ) → list ≡ places at → IsUnlisted (at + 1 - 1) list
unlisted_next at list is =
    subst (λ (l : List ℕ). IsUnlisted (at + 1 - 1) l) (sym is)
    (subst (λ q. IsUnlisted q (places at)) (same_at at) (next_unlisted at))

pub one_more_place : (at : ℕ) (old new : List ℕ) → old ≡ places at → new ≡ old ++ (at + 1 - 1) ∷ []
    → new ≡ places (at + 1)
one_more_place at old new is adds =
    adds ∙ ap (λ (l : List ℕ). l ++ (at + 1 - 1) ∷ []) is
    ∙ ap (λ q. places at ++ q ∷ []) (sym (same_at at)) ∙ ap places (same_number at)
