-- What is known of two tables, by which of them counts.
use Rattle.std.proofs.Common.{◌≡◌, ◌⊎◌, inl, inr, ⊎_elim, ℕ, ◌≤◌, Bool, true, false, List, map, refl, sym, ◌∙◌, ap, subst, arith}
use Rattle.std.specs.Prelude.{not, ◌==◌}
use Rattle.std.proofs.lemmas.Bool.Decides.{nat_tests}
use Rattle.pages.specs.declared.layout.Layout.{Layout}
use Rattle.pages.specs.declared.layout.TheConstants.{OPEN}
use Rattle.pages.specs.Tables.{Comes, TableStanding, Table, alike, counts, is_open, turn_after, none_open, open_table, pick, tables_standing, standing_of, table_at, table_turn}
use Rattle.pages.specs.Snapshots.{Snapshot, no_shot, page_of, shot, shot_of, unclear}
use Rattle.pages.specs.Tidying.{IsMute}
use Rattle.pages.proofs.Newest.{not_not}

pub gate_open : (t : Table) → is_open t ≡ true → t.gate ≡ OPEN
gate_open t is = grind (arith, nat_tests)

pub open_by_turn : (t : Table) → t.gate ≡ OPEN → 1 ≤ table_turn t → table_turn t ≤ 3 → is_open t ≡ true
open_by_turn t gate low high = grind (arith, nat_tests)

pub open_as : (t : Table) → t.gate ≡ OPEN → t ≡ open_table t.body
open_as t gate = λ i. record { gate = gate i; body = t.body }

-- ---- the table that counts, and the one beside it

pub record IsNewer (cur other : Table) : Type 0 where
  pub opened : is_open cur ≡ true
  pub passive : (is_open other ≡ false) ⊎ Comes other cur

comes : (a b : Table) → is_open b ≡ true → (table_turn b == turn_after (table_turn a)) ≡ true → Comes a b
comes a b opened follows = record {
  opened = opened;
  next = λ low high. let e : table_turn b ≡ turn_after (table_turn a) = grind (arith, nat_tests) in e;
}

newer : (a b : Table) → is_open b ≡ true
    → (is_open a ≡ false) ⊎ ((table_turn b == turn_after (table_turn a)) ≡ true) → IsNewer b a
newer a b opened (inl shut) = record { opened = opened; passive = inl shut }
newer a b opened (inr follows) = record { opened = opened; passive = inr (comes a b opened follows) }

same : (j : Bool) (y : Table) (k : Bool) (x : Table) → counts j y ≡ counts k x → (j ≡ k) × (y ≡ x)
same j y k x h = (cc, cc)

by_tests : (oa ob t u : Bool) (a b : Table) (k : Bool) (x : Table) → pick oa ob t u a b ≡ counts k x
    → ((true ≡ k) × (b ≡ x) × (ob ≡ true) × ((oa ≡ false) ⊎ (t ≡ true)))
    ⊎ ((false ≡ k) × (a ≡ x) × (oa ≡ true) × ((ob ≡ false) ⊎ (u ≡ true)))
by_tests true true true u a b k x h = let s = same true b k x h in inl (s.0, s.1, refl, inr refl)
by_tests true true false true a b k x h = let s = same false a k x h in inr (s.0, s.1, refl, inr refl)
by_tests true true false false a b k x h = absurd (let e : alike ≡ counts k x = h in cc)
by_tests true false t u a b k x h = let s = same false a k x h in inr (s.0, s.1, refl, inl refl)
by_tests false true t u a b k x h = let s = same true b k x h in inl (s.0, s.1, refl, inl refl)
by_tests false false t u a b k x h = absurd (let e : none_open ≡ counts k x = h in cc)

none_tests : (oa ob t u : Bool) (a b : Table) → pick oa ob t u a b ≡ none_open → (oa ≡ false) × (ob ≡ false)
none_tests true true true u a b h = absurd (let e : counts true b ≡ none_open = h in cc)
none_tests true true false true a b h = absurd (let e : counts false a ≡ none_open = h in cc)
none_tests true true false false a b h = absurd (let e : alike ≡ none_open = h in cc)
none_tests true false t u a b h = absurd (let e : counts false a ≡ none_open = h in cc)
none_tests false true t u a b h = absurd (let e : counts true b ≡ none_open = h in cc)
none_tests false false t u a b h = (refl, refl)

pub counts_opened : (a b : Table) (k : Bool) (t : Table) → standing_of a b ≡ counts k t → is_open t ≡ true
counts_opened a b k t is = ⊎_elim (λ s. ap is_open (sym s.1) ∙ s.2) (λ s. ap is_open (sym s.1) ∙ s.2)
    (by_tests (is_open a) (is_open b) _ _ a b k t is)

module _ (l : Layout) (c : List ℕ) where
  pub all_closed : tables_standing l c ≡ none_open → (k : Bool) → is_open (table_at l k c) ≡ false
  all_closed is k = by k (none_tests (is_open (table_at l false c)) (is_open (table_at l true c)) _ _ _ _ is)
    where
      by : (k : Bool) → (is_open (table_at l false c) ≡ false) × (is_open (table_at l true c) ≡ false)
          → is_open (table_at l k c) ≡ false
      by false both = both.0
      by true both = both.1

  pub current : (k : Bool) (t : Table) → tables_standing l c ≡ counts k t → table_at l k c ≡ t
  current k t is = ⊎_elim
      (λ s. ap (λ j. table_at l j c) (sym s.0) ∙ s.1)
      (λ s. ap (λ j. table_at l j c) (sym s.0) ∙ s.1)
      (by_tests (is_open (table_at l false c)) (is_open (table_at l true c)) _ _ _ _ k t is)

  pub is_newer : (k : Bool) (t : Table) → tables_standing l c ≡ counts k t → IsNewer t (table_at l (not k) c)
  is_newer k t is = ⊎_elim
      (λ s. subst (λ j. IsNewer t (table_at l (not j) c)) s.0
      (subst (λ x. IsNewer x (table_at l false c)) s.1 (newer (table_at l false c) (table_at l true c) s.2 s.3)))
      (λ s. subst (λ j. IsNewer t (table_at l (not j) c)) s.0
      (subst (λ x. IsNewer x (table_at l true c)) s.1 (newer (table_at l true c) (table_at l false c) s.2 s.3)))
      (by_tests (is_open (table_at l false c)) (is_open (table_at l true c)) _ _ _ _ k t is)

  shut_body : (k : Bool) → (table_at l k c).gate ≡ OPEN → is_open (table_at l k c) ≡ false
      → is_open (open_table (table_at l k c).body) ≡ false
  shut_body k gate shut = ap is_open (sym (open_as (table_at l k c) gate)) ∙ shut

  -- a table with an open gate that doesn't count
  pub mute_beside : (k : Bool) (t : Table) → tables_standing l c ≡ counts k t → (table_at l (not k) c).gate ≡ OPEN
      → IsMute l (not k) c
  mute_beside k t is gate = ⊎_elim
      (λ shut. inl (shut_body (not k) gate shut))
      (λ comes. inr (subst (λ j. Comes (table_at l (not k) c) (table_at l j c)) (sym (not_not k))
      (subst (λ x. Comes (table_at l (not k) c) x) (sym (current k t is)) comes)))
      (is_newer k t is).passive

  pub mute_none : (k : Bool) → tables_standing l c ≡ none_open → (table_at l k c).gate ≡ OPEN → IsMute l k c
  mute_none k is gate = inl (shut_body k gate (all_closed is k))

-- ---- back from a shot

module _ (names : List ℕ → List ℕ) (l : Layout) (c : List ℕ) where
  pub shot_back : (o : TableStanding) (s : Snapshot) → shot_of names l c o ≡ shot s
      → (o ≡ counts s.second s.table) × (map (page_of l c) (names s.table.body) ≡ s.pages)
  shot_back none_open s h = absurd (let e : no_shot ≡ shot s = h in cc)
  shot_back alike s h = absurd (let e : unclear ≡ shot s = h in cc)
  shot_back (counts k t) s h =
      let e : (record { second = k; table = t; pages = map (page_of l c) (names t.body) }) ≡ s = shots _ s h in (
        ap (λ (x : Snapshot). counts x.second x.table) e,
        ap (λ (x : Snapshot). map (page_of l c) (names x.table.body)) (sym e) ∙ ap (λ (x : Snapshot). x.pages) e,
      )
    where
      shots : (x y : Snapshot) → shot x ≡ shot y → x ≡ y
      shots x y is = cc

  pub none_back : (o : TableStanding) → shot_of names l c o ≡ no_shot → o ≡ none_open
  none_back none_open h = refl
  none_back alike h = absurd (let e : unclear ≡ no_shot = h in cc)
  none_back (counts k t) h = absurd (let e : shot (record { second = k; table = t; pages = map (page_of l c) (names t.body) }) ≡ no_shot = h in cc)
