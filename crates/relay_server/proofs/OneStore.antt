-- One store of many has another record: the others are as they were.
use Rattle.std.proofs.Common.{◌≡◌, ◌≢◌, inl, inr, ℕ, zero, suc, ◌<◌, ◌≤◌, Bool, true, List, [], ◌∷◌, length, Option, Some, None, refl, sym, ◌∙◌, ap, subst, arith}
use Rattle.std.specs.Prelude.{slice_get}
use Rattle.std.proofs.lemmas.Bool.{cases_eq}
use Rattle.std.proofs.lemmas.Option.{slice_get_within}
use Rattle.dr_disk.specs.State.{Always, DiskState}
use Rattle.slot_store.specs.Areas.{Area, IsSameOutsideArea}
use Rattle.slot_store.specs.Laws.{DependsOnAreaAlone, SameWithin}
use Rattle.slot_store.specs.Reading.{IsUndamaged, OpensAs}
use Rattle.slot_store.specs.Records.{stored_record}
use Rattle.slot_store.specs.Store.{KeepsOutsideArea, Rests, SlotStore}
use Rattle.relay_core.specs.declared.limits.TheConstants.{RELAY_LIMIT}
use Rattle.relay_server.specs.Durable.{IsReplaced}
use Rattle.relay_server.specs.Places.{area_of}
use Rattle.relay_server.proofs.Behind.{area_apart}

pub there_is : {X : Type 0} (xs : List X) (k : ℕ) → k < length xs → (x : X) × (slice_get xs k ≡ Some x)
there_is [] k inside = absurd (omega (arith, inside))
there_is (x ∷ xs) zero inside = (x, refl)
there_is (x ∷ xs) (suc k) inside = there_is xs k (omega (arith, inside))

-- what changes in one area alone is the same in each other
pub apart : (j k : ℕ) (c d : List ℕ) → j < RELAY_LIMIT → k < RELAY_LIMIT → j ≢ k → IsSameOutsideArea (area_of k) d c → SameWithin (area_of j) c d
apart j k c d few_j few_k other same = record {
  size = same.size;
  bytes = λ i inside. same.outside i (area_apart j k i few_j few_k other inside);
}

-- what is the same within an area is read without damage alike
by_content : DependsOnAreaAlone → (area : Area) (c d : List ℕ) → SameWithin area c d → (o : Option (List ℕ)) → OpensAs area o d → OpensAs area o c
by_content local area c d same None opens = λ fault_at. local.reads fault_at area c d same ∙ opens fault_at
by_content local area c d same (Some text) opens = λ fault_at clean. local.reads fault_at area c d same ∙ opens fault_at clean

pub same_undamaged : DependsOnAreaAlone → (area : Area) (c d : List ℕ) → SameWithin area c d → IsUndamaged area d → IsUndamaged area c
same_undamaged local area c d same whole = subst (λ (o : Option (List ℕ)). OpensAs area o c) (sym (local.record_of area c d same))
    (by_content local area c d same (stored_record area d) whole)

-- the store at a place was replaced
pub record OneReplaced (n : ℕ) (stores news : List SlotStore) (t : List ℕ) (start now : DiskState) (done : Bool) : Type 0 where
  pub areas : (k : ℕ) (store : SlotStore) → slice_get stores k ≡ Some store → store.area ≡ area_of k
  pub rests : (k : ℕ) (store : SlotStore) → slice_get stores k ≡ Some store → Always (Rests store) start
  pub few : length stores ≤ RELAY_LIMIT
  pub inside : n < length stores
  pub count : length news ≡ length stores
  pub others : (j : ℕ) → j ≢ n → slice_get news j ≡ slice_get stores j
  pub there : (old new : SlotStore) → slice_get stores n ≡ Some old → slice_get news n ≡ Some new → IsReplaced t old new start now done
  pub local : DependsOnAreaAlone

module _ (n : ℕ) (stores news : List SlotStore) (t : List ℕ) (start now : DiskState) (done : Bool) (r : OneReplaced n stores news t start now done) where
  -- before and after
  pub old_store : (s : SlotStore) × (slice_get stores n ≡ Some s)
  old_store = there_is stores n r.inside

  pub new_store : (s : SlotStore) × (slice_get news n ≡ Some s)
  new_store = there_is news n (omega (arith, r.inside, r.count))

  pub is_replaced : IsReplaced t old_store.0 new_store.0 start now done
  is_replaced = r.there old_store.0 new_store.0 old_store.1 new_store.1

  pub is_new : (j : ℕ) (store : SlotStore) → j ≡ n → slice_get news j ≡ Some store → new_store.0 ≡ store
  is_new j store same there =
      let e : Some new_store.0 ≡ Some store = sym new_store.1 ∙ subst (λ (m : ℕ). slice_get news m ≡ Some store) same there in cc

  pub around_area : (c : List ℕ) → KeepsOutsideArea old_store.0.area start c
      → KeepsOutsideArea (area_of n) start c
  around_area c f = subst (λ (a : Area). KeepsOutsideArea a start c) (r.areas n old_store.0 old_store.1) f

  few_at : (j : ℕ) (store : SlotStore) → slice_get stores j ≡ Some store → j < RELAY_LIMIT
  few_at j store there = let inside = slice_get_within stores j store there in omega (arith, inside, r.few)

  few_here : n < RELAY_LIMIT
  few_here = omega (arith, r.inside, r.few)

  pub new_areas : (j : ℕ) (store : SlotStore) → slice_get news j ≡ Some store → store.area ≡ area_of j
  new_areas j store there = elim (cases_eq j n) [
    | inl same ↦
        ap (λ (s : SlotStore). s.area) (sym (is_new j store same there)) ∙ is_replaced.same ∙ r.areas n old_store.0 old_store.1
        ∙ ap area_of (sym same)
    | inr other ↦ r.areas j store (sym (r.others j other) ∙ there)
  ]

  pub new_rests : done ≡ true → (j : ℕ) (store : SlotStore) → slice_get news j ≡ Some store → Always (Rests store) now
  new_rests passed j store there c left = elim (cases_eq j n) [
    | inl same ↦ subst (λ (s : SlotStore). Rests s c) (is_new j store same there) (is_replaced.rests passed c left)
    | inr other ↦
        let was : slice_get stores j ≡ Some store = sym (r.others j other) ∙ there in
        let frame = around_area c (is_replaced.outside passed c left) in
        let area = r.areas j store was in
        r.local.rests store c frame.0
        (subst (λ (a : Area). SameWithin a c frame.0) (sym area) (apart j n c frame.0 (few_at j store was) few_here other frame.2))
        (r.rests j store was frame.0 frame.1)
  ]
