-- Boxes that are loaded from their stores.
use Rattle.std.proofs.Common.{◌≡◌, ◌≢◌, inl, inr, ℕ, zero, suc, ◌+◌, ◌<◌, ◌≤◌, List, [], ◌∷◌, length, Option, Some, None, Result, Ok, Err, refl, sym, ◌∙◌, ap, subst, arith}
use Rattle.std.specs.Prelude.{IfOk, IfSome, slice_get, slice_set}
use Rattle.std.proofs.lemmas.Bool.{cases_eq}
use Rattle.slot_store.specs.Store.{SlotStore, content}
use Rattle.grammar.specs.Reader.{number}
use Rattle.slot_store.specs.Kept.{content_or_empty}
use Rattle.relay_core.specs.Loading.{Fits, Loads}
use Rattle.relay_core.specs.declared.loading.Loaded.{Loaded}
use Rattle.relay_core.specs.declared.loading.Loaded.TheVariants.{OtherKeys, OtherName, Taken}
use Rattle.relay_core.specs.Boxes.{Box, spec_of}
use Rattle.relay_core.specs.Record.{box_fields, box_read, head_fields}
use Rattle.relay_core.specs.Versions.{version_field}
use Rattle.relay_server.specs.Reading.{box_fault, box_fault_of}
use Rattle.relay_server.specs.Filling.{AreLoaded, IsFirstOthers, IsBoxKept, IsLoadedAt, IsOthers, LoadsSo}
use Rattle.relay_server.proofs.OneStore.{there_is}

-- ---- a record is never empty

pub no_record : box_fault [] ≡ Some 0
unfolding box_read box_fields head_fields version_field number
no_record = refl

-- a store without a record
pub none_clean : (o : Option (List ℕ)) → ((text : List ℕ) → o ≡ Some text → box_fault text ≡ None) → length (content_or_empty o) ≡ 0 → o ≡ None
none_clean None clean is = refl
none_clean (Some []) clean is = absurd (let e : Some 0 ≡ None = sym no_record ∙ clean [] refl in cc)
none_clean (Some (x ∷ text)) clean is = absurd (omega (arith, is))

pub some_there : (o : Option (List ℕ)) (text : List ℕ) → text ≡ content_or_empty o → (length text ≡ 0 → ⊥) → o ≡ Some text
some_there None text is more = absurd (more (ap length is))
some_there (Some t) text is more = ap (λ (x : List ℕ). Some x) (sym is)

-- ---- one box

ok_of : (r : Result Box ℕ) → box_fault_of r ≡ None → (b : Box) × (r ≡ Ok b)
ok_of (Ok b) is = (b, refl)
ok_of (Err at) is = absurd (let e : Some at ≡ None = is in cc)

set_here : (xs : List Box) (k : ℕ) (v x : Box) → slice_get (slice_set xs k v) k ≡ Some x → x ≡ v
set_here [] k v x is = absurd (let e : None ≡ Some x = is in cc)
set_here (y ∷ xs) zero v x is = let e : Some v ≡ Some x = is in cc
set_here (y ∷ xs) (suc k) v x is = set_here xs k v x is

set_others : (xs : List Box) (k : ℕ) (v : Box) (j : ℕ) → j ≢ k → slice_get (slice_set xs k v) j ≡ slice_get xs j
set_others [] k v j other = refl
set_others (y ∷ xs) zero v zero other = absurd (other refl)
set_others (y ∷ xs) zero v (suc j) other = refl
set_others (y ∷ xs) (suc k) v zero other = refl
set_others (y ∷ xs) (suc k) v (suc j) other = set_others xs k v j (λ same. other (ap suc same))

fits_so : (how : Loaded) (o : Option Box) (was box : Box) → o ≡ Some was → IfSome o (λ b. Fits how (spec_of b) box) → Fits how (spec_of was) box
fits_so how o was box is all = subst (λ (x : Option Box). IfSome x (λ b. Fits how (spec_of b) box)) is all

module _ (old new : List Box) (k : ℕ) (text : List ℕ) (clean : box_fault text ≡ None) where
  read : (b : Box) × (box_read text ≡ Ok b)
  read = ok_of (box_read text) clean

  pub taken : length new ≡ length old → IfOk (box_read text) (λ box. Loads old new k box Taken) → IsLoadedAt k old new (Some text)
  taken count loads =
      let done = subst (λ (r : Result Box ℕ). IfOk r (λ box. Loads old new k box Taken)) read.1 loads in (
        count,
        λ j other. ap (λ (bs : List Box). slice_get bs j) done.next ∙ set_others old k read.0 j other,
        λ was box wased boxed.
            let same : box ≡ read.0 = set_here old k read.0 box (ap (λ (bs : List Box). slice_get bs k) (sym done.next) ∙ boxed) in (
              read.1 ∙ ap (λ (b : Box). Ok b) (sym same),
              ap spec_of same ∙ fits_so Taken (slice_get old k) was read.0 wased done.fits,
            ),
      )

  pub refused : (how : Loaded) → IfOk (box_read text) (λ box. Loads old new k box how) → (was : Box) → slice_get old k ≡ Some was
      → IsOthers how was (Some text)
  refused how loads was wased =
      let done = subst (λ (r : Result Box ℕ). IfOk r (λ box. Loads old new k box how)) read.1 loads in
      (read.0, read.1, fits_so how (slice_get old k) was read.0 wased done.fits)

  -- what became of the box, by what the record is
  pub loads_so : (how : Loaded) → length new ≡ length old → IfOk (box_read text) (λ box. Loads old new k box how)
      → LoadsSo how k old new (Some text)
  loads_so Taken count loads = taken count loads
  loads_so OtherName count loads = refused OtherName loads
  loads_so OtherKeys count loads = refused OtherKeys loads

pub unchanged : (old : List Box) (k : ℕ) (o : Option (List ℕ)) → o ≡ None → IsLoadedAt k old old o
unchanged old k o is = subst (IsLoadedAt k old old) (sym is) (refl, λ j other. refl, λ was box wased boxed. let e : Some was ≡ Some box = sym wased ∙ boxed in let f : was ≡ box = cc in sym f)

-- ---- all boxes

from_itself : (n : ℕ) → n ≤ n
from_itself n = omega arith

pub none_loaded : (old : List Box) (stores : List SlotStore) → AreLoaded 0 old old stores
none_loaded old stores = record {
  count = refl;
  loaded = λ k was box store less. absurd (omega (arith, less));
  others = λ k from. refl;
}

pub loaded_on : (n : ℕ) (old boxes news : List Box) (stores : List SlotStore) (store : SlotStore) → AreLoaded n old boxes stores → slice_get stores n ≡ Some store
    → IsLoadedAt n boxes news (content store) → AreLoaded (n + 1) old news stores
loaded_on n old boxes news stores store so_far here one = record {
  count = one.0 ∙ so_far.count;
  loaded = λ k was box other less wased boxed there. elim (cases_eq k n) [
    | inl same ↦
        let at : slice_get stores n ≡ Some other = subst (λ (m : ℕ). slice_get stores m ≡ Some other) same there in
        let e : Some store ≡ Some other = sym here ∙ at in
        let f : store ≡ other = cc in
        let first : slice_get boxes n ≡ Some was = so_far.others n (from_itself n) ∙ subst (λ (m : ℕ). slice_get old m ≡ Some was) same wased in
        subst (λ (x : SlotStore). IsBoxKept was box (content x)) f (one.2 was box first (subst (λ (m : ℕ). slice_get news m ≡ Some box) same boxed))
    | inr another ↦ so_far.loaded k was box other (omega (arith, less, another)) wased (sym (one.1 k another) ∙ boxed) there
  ];
  others = λ k from. one.1 k (λ same. omega (arith, same, from)) ∙ so_far.others k (omega (arith, from));
}

pub others_first : (how : Loaded) (n : ℕ) (old boxes : List Box) (stores : List SlotStore) (store : SlotStore) → AreLoaded n old boxes stores
    → n < length old → slice_get stores n ≡ Some store
    → ((was : Box) → slice_get boxes n ≡ Some was → IsOthers how was (content store)) → IsFirstOthers how n old stores
others_first how n old boxes stores store so_far inside here other = record {
  inside = inside;
  before = λ j was found less wased there.
      let box = there_is boxes j (omega (arith, less, inside, so_far.count)) in
      (box.0, so_far.loaded j was box.0 found less wased box.1 there);
  here = λ was found wased there.
      let e : Some store ≡ Some found = sym here ∙ there in
      let f : store ≡ found = cc in
      subst (λ (x : SlotStore). IsOthers how was (content x)) f (other was (so_far.others n (from_itself n) ∙ wased));
}
