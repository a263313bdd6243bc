-- A disk whose area is at rest, and is around that as a settled one was, is settled.
use Rattle.std.proofs.Common.{Bool, List, Some, ap, arith, false, inl, inr, refl, subst, sym, suc, true, zero, ℕ, ⊎_elim, ◌+◌, ◌<◌, ◌∙◌, ◌≡◌, ◌≤◌, ◌⊎◌, length}
use Rattle.std.proofs.lemmas.Bool.{cases_lt}
use Rattle.std.proofs.lemmas.Grind.{same_number_lists}
use Rattle.std.specs.Prelude.{slice_index}
use Rattle.dr_base.specs.declared.limits.TheConstants.{PAGE}
use Rattle.dr_disk.specs.Spans.{StaysTold}
use Rattle.dr_disk.specs.State.{Always, DiskState, IsLawful, IsSettled}
use Rattle.pages.specs.Around.{IsInside, IsOutside}
use Rattle.pages.specs.Layouts.{IsPage, page_place, table_place}
use Rattle.pages.specs.declared.layout.Layout.{Layout}
use Rattle.slot_store.specs.Areas.{Area, IsSameOutsideArea, layout_of}
use Rattle.slot_store.specs.Laws.{IsResting, SameWithin}
use Rattle.slot_store.specs.Store.{KeepsOutsideArea, Rests, SlotStore}
use Rattle.client.specs.Clients.{client_area}

-- a place in a range, or before or behind it
in_range : (at n i : ℕ) → ((at ≤ i) × (i < at + n)) ⊎ ((i < at) ⊎ (at + n ≤ i))
in_range at n i =
    ⊎_elim (λ before. inr (inl before))
    (λ from. ⊎_elim (λ to. inl (from, to)) (λ behind. inr (inr behind)) (cases_lt i (at + n))) (cases_lt i at)

module _ (l : Layout) (i : ℕ) where
  abbrev IsBeside : ℕ → Type 0
  IsBeside m = (i < page_place l m) ⊎ (page_place l m + PAGE ≤ i)

  abbrev InPage : Type 0
  InPage = (m : ℕ) × (IsPage l m) × (page_place l m ≤ i) × (i < page_place l m + PAGE)

  one_more : (n : ℕ) → ((m : ℕ) → IsPage l m → m < n → IsBeside m) → (IsPage l n → IsBeside n)
      → (m : ℕ) → IsPage l m → m < suc n → IsBeside m
  one_more n none last m page lt =
      ⊎_elim (λ before. none m page before)
      (λ from. let same : n ≡ m = omega (arith, lt, from) in
      subst (λ p. IsPage l p → IsBeside p) same last page) (cases_lt m n)

  -- in a page, or in none
  in_page : (n : ℕ) → InPage ⊎ (IsPage l n → IsBeside n)
  in_page n =
      ⊎_elim (λ below. inr (λ page. absurd (omega (arith, page.0, below))))
      (λ low. ⊎_elim (λ high. ⊎_elim (λ there. inl (n, (low, high), there.0, there.1)) (λ beside. inr (λ page. beside))
      (in_range (page_place l n) PAGE i))
      (λ above. inr (λ page. absurd (omega (arith, page.1, above)))) (cases_lt n l.count)) (cases_lt n l.least)

  -- in one of the first pages, or in none of them
  in_pages : (n : ℕ) → InPage ⊎ ((m : ℕ) → IsPage l m → m < n → IsBeside m)
  in_pages zero = inr (λ m page lt. absurd (omega (arith, lt)))
  in_pages (suc n) =
      ⊎_elim (λ there. inl there)
      (λ none. ⊎_elim (λ there. inl there) (λ last. inr (one_more n none last)) (in_page n)) (in_pages n)

  in_tables : ((k : Bool) × (table_place l k ≤ i) × (i < table_place l k + l.table))
      ⊎ ((k : Bool) → (i < table_place l k) ⊎ (table_place l k + l.table ≤ i))
  in_tables =
      ⊎_elim (λ there. inl (false, there.0, there.1))
      (λ first. ⊎_elim (λ there. inl (true, there.0, there.1)) (λ second. inr (by first second)) (in_range l.second l.table i))
      (in_range l.first l.table i)
    where
      by : (i < l.first) ⊎ (l.first + l.table ≤ i) → (i < l.second) ⊎ (l.second + l.table ≤ i)
          → (k : Bool) → (i < table_place l k) ⊎ (table_place l k + l.table ≤ i)
      by first second false = first
      by first second true = second

  in_or_out : IsInside l i ⊎ IsOutside l i
  in_or_out =
      ⊎_elim (λ table. inl (inl table))
      (λ tables. ⊎_elim (λ page. inl (inr page))
      (λ pages. inr (record { tables = tables; pages = λ n page. pages n page page.1 })) (in_pages l.count))
      in_tables

-- what is the same within an area and around it is the same
same_all : (area : Area) (c d : List ℕ) → SameWithin area c d → IsSameOutsideArea area d c → c ≡ d
same_all area c d within around = same_number_lists c d within.size
    (λ i lt. ⊎_elim (λ there. within.bytes i there) (λ out. around.outside i out) (in_or_out (layout_of area) i))

pub still_settled : IsResting → (store : SlotStore) (mid now : DiskState) → store.area ≡ client_area → IsLawful now → IsSettled mid
    → StaysTold mid now → Always (KeepsOutsideArea client_area mid) now → Always (Rests store) now → IsSettled now
still_settled resting store mid now area lawful settled told keeps rests c left =
    let one = keeps c left in
    let seen = settled one.0 one.1 in
    let again = told one.0 seen in
    let image = lawful.seen_now again.0 again.1 in
    let other = keeps again.0 image in
    let same : one.0 ≡ other.0 = let e : Some one.0 ≡ Some other.0 = sym seen ∙ settled other.0 other.1 in cc in
    let long : length c ≡ length again.0 = lawful.sized c left ∙ sym (lawful.sized again.0 image) in
    let around : IsSameOutsideArea client_area again.0 c = record {
      size = long;
      outside = λ i out. one.2.outside i out ∙ ap (λ d. slice_index d i) same ∙ sym (other.2.outside i out);
    } in
    let is : c ≡ again.0 =
    same_all client_area c again.0
    (subst (λ (a : Area). SameWithin a c again.0) area
    (resting.same_bytes store store c again.0 refl refl refl long (rests c left) (rests again.0 image))) around in
    again.1 ∙ ap Some (sym is)
