-- Entries without a fault are numbers of the area's pages.
use Rattle.std.proofs.Common.{◌≡◌, ℕ, ◌<◌, All, Bool, false, List, [], ◌∷◌, length, replicate, None, refl, sym, ◌∙◌, ap, subst, arith}
use Rattle.std.proofs.lemmas.List.{length-replicate}
use Rattle.std.proofs.lemmas.List.Elements.{All-weaker}
use Rattle.pages.specs.Layouts.{IsPage}
use Rattle.record_pages.specs.Tables.{entry_fault}
use Rattle.record_pages.proofs.LawfulEntries.{entries_lawful}
use Rattle.slot_store.specs.Areas.{Area, layout_of}

pub entries_within : (area : Area) (numbers : List ℕ) → entry_fault 2 area.pages [] 6 numbers ≡ None → All (IsPage (layout_of area)) numbers
entries_within area numbers is = (entries_lawful 2 area.pages numbers is).within

-- where there are none none is at fault
pub none_entries : (pages : ℕ) (numbers : List ℕ) → length numbers ≡ 0 → entry_fault 2 pages [] 6 numbers ≡ None
none_entries pages [] is = refl
none_entries pages (n ∷ numbers) is = absurd (omega arith)

-- each has a mark in a list of one for each page
pub entries_inside : (area : Area) (given numbers : List ℕ) (named : List Bool) → given ≡ numbers → named ≡ replicate area.pages false
    → entry_fault 2 area.pages [] 6 numbers ≡ None → All (λ n. n < length named) given
entries_inside area given numbers named same marks is =
    let long : length named ≡ area.pages = ap length marks ∙ length-replicate area.pages false in
    subst (λ (ns : List ℕ). All (λ n. n < length named) ns) (sym same)
    (All-weaker (IsPage (layout_of area)) (λ n. n < length named) (λ n page. omega (arith, page.1, long)) numbers
    (entries_within area numbers is))
