-- The pages that a pager's table names.
use Rattle.std.proofs.Common.{◌≡◌, ℕ, ◌-◌, List, [], replicate, Option, Some, None, refl, ◌∙◌, ap}
use Rattle.dr_base.specs.declared.limits.TheConstants.{PAGE}
use Rattle.record_pages.specs.Tables.{entry_fault, record_names}
use Rattle.slot_store.specs.Areas.{Area, IsArea}
use Rattle.slot_store.specs.Layout.{IsMarked, Mark, laid}
use Rattle.slot_store.proofs.Laid.{laid_names}

-- a table of zeros names none
pub blank_names : record_names (replicate (PAGE - 1) 0) ≡ []
unfolding record_names
blank_names = refl

-- nor does what is laid out for no record; that of a record names the record's pages
module _ (area : Area) (mark : Mark) (text : Option (List ℕ)) (lawful : IsArea area)
    (marked : (kept : List ℕ) → text ≡ Some kept → IsMarked area mark kept) where
  names_as : (o : Option (List ℕ)) → text ≡ o → entry_fault 2 area.pages [] 6 (record_names (laid mark o).table.body) ≡ None
  names_as None is = ap (entry_fault 2 area.pages [] 6) blank_names
  names_as (Some kept) is =
      ap (entry_fault 2 area.pages [] 6) (laid_names area mark kept lawful (marked kept is)) ∙ (marked kept is).entries

  pub laid_entries : entry_fault 2 area.pages [] 6 (record_names (laid mark text).table.body) ≡ None
  laid_entries = names_as text refl
