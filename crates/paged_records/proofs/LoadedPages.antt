-- What was read into memory by a table without a fault.
use Rattle.std.proofs.Common.{◌≡◌, ℕ, ◌+◌, ◌-◌, ◌*◌, ◌≤◌, List, [], length, take, drop, map, replicate, Option, Some, None, refl, sym, ◌∙◌, ap, ap₂, arith, length-drop}
use Rattle.std.proofs.lemmas.List.{take_all}
use Rattle.std.proofs.lemmas.List.Elements.{All-get_or}
use Rattle.dr_base.specs.declared.limits.TheConstants.{PAGE}
use Rattle.pages.specs.declared.layout.Layout.{Layout}
use Rattle.pages.specs.Snapshots.{page_of}
use Rattle.pages.specs.Writing.{ArePages}
use Rattle.record_pages.specs.Pages.{cut, joined, page_count, pages_in}
use Rattle.record_pages.specs.Tables.{entry_fault, length_in, nonzero_from, or_else, record_names, table_fault}
use Rattle.record_pages.proofs.LawfulEntries.{IsEntry, entries_lawful}
use Rattle.paged_records.specs.Bounded.{Bounds}
use Rattle.paged_records.specs.Loading.{pages_named}
use Rattle.paged_records.specs.Faults.{behind_table, fault_in, record_fault}
use Rattle.paged_records.proofs.Filled.{cut_filled, page_room}
use Rattle.paged_records.proofs.Printed.{all_zeros, names_long, sound}
use Rattle.paged_records.proofs.ReadPages.{joined_cut}

-- no fault in the record, and none behind it
pub behind_none : (r z : Option ℕ) → behind_table (or_else r z) ≡ None → (r ≡ None) × (z ≡ None)
behind_none None None is = (refl, refl)
behind_none None (Some at) is = absurd (let e : Some (PAGE + at) ≡ None = is in cc)
behind_none (Some at) z is = absurd (let e : Some (PAGE + at) ≡ None = is in cc)

-- as code was told
pub faultless_by : (bounds : Bounds) (k p m : ℕ) (body : List ℕ) (r : Option ℕ) → k ≡ bounds.least → p ≡ bounds.count → m ≡ bounds.most
    → r ≡ table_fault k p m body → r ≡ None → table_fault bounds.least bounds.count bounds.most body ≡ None
faultless_by bounds k p m body r least end most is none =
    (λ i. table_fault (sym least i) (sym end i) (sym most i) body) ∙ sym is ∙ none

module _ (bounds : Bounds) (body numbers : List ℕ) (len : ℕ)
    (faultless : table_fault bounds.least bounds.count bounds.most body ≡ None) (names : numbers ≡ record_names body)
    (says : len ≡ length_in body) where
  pub count : length numbers ≡ page_count len
  count = ap (λ (l : List ℕ). length l) names ∙ names_long body ∙ ap page_count (sym says)

  pub few : length numbers ≤ bounds.most
  few = omega (arith, count, ap page_count says, (sound bounds.least bounds.count bounds.most body faultless).fits)

  pub fits : len ≤ PAGE * length numbers
  fits = omega (arith, page_room len, count)

  pub lawful_entries : entry_fault bounds.least bounds.count [] 6 numbers ≡ None
  lawful_entries = ap (entry_fault bounds.least bounds.count [] 6) names ∙ (sound bounds.least bounds.count bounds.most body faultless).entries

  pub are_pages : (l : Layout) → l.least ≡ bounds.least → l.count ≡ bounds.count → ArePages l numbers
  are_pages l least end j lt =
      let is = All-get_or (IsEntry bounds.least bounds.count) numbers j 0 lt (entries_lawful bounds.least bounds.count numbers lawful_entries).within in
      (omega (arith, is.0, least), omega (arith, is.1, end))

  module _ (l : Layout) (bytes s : List ℕ) (size : length bytes ≡ PAGE * length numbers)
      (read : cut (length numbers) bytes ≡ map (page_of l s) numbers) where
    whole : take (PAGE * length numbers) bytes ≡ bytes
    whole = take_all (PAGE * length numbers) bytes (omega (arith, size))

    named : pages_named l body s ≡ cut (length numbers) bytes
    named = ap (λ (ns : List ℕ). map (page_of l s) ns) (sym names) ∙ sym read

    -- a fault in the pages
    pub loaded_fault : (fault_at : List ℕ → Option ℕ) (r : Option ℕ)
        → r ≡ behind_table (or_else (fault_at (take len bytes)) (nonzero_from len (drop len bytes)))
        → fault_in fault_at bounds body (pages_named l body s) ≡ r
    loaded_fault fault_at r is =
        ap (λ f. or_else f (behind_table (record_fault fault_at body (pages_named l body s)))) faultless
        ∙ ap₂ (λ k (l : List ℕ). behind_table (or_else (fault_at (take k l)) (nonzero_from k (drop k l)))) (sym says)
        (ap joined named ∙ joined_cut (length numbers) bytes ∙ whole)
        ∙ sym is

    -- no fault: the pages are the record's
    pub loaded_pages : nonzero_from len (drop len bytes) ≡ None → pages_named l body s ≡ pages_in (take len bytes)
    loaded_pages none = named ∙ sym (cut_filled (length numbers) len bytes count (omega (arith, size))
        (all_zeros (drop len (take (PAGE * length numbers) bytes)) len (ap (λ (l : List ℕ). nonzero_from len (drop len l)) whole ∙ none)))

  -- behind the record its pages have zeros
  pub loaded_blank : (bytes : List ℕ) → length bytes ≡ PAGE * length numbers → nonzero_from len (drop len bytes) ≡ None
      → drop len (take (PAGE * length numbers) bytes) ≡ replicate (PAGE * length numbers - len) 0
  loaded_blank bytes size none =
      ap (λ (l : List ℕ). drop len l) (take_all (PAGE * length numbers) bytes (omega (arith, size)))
      ∙ all_zeros (drop len bytes) len none
      ∙ ap (λ k. replicate k 0) (length-drop len bytes ∙ ap (λ k. k - len) size)
