-- A record in memory and the text that takes its place: what the plan gives.
use Rattle.std.proofs.Common.{◌≡◌, ℕ, ◌-◌, ◌*◌, ◌<◌, ◌≤◌, List, [], length, take, drop, replicate, None, sym, ◌∙◌, ap, ap₂, arith, length-drop, length-take-le}
use Rattle.dr_base.specs.declared.limits.TheConstants.{PAGE}
use Rattle.record_pages.specs.Pages.{cut, page_count, pages_in}
use Rattle.record_pages.specs.Plans.{changed, changed_places, dropped, free_from, numbered}
use Rattle.record_pages.specs.Tables.{entry_fault}
use Rattle.record_pages.proofs.Filled.{count_fits, count_least, pages_in_long}
use Rattle.record_pages.proofs.FreeEnough.{free_enough}
use Rattle.record_pages.proofs.LawfulEntries.{entries_lawful, lawful_entries}
use Rattle.record_pages.proofs.PlanEntries.{ArePlanned, plan_entries}
use Rattle.record_pages.proofs.Renumbered.{changed_few, numbered_long, numbered_short}
use Rattle.paged_records.proofs.Filled.{cut_filled}
use Rattle.paged_records.proofs.Paging.{each_of}
use Rattle.paged_records.specs.declared.kept.Kept.{Kept}
use Rattle.paged_records.specs.Bounded.{Bounds, Fits, IsBounded}
use Rattle.paged_records.specs.Bounded.{free_in}

-- a record in memory, and the numbers of its pages
pub record IsKept (bounds : Bounds) (len : ℕ) (bytes numbers : List ℕ) : Type 0 where
  pub fits : PAGE * length numbers ≤ length bytes
  pub inside : len ≤ length bytes
  pub blank : drop len (take (PAGE * length numbers) bytes) ≡ replicate (PAGE * length numbers - len) 0
  pub each : length numbers ≡ page_count len
  pub few : len ≤ PAGE * bounds.most
  pub entries : entry_fault bounds.least bounds.count [] 6 numbers ≡ None

pub kept_is : (bounds : Bounds) (kept : Kept) → kept.len ≤ PAGE * bounds.most → entry_fault bounds.least bounds.count [] 6 kept.numbers.items ≡ None
    → IsKept bounds kept.len kept.bytes.items kept.numbers.items
kept_is bounds kept few entries = record {
  fits = kept.fits;
  inside = omega (arith, kept.covers, kept.fits);
  blank = kept.blank;
  each = each_of kept;
  few = few;
  entries = entries;
}

-- the free numbers, as they were filled in
pub filled_is : (bounds : Bounds) (numbers now free : List ℕ) (end least : ℕ) → now ≡ numbers
    → end ≡ bounds.count → least ≡ bounds.least → free ≡ free_from now (end - least) least
    → free ≡ free_in bounds numbers
filled_is bounds numbers now free end least is all low filled =
    filled ∙ ap (λ (l : List ℕ). free_from l (end - least) least) is
    ∙ ap₂ (λ k n. free_from numbers (k - n) n) all low

module _ (bounds : Bounds) (lawful : IsBounded bounds) (len : ℕ) (bytes numbers : List ℕ) (kept : IsKept bounds len bytes numbers) where
  pub held_few : length numbers ≤ bounds.most
  held_few = omega (arith, kept.each, count_least len bounds.most kept.few)

  -- its pages, in memory
  pub old_pages : cut (length numbers) bytes ≡ pages_in (take len bytes)
  old_pages =
      sym (cut_filled (length numbers) len bytes kept.each kept.fits (kept.blank ∙ ap (λ k. replicate k 0) (
      let e : PAGE * length numbers - len ≡ length (drop len (take (PAGE * length numbers) bytes)) =
      sym (length-drop len (take (PAGE * length numbers) bytes)
      ∙ ap (λ k. k - len) (length-take-le (PAGE * length numbers) bytes kept.fits)) in e)))

  pub old_long : length numbers ≡ length (pages_in (take len bytes))
  old_long =
      kept.each ∙ ap (λ k. page_count k) (sym (length-take-le len bytes kept.inside))
      ∙ sym (pages_in_long (take len bytes))

  -- ---- and a text that fits
  module _ (text : List ℕ) (fits : Fits bounds text) where
    abbrev pub old : List (List ℕ)
    old = pages_in (take len bytes)

    abbrev pub new : List (List ℕ)
    new = pages_in text

    abbrev pub fresh : List ℕ
    fresh = take (length (changed old new)) (free_in bounds numbers)

    pub free_room : page_count (length text) ≤ length (free_in bounds numbers)
    free_room = omega (arith, fits, held_few, lawful.least, free_enough bounds.least bounds.count numbers)

    pub free_left : length (changed old new) ≤ length (free_in bounds numbers)
    free_left = omega (arith, free_room, changed_few old new, pages_in_long text)

    pub text_short : length text < 4294967296
    text_short = omega (arith, count_fits (length text) bounds.most fits, lawful.named)

    pub plan_is : ArePlanned bounds.least bounds.count old numbers new fresh
    plan_is = plan_entries bounds.least bounds.count old numbers new (entries_lawful bounds.least bounds.count numbers kept.entries) old_long free_left

    pub named_lawful : entry_fault bounds.least bounds.count [] 6 (numbered old numbers new (free_in bounds numbers)) ≡ None
    named_lawful =
        ap (λ (l : List ℕ). entry_fault bounds.least bounds.count [] 6 l) (numbered_short old numbers new (free_in bounds numbers))
        ∙ lawful_entries bounds.least bounds.count (numbered old numbers new fresh) plan_is.named_are

    pub dropped_lawful : entry_fault bounds.least bounds.count [] 6 (dropped old numbers new) ≡ None
    dropped_lawful = lawful_entries bounds.least bounds.count (dropped old numbers new) plan_is.dropped_are

    pub named_long : length (numbered old numbers new (free_in bounds numbers)) ≡ page_count (length text)
    named_long = numbered_long old numbers new (free_in bounds numbers) old_long ∙ pages_in_long text

    -- ---- as the code has it: over these bytes and these free numbers
    module _ (lent given sent : List ℕ) (is : lent ≡ bytes) (free : given ≡ free_in bounds numbers) (said : sent ≡ text) where
      pub given_room : page_count (length sent) ≤ length given
      given_room = omega (arith, free_room, ap (λ (l : List ℕ). length l) free, ap (λ (l : List ℕ). page_count (length l)) said)

      lent_pages : cut (length numbers) lent ≡ old
      lent_pages = ap (λ (l : List ℕ). cut (length numbers) l) is ∙ old_pages

      sent_pages : pages_in sent ≡ new
      sent_pages = ap (λ (l : List ℕ). pages_in l) said

      pub numbers_are : numbered (cut (length numbers) lent) numbers (pages_in sent) given
          ≡ numbered old numbers new (free_in bounds numbers)
      numbers_are =
          ap₂ (λ (k l : List (List ℕ)). numbered k numbers l given) lent_pages sent_pages
          ∙ ap (λ (l : List ℕ). numbered old numbers new l) free

      pub places_are : changed_places 0 (cut (length numbers) lent) (pages_in sent) ≡ changed_places 0 old new
      places_are = ap₂ (λ (k l : List (List ℕ)). changed_places 0 k l) lent_pages sent_pages

      pub dropped_are : dropped (cut (length numbers) lent) numbers (pages_in sent) ≡ dropped old numbers new
      dropped_are = ap₂ (λ (k l : List (List ℕ)). dropped k numbers l) lent_pages sent_pages

      -- the pages of the text, by their new numbers
      pub count_is : (now : List ℕ) → now ≡ numbered (cut (length numbers) lent) numbers (pages_in sent) given
          → length now ≡ page_count (length text)
      count_is now numbered_so = ap (λ (l : List ℕ). length l) (numbered_so ∙ numbers_are) ∙ named_long
