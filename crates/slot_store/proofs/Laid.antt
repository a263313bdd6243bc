-- What a record that is laid out reads as.
use Rattle.std.proofs.Common.{◌≡◌, ℕ, ◌+◌, ◌-◌, ◌*◌, ◌^◌, ◌≤◌, ◌<◌, true, All, List, [], ◌∷◌, ◌++◌, length, take, drop, replicate, Option, Some, None, refl, sym, ◌∙◌, ap, ap₂, arith}
use Rattle.std.specs.Prelude.{nat_le, if◌then◌else◌, ◌&&◌}
use Rattle.std.specs.Int.{w32, to_be_bytes}
use Rattle.std.proofs.lemmas.Bool.Decides.{nat_tests}
use Rattle.std.proofs.lemmas.List.{length-append, length-replicate, drop-drop}
use Rattle.std.proofs.lemmas.List.Elements.{All-weaker}
use Rattle.std.proofs.Math.Seq.{drop-append_seam}
use Rattle.dr_base.specs.declared.limits.TheConstants.{PAGE}
use Rattle.pages.specs.Layouts.{IsPage}
use Rattle.pages.specs.Snapshots.{kept_shot, no_shot, shot}
use Rattle.pages.specs.Tables.{is_open, open_table}
use Rattle.record_pages.specs.declared.limits.TheConstants.{NAMED_LIMIT}
use Rattle.record_pages.specs.Pages.{joined, page_count, pages_in}
use Rattle.record_pages.specs.Tables.{entry_fault, length_in, nonzero_from, or_else, printed, record_names, table_body, table_fault}
use Rattle.record_pages.proofs.Filled.{count_covers}
use Rattle.record_pages.proofs.Planned.{read_back}
use Rattle.record_pages.proofs.TableTexts.{length_back, names_back}
use Rattle.paged_records.specs.Faults.{behind_table, record_in}
use Rattle.slot_store.specs.Areas.{Area, IsArea, layout_of}
use Rattle.slot_store.specs.Layout.{IsMarked, Mark, laid, table_for}
use Rattle.slot_store.specs.Reading.{fault_in, holds, judged, read_as}
use Rattle.slot_store.specs.Records.{faultless, record_shown}
use Rattle.slot_store.proofs.Entries.{entries_within}
use Rattle.slot_store.proofs.Joined.{joined_rest, zeros_none}

printed_long : (numbers : List ℕ) → length (printed numbers) ≡ 2 * length numbers
printed_long [] = refl
printed_long (n ∷ numbers) = omega (arith, printed_long numbers)

pub body_long : (turn len : ℕ) (numbers : List ℕ) (n : ℕ) → length (table_body turn len numbers n) ≡ 5 + 2 * length numbers + n
body_long turn len numbers n =
    omega (arith, length-append (printed numbers) (replicate n 0), printed_long numbers, length-replicate {A = ℕ} n 0)

-- what stands behind the entries
body_rest : (turn len : ℕ) (numbers : List ℕ) (n : ℕ)
    → drop (5 + 2 * length numbers) (table_body turn len numbers n) ≡ replicate n 0
body_rest turn len numbers n =
    sym (drop-drop (2 * length numbers) 5 (table_body turn len numbers n))
    ∙ ap (λ (l : List ℕ). drop (2 * length numbers) l) (drop-append_seam (to_be_bytes w32 len) (printed numbers ++ replicate n 0))
    ∙ ap (λ k. drop k (printed numbers ++ replicate n 0)) (sym (printed_long numbers))
    ∙ drop-append_seam (printed numbers) (replicate n 0)

-- its table is open
pub laid_open : (area : Area) (mark : Mark) (text : List ℕ) → IsMarked area mark text
    → is_open (open_table (table_for mark text)) ≡ true
laid_open area mark text marked = opens mark.turn marked.low marked.high
  where
    opens : (turn : ℕ) → 1 ≤ turn → turn ≤ 3 → (nat_le 1 turn && nat_le turn 3) ≡ true
    opens turn low high = grind (arith, nat_tests)

module _ (area : Area) (mark : Mark) (text : List ℕ) (lawful : IsArea area) (marked : IsMarked area mark text) where
  abbrev rest : ℕ
  rest = PAGE - (6 + 2 * length mark.numbers)

  few : length mark.numbers ≤ NAMED_LIMIT
  few = omega (arith, marked.each, marked.fits, lawful.named)

  filled : length text ≤ PAGE * page_count (length text)
  filled = count_covers (length text)

  short : length text < 2 ^ 32
  short = omega (arith, filled, marked.fits, lawful.named)

  small : All (λ k. k < 2 ^ 16) mark.numbers
  small = All-weaker (IsPage (layout_of area)) (λ k. k < 2 ^ 16) (λ n is. omega (arith, is.1, lawful.short)) mark.numbers
      (entries_within area mark.numbers marked.entries)

  pub laid_long : length (table_for mark text) + 1 ≡ PAGE
  laid_long = omega (arith, body_long mark.turn (length text) mark.numbers rest, few)

  pub laid_length : length_in (table_for mark text) ≡ length text
  laid_length = length_back mark.turn (length text) mark.numbers rest short

  pub laid_names : record_names (table_for mark text) ≡ mark.numbers
  laid_names = names_back mark.turn (length text) mark.numbers rest short marked.each small

  pub laid_lawful : table_fault 2 area.pages area.most (table_for mark text) ≡ None
  unfolding table_fault
  laid_lawful =
      let room : nat_le (page_count (length_in (table_for mark text))) area.most ≡ true =
      let a = ap page_count laid_length in let b = marked.fits in grind (arith, nat_tests) in
      let count : page_count (length_in (table_for mark text)) ≡ length mark.numbers = ap page_count laid_length ∙ sym marked.each in
      ap (λ t. if t then or_else (entry_fault 2 area.pages [] 6 (record_names (table_for mark text)))
      (nonzero_from (6 + 2 * page_count (length_in (table_for mark text)))
      (drop (5 + 2 * page_count (length_in (table_for mark text))) (table_for mark text))) else Some 2) room
      ∙ ap (λ f. or_else f (nonzero_from (6 + 2 * page_count (length_in (table_for mark text)))
      (drop (5 + 2 * page_count (length_in (table_for mark text))) (table_for mark text))))
      (ap (entry_fault 2 area.pages [] 6) laid_names ∙ marked.entries)
      ∙ ap (λ k. nonzero_from (6 + 2 * k) (drop (5 + 2 * k) (table_for mark text))) count
      ∙ ap (λ (l : List ℕ). nonzero_from (6 + 2 * length mark.numbers) l) (body_rest mark.turn (length text) mark.numbers rest)
      ∙ zeros_none rest (6 + 2 * length mark.numbers)

  pub laid_record : record_in (table_for mark text) (pages_in text) ≡ text
  laid_record = ap (λ k. take k (joined (pages_in text))) laid_length ∙ read_back (page_count (length text)) text filled

  pub laid_shown : record_shown area (shot (laid mark (Some text))) ≡ Some text
  laid_shown =
      ap (λ f. faultless f (record_in (table_for mark text) (pages_in text))) laid_lawful ∙ ap Some laid_record

  laid_zeros : nonzero_from (length_in (table_for mark text)) (drop (length_in (table_for mark text)) (joined (pages_in text))) ≡ None
  laid_zeros =
      ap (λ k. nonzero_from k (drop k (joined (pages_in text)))) laid_length
      ∙ ap (λ (l : List ℕ). nonzero_from (length text) l) (joined_rest (page_count (length text)) text filled)
      ∙ zeros_none (PAGE * page_count (length text) - length text) (length text)

  pub laid_faultless : (fault_at : List ℕ → Option ℕ) → fault_at text ≡ None
      → fault_in fault_at area (table_for mark text) (pages_in text) ≡ None
  laid_faultless fault_at none =
      ap₂ (λ f g. or_else f (behind_table (or_else g (nonzero_from (length_in (table_for mark text))
      (drop (length_in (table_for mark text)) (joined (pages_in text))))))) laid_lawful (ap fault_at laid_record ∙ none)
      ∙ ap behind_table laid_zeros

  pub laid_read : (fault_at : List ℕ → Option ℕ) → fault_at text ≡ None
      → read_as fault_at area (shot (laid mark (Some text))) ≡ holds text
  laid_read fault_at none =
      ap₂ (λ f (t : List ℕ). judged mark.second f t) (laid_faultless fault_at none) laid_record

  pub laid_kept : kept_shot (laid mark (Some text)) ≡ shot (laid mark (Some text))
  laid_kept = ap (λ t. if t then shot (laid mark (Some text)) else no_shot) (laid_open area mark text marked)
