-- The table of a row's record, as it is laid out, has no fault.
use Rattle.std.proofs.Common.{◌≡◌, ℕ, zero, suc, ◌+◌, ◌*◌, ◌^◌, ◌≤◌, ◌<◌, List, [], ◌∷◌, ◌++◌, length, drop, replicate, Option, Some, None, refl, sym, ◌∙◌, ap, arith}
use Rattle.std.specs.Prelude.{All, if◌then◌else◌}
use Rattle.std.specs.Int.{w32, to_be_bytes}
use Rattle.std.proofs.lemmas.Bool.{le-leb}
use Rattle.std.proofs.lemmas.List.{drop-drop}
use Rattle.std.proofs.Math.Seq.{drop-append_seam}
use Rattle.record_pages.specs.Pages.{page_count}
use Rattle.record_pages.specs.Tables.{entry_fault, length_in, nonzero_from, or_else, printed, record_names, table_body, table_fault}
use Rattle.record_pages.proofs.TableTexts.{length_back, names_back}

pub zeros_none : (n at : ℕ) → nonzero_from at (replicate n 0) ≡ None
zeros_none zero at = refl
zeros_none (suc n) at = zeros_none n (at + 1)

pub printed_long : (numbers : List ℕ) → length (printed numbers) ≡ 2 * length numbers
printed_long [] = refl
printed_long (n ∷ numbers) = omega (arith, printed_long numbers)

module _ (least pages most turn len : ℕ) (numbers : List ℕ) (n : ℕ) (few : page_count len ≤ most)
    (each : length numbers ≡ page_count len) (small : len < 2 ^ 32) (all : All (λ k. k < 2 ^ 16) numbers)
    (entries : entry_fault least pages [] 6 numbers ≡ None) where
  abbrev body : List ℕ
  body = table_body turn len numbers n

  len_is : length_in body ≡ len
  len_is = length_back turn len numbers n small

  count_is : page_count (length_in body) ≡ length numbers
  count_is = ap page_count len_is ∙ sym each

  rest_is : drop (5 + 2 * length numbers) body ≡ replicate n 0
  rest_is =
      sym (drop-drop (2 * length numbers) 5 body)
      ∙ ap (drop (2 * length numbers)) (drop-append_seam (to_be_bytes w32 len) (printed numbers ++ replicate n 0))
      ∙ ap (λ k. drop k (printed numbers ++ replicate n 0)) (sym (printed_long numbers))
      ∙ drop-append_seam (printed numbers) (replicate n 0)

  abbrev behind : ℕ → Option ℕ
  behind k = nonzero_from (6 + 2 * k) (drop (5 + 2 * k) body)

  pub laid_table : table_fault least pages most body ≡ None
  unfolding table_fault
  laid_table =
      ap (λ t. if t then or_else (entry_fault least pages [] 6 (record_names body))
      (behind (page_count (length_in body))) else Some 2)
      (le-leb (page_count (length_in body)) most (omega (arith, ap page_count len_is, few)))
      ∙ ap (λ f. or_else f (behind (page_count (length_in body))))
      (ap (entry_fault least pages [] 6) (names_back turn len numbers n small each all) ∙ entries)
      ∙ ap behind count_is
      ∙ ap (nonzero_from (6 + 2 * length numbers)) rest_is
      ∙ zeros_none n (6 + 2 * length numbers)
