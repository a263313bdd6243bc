-- Pages that lie in a row, and were read at once.
use Rattle.std.proofs.Common.{◌≡◌, ⊎_elim, ℕ, ◌+◌, ◌-◌, ◌*◌, ◌<◌, ◌≤◌, List, ◌++◌, length, get_or, sym, ◌∙◌, ap, arith, length-append}
use Rattle.std.specs.Prelude.{slice_range}
use Rattle.std.proofs.lemmas.Bool.{cases_lt}
use Rattle.std.proofs.lemmas.List.{ext_get_or, get_or-replicate, get_or_append_left, length-replicate}
use Rattle.dr_disk.specs.Bytes.{EndsBy}
use Rattle.dr_disk.proofs.Ranges.{get_or-range, length-range}
use Rattle.dr_base.specs.declared.limits.TheConstants.{PAGE}
use Rattle.pages.specs.declared.layout.Layout.{Layout}
use Rattle.pages.specs.declared.layout.TheConstants.{LOWER_PAGES}
use Rattle.pages.specs.Layouts.{IsSound, blank_page, page_place}
use Rattle.pages.specs.Rows.{IsRow, row_page}
use Rattle.pages.specs.Snapshots.{page_of}
use Rattle.pages.proofs.SoundLayouts.{place_high, place_low}

module _ (l : Layout) (n count : ℕ) (row : IsRow l n count) where
  pub row_place : (j : ℕ) → j < count → page_place l (n + j) ≡ page_place l n + PAGE * j
  row_place j lt = ⊎_elim
      (λ below.
      let fits = row.lower below in
      omega (arith, place_low l n below, place_low l (n + j) (omega (arith, fits, lt))))
      (λ above. omega (arith, place_high l n above, place_high l (n + j) (omega (arith, above)), above))
      (cases_lt n LOWER_PAGES)

  pub row_ends : (size : ℕ) → IsSound l size → page_place l n + PAGE * count ≤ size
  row_ends size sound =
      let last = sound.pages_within (n + (count - 1))
      (omega (arith, row.least), omega (arith, row.inside, row.some)) in
      omega (arith, row.some, last, row_place (count - 1) (omega (arith, row.some)))

  -- what was read stands there page by page, whatever stands behind it
  pub row_read : (s bytes rest : List ℕ) (at end j : ℕ) → at ≡ page_place l n
      → end ≡ at + PAGE * count → end ≤ length s → bytes ≡ slice_range s at end → j < count
      → row_page (bytes ++ rest) j ≡ page_of l s (n + j)
  row_read s bytes rest at end j here_is is fits read lt = ext_get_or 0 (row_page (bytes ++ rest) j)
      (page_of l s (n + j)) (first ∙ sym second)
      (λ i under.
      let here : i < PAGE = omega (arith, under, first) in
      get_or-range (bytes ++ rest) (PAGE * j) (PAGE * j + PAGE) i (omega (arith, here))
      ∙ get_or_append_left bytes rest 0 (PAGE * j + i) (omega (arith, here, long, lt))
      ∙ ap (λ (b : List ℕ). get_or b (PAGE * j + i) 0) read
      ∙ get_or-range s at end (PAGE * j + i) (omega (arith, here, is, lt))
      ∙ ap (λ k. get_or s k 0) (let e : at + (PAGE * j + i) ≡ page_place l (n + j) + i = omega (arith, place) in e)
      ∙ sym (get_or-range s (page_place l (n + j)) (page_place l (n + j) + PAGE) i (omega (arith, here))))
    where
      place : page_place l (n + j) ≡ at + PAGE * j
      place = omega (arith, row_place j lt, here_is)

      long : length bytes ≡ PAGE * count
      long = ap (λ (b : List ℕ). length b) read ∙ omega (arith, length-range s at end, is, fits)

      first : length (row_page (bytes ++ rest) j) ≡ PAGE
      first = omega (arith, length-range (bytes ++ rest) (PAGE * j) (PAGE * j + PAGE), length-append bytes rest, long, lt)

      second : length (page_of l s (n + j)) ≡ PAGE
      second = omega (arith, length-range s (page_place l (n + j)) (page_place l (n + j) + PAGE), place, is, fits, lt)

-- a page of a disk that has zeros from it on
pub past_zeros : (l : Layout) (m end : ℕ) (s : List ℕ) → EndsBy end s → end ≤ page_place l m
    → page_place l m + PAGE ≤ length s → page_of l s m ≡ blank_page
past_zeros l m end s ends past fits = ext_get_or 0 (page_of l s m) blank_page
    (long ∙ sym (length-replicate {A = ℕ} PAGE 0))
    (λ i lt.
    let here : i < PAGE = omega (arith, lt, long) in
    get_or-range s (page_place l m) (page_place l m + PAGE) i (omega (arith, here))
    ∙ ends (page_place l m + i) (omega (arith, past))
    ∙ sym (get_or-replicate PAGE i 0 0 here))
  where
    long : length (page_of l s m) ≡ PAGE
    long = omega (arith, length-range s (page_place l m) (page_place l m + PAGE), fits)
