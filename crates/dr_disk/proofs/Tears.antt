-- What a write of a disk in memory may leave.
use Rattle.std.proofs.Common.{subst, ◌≡◌, ◌⊎◌, inl, inr, ⊎_elim, ℕ, ◌+◌, ◌-◌, ◌<◌, ◌≤◌, Bool, true, false, List, length, take, drop, get_or, replicate, refl, sym, ◌∙◌, ap, arith, length-drop, Some}
use Rattle.std.proofs.lemmas.Bool.{cases_lt, false≢true}
use Rattle.std.proofs.lemmas.List.{ext_get_or, get_or_past, get_or-take, get_or-drop, length-replicate, get_or-replicate, length-take-le}
use Rattle.dr_disk.specs.Bytes.{overwritten, Torn}
use Rattle.dr_disk.specs.State.{Fate}
use Rattle.dr_disk.specs.Calls.{WrittenIn}
use Rattle.dr_disk.specs.Memory.{Counts, IsImage, marked, memory_state}
use Rattle.dr_disk.proofs.Overwrites.{length-overwritten, overwritten_outside, overwritten_in}
use Rattle.dr_disk.proofs.Ranges.{where_is, torn_self, overwritten_tears}

module _ (durable : List ℕ) (marks : List Bool) (at n : ℕ) (fits : at + n ≤ length durable) (each : length marks ≡ length durable) where
  fits_marks : at + length (replicate n true) ≤ length marks
  fits_marks = omega (arith, length-replicate n true)

  pub outside_marks : (i : ℕ) → (i < at) ⊎ (at + n ≤ i) → get_or (marked marks at n) i false ≡ get_or marks i false
  outside_marks i out = overwritten_outside marks at (replicate n true) fits_marks i false (⊎_elim (λ lt. inl lt) (λ ge. inr (omega (arith, length-replicate n true))) out)

  inside_mark : (i : ℕ) → at ≤ i → i < at + n → get_or (marked marks at n) i false ≡ true
  inside_mark i le lt =
      overwritten_in marks at (replicate n true) fits_marks i false le (omega (arith, length-replicate n true))
      ∙ get_or-replicate n (i - at) true false (omega arith)

  -- a mark more leaves no byte less
  pub image_marked : (c : List ℕ) → IsImage durable marks c → IsImage durable (marked marks at n) c
  image_marked c is = record {
    size = is.size;
    same = λ i unmarked. ⊎_elim (λ out. is.same i (sym (outside_marks i out) ∙ unmarked)) (λ within. absurd (false≢true (sym unmarked ∙ inside_mark i within.0 within.1))) (where_is i at n);
  }

  -- those bytes as they are on the disk
  abbrev part : List ℕ
  part = take n (drop at durable)

  length-part : length part ≡ n
  length-part = length-take-le n (drop at durable) (omega (arith, length-drop at durable))

  abbrev untorn : List ℕ → List ℕ
  untorn c = overwritten c at part

  -- an image after a write is one from before it, torn
  pub image_torn : (c : List ℕ) → IsImage durable (marked marks at n) c → (d : List ℕ) × IsImage durable marks d × Torn at n d c
  image_torn c is = (untorn c, record { size = same_length ∙ is.size; same = same }, record { size = sym same_length; outside = λ i out. sym (outside i out) })
    where
      fits_part : at + length part ≤ length c
      fits_part = omega (arith, length-part, is.size)

      same_length : length (untorn c) ≡ length c
      same_length = length-overwritten c at part fits_part

      outside : (i : ℕ) → (i < at) ⊎ (at + n ≤ i) → get_or (untorn c) i 0 ≡ get_or c i 0
      outside i out = overwritten_outside c at part fits_part i 0 (⊎_elim (λ lt. inl lt) (λ ge. inr (omega (arith, length-part))) out)

      inside : (i : ℕ) → at ≤ i → i < at + n → get_or (untorn c) i 0 ≡ get_or durable i 0
      inside i le lt =
          overwritten_in c at part fits_part i 0 le (omega (arith, length-part))
          ∙ get_or-take n (drop at durable) (i - at) 0 (omega arith)
          ∙ get_or-drop at durable (i - at) 0
          ∙ ap (λ k. get_or durable k 0) (let e : at + (i - at) ≡ i = omega arith in e)

      same : (i : ℕ) → get_or marks i false ≡ false → get_or (untorn c) i 0 ≡ get_or durable i 0
      same i unmarked = ⊎_elim (λ out. outside i out ∙ is.same i (outside_marks i out ∙ unmarked)) (λ within. inside i within.0 within.1) (where_is i at n)

-- with no mark left there is one image
pub settled : (durable : List ℕ) (marks : List Bool) (c : List ℕ) → ((i : ℕ) → get_or marks i false ≡ false) → IsImage durable marks c → c ≡ durable
settled durable marks c none is = ext_get_or 0 c durable is.size (λ i lt. is.same i (none i))

pub no_mark : (n i : ℕ) → get_or (replicate n false) i false ≡ false
no_mark n i = ⊎_elim (λ lt. get_or-replicate n i false false lt) (λ ge. get_or_past (replicate n false) i false (omega (arith, length-replicate n false))) (cases_lt i n)

-- bytes that are written and marked agree
pub agrees_written : (bytes durable : List ℕ) (marks : List Bool) (at : ℕ) (new : List ℕ) → IsImage durable marks bytes → length marks ≡ length durable → at + length new ≤ length durable → IsImage durable (marked marks at (length new)) (overwritten bytes at new)
agrees_written bytes durable marks at new agrees each fits = record {
  size = length-overwritten bytes at new fits_bytes ∙ agrees.size;
  same = λ i unmarked. ⊎_elim (λ out. overwritten_outside bytes at new fits_bytes i 0 out ∙ agrees.same i (sym (outside_marks durable marks at (length new) fits each i out) ∙ unmarked)) (λ within. absurd (false≢true (sym unmarked ∙ inside_mark durable marks at (length new) fits each i within.0 within.1))) (where_is i at (length new));
}
  where
    fits_bytes : at + length new ≤ length bytes
    fits_bytes = omega (arith, agrees.size)

-- the platter's invariant after a write was asked for
pub marks_each : (durable : List ℕ) (marks marks' : List Bool) (at n : ℕ) → at + n ≤ length durable → length marks ≡ length durable → marks' ≡ marked marks at n → length marks' ≡ length durable
marks_each durable marks marks' at n fits each is = ap (λ (m : List Bool). length m) is ∙ length-overwritten marks at (replicate n true) (omega (arith, length-replicate n true)) ∙ each

pub still_agrees : (durable bytes : List ℕ) (marks marks' : List Bool) (at n : ℕ) → at + n ≤ length durable → length marks ≡ length durable → marks' ≡ marked marks at n → IsImage durable marks bytes → IsImage durable marks' bytes
still_agrees durable bytes marks marks' at n fits each is agrees = subst (λ (m : List Bool). IsImage durable m bytes) (sym is) (image_marked durable marks at n fits each bytes agrees)

pub now_agrees : (durable bytes bytes' : List ℕ) (marks marks' : List Bool) (at : ℕ) (new : List ℕ) → at + length new ≤ length durable → length marks ≡ length durable → marks' ≡ marked marks at (length new) → bytes' ≡ overwritten bytes at new → IsImage durable marks bytes → IsImage durable marks' bytes'
now_agrees durable bytes bytes' marks marks' at new fits each is now agrees =
    subst (λ (m : List Bool). IsImage durable m bytes') (sym is) (subst (λ (b : List ℕ). IsImage durable (marked marks at (length new)) b) (sym now) (agrees_written bytes durable marks at new agrees each fits))

-- what was written, for a write that failed and one that passed
module _ (bytes durable durable' : List ℕ) (marks marks' : List Bool) (at n : ℕ) (asked asked' : List ℕ) (fate fate' : Fate) (passed passed' : ℕ) (counts counts' : Counts)
    (each : length marks ≡ length durable) (is_marked : marks' ≡ marked marks at n) (is_durable : durable' ≡ durable) where
  images_torn : at + n ≤ length durable → (c : List ℕ) → IsImage durable' marks' c → (d : List ℕ) × IsImage durable marks d × Torn at n d c
  images_torn fits c is = image_torn durable marks at n fits each c (subst (λ (m : List Bool). IsImage durable m c) is_marked (subst (λ (l : List ℕ). IsImage l marks' c) is_durable is))

  pub within_failed : (bytes' : List ℕ) → bytes' ≡ bytes → at + n ≤ length durable → WrittenIn at n (memory_state bytes durable asked marks fate passed counts) (memory_state bytes' durable' asked' marks' fate' passed' counts')
  within_failed bytes' same fits = record { images = images_torn fits; seen = λ s told. (s, ap Some (sym same) ∙ told, torn_self at n s) }

  pub within_written : (new bytes' : List ℕ) → length new ≡ n → at + length new ≤ length bytes → length bytes ≡ length durable → bytes' ≡ overwritten bytes at new → WrittenIn at n (memory_state bytes durable asked marks fate passed counts) (memory_state bytes' durable' asked' marks' fate' passed' counts')
  within_written new bytes' is_n fits same is = record {
    images = images_torn (omega arith);
    seen = λ s told. (bytes, refl, let now : s ≡ overwritten bytes at new = cc in subst (λ (l : List ℕ). Torn at n bytes l) (sym now) (subst (λ k. Torn at k bytes (overwritten bytes at new)) is_n (overwritten_tears bytes at new fits)));
  }

-- after a good sync
pub settled_seen : (was bytes durable : List ℕ) (marks : List Bool) (n : ℕ) → bytes ≡ was → durable ≡ was → marks ≡ replicate n false
    → (c : List ℕ) → IsImage durable marks c → Some bytes ≡ Some c
settled_seen was bytes durable marks n read kept unmarked c is =
    let same : c ≡ durable = settled durable marks c (λ i. ap (λ (m : List Bool). get_or m i false) unmarked ∙ no_mark n i) is in
    ap (λ (l : List ℕ). Some l) (read ∙ sym kept ∙ sym same)
