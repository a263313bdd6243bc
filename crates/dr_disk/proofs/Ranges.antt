-- Ranges of bytes that were torn.
use Rattle.std.proofs.Common.{◌≡◌, ◌⊎◌, inl, inr, ⊎_elim, ℕ, ◌+◌, ◌-◌, ◌<◌, ◌≤◌, min, List, length, drop, get_or, refl, sym, ◌∙◌, ap, arith, length-take, length-drop}
use Rattle.std.specs.Prelude.{slice_range}
use Rattle.std.proofs.lemmas.Bool.{cases_lt}
use Rattle.std.proofs.lemmas.List.{ext_get_or, get_or-take, get_or-drop}
use Rattle.dr_disk.specs.Bytes.{overwritten, Torn}
use Rattle.dr_disk.specs.State.{DiskState, Always}
use Rattle.dr_disk.specs.Spans.{Frame, ReadsOutside}
use Rattle.dr_disk.proofs.Overwrites.{length-overwritten, overwritten_in, overwritten_outside}

-- a place is in a range or outside
pub where_is : (i at n : ℕ) → (((i < at) ⊎ (at + n ≤ i)) ⊎ ((at ≤ i) × (i < at + n)))
where_is i at n = ⊎_elim (λ lt. inl (inl lt)) (λ le. ⊎_elim (λ lt. inr (le, lt)) (λ ge. inl (inr ge)) (cases_lt i (at + n))) (cases_lt i at)

pub length-range : (c : List ℕ) (x y : ℕ) → length (slice_range c x y) ≡ min (y - x) (length c - x)
length-range c x y = length-take (y - x) (drop x c) ∙ ap (λ n. min (y - x) n) (length-drop x c)

pub get_or-range : (c : List ℕ) (x y i : ℕ) → i < y - x → get_or (slice_range c x y) i 0 ≡ get_or c (x + i) 0
get_or-range c x y i lt = get_or-take (y - x) (drop x c) i 0 lt ∙ get_or-drop x c i 0

-- a range apart from the torn one stays
pub range_kept : (at n : ℕ) (d c : List ℕ) (x y : ℕ) → Torn at n d c → (y ≤ at) ⊎ (at + n ≤ x) → slice_range c x y ≡ slice_range d x y
range_kept at n d c x y torn apart = ext_get_or 0 (slice_range c x y) (slice_range d x y) (length-range c x y ∙ ap (λ k. min (y - x) (k - x)) torn.size ∙ sym (length-range d x y)) (λ i lt.
    let below : i < y - x = omega (arith, length-range c x y) in
    get_or-range c x y i below ∙ torn.outside (x + i) (⊎_elim (λ le. inl (omega arith)) (λ ge. inr (omega arith)) apart) ∙ sym (get_or-range d x y i below))

-- the range that was written is what was written
pub range_written : (s : List ℕ) (at : ℕ) (b : List ℕ) (end : ℕ) → end ≡ at + length b → end ≤ length s → slice_range (overwritten s at b) at end ≡ b
range_written s at b end is fits = ext_get_or 0 (slice_range (overwritten s at b) at end) b size (λ i lt.
    let lt_b : i < length b = omega (arith, size) in
    get_or-range (overwritten s at b) at end i (omega arith) ∙ overwritten_in s at b (omega arith) (at + i) 0 (omega arith) (omega arith) ∙ ap (λ k. get_or b k 0) (let e : at + i - at ≡ i = omega arith in e))
  where
    size : length (slice_range (overwritten s at b) at end) ≡ length b
    size = omega (arith, length-range (overwritten s at b) at end, length-overwritten s at b (omega arith))

pub torn_self : (at n : ℕ) (s : List ℕ) → Torn at n s s
torn_self at n s = record { size = refl; outside = λ i out. refl }

pub overwritten_tears : (s : List ℕ) (at : ℕ) (b : List ℕ) → at + length b ≤ length s → Torn at (length b) s (overwritten s at b)
overwritten_tears s at b fits = record { size = length-overwritten s at b fits; outside = λ i out. overwritten_outside s at b fits i 0 out }

pub torn_wider : (at n x y : ℕ) (d c : List ℕ) → x ≤ at → at + n ≤ x + y → Torn at n d c → Torn x y d c
torn_wider at n x y d c le ge torn = record { size = torn.size; outside = λ i out. torn.outside i (⊎_elim (λ lt. inl (omega arith)) (λ past. inr (omega arith)) out) }

pub torn_twice : (at n : ℕ) (d e c : List ℕ) → Torn at n d e → Torn at n e c → Torn at n d c
torn_twice at n d e c first next = record { size = next.size ∙ first.size; outside = λ i out. next.outside i out ∙ first.outside i out }

-- a frame that is torn inside
pub frame_torn : (start : DiskState) (x y at n : ℕ) (d c : List ℕ) → x ≤ at → at + n ≤ x + y → Frame start x y d → Torn at n d c → Frame start x y c
frame_torn start x y at n d c le ge frame torn = (frame.0, frame.1, torn_twice x y frame.0 d c frame.2 (torn_wider at n x y d c le ge torn))

-- what a later call leaves outside its range was outside it before
pub frame_twice : (start mid : DiskState) (at n : ℕ) → Always (Frame start at n) mid → (c : List ℕ) → Frame mid at n c → Frame start at n c
frame_twice start mid at n was c now =
    let before = was now.0 now.1 in
    (before.0, before.1, torn_twice at n before.0 now.0 c before.2 now.2)

-- reads outside a range, over one call and the next, and over a wider range
pub reads_twice : (at n : ℕ) (a b c : DiskState) → ReadsOutside at n a b → ReadsOutside at n b c → ReadsOutside at n a c
reads_twice at n a b c first next s told =
    let mid = next s told in
    let was = first mid.0 mid.1 in
    (was.0, was.1, torn_twice at n was.0 mid.0 s was.2 mid.2)

pub reads_wider : (at n x y : ℕ) (a b : DiskState) → x ≤ at → at + n ≤ x + y → ReadsOutside at n a b → ReadsOutside x y a b
reads_wider at n x y a b le ge reads s told =
    let was = reads s told in
    (was.0, was.1, torn_wider at n x y was.0 s le ge was.2)
