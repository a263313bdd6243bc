-- A table without a fault is the one that is laid out from what it says.
use Rattle.std.proofs.Common.{◌≡◌, inl, inr, ℕ, zero, suc, ◌+◌, ◌-◌, ◌*◌, ◌≤◌, ◌<◌, Bool, true, false, List, [], ◌∷◌, ◌++◌, length, take, drop, replicate, get_or, Option, Some, None, refl, sym, ◌∙◌, ap, ap₂, subst, arith, length-drop, if◌then◌else◌}
use Rattle.std.specs.Prelude.{nat_le, slice_index, ◌==◌}
use Rattle.std.specs.Int.{w16, w32, to_be_bytes, from_be_bytes}
use Rattle.std.proofs.lemmas.Bool.{cases_lt}
use Rattle.std.proofs.lemmas.Bool.Decides.{nat_tests}
use Rattle.std.proofs.lemmas.Nat.{be_bytes_2, be_bytes_4}
use Rattle.std.proofs.lemmas.List.{drop-drop, get_or-drop, get_or-take, get_or_past, length-take, length-take-le, take-append-drop}
use Rattle.dr_base.specs.declared.limits.TheConstants.{PAGE}
use Rattle.record_pages.specs.declared.limits.TheConstants.{NAMED_LIMIT}
use Rattle.record_pages.specs.Pages.{page_count}
use Rattle.record_pages.specs.Tables.{entry_fault, length_in, nonzero_from, numbers_in, or_else, printed, record_names, table_body, table_fault}
use Rattle.paged_records.proofs.ReadPages.{take_both}

-- no byte that isn't zero
pub all_zeros : (bytes : List ℕ) (at : ℕ) → nonzero_from at bytes ≡ None → bytes ≡ replicate (length bytes) 0
all_zeros [] at none = refl
all_zeros (b ∷ rest) at none = by (b == 0) refl none (λ h. all_zeros rest (at + 1) h)
  where
    by : (t : Bool) → (b == 0) ≡ t → (if t then nonzero_from (at + 1) rest else Some at) ≡ None
        → (nonzero_from (at + 1) rest ≡ None → rest ≡ replicate (length rest) 0)
        → b ∷ rest ≡ replicate (suc (length rest)) 0
    by true is h more = let e : b ≡ 0 = grind (arith, nat_tests) in ap₂ (λ (x : ℕ) (l : List ℕ). x ∷ l) e (more h)
    by false is h more = absurd (let e : Some at ≡ None = h in cc)

-- numbers below 256
abbrev pub AreBytes : List ℕ → Type 0
AreBytes bytes = (i : ℕ) → get_or bytes i 0 < 256

bytes_take : (n : ℕ) (l : List ℕ) → AreBytes l → AreBytes (take n l)
bytes_take n l are i = elim (cases_lt i n) [
  | inl lt ↦ subst (λ k. k < 256) (sym (get_or-take n l i 0 lt)) (are i)
  | inr ge ↦ subst (λ k. k < 256) (sym (get_or_past (take n l) i 0 (omega (arith, length-take n l)))) (omega arith)
]

bytes_drop : (n : ℕ) (l : List ℕ) → AreBytes l → AreBytes (drop n l)
bytes_drop n l are i = subst (λ k. k < 256) (sym (get_or-drop n l i 0)) (are (n + i))

-- numbers that were read are printed as they stood
printed_back : (count : ℕ) (l : List ℕ) → 2 * count ≤ length l → AreBytes l → printed (numbers_in count l) ≡ take (2 * count) l
printed_back zero l fits are = refl
printed_back (suc count) l fits are =
    ap₂ (λ (x y : List ℕ). x ++ y)
    (be_bytes_2 (take 2 l) (from_be_bytes w16 (take 2 l)) (length-take-le 2 l (omega arith)) (bytes_take 2 l are) refl)
    (printed_back count (drop 2 l) (omega (arith, length-drop 2 l)) (bytes_drop 2 l are))
    ∙ take_both 2 (2 * count) l
    ∙ ap (λ k. take k l) (let e : 2 + 2 * count ≡ 2 * suc count = omega arith in e)

-- the bytes of a table, in pieces
in_pieces : (body : List ℕ) (k : ℕ) → 1 ≤ length body
    → body ≡ slice_index body 0 ∷ (take 4 (drop 1 body) ++ (take k (drop 5 body) ++ drop (5 + k) body))
in_pieces [] k fits = absurd (omega arith)
in_pieces (turn ∷ rest) k fits = ap (λ (l : List ℕ). turn ∷ l)
    (sym (take-append-drop 4 rest)
    ∙ ap (λ (l : List ℕ). take 4 rest ++ l) (sym (take-append-drop k (drop 4 rest)) ∙ ap (λ (l : List ℕ). take k (drop 4 rest) ++ l) last))
  where
    last : drop k (drop 4 rest) ≡ drop (5 + k) (turn ∷ rest)
    last = drop-drop k 4 rest ∙ drop-drop (4 + k) 1 (turn ∷ rest)
        ∙ ap (λ j. drop j (turn ∷ rest)) (let e : 1 + (4 + k) ≡ 5 + k = omega arith in e)

-- what a table without a fault has
pub record IsSound (least pages most : ℕ) (body : List ℕ) : Type 0 where
  pub fits : page_count (length_in body) ≤ most
  pub entries : entry_fault least pages [] 6 (record_names body) ≡ None
  pub zeros : nonzero_from (6 + 2 * page_count (length_in body)) (drop (5 + 2 * page_count (length_in body)) body) ≡ None

none_of : (a b : Option ℕ) → or_else a b ≡ None → (a ≡ None) × (b ≡ None)
none_of None b h = (refl, h)
none_of (Some at) b h = absurd (let e : Some at ≡ None = h in cc)

pub sound : (least pages most : ℕ) (body : List ℕ) → table_fault least pages most body ≡ None → IsSound least pages most body
unfolding table_fault
sound least pages most body none = by (nat_le (page_count (length_in body)) most) refl none
  where
    by : (t : Bool) → nat_le (page_count (length_in body)) most ≡ t → (if t then or_else (entry_fault least pages [] 6 (record_names body)) (nonzero_from (6 + 2 * page_count (length_in body)) (drop (5 + 2 * page_count (length_in body)) body)) else Some 2) ≡ None → IsSound least pages most body
    by true is h =
        let both = none_of (entry_fault least pages [] 6 (record_names body)) (nonzero_from (6 + 2 * page_count (length_in body)) (drop (5 + 2 * page_count (length_in body)) body)) h in
        record { fits = grind (arith, nat_tests); entries = both.0; zeros = both.1 }
    by false is h = absurd (let e : Some 2 ≡ None = h in cc)

numbers_long : (k : ℕ) (l : List ℕ) → length (numbers_in k l) ≡ k
numbers_long zero l = refl
numbers_long (suc k) l = ap suc (numbers_long k (drop 2 l))

pub names_long : (body : List ℕ) → length (record_names body) ≡ page_count (length_in body)
unfolding record_names
names_long body = numbers_long (page_count (length_in body)) (drop 5 body)

pub printed_names : (body : List ℕ) → 5 + 2 * page_count (length_in body) ≤ length body → AreBytes body
    → printed (record_names body) ≡ take (2 * page_count (length_in body)) (drop 5 body)
unfolding record_names
printed_names body fits are =
    printed_back (page_count (length_in body)) (drop 5 body) (omega (arith, length-drop 5 body)) (bytes_drop 5 body are)

-- it is laid out
pub table_of : (least pages most : ℕ) (body : List ℕ) → most ≤ NAMED_LIMIT → length body + 1 ≡ PAGE → AreBytes body
    → table_fault least pages most body ≡ None
    → body ≡ table_body (slice_index body 0) (length_in body) (record_names body) (PAGE - (6 + 2 * length (record_names body)))
table_of least pages most body limit long are none =
    in_pieces body (2 * page_count (length_in body)) (omega arith)
    ∙ ap (λ (l : List ℕ). slice_index body 0 ∷ l) (ap₂ (λ (x y : List ℕ). x ++ y) size
    (ap₂ (λ (x y : List ℕ). x ++ y) (sym (printed_names body (omega (arith, is.fits)) are)) zeros))
  where
    is : IsSound least pages most body
    is = sound least pages most body none

    four : length (take 4 (drop 1 body)) ≡ 4
    four = length-take-le 4 (drop 1 body) (omega (arith, length-drop 1 body))

    size : take 4 (drop 1 body) ≡ to_be_bytes w32 (length_in body)
    size = sym (be_bytes_4 (take 4 (drop 1 body)) (length_in body) four (bytes_take 4 (drop 1 body) (bytes_drop 1 body are)) refl)

    zeros : drop (5 + 2 * page_count (length_in body)) body ≡ replicate (PAGE - (6 + 2 * length (record_names body))) 0
    zeros = all_zeros (drop (5 + 2 * page_count (length_in body)) body) (6 + 2 * page_count (length_in body)) is.zeros
        ∙ ap (λ k. replicate k 0) (omega (arith, length-drop (5 + 2 * page_count (length_in body)) body, names_long body, is.fits))
