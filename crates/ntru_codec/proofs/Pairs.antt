-- A level of pairs, one pair at a time.
use Rattle.std.proofs.Common.{◌≡◌, ℕ, ◌+◌, ◌-◌, ◌*◌, ◌/◌, ◌%◌, ◌^◌, ◌<◌, ◌≤◌, List, [], ◌∷◌, ◌++◌, length, get_or, set, take, drop, length-set, subst, refl, ap, sym, ◌∙◌, arith}
use Rattle.std.proofs.lemmas.List.{append-nil, take-append-drop, length-drop, drop_more, drop-drop}
use Rattle.ntru_codec.proofs.Places.{fill_more}
use Rattle.ntru_codec.specs.Numbers.{number_of, low_bytes, limit_after, bytes_out}
use Rattle.ntru_codec.specs.Levels.{pair_bytes, pair_length, next_values, next_limits, pair_values}

-- the entries 2 i and 2 i + 1, and those after them
pub drop-two : (xs : List ℕ) (i : ℕ) → 2 * i + 1 < length xs → drop (2 * i) xs ≡ get_or xs (2 * i) 0 ∷ get_or xs (2 * i + 1) 0 ∷ drop (2 * (i + 1)) xs
drop-two xs i h =
    let next : 2 * i + 1 + 1 ≡ 2 * (i + 1) = omega arith in
    drop_more xs (2 * i) 0 (omega arith)
    ∙ ap (λ t. get_or xs (2 * i) 0 ∷ t) (drop_more xs (2 * i + 1) 0 h ∙ ap (λ j. get_or xs (2 * i + 1) 0 ∷ drop j xs) next)

pub pair_length-more : (limits : List ℕ) (i : ℕ) → 2 * i + 1 < length limits →
    pair_length (drop (2 * i) limits) ≡ bytes_out 16384 (get_or limits (2 * i) 0 * get_or limits (2 * i + 1) 0) + pair_length (drop (2 * (i + 1)) limits)
unfolding pair_length
pair_length-more limits i h = ap pair_length (drop-two limits i h)

pub next_limits-more : (limits : List ℕ) (i : ℕ) → 2 * i + 1 < length limits →
    next_limits (drop (2 * i) limits) ≡ limit_after (bytes_out 16384 (get_or limits (2 * i) 0 * get_or limits (2 * i + 1) 0)) (get_or limits (2 * i) 0 * get_or limits (2 * i + 1) 0) ∷ next_limits (drop (2 * (i + 1)) limits)
unfolding next_limits
next_limits-more limits i h = ap next_limits (drop-two limits i h)

pub pair_bytes-more : (values limits : List ℕ) (i : ℕ) → 2 * i + 1 < length values → 2 * i + 1 < length limits →
    pair_bytes (drop (2 * i) values) (drop (2 * i) limits) ≡ low_bytes (bytes_out 16384 (get_or limits (2 * i) 0 * get_or limits (2 * i + 1) 0)) (get_or values (2 * i) 0 + get_or limits (2 * i) 0 * get_or values (2 * i + 1) 0) ++ pair_bytes (drop (2 * (i + 1)) values) (drop (2 * (i + 1)) limits)
unfolding pair_bytes
pair_bytes-more values limits i h k = rw (drop-two values i h, drop-two limits i k) refl

pub next_values-more : (values limits : List ℕ) (i : ℕ) → 2 * i + 1 < length values → 2 * i + 1 < length limits →
    next_values (drop (2 * i) values) (drop (2 * i) limits) ≡ ((get_or values (2 * i) 0 + get_or limits (2 * i) 0 * get_or values (2 * i + 1) 0) / 256 ^ bytes_out 16384 (get_or limits (2 * i) 0 * get_or limits (2 * i + 1) 0)) ∷ next_values (drop (2 * (i + 1)) values) (drop (2 * (i + 1)) limits)
unfolding next_values
next_values-more values limits i h k = rw (drop-two values i h, drop-two limits i k) refl

-- after the pairs there is one entry at most
pub next_limits-last : (limits : List ℕ) → length limits ≤ 1 → next_limits limits ≡ limits
unfolding next_limits
next_limits-last [] h = refl
next_limits-last (m ∷ []) h = refl
next_limits-last (m0 ∷ m1 ∷ limits) h = absurd (omega arith)

pub next_values-last : (values limits : List ℕ) → length limits ≤ 1 → next_values values limits ≡ values
unfolding next_values
next_values-last [] [] h = refl
next_values-last [] (m ∷ limits) h = refl
next_values-last (r ∷ []) limits h = refl
next_values-last (r0 ∷ r1 ∷ values) [] h = refl
next_values-last (r0 ∷ r1 ∷ values) (m ∷ []) h = refl
next_values-last (r0 ∷ r1 ∷ values) (m0 ∷ m1 ∷ limits) h = absurd (omega arith)

pub pair_length-last : (limits : List ℕ) → length limits ≤ 1 → pair_length limits ≡ 0
unfolding pair_length
pair_length-last [] h = refl
pair_length-last (m ∷ []) h = refl
pair_length-last (m0 ∷ m1 ∷ limits) h = absurd (omega arith)

pub pair_bytes-last : (values limits : List ℕ) → length limits ≤ 1 → pair_bytes values limits ≡ []
unfolding pair_bytes
pair_bytes-last [] limits h = refl
pair_bytes-last (r ∷ []) limits h = refl
pair_bytes-last (r0 ∷ r1 ∷ values) [] h = refl
pair_bytes-last (r0 ∷ r1 ∷ values) (m ∷ []) h = refl
pair_bytes-last (r0 ∷ r1 ∷ values) (m0 ∷ m1 ∷ limits) h = absurd (omega arith)

-- the front of a list whose last entry was carried over
pub carried : (next new xs whole : List ℕ) (n i : ℕ) → length xs ≡ n → i ≡ n / 2 →
    take (n / 2 + (length xs - 2 * (n / 2))) new ≡ take (n / 2) next ++ drop (2 * (n / 2)) xs → take i next ++ drop (2 * i) xs ≡ whole → take (n - n / 2) new ≡ whole
carried next new xs whole n i long e new-is front =
    let count : n - n / 2 ≡ n / 2 + (length xs - 2 * (n / 2)) = omega arith in
    rw count (new-is ∙ (rw (← e) front))

-- at most one entry lies after the pairs
pub rest-short : (xs : List ℕ) (i : ℕ) → i ≡ length xs / 2 → length (drop (2 * i) xs) ≤ 1
rest-short xs i e = rw length-drop (omega arith)

-- bytes that were written whole, with what lies after them
pub written_all : (out old rest whole : List ℕ) (at n : ℕ) → at ≡ n → rest ≡ [] → take at out ++ rest ≡ whole → drop at out ≡ drop at old → out ≡ whole ++ drop n old
written_all out old rest whole at n e none written kept =
    let front : take at out ≡ whole = sym (append-nil (take at out)) ∙ ap (λ t. take at out ++ t) (sym none) ∙ written in
    rw (← e, ← front, ← kept) (sym (take-append-drop at out))

pub pair_values-more : (bytes limits nexts : List ℕ) (at i : ℕ) → 2 * i + 1 < length limits → i < length nexts →
    let n = bytes_out 16384 (get_or limits (2 * i) 0 * get_or limits (2 * i + 1) 0) in
    let r = number_of (take n (drop at bytes)) + 256 ^ n * get_or nexts i 0 in
    pair_values (drop at bytes) (drop (2 * i) limits) (drop i nexts) ≡ (r % get_or limits (2 * i) 0) ∷ (r / get_or limits (2 * i) 0 % get_or limits (2 * i + 1) 0) ∷ pair_values (drop (at + n) bytes) (drop (2 * (i + 1)) limits) (drop (i + 1) nexts)
unfolding pair_values
pair_values-more bytes limits nexts at i h k =
    let n = bytes_out 16384 (get_or limits (2 * i) 0 * get_or limits (2 * i + 1) 0) in
    rw (drop-two limits i h, drop_more nexts i 0 k, ← drop-drop n at bytes) refl

pub pair_values-last : (bytes limits nexts : List ℕ) → length limits ≤ 1 → pair_values bytes limits nexts ≡ nexts
unfolding pair_values
pair_values-last bytes [] nexts h = refl
pair_values-last bytes (m ∷ []) nexts h = refl
pair_values-last bytes (m0 ∷ m1 ∷ limits) nexts h = absurd (omega arith)

-- the same, with the number as the code has it
pub pair_values-is : (bytes limits nexts : List ℕ) (at i n r v w : ℕ) → 2 * i + 1 < length limits → i < length nexts →
    n ≡ bytes_out 16384 (get_or limits (2 * i) 0 * get_or limits (2 * i + 1) 0) → r ≡ number_of (take n (drop at bytes)) + 256 ^ n * get_or nexts i 0 →
    v ≡ r % get_or limits (2 * i) 0 → w ≡ r / get_or limits (2 * i) 0 % get_or limits (2 * i + 1) 0 →
    pair_values (drop at bytes) (drop (2 * i) limits) (drop i nexts) ≡ v ∷ w ∷ pair_values (drop (at + n) bytes) (drop (2 * (i + 1)) limits) (drop (i + 1) nexts)
pair_values-is bytes limits nexts at i n r v w h k n-is r-is v-is w-is = rw (v-is, w-is, r-is, n-is) (pair_values-more bytes limits nexts at i h k)

-- a pair written where the front ends
pub fill_two : (xs : List ℕ) (i v w : ℕ) (rest rest' whole : List ℕ) → 2 * i + 1 < length xs → take (2 * i) xs ++ rest ≡ whole → rest ≡ v ∷ w ∷ rest' → take (2 * (i + 1)) (set (set xs (2 * i) v) (2 * i + 1) w) ++ rest' ≡ whole
fill_two xs i v w rest rest' whole h front e =
    let next : 2 * (i + 1) ≡ 2 * i + 1 + 1 = omega arith in
    let there : 2 * i + 1 < length (set xs (2 * i) v) = rw length-set h in
    rw next (fill_more (set xs (2 * i) v) (2 * i + 1) w (w ∷ rest') rest' whole there (fill_more xs (2 * i) v rest (w ∷ rest') whole (omega arith) front e) refl)

-- the front of a list of pairs after which the last entry was carried over
pub carried_pairs : (out new next whole : List ℕ) (n i : ℕ) → length next ≡ n - n / 2 → i ≡ n / 2 →
    take (2 * (n / 2) + (length next - n / 2)) new ≡ take (2 * (n / 2)) out ++ drop (n / 2) next → take (2 * i) out ++ drop i next ≡ whole → take n new ≡ whole
carried_pairs out new next whole n i long e new-is front =
    let count : n ≡ 2 * (n / 2) + (length next - n / 2) = omega arith in
    let P : ℕ → Type 0 = λ k. take k new ≡ whole in
    subst P (sym count) (new-is ∙ (rw (← e) front))
