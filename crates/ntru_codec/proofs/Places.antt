-- Bytes at a place in a list.
use Rattle.std.proofs.Common.{◌≡◌, ℕ, ◌+◌, ◌-◌, ◌*◌, ◌/◌, ◌%◌, ◌<◌, ◌≤◌, zero, suc, List, [], ◌∷◌, ◌++◌, length, get_or, set, take, drop, refl, ap, sym, ◌∙◌, add-one, add-zero, arith, length-set}
use Rattle.std.proofs.lemmas.List.{append-nil, append_assoc, take-append-drop, set_split, drop_more, drop-set-lt, drop_all, drop_at, take_at, take_more_set, drop-drop, length-append, length-take-le}
use Rattle.ntru_codec.specs.Numbers.{number_of, low_bytes}

pub length-low_bytes : (n r : ℕ) → length (low_bytes n r) ≡ n
unfolding low_bytes
length-low_bytes zero r = refl
length-low_bytes (suc n) r = ap suc (length-low_bytes n (r / 256))

-- no byte put in
pub put-none : (xs : List ℕ) (at n v : ℕ) → n ≡ 0 → xs ≡ take at xs ++ low_bytes n v ++ drop (at + n) xs
unfolding low_bytes
put-none xs at n v e = rw (e, append-nil, add-zero) (sym (take-append-drop at xs))

-- a byte put in
pub put-one : (xs : List ℕ) (at n v : ℕ) → n ≡ 1 → at < length xs → set xs at (v % 256) ≡ take at xs ++ low_bytes n v ++ drop (at + n) xs
unfolding low_bytes
put-one xs at n v e h = rw (e, append_assoc, add-one) (set_split xs at (v % 256) h)

-- two bytes put in
pub put-two : (xs : List ℕ) (at n v : ℕ) → n ≡ 2 → at + 1 < length xs → set (set xs at (v % 256)) (at + 1) (v / 256 % 256) ≡ take at xs ++ low_bytes n v ++ drop (at + n) xs
unfolding low_bytes
put-two xs at n v e h =
    let x = v % 256 in
    let y = v / 256 % 256 in
    let here : at < length xs = omega arith in
    let there : at + 1 < length (set xs at x) = rw length-set h in
    let first : take (at + 1) (set xs at x) ≡ take at xs ++ x ∷ [] = take_more_set xs at x here in
    let rest : drop (at + 2) (set xs at x) ≡ drop (at + 2) xs = drop-set-lt (at + 2) xs at x (omega arith) in
    let split : set (set xs at x) (at + 1) y ≡ take (at + 1) (set xs at x) ++ y ∷ drop (suc (at + 1)) (set xs at x) = set_split (set xs at x) (at + 1) y there in
    let e2 : suc (at + 1) ≡ at + 2 = omega arith in
    rw (e, split, first, e2, rest, append_assoc, append_assoc) refl

pub ruleset puts = (put-none, put-one, put-two)

-- the number of the bytes at a place
pub number-none : (xs : List ℕ) (at n : ℕ) → n ≡ 0 → number_of (take n (drop at xs)) ≡ 0
unfolding number_of
number-none xs at n e = rw e refl

pub number-one : (xs : List ℕ) (at n : ℕ) → n ≡ 1 → at < length xs → number_of (take n (drop at xs)) ≡ get_or xs at 0
unfolding number_of
number-one xs at n e h = rw (e, drop_more xs at 0 h) (omega arith)

pub number-two : (xs : List ℕ) (at n : ℕ) → n ≡ 2 → at + 1 < length xs → number_of (take n (drop at xs)) ≡ get_or xs at 0 + 256 * get_or xs (at + 1) 0
unfolding number_of
number-two xs at n e h =
    let here : at < length xs = omega arith in
    rw (e, drop_more xs at 0 here, drop_more xs (at + 1) 0 h) (omega arith)

pub ruleset gets = (number-none, number-one, number-two)

-- nothing is left to carry over
pub carry-none : (from out : List ℕ) (at to : ℕ) → at ≡ length from → take (to + (length from - at)) out ≡ take to out ++ drop at from
carry-none from out at to e =
    let none : to + (length from - at) ≡ to = omega arith in
    rw (none, drop_all at from (omega arith), append-nil) refl

-- one entry is carried over
pub carry-one : (from out : List ℕ) (at to : ℕ) → at + 1 ≡ length from → to < length out → take (to + (length from - at)) (set out to (get_or from at 0)) ≡ take to out ++ drop at from
carry-one from out at to e h =
    let one : to + (length from - at) ≡ to + 1 = omega arith in
    let none : drop (at + 1) from ≡ [] = drop_all (at + 1) from (omega arith) in
    rw (one, take_more_set out to (get_or from at 0) h, drop_more from at 0 (omega arith), none) refl

pub ruleset carries = (carry-none, carry-one)

-- an entry written where the front ends
pub fill_more : (xs : List ℕ) (i v : ℕ) (rest rest' whole : List ℕ) → i < length xs → take i xs ++ rest ≡ whole → rest ≡ v ∷ rest' → take (i + 1) (set xs i v) ++ rest' ≡ whole
fill_more xs i v rest rest' whole h front e =
    rw (take_more_set xs i v h, append_assoc) (ap (λ t. take i xs ++ t) (sym e) ∙ front)

-- bytes written where the front ends
pub append_more : (xs ys bs : List ℕ) (at n : ℕ) (rest rest' whole : List ℕ) → ys ≡ take at xs ++ bs ++ drop (at + n) xs → length bs ≡ n → at + n ≤ length xs → take at xs ++ rest ≡ whole → rest ≡ bs ++ rest' → take (at + n) ys ++ rest' ≡ whole
append_more xs ys bs at n rest rest' whole written few h front e =
    let long : length (take at xs ++ bs) ≡ at + n = rw (length-append, length-take-le at xs (omega arith)) (omega arith) in
    rw (written, take_at (take at xs ++ bs) (drop (at + n) xs) (at + n) long, append_assoc) (ap (λ t. take at xs ++ t) (sym e) ∙ front)

-- what lies after bytes that were written
pub behind_more : (xs ys bs old : List ℕ) (at n : ℕ) → ys ≡ take at xs ++ bs ++ drop (at + n) xs → length bs ≡ n → at + n ≤ length xs → drop at xs ≡ drop at old → drop (at + n) ys ≡ drop (at + n) old
behind_more xs ys bs old at n written few h kept =
    let long : length (take at xs ++ bs) ≡ at + n = rw (length-append, length-take-le at xs (omega arith)) (omega arith) in
    rw (written, drop_at (take at xs ++ bs) (drop (at + n) xs) (at + n) long) (sym (drop-drop n at xs) ∙ ap (drop n) kept ∙ drop-drop n at old)
