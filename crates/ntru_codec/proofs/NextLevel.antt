-- What the next level's lists keep: lengths, limits, and values below their limits.
use Rattle.std.proofs.Common.{◌≡◌, ℕ, ◌+◌, ◌*◌, ◌/◌, ◌<◌, ◌≤◌, List, [], ◌∷◌, length, drop, refl, arith}
use Rattle.std.specs.List.{All, AllZip}
use Rattle.std.proofs.lemmas.List.Elements.{All-head, All-tail, All-cons, AllZip-get_or, length_all_zip}
use Rattle.std.proofs.lemmas.List.{length-append}
use Rattle.ntru_codec.specs.Numbers.{low_bytes, bytes_out, IsLimit}
use Rattle.ntru_codec.specs.Levels.{pair_bytes, pair_length, next_values, next_limits, pair_values}
use Rattle.ntru_codec.proofs.Places.{length-low_bytes}
use Rattle.ntru_codec.proofs.Limits.{pair-below, pair-limit, left_below, bytes_out-cases}

pub length-next_limits : (limits : List ℕ) → length (next_limits limits) + length limits / 2 ≡ length limits
unfolding next_limits
length-next_limits [] = refl
length-next_limits (m ∷ []) = refl
length-next_limits (m0 ∷ m1 ∷ limits) = let rest = length-next_limits limits in omega arith

pub All-next_limits : (limits : List ℕ) → All IsLimit limits → All IsLimit (next_limits limits)
unfolding next_limits
All-next_limits [] h = h
All-next_limits (m ∷ []) h = h
All-next_limits (m0 ∷ m1 ∷ limits) h =
    let behind = All-tail IsLimit m0 (m1 ∷ limits) h in
    All-cons IsLimit _ (next_limits limits) (pair-limit m0 m1 (All-head IsLimit m0 (m1 ∷ limits) h) (All-head IsLimit m1 limits behind)) (All-next_limits limits (All-tail IsLimit m1 limits behind))

pub next_below : (values limits : List ℕ) → AllZip ◌<◌ values limits → AllZip ◌<◌ (next_values values limits) (next_limits limits)
unfolding next_values next_limits
next_below [] [] h = h
next_below [] (m ∷ limits) h = elim h [ ]
next_below (r ∷ []) [] h = elim h [ ]
next_below (r ∷ []) (m ∷ []) h = h
next_below (r ∷ []) (m0 ∷ m1 ∷ limits) h = elim h.1 [ ]
next_below (r0 ∷ r1 ∷ values) [] h = elim h [ ]
next_below (r0 ∷ r1 ∷ values) (m ∷ []) h = elim h.1 [ ]
next_below (r0 ∷ r1 ∷ values) (m0 ∷ m1 ∷ limits) h =
    (left_below (bytes_out 16384 (m0 * m1)) (r0 + m0 * r1) (m0 * m1) (pair-below r0 r1 m0 m1 h.0 h.1.0), next_below values limits h.1.1)

pub pair_values-below : (limits nexts bytes : List ℕ) → All IsLimit limits → AllZip ◌<◌ nexts (next_limits limits) → AllZip ◌<◌ (pair_values bytes limits nexts) limits
unfolding pair_values next_limits
pair_values-below [] nexts bytes a h = h
pair_values-below (m ∷ []) nexts bytes a h = h
pair_values-below (m0 ∷ m1 ∷ limits) [] bytes a h = elim h [ ]
pair_values-below (m0 ∷ m1 ∷ limits) (next ∷ nexts) bytes a h =
    let behind = All-tail IsLimit m0 (m1 ∷ limits) a in
    let first = All-head IsLimit m0 (m1 ∷ limits) a in
    let second = All-head IsLimit m1 limits behind in
    let positive0 = first.positive in
    let positive1 = second.positive in
    (omega arith, (omega arith, pair_values-below limits nexts (drop (bytes_out 16384 (m0 * m1)) bytes) (All-tail IsLimit m1 limits behind) h.1))

-- the bytes that go out are as many as the limits say
pub length-pair_bytes : (values limits : List ℕ) → AllZip ◌<◌ values limits → length (pair_bytes values limits) ≡ pair_length limits
unfolding pair_bytes pair_length
length-pair_bytes [] [] h = refl
length-pair_bytes [] (m ∷ limits) h = elim h [ ]
length-pair_bytes (r ∷ []) [] h = elim h [ ]
length-pair_bytes (r ∷ []) (m ∷ []) h = refl
length-pair_bytes (r ∷ []) (m0 ∷ m1 ∷ limits) h = elim h.1 [ ]
length-pair_bytes (r0 ∷ r1 ∷ values) [] h = elim h [ ]
length-pair_bytes (r0 ∷ r1 ∷ values) (m ∷ []) h = elim h.1 [ ]
length-pair_bytes (r0 ∷ r1 ∷ values) (m0 ∷ m1 ∷ limits) h =
    let n = bytes_out 16384 (m0 * m1) in
    rw (length-append (low_bytes n (r0 + m0 * r1)) (pair_bytes values limits), length-low_bytes n (r0 + m0 * r1), length-pair_bytes values limits h.1.1) refl

pub bytes_out-few : (stop m : ℕ) → bytes_out stop m ≤ 2
bytes_out-few stop m = bytes_out-cases (λ n. n ≤ 2) stop m (λ a. omega arith) (λ a b. omega arith) (λ a b. omega arith)

pub pair_length-few : (limits : List ℕ) → pair_length limits ≤ length limits
unfolding pair_length
pair_length-few [] = omega arith
pair_length-few (m ∷ []) = omega arith
pair_length-few (m0 ∷ m1 ∷ limits) =
    let few = bytes_out-few 16384 (m0 * m1) in
    let rest = pair_length-few limits in
    omega arith

-- values below limits are small
pub small_from_below : (values limits : List ℕ) → AllZip ◌<◌ values limits → All IsLimit limits → All (λ v. v < 16384) values
small_from_below values limits h k = λ i d here.
    let below = AllZip-get_or ◌<◌ values limits i d d h here in
    let long = length_all_zip ◌<◌ values limits h in
    let small = (k i d (omega arith)).small in
    omega arith
