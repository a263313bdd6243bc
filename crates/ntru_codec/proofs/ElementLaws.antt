-- Elements of R/q and rounded elements as numbers below a limit, and back.
use Rattle.std.proofs.Common.{◌≡◌, ℕ, ◌<◌, zero, suc, List, [], ◌∷◌, ◌++◌, drop, length, map, get_or, replicate, ℤ, pos, refl, ap, sym, ◌∙◌, subst, arith}
use Rattle.std.specs.List.{All, AllZip}
use Rattle.std.proofs.lemmas.List.{length-map, length-replicate, append-nil, drop_all, get_or-map, get_or-replicate}
use Rattle.std.proofs.lemmas.List.Elements.{All-replicate, All-tail, All-head, All-from_get_or, AllZip-get_or, length_all_zip}
use Rattle.ntru_ring.proofs.Vectors.Mapped.{mapped}
use Rattle.ntru_ring.specs.Reduction.{IsWithin}
use Rattle.ntru_codec.specs.Numbers.{IsLimit, bytes_out, limit_after}
use Rattle.ntru_codec.specs.Levels.{pair_length, next_limits}
use Rattle.ntru_codec.specs.Coding.{encoded, encoded_length, length_in, decoded}
use Rattle.ntru_codec.specs.Elements.{raised, lowered, limits_of, third, tripled, IsMultipleOf3, rq_encoded, rq_decoded, rounded_encoded, rounded_decoded}
use Rattle.ntru_codec.proofs.Undo.{decoded-encoded, decoded-below, length-encoded}
use Rattle.ntru_codec.proofs.Raised.{raised-below, lowered-raised, lowered-within, tripled-third, third-below, tripled-within}

-- one limit for all
pub length-limits_of : (m : ℕ) → length (limits_of m) ≡ 761
unfolding limits_of
length-limits_of m = length-replicate 761 m

pub All-limits_of : (m : ℕ) → IsLimit m → All IsLimit (limits_of m)
unfolding limits_of
All-limits_of m h = All-replicate IsLimit 761 m h

below_all : (f : ℤ → ℕ) (a : List ℤ) (n m : ℕ) → length a ≡ n → All (λ c. f c < m) a → AllZip ◌<◌ (map f a) (replicate n m)
below_all f [] zero m e h = tt
below_all f [] (suc n) m e h = absurd (omega arith)
below_all f (c ∷ a) zero m e h = absurd (omega arith)
below_all f (c ∷ a) (suc n) m e h = (All-head (λ c. f c < m) c a h, below_all f a n m (omega arith) (All-tail (λ c. f c < m) c a h))

pub below_limits_of : (f : ℤ → ℕ) (a : List ℤ) (m : ℕ) → length a ≡ 761 → All (λ c. f c < m) a → AllZip ◌<◌ (map f a) (limits_of m)
unfolding limits_of
below_limits_of f a m e h = below_all f a 761 m e h

pub length-rq : encoded_length (limits_of 4591) ≡ 1158
unfolding encoded_length length_in pair_length next_limits bytes_out limit_after limits_of
length-rq = refl

pub length-rounded : encoded_length (limits_of 1531) ≡ 1007
unfolding encoded_length length_in pair_length next_limits bytes_out limit_after limits_of
length-rounded = refl

-- entries that are kept by there and back
pub map-undone : {X Y : Type 0} (f : X → Y) (g : Y → X) (P : X → Type 0) → ((x : X) → P x → g (f x) ≡ x) → (a : List X) → All P a → map g (map f a) ≡ a
map-undone f g P back [] h = refl
map-undone f g P back (x ∷ a) h = rw (back x (All-head P x a h), map-undone f g P back a (All-tail P x a h)) refl

pub limit-rq : IsLimit 4591
limit-rq = record { positive = omega arith; small = omega arith }

pub limit-rounded : IsLimit 1531
limit-rounded = record { positive = omega arith; small = omega arith }

pub All-raised : (a : List ℤ) → All (IsWithin 2295) a → All (λ c. raised c < 4591) a
All-raised a w = λ i d h. raised-below (get_or a i d) (w i d h)

pub All-third : (a : List ℤ) → All (IsWithin 2295) a → All (λ c. third c < 1531) a
All-third a w = λ i d h. third-below (get_or a i d) (w i d h)

pub rq-below : (a : List ℤ) → length a ≡ 761 → All (IsWithin 2295) a → AllZip ◌<◌ (map raised a) (limits_of 4591)
rq-below a long w = below_limits_of raised a 4591 long (All-raised a w)

pub rounded-below : (a : List ℤ) → length a ≡ 761 → All (IsWithin 2295) a → AllZip ◌<◌ (map third a) (limits_of 1531)
rounded-below a long w = below_limits_of third a 1531 long (All-third a w)

pub rq_decoded-encoded : (a : List ℤ) → length a ≡ 761 → All (IsWithin 2295) a → rq_decoded (rq_encoded a) ≡ a
unfolding rq_decoded rq_encoded
rq_decoded-encoded a long w =
    ap (map lowered) (decoded-encoded (map raised a) (limits_of 4591) (rq-below a long w) (All-limits_of 4591 limit-rq))
    ∙ map-undone raised lowered (IsWithin 2295) lowered-raised a w

pub rounded_decoded-encoded : (a : List ℤ) → length a ≡ 761 → All (IsWithin 2295) a → All IsMultipleOf3 a → rounded_decoded (rounded_encoded a) ≡ a
unfolding rounded_decoded rounded_encoded
rounded_decoded-encoded a long w m =
    let both : All (λ c. IsWithin 2295 c × IsMultipleOf3 c) a = λ i d h. (w i d h, m i d h) in
    ap (map tripled) (decoded-encoded (map third a) (limits_of 1531) (rounded-below a long w) (All-limits_of 1531 limit-rounded))
    ∙ map-undone third tripled (λ c. IsWithin 2295 c × IsMultipleOf3 c) (λ c b. tripled-third c b.0 b.1) a both

pub length-rq_encoded : (a : List ℤ) → length a ≡ 761 → All (IsWithin 2295) a → length (rq_encoded a) ≡ 1158
unfolding rq_encoded
length-rq_encoded a long w = length-encoded (map raised a) (limits_of 4591) (rq-below a long w) ∙ length-rq

pub length-rounded_encoded : (a : List ℤ) → length a ≡ 761 → All (IsWithin 2295) a → length (rounded_encoded a) ≡ 1007
unfolding rounded_encoded
length-rounded_encoded a long w = length-encoded (map third a) (limits_of 1531) (rounded-below a long w) ∙ length-rounded

-- the values below one limit, by place
pub below-at : (values : List ℕ) (m : ℕ) → AllZip ◌<◌ values (limits_of m) → (k : ℕ) → k < 761 → get_or values k 0 < m
unfolding limits_of
below-at values m h k here =
    let long = length_all_zip ◌<◌ values (replicate 761 m) h in
    let size = length-replicate 761 m in
    let below = AllZip-get_or ◌<◌ values (replicate 761 m) k 0 0 h (omega arith) in
    let is = get_or-replicate 761 k m 0 here in
    omega arith

-- what an encoder of elements wrote
pub written-is : (f : ℤ → ℕ) (m n : ℕ) (a : List ℤ) (values limits out old : List ℕ) (count : ℕ) → encoded_length (limits_of m) ≡ n → values ≡ map f a → limits ≡ limits_of m →
    out ≡ encoded values limits ++ drop count old → count ≡ encoded_length limits → length old ≡ n → out ≡ encoded (map f a) (limits_of m)
written-is f m n a values limits out old count size vs ls e counted long =
    let fits : encoded_length limits ≡ n = ap encoded_length ls ∙ size in
    e ∙ (rw (drop_all count old (omega arith), append-nil, vs, ls) refl)

-- what a decoder of elements read
pub read-is : (g : ℕ → ℤ) (m : ℕ) (bytes values limits : List ℕ) (a : List ℤ) → limits ≡ limits_of m → values ≡ decoded bytes limits → AllZip ◌<◌ values limits → length a ≡ 761 →
    ((j : ℕ) → j < 761 → get_or a j (pos 0) ≡ g (get_or values j 0)) → a ≡ map g (decoded bytes (limits_of m))
read-is g m bytes values limits a ls vs below long h =
    let size : length values ≡ 761 = length_all_zip ◌<◌ values limits below ∙ ap length ls ∙ length-limits_of m in
    mapped g 0 (pos 0) values a (long ∙ sym size) (λ j here. h j (omega arith)) ∙ ap (map g) (vs ∙ ap (decoded bytes) ls)

-- what a decoder's numbers are below
pub read-below : (m : ℕ) (values limits : List ℕ) → limits ≡ limits_of m → AllZip ◌<◌ values limits → (k : ℕ) → k < 761 → get_or values k 0 < m
read-below m values limits ls below k here = below-at values m (let P : List ℕ → Type 0 = λ xs. AllZip ◌<◌ values xs in subst P ls below) k here

pub read-All : (P : ℤ → Type 0) (g : ℕ → ℤ) (m : ℕ) (values limits : List ℕ) (a : List ℤ) → limits ≡ limits_of m → AllZip ◌<◌ values limits → length a ≡ 761 →
    ((j : ℕ) → j < 761 → get_or a j (pos 0) ≡ g (get_or values j 0)) → ((v : ℕ) → v < m → P (g v)) → All P a
read-All P g m values limits a ls below long h holds =
    All-from_get_or P a (pos 0) (λ j inside.
    let here : j < 761 = omega arith in
    subst P (sym (h j here)) (holds (get_or values j 0) (read-below m values limits ls below j here)))

pub limits-All : (m : ℕ) (limits : List ℕ) → IsLimit m → limits ≡ limits_of m → All IsLimit limits
limits-All m limits h e = let P : List ℕ → Type 0 = λ xs. All IsLimit xs in subst P (sym e) (All-limits_of m h)

-- what any bytes decode to
decoded-length : (m : ℕ) → IsLimit m → (bytes : List ℕ) → length (decoded bytes (limits_of m)) ≡ 761
decoded-length m h bytes = length_all_zip ◌<◌ (decoded bytes (limits_of m)) (limits_of m) (decoded-below bytes (limits_of m) (All-limits_of m h)) ∙ length-limits_of m

decoded-All : (P : ℤ → Type 0) (g : ℕ → ℤ) (m : ℕ) → IsLimit m → ((v : ℕ) → v < m → P (g v)) → (bytes : List ℕ) → All P (map g (decoded bytes (limits_of m)))
decoded-All P g m h holds bytes =
    let values = decoded bytes (limits_of m) in
    let long = decoded-length m h bytes in
    let below = decoded-below bytes (limits_of m) (All-limits_of m h) in
    read-All P g m values (limits_of m) (map g values) refl below (length-map values g ∙ long) (λ j here. get_or-map g values j 0 (pos 0) (omega arith)) holds

pub length-rq_decoded : (bytes : List ℕ) → length (rq_decoded bytes) ≡ 761
unfolding rq_decoded
length-rq_decoded bytes = length-map (decoded bytes (limits_of 4591)) lowered ∙ decoded-length 4591 limit-rq bytes

pub rq_decoded-within : (bytes : List ℕ) → All (IsWithin 2295) (rq_decoded bytes)
unfolding rq_decoded
rq_decoded-within bytes = decoded-All (IsWithin 2295) lowered 4591 limit-rq lowered-within bytes

pub length-rounded_decoded : (bytes : List ℕ) → length (rounded_decoded bytes) ≡ 761
unfolding rounded_decoded
length-rounded_decoded bytes = length-map (decoded bytes (limits_of 1531)) tripled ∙ decoded-length 1531 limit-rounded bytes

pub rounded_decoded-within : (bytes : List ℕ) → All (IsWithin 2295) (rounded_decoded bytes)
unfolding rounded_decoded
rounded_decoded-within bytes = decoded-All (IsWithin 2295) tripled 1531 limit-rounded tripled-within bytes
