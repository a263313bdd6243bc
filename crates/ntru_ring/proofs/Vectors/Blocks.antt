-- Rows over R/q, eight places at a time.
use Rattle.std.proofs.Common.{◌≡◌, ◌≢◌, inl, inr, ℕ, zero, suc, ◌+◌, ◌-◌, ◌<◌, ◌≤◌, List, [], ◌∷◌, length, map, set, length-set, get_or-set_same, get_or-set_other, ℤ, pos, ◌+ℤ◌, ◌*ℤ◌, to_z, of_z, refl, sym, ap, ◌∙◌, arith, All}
use Rattle.std.proofs.lemmas.List.Elements.{All-head, All-tail, All-cons, All-weaker}
use lib.Lanes.{chunk, put_chunk}
use Rattle.std.proofs.lemmas.Bool.{cases_lt}
use Rattle.std.proofs.lemmas.Simd.{length-put_chunk, length-chunk, get_or-chunk, get_or-put_chunk_below, get_or-put_chunk_at, get_or-put_chunk_above}
use Rattle.ntru_ring.proofs.Rings.Congruence.{reduced_within}
use Rattle.ntru_ring.proofs.Rings.Kernels.{coefficient_added, length_added}
use Rattle.ntru_ring.proofs.Rings.Places.{same_places}
use mir.Syntax.{w16}
use Rattle.ntru_ring.specs.Ring.{plus, scale, coefficient}
use Rattle.ntru_ring.specs.Reduction.{centred, reduced, IsWithin, IsNear}
use Rattle.ntru_ring.proofs.Numbers.Ranges.{stored}
use Rattle.ntru_ring.proofs.Vectors.VectorsQ.{near_within}

-- ---- coefficients that were stored and read
pub kept_lanes : (h : ℕ) (z : List ℤ) → h < 32768 → All (IsWithin h) z → map (to_z w16) (map (of_z w16) z) ≡ z
kept_lanes h [] l w = refl
kept_lanes h (x ∷ z) l w = cc (stored w16 h x (All-head (IsWithin h) x z w) l, kept_lanes h z l (All-tail (IsWithin h) x z w))

pub near_all : (z : List ℤ) → All IsNear z → All (IsWithin 6967) z
near_all z w = All-weaker IsNear (IsWithin 6967) near_within z w

-- a block put at a place
pub put_within : (at : ℕ) (a block : List ℤ) → All (IsWithin 2295) a → All (IsWithin 2295) block → All (IsWithin 2295) (put_chunk at a block)
put_within at [] block v w = v
put_within zero (x ∷ a) [] v w = v
put_within zero (x ∷ a) (y ∷ block) v w =
    All-cons (IsWithin 2295) y (put_chunk 0 a block) (All-head (IsWithin 2295) y block w) (put_within 0 a block (All-tail (IsWithin 2295) x a v) (All-tail (IsWithin 2295) y block w))
put_within (suc at) (x ∷ a) block v w =
    All-cons (IsWithin 2295) x (put_chunk at a block) (All-head (IsWithin 2295) x a v) (put_within at a block (All-tail (IsWithin 2295) x a v) w)

-- a block of eight places to which c times eight others are added
module _ (c : ℤ) (xs b : List ℤ) (i : ℕ) (l : i + 8 ≤ length xs) (m : i + 8 ≤ length b) where
  block : List ℤ
  block = reduced 2295 (plus (chunk i 8 xs) (scale c (chunk i 8 b)))

  chunks_long : length (chunk i 8 xs) ≡ length (chunk i 8 b)
  chunks_long = length-chunk i 8 xs l ∙ sym (length-chunk i 8 b m)

  block_length : length block ≡ 8
  unfolding block
  block_length = length_added 2295 (chunk i 8 xs) (chunk i 8 b) c chunks_long ∙ length-chunk i 8 b m

  block_at : (k : ℕ) → k < 8 → coefficient (put_chunk i xs (reduced 2295 (plus (chunk i 8 xs) (scale c (chunk i 8 b))))) (i + k) ≡ centred 2295 (coefficient xs (i + k) +ℤ c *ℤ coefficient b (i + k))
  unfolding block
  block_at k h =
      get_or-put_chunk_at i xs block k (pos 0) (omega (arith, block_length)) (omega (arith, block_length, l)) ∙ coefficient_added 2295 (chunk i 8 xs) (chunk i 8 b) c k chunks_long
      ∙ ap (λ t. centred 2295 (t +ℤ c *ℤ coefficient (chunk i 8 b) k)) (get_or-chunk i 8 xs k (pos 0) h)
      ∙ ap (λ t. centred 2295 (coefficient xs (i + k) +ℤ c *ℤ t)) (get_or-chunk i 8 b k (pos 0) h)

  block_below : (k : ℕ) → k < i → coefficient (put_chunk i xs (reduced 2295 (plus (chunk i 8 xs) (scale c (chunk i 8 b))))) k ≡ coefficient xs k
  block_below k h = get_or-put_chunk_below i xs _ k (pos 0) h

  block_above : (k : ℕ) → i + 8 ≤ k → coefficient (put_chunk i xs (reduced 2295 (plus (chunk i 8 xs) (scale c (chunk i 8 b))))) k ≡ coefficient xs k
  unfolding block
  block_above k h = get_or-put_chunk_above i xs block k (pos 0) (omega (arith, block_length))

-- the first k places are those of a with c times b added, the others those of a
pub record IsDone (c : ℤ) (a b : List ℤ) (k : ℕ) (new : List ℤ) : Type 0 where
  pub length : length new ≡ length a
  pub within : All (IsWithin 2295) new
  pub done : (j : ℕ) → j < k → coefficient new j ≡ centred 2295 (coefficient a j +ℤ c *ℤ coefficient b j)
  pub rest : (j : ℕ) → k ≤ j → coefficient new j ≡ coefficient a j

pub IsDone-none : (c : ℤ) (a b : List ℤ) → All (IsWithin 2295) a → IsDone c a b 0 a
IsDone-none c a b w = record { length = refl; within = w; done = λ j l. absurd (omega arith); rest = λ j l. refl }

pub IsDone-block : (c : ℤ) (a b xs : List ℤ) (k k' : ℕ) → k' ≡ k + 8 → k' ≤ length a → k' ≤ length b → IsDone c a b k xs
    → IsDone c a b k' (put_chunk k xs (reduced 2295 (plus (chunk k 8 xs) (scale c (chunk k 8 b)))))
IsDone-block c a b xs k k' e l m g =
    let p : k + 8 ≤ length xs = omega (arith, g.length) in
    let q : k + 8 ≤ length b = omega arith in
    let new = put_chunk k xs (reduced 2295 (plus (chunk k 8 xs) (scale c (chunk k 8 b)))) in
    record {
      length = length-put_chunk k xs _ ∙ g.length;
      within = put_within k xs _ g.within (reduced_within 2295 _);
      done = λ j h. elim (cases_lt j k) [
        | inl t ↦ block_below c xs b k p q j t ∙ g.done j t
        | inr t ↦
            let d = j - k in
            let u : k + d ≡ j = omega arith in
            ap (coefficient new) (sym u) ∙ block_at c xs b k p q d (omega arith) ∙ ap (λ y. centred 2295 (coefficient xs y +ℤ c *ℤ coefficient b y)) u
            ∙ ap (λ y. centred 2295 (y +ℤ c *ℤ coefficient b j)) (g.rest j t)
      ];
      rest = λ j h. block_above c xs b k p q j (omega arith) ∙ g.rest j (omega arith);
    }

-- all but the last place, and that one
pub IsDone-all : (c : ℤ) (a b xs : List ℤ) (n : ℕ) (v : ℤ) → length a ≡ suc n → length b ≡ suc n → v ≡ centred 2295 (coefficient xs n +ℤ c *ℤ coefficient b n) → IsDone c a b n xs
    → set xs n v ≡ reduced 2295 (plus a (scale c b))
IsDone-all c a b xs n v e f h g =
    let m = length-set xs n v ∙ g.length in
    same_places (set xs n v) (reduced 2295 (plus a (scale c b))) (m ∙ e ∙ sym (length_added 2295 a b c (e ∙ sym f) ∙ f))
    (λ k l. elim (cases_lt k n) [
      | inl p ↦ let ne : k ≢ n = omega arith in get_or-set_other xs n k v (pos 0) ne ∙ g.done k p ∙ sym (coefficient_added 2295 a b c k (e ∙ sym f))
      | inr p ↦
          let s : k ≡ n = omega (arith, m) in
          ap (coefficient (set xs n v)) s ∙ get_or-set_same xs n v (pos 0) (omega (arith, g.length)) ∙ h ∙ ap (λ t. centred 2295 (t +ℤ c *ℤ coefficient b n)) (g.rest n (omega arith))
          ∙ sym (coefficient_added 2295 a b c n (e ∙ sym f)) ∙ ap (coefficient (reduced 2295 (plus a (scale c b)))) (sym s)
    ])
