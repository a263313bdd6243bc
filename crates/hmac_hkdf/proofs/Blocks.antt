-- The blocks of HKDF's output, one after the other.
use Rattle.std.proofs.Common.{◌≡◌, ℕ, ◌+◌, ◌-◌, ◌*◌, ◌≤◌, List, [], ◌∷◌, ◌++◌, length, take, drop, min, refl, ap, arith, ◌∙◌, sym, add-one, inl, inr, length-drop, length-append}
use Rattle.std.proofs.Math.Seq.{take-append-add}
use Rattle.std.proofs.lemmas.Bool.{cases_lt}
use Rattle.std.proofs.lemmas.List.{take_all, take_at, length-take-le, append-nil}
use Rattle.std.specs.Int.{div_ceil}
use Rattle.hmac_hkdf.specs.Hmac.{hmac_of}
use Rattle.hmac_hkdf.specs.Hkdf.{expand_block, expand_blocks, expand_of}
use Rattle.hmac_hkdf.proofs.Lengths.{length-expand_blocks}
use borrow.Rule.Slice.PartMut.{put_mid}

-- a block, or what fits of it in the room that is left, and the list after it
block_in_room : (block ys rest : List ℕ) (room n : ℕ) → length block ≡ 32 → n ≡ min 32 room → ys ≡ take n block → length rest ≡ room - n
    → take 32 (ys ++ rest) ≡ take room block
block_in_room block ys rest room n len en ey er =
    let ly : length ys ≡ n = ap length ey ∙ length-take-le n block (omega arith) in
    elim (cases_lt room 32) [
      | inl short ↦ let whole : take 32 (ys ++ rest) ≡ ys ++ rest = take_all 32 (ys ++ rest) (omega (arith, length-append ys rest)) in
          let none : rest ≡ [] = sym (take_all 0 rest (omega arith)) in
          let is : n ≡ room = omega arith in
          whole ∙ rw (none, append-nil, ey, is) refl
      | inr long ↦ let is : n ≡ 32 = omega arith in
          take_at ys rest 32 (omega arith) ∙ rw (ey, is, take_all 32 block (omega arith)) (sym (take_all room block (omega arith)))
    ]

-- a block written at a place, as far as the list reaches
pub take-put_block : (out block ys : List ℕ) (at n k : ℕ) → at ≤ length out → length block ≡ 32 → n ≡ min 32 (length out - at) → k ≡ n → ys ≡ take n block
    → take (at + 32) (put_mid at k out ys) ≡ take (length out) (take at out ++ block)
take-put_block out block ys at n k fits len en ek ey =
    let head : List ℕ = take at out in
    let lh : length head ≡ at = length-take-le at out fits in
    let room : ℕ = length out - at in
    let rest : List ℕ = drop k (drop at out) in
    let lr : length rest ≡ room - n = omega (arith, length-drop k (drop at out), length-drop at out) in
    let left : take (length head + 32) (head ++ (ys ++ rest)) ≡ head ++ take 32 (ys ++ rest) = take-append-add head (ys ++ rest) 32 in
    let right : take (length head + room) (head ++ block) ≡ head ++ take room block = take-append-add head block room in
    let all : at + room ≡ length out = omega arith in
    let same : take 32 (ys ++ rest) ≡ take room block = block_in_room block ys rest room n len en ey lr in
    rw lh at left ∙ ap (λ (x : List ℕ). head ++ x) same ∙ sym (rw (lh, all) at right)

-- one more block of the output
pub take-expand_blocks_more : (prk info out : List ℕ) (len i : ℕ) → out ≡ take len (expand_blocks prk info i) → 32 * i ≤ len
    → take len (out ++ expand_block prk info (i + 1)) ≡ take len (expand_blocks prk info (i + 1))
unfolding expand_blocks
take-expand_blocks_more prk info out len i e fits =
    let before : take len (expand_blocks prk info i) ≡ expand_blocks prk info i = take_all len _ (omega (arith, length-expand_blocks prk info i)) in
    rw (e, before, add-one) refl

-- before the first block
pub take-expand_blocks_none : (prk info : List ℕ) (len : ℕ) → take len (expand_blocks prk info 0) ≡ []
unfolding expand_blocks
take-expand_blocks_none prk info len = take_all len [] (omega arith)

-- the block after a block
pub expand_block_next : (prk info previous : List ℕ) (i : ℕ) → previous ≡ expand_block prk info i
    → hmac_of prk (previous ++ info ++ (i + 1) ∷ []) ≡ expand_block prk info (i + 1)
unfolding expand_block
expand_block_next prk info previous i e = rw (e, add-one) refl

-- no block before the first
pub expand_block-zero : (prk info : List ℕ) → [] ≡ expand_block prk info 0
unfolding expand_block
expand_block-zero prk info = refl

-- the whole list is written
pub expand_of_written : (prk info out : List ℕ) (len count : ℕ) → take (32 * count) out ≡ take (length out) (expand_blocks prk info count) → length out ≡ len
    → count ≡ div_ceil len 32 → out ≡ expand_of prk info len
unfolding expand_of
expand_of_written prk info out len count written same ec =
    sym (take_all (32 * count) out (omega arith)) ∙ written ∙ rw (same, ec) refl
