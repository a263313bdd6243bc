-- A stream that is xored into a text, at the beginning or from a place on.
use Rattle.std.proofs.Common.{◌≡◌, ℕ, zero, suc, ◌+◌, ◌-◌, ◌≤◌, ◌<◌, List, [], ◌∷◌, ◌++◌, length, take, drop, replicate, bit_xor, refl, sym, ap, ◌∙◌, arith, zero-add, suc-add, length-append, set, get_or}
use Rattle.std.specs.Simd.Lanes.{zip2, put_chunk}
use Rattle.dr_chacha20.specs.Stream.{xor_of, xor_at}

pub length-xor_of : (text stream : List ℕ) → length (xor_of text stream) ≡ length text
unfolding xor_of
length-xor_of [] stream = refl
length-xor_of (x ∷ text) [] = refl
length-xor_of (x ∷ text) (y ∷ stream) = ap suc (length-xor_of text stream)

-- one stream after another
pub xor_of-append : (text s t : List ℕ) → xor_at (length s) (xor_of text s) t ≡ xor_of text (s ++ t)
unfolding xor_of xor_at
xor_of-append [] [] t = refl
xor_of-append [] (y ∷ s) t = refl
xor_of-append (x ∷ text) [] t = refl
xor_of-append (x ∷ text) (y ∷ s) t = ap (λ r. bit_xor x y ∷ r) (xor_of-append text s t)

xor_at-append : (at : ℕ) (text s t : List ℕ) → xor_at (at + length s) (xor_at at text s) t ≡ xor_at at text (s ++ t)
unfolding xor_of xor_at
xor_at-append zero text s t = rw zero-add (xor_of-append text s t)
xor_at-append (suc at) [] s t = rw suc-add refl
xor_at-append (suc at) (x ∷ text) s t = rw suc-add (ap (λ r. x ∷ r) (xor_at-append at text s t))

-- the same, with the place where the first stream ends
pub xor_at-next : (at n : ℕ) (text s t : List ℕ) → n ≡ at + length s → xor_at n (xor_at at text s) t ≡ xor_at at text (s ++ t)
xor_at-next at n text s t end = ap (λ m. xor_at m (xor_at at text s) t) end ∙ xor_at-append at text s t

-- a chunk that is read, xored and written back
chunk_xored : (text s : List ℕ) → length s ≤ length text → put_chunk 0 text (zip2 bit_xor (take (length s) text) s) ≡ xor_of text s
unfolding xor_of
chunk_xored [] [] h = refl
chunk_xored [] (y ∷ s) h = absurd (omega arith)
chunk_xored (x ∷ text) [] h = refl
chunk_xored (x ∷ text) (y ∷ s) h = ap (λ r. bit_xor x y ∷ r) (chunk_xored text s (omega arith))

pub chunk_xored_at : (at : ℕ) (text s : List ℕ) → at + length s ≤ length text
    → put_chunk at text (zip2 bit_xor (take (length s) (drop at text)) s) ≡ xor_at at text s
unfolding xor_of xor_at
chunk_xored_at zero text s h = chunk_xored text s (omega arith)
chunk_xored_at (suc at) [] s h = absurd (omega arith)
chunk_xored_at (suc at) (x ∷ text) s h = ap (λ r. x ∷ r) (chunk_xored_at at text s (omega arith))

-- a stream xored into zeros is the stream
pub xor_of-zeros : (s : List ℕ) → xor_of (replicate (length s) 0) s ≡ s
unfolding xor_of
xor_of-zeros [] = refl
xor_of-zeros (y ∷ s) = ap (λ r. y ∷ r) (xor_of-zeros s)

pub xor_at-zeros : (n : ℕ) (s : List ℕ) → length s ≡ n → xor_at 0 (replicate n 0) s ≡ s
unfolding xor_at
xor_at-zeros n s h = ap (λ m. xor_of (replicate m 0) s) (sym h) ∙ xor_of-zeros s

-- four streams of 16 bytes, one after another
pub four_xored : (at : ℕ) (t0 t1 t2 t3 t4 p q r s : List ℕ) → length p ≡ 16 → length q ≡ 16 → length r ≡ 16
    → t1 ≡ xor_at at t0 p → t2 ≡ xor_at (at + 16) t1 q → t3 ≡ xor_at (at + 32) t2 r → t4 ≡ xor_at (at + 48) t3 s
    → t4 ≡ xor_at at t0 (p ++ q ++ r ++ s)
four_xored at t0 t1 t2 t3 t4 p q r s hp hq hr e1 e2 e3 e4 =
    let two = length-append p q in
    let three = length-append (p ++ q) r in
    let f2 = e2 ∙ ap (λ t. xor_at (at + 16) t q) e1 ∙ xor_at-next at (at + 16) t0 p q (omega arith) in
    let f3 = e3 ∙ ap (λ t. xor_at (at + 32) t r) f2 ∙ xor_at-next at (at + 32) t0 (p ++ q) r (omega arith) in
    e4 ∙ ap (λ t. xor_at (at + 48) t s) f3 ∙ xor_at-next at (at + 48) t0 (p ++ q ++ r) s (omega arith)

-- byte by byte: one more byte of the stream
pub xor_of-nil : (text : List ℕ) → xor_of text [] ≡ text
unfolding xor_of
xor_of-nil [] = refl
xor_of-nil (x ∷ text) = refl

xor_of-more : (j : ℕ) (text s : List ℕ) → j < length text → j < length s
    → set (xor_of text (take j s)) j (bit_xor (get_or (xor_of text (take j s)) j 0) (get_or s j 0)) ≡ xor_of text (take (suc j) s)
unfolding xor_of
xor_of-more j [] s h k = absurd (omega arith)
xor_of-more j (x ∷ text) [] h k = absurd (omega arith)
xor_of-more zero (x ∷ text) (y ∷ s) h k = ap (λ r. bit_xor x y ∷ r) (sym (xor_of-nil text))
xor_of-more (suc j) (x ∷ text) (y ∷ s) h k = ap (λ r. bit_xor x y ∷ r) (xor_of-more j text s (omega arith) (omega arith))

xor_at-more : (at j : ℕ) (text s : List ℕ) → at + j < length text → j < length s
    → set (xor_at at text (take j s)) (at + j) (bit_xor (get_or (xor_at at text (take j s)) (at + j) 0) (get_or s j 0)) ≡ xor_at at text (take (suc j) s)
unfolding xor_at
xor_at-more zero j text s h k = rw zero-add (xor_of-more j text s (omega arith) k)
xor_at-more (suc at) j [] s h k = absurd (omega arith)
xor_at-more (suc at) j (x ∷ text) s h k = rw suc-add (ap (λ r. x ∷ r) (xor_at-more at j text s (omega arith) k))

-- the same at place i, with the bytes that were read
pub xor_at-step : (at i x y : ℕ) (text now s : List ℕ) → at ≤ i → i < length text → i - at < length s
    → now ≡ xor_at at text (take (i - at) s) → x ≡ get_or now i 0 → y ≡ get_or s (i - at) 0
    → set now i (bit_xor x y) ≡ xor_at at text (take (i + 1 - at) s)
xor_at-step at i x y text now s low high within is readx ready =
    let place : at + (i - at) ≡ i = omega arith in
    let count : suc (i - at) ≡ i + 1 - at = omega arith in
    let more = xor_at-more at (i - at) text s (omega arith) within in
    let at_i = rw place at more in
    rw (← count) (rw (readx, ready, is) at_i)

-- what of the stream passes the text's end doesn't count
xor_of-take : (n : ℕ) (text s : List ℕ) → length text ≤ n → xor_of text (take n s) ≡ xor_of text s
unfolding xor_of
xor_of-take n [] s h = refl
xor_of-take zero (x ∷ text) s h = absurd (omega arith)
xor_of-take (suc n) (x ∷ text) [] h = refl
xor_of-take (suc n) (x ∷ text) (y ∷ s) h = ap (λ r. bit_xor x y ∷ r) (xor_of-take n text s (omega arith))

pub xor_at-take : (at n : ℕ) (text s : List ℕ) → length text ≤ at + n → xor_at at text (take n s) ≡ xor_at at text s
unfolding xor_at
xor_at-take zero n text s h = xor_of-take n text s (omega arith)
xor_at-take (suc at) n [] s h = refl
xor_at-take (suc at) n (x ∷ text) s h = ap (λ r. x ∷ r) (xor_at-take at n text s (omega arith))

pub xor_at-none : (at : ℕ) (text : List ℕ) → xor_at at text [] ≡ text
unfolding xor_at
xor_at-none zero text = xor_of-nil text
xor_at-none (suc at) [] = refl
xor_at-none (suc at) (x ∷ text) = ap (λ r. x ∷ r) (xor_at-none at text)
