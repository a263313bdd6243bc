-- What a block comes from, the lengths of blocks and of the key stream, and a text that more and
-- more of the stream is xored into.
use Rattle.std.proofs.Common.{◌≡◌, ℕ, zero, suc, ◌+◌, ◌*◌, List, [], ◌∷◌, ◌++◌, length, refl, sym, ap, ◌∙◌, arith, add-one, length-append, append_assoc}
use Rattle.std.proofs.lemmas.Simd.{length-zip2}
use Rattle.std.specs.Simd.Lanes.{zip2}
use Rattle.dr_chacha20.specs.Block.{add32, column_round, diagonal_round, double_rounds, initial_state, block_words, bytes_of, block_of}
use Rattle.dr_chacha20.specs.Stream.{key_stream, xor_of, xor_at}
use Rattle.dr_chacha20.proofs.Xor.{xor_of-append}

-- one double round more
pub double_round_more : (n : ℕ) (start x columns diagonals : List ℕ) → x ≡ double_rounds n start
    → columns ≡ column_round x → diagonals ≡ diagonal_round columns → diagonals ≡ double_rounds (n + 1) start
unfolding double_rounds
double_round_more n start x columns diagonals so_far column diagonal =
    rw add-one (diagonal ∙ ap diagonal_round (column ∙ ap column_round so_far))

-- the words after all the rounds, and the sum with the start
pub block_words_are : (n : ℕ) (start x words : List ℕ) → n ≡ 10 → x ≡ double_rounds n start → words ≡ zip2 add32 x start
    → words ≡ block_words start
unfolding block_words
block_words_are n start x words all rounds total =
    total ∙ ap (λ y. zip2 add32 y start) (rounds ∙ ap (λ m. double_rounds m start) all)

pub block_is : (key : List ℕ) (counter : ℕ) (nonce start words : List ℕ) → start ≡ initial_state key counter nonce
    → words ≡ block_words start → bytes_of words ≡ block_of key counter nonce
unfolding block_of
block_is key counter nonce start words begins ends = ap bytes_of (ends ∙ ap block_words begins)

length-double_rounds : (n : ℕ) (x : List ℕ) → length x ≡ 16 → length (double_rounds n x) ≡ 16
unfolding double_rounds diagonal_round
length-double_rounds zero x h = h
length-double_rounds (suc n) x h = refl

length-block_words : (x : List ℕ) → length x ≡ 16 → length (block_words x) ≡ 16
unfolding block_words
length-block_words x h =
    let rounds = length-double_rounds 10 x h in
    length-zip2 add32 (double_rounds 10 x) x (rounds ∙ sym h) ∙ rounds

length-bytes_of : (words : List ℕ) → length (bytes_of words) ≡ 4 * length words
unfolding bytes_of
length-bytes_of [] = refl
length-bytes_of (w ∷ words) = let rest = length-bytes_of words in omega arith

pub length-block_of : (key : List ℕ) (counter : ℕ) (nonce : List ℕ) → length (block_of key counter nonce) ≡ 64
unfolding block_of initial_state
length-block_of key counter nonce =
    let words = length-block_words (initial_state key counter nonce) refl in
    length-bytes_of (block_words (initial_state key counter nonce)) ∙ ap (λ n. 4 * n) words

pub length-key_stream : (key : List ℕ) (counter : ℕ) (nonce : List ℕ) (n : ℕ) → length (key_stream key counter nonce n) ≡ 64 * n
unfolding key_stream
length-key_stream key counter nonce zero = refl
length-key_stream key counter nonce (suc n) =
    let front = length-key_stream key counter nonce n in
    let back = length-block_of key (counter + n) nonce in
    length-append (key_stream key counter nonce n) (block_of key (counter + n) nonce) ∙ omega arith

-- a text with n blocks of the stream, and then more from where they end
stream_more : (key : List ℕ) (counter : ℕ) (nonce text now next s : List ℕ) (n at : ℕ) → at ≡ 64 * n
    → now ≡ xor_of text (key_stream key counter nonce n) → next ≡ xor_at at now s
    → next ≡ xor_of text (key_stream key counter nonce n ++ s)
stream_more key counter nonce text now next s n at place so_far more =
    let end = place ∙ sym (length-key_stream key counter nonce n) in
    more ∙ ap (λ t. xor_at at t s) so_far ∙ ap (λ m. xor_at m (xor_of text (key_stream key counter nonce n)) s) end
    ∙ xor_of-append text (key_stream key counter nonce n) s

-- one block more; i is the block's counter and m the number of blocks after it
pub one_block_more : (key : List ℕ) (counter : ℕ) (nonce text now next : List ℕ) (n m i at : ℕ)
    → at ≡ 64 * n → i ≡ counter + n → m ≡ n + 1
    → now ≡ xor_of text (key_stream key counter nonce n) → next ≡ xor_at at now (block_of key i nonce)
    → next ≡ xor_of text (key_stream key counter nonce m)
unfolding key_stream
one_block_more key counter nonce text now next n m i at place count end so_far more =
    let after : suc n ≡ m = omega arith in
    rw (← after) (rw count at (stream_more key counter nonce text now next (block_of key i nonce) n at place so_far more))

-- two blocks more
pub two_blocks_more : (key : List ℕ) (counter : ℕ) (nonce text now next : List ℕ) (n m i at : ℕ)
    → at ≡ 64 * n → i ≡ counter + n → m ≡ n + 2
    → now ≡ xor_of text (key_stream key counter nonce n)
    → next ≡ xor_at at now (block_of key i nonce ++ block_of key (i + 1) nonce)
    → next ≡ xor_of text (key_stream key counter nonce m)
unfolding key_stream
two_blocks_more key counter nonce text now next n m i at place count end so_far more =
    let after : suc (suc n) ≡ m = omega arith in
    let second : i + 1 ≡ counter + suc n = omega arith in
    let both = stream_more key counter nonce text now next _ n at place so_far more in
    rw (← after) (rw append_assoc (rw (second, count) at both))
