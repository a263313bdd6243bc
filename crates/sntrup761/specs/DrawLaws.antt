-- What any seed is expanded to: elements and bytes of the right kind.
use Rattle.std.proofs.Common.{◌≡◌, ℕ, List, length, replicate, codes, ◌∙◌}
use Rattle.std.proofs.lemmas.List.{length-replicate}
use Rattle.std.proofs.lemmas.List.FromFn.{length-map-range_with_len}
use Rattle.dr_chacha20.proofs.Encryption.{length-encrypted}
use Rattle.sntrup_core.specs.Core.{IsSmall, IsShort}
use Rattle.sntrup_core.proofs.Shorts.{small_element-small, short_element-short}
use Rattle.sntrup761.specs.Draws.{stream_of, nonce_of, word_at, words_of, drawn_g, drawn_f, drawn_rho, drawn_r}

pub length-stream_of : (seed nonce : List ℕ) (n : ℕ) → length (stream_of seed nonce n) ≡ n
unfolding stream_of
length-stream_of seed nonce n = length-encrypted seed 0 nonce (replicate n 0) ∙ length-replicate n 0

pub length-words_of : (seed nonce : List ℕ) → length (words_of seed nonce) ≡ 761
unfolding words_of
length-words_of seed nonce = length-map-range_with_len (word_at (stream_of seed nonce 3044)) 0 761

pub drawn_g-small : (seed : List ℕ) (number : ℕ) → IsSmall (drawn_g seed number)
unfolding drawn_g
drawn_g-small seed number =
    let nonce = nonce_of number (codes "draw-g00") in small_element-small (words_of seed nonce) (length-words_of seed nonce)

pub drawn_f-short : (seed : List ℕ) (number : ℕ) → IsShort (drawn_f seed number)
unfolding drawn_f
drawn_f-short seed number =
    let nonce = nonce_of number (codes "draw-f00") in short_element-short (words_of seed nonce) (length-words_of seed nonce)

pub length-drawn_rho : (seed : List ℕ) → length (drawn_rho seed) ≡ 191
unfolding drawn_rho
length-drawn_rho seed = length-stream_of seed (nonce_of 0 (codes "draw-rho")) 191

pub drawn_r-short : (seed : List ℕ) → IsShort (drawn_r seed)
unfolding drawn_r
drawn_r-short seed =
    let nonce = nonce_of 0 (codes "draw-enc") in short_element-short (words_of seed nonce) (length-words_of seed nonce)
