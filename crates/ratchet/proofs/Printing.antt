-- A packet that is printed in place: its header, the text after it, which is sealed there, and the tag.
use Rattle.std.proofs.Common.{◌≡◌, ℕ, ◌+◌, List, ◌++◌, length, take, drop, refl, ◌∙◌, ap, ap₂, arith}
use Rattle.std.proofs.Math.Seq.{take-append_seam, drop-append_seam}
use Rattle.std.proofs.lemmas.List.{length-append}
use Rattle.dr_base.specs.Buffer.{Puts}
use Rattle.etm_aead.specs.Seal.{ciphertext_of, tag_of}
use Rattle.etm_aead.specs.Undoing.{length-ciphertext_of}

-- the two parts of a list, at a place that is the first one's length
first_of : (n : ℕ) (xs ys both : List ℕ) → n ≡ length xs → both ≡ xs ++ ys → take n both ≡ xs
first_of n xs ys both e is = ap₂ take e is ∙ take-append_seam xs ys

second_of : (n : ℕ) (xs ys both : List ℕ) → n ≡ length xs → both ≡ xs ++ ys → drop n both ≡ ys
second_of n xs ys both e is = ap₂ drop e is ∙ drop-append_seam xs ys

pub printed : (key header text a b front d tag : List ℕ) (at_text at_tag next : ℕ) → at_text ≡ length header → take at_text a ≡ header
    → Puts a b at_text text at_tag → front ≡ take at_text (take at_tag b) ++ ciphertext_of key (drop at_text (take at_tag b))
    → tag ≡ tag_of key (take at_text (take at_tag b)) (ciphertext_of key (drop at_text (take at_tag b)))
    → Puts (front ++ drop at_tag b) d at_tag tag next
    → take next d ≡ header ++ ciphertext_of key text ++ tag_of key header (ciphertext_of key text)
printed key header text a b front d tag at_text at_tag next len is put sealed tagged last =
    let both : take at_tag b ≡ header ++ text = put.front ∙ ap (λ x. x ++ text) is in
    let before : take at_text (take at_tag b) ≡ header = first_of at_text header text (take at_tag b) len both in
    let after : drop at_text (take at_tag b) ≡ text = second_of at_text header text (take at_tag b) len both in
    let front_is : front ≡ header ++ ciphertext_of key text = sealed ∙ ap₂ (λ x y. x ++ ciphertext_of key y) before after in
    let size : length front ≡ length header + length text =
    ap length front_is ∙ length-append header (ciphertext_of key text) ∙ ap (λ n. length header + n) (length-ciphertext_of key text) in
    let end : at_tag ≡ length front = omega (arith, put.next_is) in
    let tag_is : tag ≡ tag_of key header (ciphertext_of key text) = tagged ∙ ap₂ (λ x y. tag_of key x (ciphertext_of key y)) before after in
    last.front ∙ ap₂ (λ x y. x ++ y) (first_of at_tag front (drop at_tag b) (front ++ drop at_tag b) end refl ∙ front_is) tag_is
