-- Opening undoes sealing: the proof that the law of `Aead` asks for, and what it stands on.
use Rattle.std.proofs.Common.{◌≡◌, ℕ, List, length, Some, None, cond, refl, ap, ◌∙◌}
use Rattle.std.proofs.lemmas.Slice.Eq.{bytes_eq-Decides}
use Rattle.dr_chacha20.proofs.Encryption.{encrypted-encrypted, length-encrypted}
use Rattle.hmac_hkdf.proofs.Lengths.{length-hmac_of}
use Rattle.etm_aead.specs.Seal.{ciphertext_of, tag_of}
use Rattle.etm_aead.specs.Aead.{sealed_of, opened_of}

-- encryption undoes itself
pub ciphertext_of-ciphertext_of : (key text : List ℕ) → ciphertext_of key (ciphertext_of key text) ≡ text
unfolding ciphertext_of
ciphertext_of-ciphertext_of key text = encrypted-encrypted _ 1 _ text

-- a ciphertext is as long as its text
pub length-ciphertext_of : (key text : List ℕ) → length (ciphertext_of key text) ≡ length text
unfolding ciphertext_of
length-ciphertext_of key text = length-encrypted _ 1 _ text

-- a tag has 32 bytes
pub length-tag_of : (key ad ct : List ℕ) → length (tag_of key ad ct) ≡ 32
unfolding tag_of
length-tag_of key ad ct = length-hmac_of _ _

-- what was sealed opens, and gives the text back
pub opened_of-sealed_of : (key ad text : List ℕ) → opened_of key ad (sealed_of key ad text) ≡ Some text
unfolding opened_of sealed_of
opened_of-sealed_of key ad text =
    let tag = tag_of key ad (ciphertext_of key text) in
    ap (λ b. cond b (Some (ciphertext_of key (ciphertext_of key text))) None) ((bytes_eq-Decides tag tag).1 refl)
    ∙ ap (λ t. Some t) (ciphertext_of-ciphertext_of key text)
