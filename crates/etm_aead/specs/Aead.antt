-- Authenticated encryption with associated data as two functions (RFC 5116, 2.1 and 2.2), and what they
-- are where a text is encrypted and then tagged.
use Rattle.std.specs.Prelude.{ℕ, List, Option, Some, None, if◌then◌else◌}
use Rattle.std.specs.Str.{bytes_eq}
use Rattle.etm_aead.specs.Seal.{ciphertext_of, tag_of}

-- a ciphertext and its tag
pub record Sealed : Type 0 where
  pub ciphertext : List ℕ
  pub tag : List ℕ

-- sealing: the key, the associated data and the text give a ciphertext and its tag (RFC 5116, 2.1)
unfoldable pub sealed_of : List ℕ → List ℕ → List ℕ → Sealed
sealed_of key ad text =
    record { ciphertext = ciphertext_of key text; tag = tag_of key ad (ciphertext_of key text) }

-- opening: the text, where the tag is that of the ciphertext and the data, and else nothing (RFC 5116, 2.2)
unfoldable pub opened_of : List ℕ → List ℕ → Sealed → Option (List ℕ)
opened_of key ad given =
    if bytes_eq given.tag (tag_of key ad given.ciphertext) then Some (ciphertext_of key given.ciphertext) else None
