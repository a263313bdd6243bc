-- The bytes of a text as an inbox shows them.
use Rattle.std.proofs.Common.{◌≡◌, ℕ, true, false, [], ◌∷◌, ◌++◌, codes, refl}
use Rattle.hex.specs.Hex.{encode_lower}
use Rattle.answer_lines.specs.Texts.{escaped, is_plain}

-- a plain byte stands for itself
pub plain_byte : (byte : ℕ) → is_plain byte ≡ true → escaped byte ≡ byte ∷ []
unfolding escaped
plain_byte byte h = rw h refl

-- every other byte is written in hex
pub other_byte : (byte : ℕ) → is_plain byte ≡ false → escaped byte ≡ codes "\\x" ++ encode_lower (byte ∷ [])
unfolding escaped
other_byte byte h = rw h refl
