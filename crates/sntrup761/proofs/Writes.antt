-- Texts put one after another.
use Rattle.std.proofs.Common.{◌≡◌, ℕ, List, ◌++◌, length, take, ap, sym, ◌∙◌, arith}
use Rattle.std.proofs.lemmas.List.{take_all}
use Rattle.dr_base.specs.Buffer.{Puts}

-- the first text
pub put_first : (old new bytes : List ℕ) (next : ℕ) → Puts old new 0 bytes next → take next new ≡ bytes
put_first old new bytes next p = p.front

-- a text after those that are put
pub put_more : (old new front bytes : List ℕ) (at next : ℕ) → take at old ≡ front → Puts old new at bytes next
    → take next new ≡ front ++ bytes
put_more old new front bytes at next e p = p.front ∙ ap (λ t. t ++ bytes) e

-- the last text fills the buffer
pub put_last : (new front : List ℕ) (next : ℕ) → take next new ≡ front → length new ≡ next → new ≡ front
put_last new front next e l = sym (take_all next new (omega arith)) ∙ e

-- equal texts in a row
pub five : (a b d e a' b' d' e' c : List ℕ) → a ≡ a' → b ≡ b' → d ≡ d' → e ≡ e'
    → a ++ b ++ c ++ d ++ e ≡ a' ++ b' ++ c ++ d' ++ e'
five a b d e a' b' d' e' c p q r s = cc
