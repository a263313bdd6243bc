-- What the values of the code stand for.
use Rattle.std.specs.Prelude.{◌≡◌, ℕ, List, length, take, drop, Result, Ok, Err}
use Rattle.long_text.specs.declared.refusal.LongRefusal.{LongRefusal}

-- What a room has then: a text stands first, and what is behind it stays; or all stays, where the
-- answer is a refusal. The answer is the text's length, or that refusal.
abbrev pub Fills : List ℕ → List ℕ → Result ℕ LongRefusal → Result (List ℕ) LongRefusal
    → Type 0
Fills old new (Ok len) (Ok text) =
    (len ≡ length text) × (take len new ≡ text) × (drop len new ≡ drop len old)
Fills old new (Err refusal) (Err other) = (refusal ≡ other) × (new ≡ old)
Fills old new _ _ = ⊥
