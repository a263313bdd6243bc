-- What a word after a command's name is: the separator, plain, a long flag or a short one.
use Rattle.std.proofs.Common.{◌≡◌, ℕ, ◌==◌, Bool, true, false, refl, sym, List, [], ◌∷◌, Option, Some, None, subst, eqb-true}
use Rattle.clap.specs.Lexer.{long_of, short_of, name_and_value}
use Rattle.command_words.specs.Values.{is_separator, is_flag}

pub data Kind (word : List ℕ) : Type 0 where
  divides : is_separator word ≡ true → Kind word
  stands : is_separator word ≡ false → is_flag word ≡ false → long_of word ≡ None → short_of word ≡ None → Kind word
  long : is_separator word ≡ false → is_flag word ≡ true → (p : List ℕ × Option (List ℕ)) → long_of word ≡ Some p → Kind word
  short : is_separator word ≡ false → is_flag word ≡ true → long_of word ≡ None → (y : ℕ) (zs : List ℕ) → short_of word ≡ Some (y ∷ zs) → word ≡ 45 ∷ y ∷ zs
      → Kind word

-- one hyphen and more
hyphened : (y : ℕ) (zs : List ℕ) → Kind (45 ∷ y ∷ zs)
hyphened y zs = go (y == 45) refl zs
  where
    go : (b : Bool) → (y == 45) ≡ b → (zs : List ℕ) → Kind (45 ∷ y ∷ zs)
    go true e [] = divides (rw e refl)
    go true e (z ∷ zs) = long (rw e refl) refl (name_and_value (z ∷ zs)) (rw e refl)
    go false e zs = short (rw e refl) refl (rw e refl) y zs (rw e refl) refl

pub kind_of : (word : List ℕ) → Kind word
kind_of [] = stands refl refl refl refl
kind_of (x ∷ []) = go (x == 45) refl
  where
    go : (b : Bool) → (x == 45) ≡ b → Kind (x ∷ [])
    go true e = stands (rw e refl) refl (rw e refl) (rw e refl)
    go false e = stands (rw e refl) refl (rw e refl) (rw e refl)
kind_of (x ∷ y ∷ zs) = go (x == 45) refl
  where
    go : (b : Bool) → (x == 45) ≡ b → Kind (x ∷ y ∷ zs)
    go true e = subst (λ (c : ℕ). Kind (c ∷ y ∷ zs)) (sym (eqb-true x 45 e)) (hyphened y zs)
    go false e = stands (rw e refl) (rw e refl) (rw e refl) (rw e refl)
