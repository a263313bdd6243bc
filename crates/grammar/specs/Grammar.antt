-- The law that ties a printer and a reader of one format.
use Rattle.std.specs.Prelude.{◌≡◌, ℕ, ◌+◌, List, ◌++◌, length, Result, Ok}
use Rattle.dr_base.specs.Bytes.{AreBytes}
use Rattle.grammar.specs.Reader.{Read, Reader}

-- what is read where a value was printed, with the rest of the text after it
abbrev pub reading : {A : Type 0} → A → ℕ → List ℕ → List ℕ → Result (Read A) ℕ
reading a at printed rest = Ok (record { value = a; at = at + length printed; rest = rest })

-- What was read at an offset had been printed there: the bytes begin with the print of a lawful value.
pub record WasPrinted {A : Type 0} (print : A → List ℕ) (Lawful : A → Type 0) (at : ℕ) (bytes : List ℕ) (x : Read A)
    : Type 0 where
  pub text : bytes ≡ print x.value ++ x.rest
  pub lawful : Lawful x.value
  pub behind : x.at ≡ at + length (print x.value)
  pub rest_bytes : AreBytes x.rest

-- A printer and a reader agree: lawful values are read as they were printed, and nothing else is read.
pub record IsGrammar {A : Type 0} (print : A → List ℕ) (Lawful : A → Type 0) (read : Reader A) : Type 0 where
  pub reads : (a : A) (at : ℕ) (rest : List ℕ) → Lawful a → read at (print a ++ rest) ≡ reading a at (print a) rest
  pub only : (at : ℕ) (bytes : List ℕ) (x : Read A) → AreBytes bytes → read at bytes ≡ Ok x
      → WasPrinted print Lawful at bytes x

-- the same of a text after which nothing stands
pub record IsWholeGrammar {A : Type 0} (print : A → List ℕ) (Lawful : A → Type 0) (read : List ℕ → Result A ℕ)
    : Type 0 where
  pub reads : (a : A) → Lawful a → read (print a) ≡ Ok a
  pub only : (bytes : List ℕ) (a : A) → AreBytes bytes → read bytes ≡ Ok a → (bytes ≡ print a) × Lawful a
