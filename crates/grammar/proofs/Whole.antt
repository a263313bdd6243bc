-- The grammar of a text after which nothing stands.
use Rattle.std.proofs.Common.{◌≡◌, ℕ, List, [], ◌++◌, length, Result, Ok, Err, refl, sym, ◌∙◌, ap, subst, append-nil}
use Rattle.std.specs.Prelude.{◌==◌}
use Rattle.std.proofs.lemmas.Bool.{eqb-true}
use Rattle.std.proofs.lemmas.List.{nil_from_length}
use Rattle.grammar.specs.Reader.{Read, Reader, ended, whole}
use Rattle.grammar.specs.Grammar.{IsGrammar, IsWholeGrammar}
use Rattle.dr_base.specs.Bytes.{AreBytes}
use Rattle.grammar.proofs.Steps.{from_test}

-- the text ended after a value
from_ended : {A : Type 0} (r : Result (Read A) ℕ) (a : A) → ended r ≡ Ok a → (x : Read A) × (r ≡ Ok x) × (x.value ≡ a) × (x.rest ≡ [])
from_ended (Ok x) a h =
    let t = from_test (length x.rest == 0) x.value a x.at h in
    (x, refl, t.1, nil_from_length x.rest (eqb-true _ _ t.0))
from_ended (Err at) a h = absurd (let e : Err at ≡ Ok a = h in cc)

module _ {A : Type 0} (print : A → List ℕ) (Lawful : A → Type 0) (read : Reader A) (grammar : IsGrammar print Lawful read) where
  reads_whole : (a : A) → Lawful a → whole read (print a) ≡ Ok a
  reads_whole a lawful = ap (λ t. whole read t) (sym (append-nil (print a))) ∙ ap ended (grammar.reads a 0 [] lawful)

  only_whole : (bytes : List ℕ) (a : A) → AreBytes bytes → whole read bytes ≡ Ok a → (bytes ≡ print a) × Lawful a
  only_whole bytes a are h =
      let end = from_ended (read 0 bytes) a h in
      let x = end.0 in
      let was = grammar.only 0 bytes x are end.1 in
      subst (λ (v : A). (bytes ≡ print v) × Lawful v) end.2
      (was.text ∙ ap (λ (r : List ℕ). print x.value ++ r) end.3 ∙ append-nil (print x.value), was.lawful)

  pub whole_grammar : IsWholeGrammar print Lawful (whole read)
  whole_grammar = record { reads = reads_whole; only = only_whole }
