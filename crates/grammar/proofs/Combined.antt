-- Grammars put together stay grammars: a field with a test, a field as what it means, two fields.
use Rattle.std.proofs.Common.{◌≡◌, ℕ, ◌+◌, Bool, true, List, ◌++◌, length, Ok, Err, sym, ◌∙◌, ap, subst, arith, length-append, append_assoc, if◌then◌else◌}
use Rattle.grammar.specs.Reader.{Read, Reader, and_then, gives, checked, mapped, both}
use Rattle.grammar.specs.Grammar.{reading, WasPrinted, IsGrammar}
use Rattle.dr_base.specs.Bytes.{AreBytes}
use Rattle.grammar.proofs.Steps.{from_and_then, from_test}

-- ---- a field that passes a test

module _ {A : Type 0} (print : A → List ℕ) (Lawful : A → Type 0) (read : Reader A) (grammar : IsGrammar print Lawful read) (test : A → Bool) where
  abbrev IsChecked : A → Type 0
  IsChecked a = Lawful a × (test a ≡ true)

  abbrev tested : ℕ → A → Reader A
  tested at a at' rest = if test a then Ok (record { value = a; at = at'; rest = rest }) else Err at

  reads_checked : (a : A) (at : ℕ) (rest : List ℕ) → IsChecked a → checked test read at (print a ++ rest) ≡ reading a at (print a) rest
  reads_checked a at rest lawful =
      ap (λ r. and_then r (tested at)) (grammar.reads a at rest lawful.0)
      ∙ ap (λ (passes : Bool). if passes then reading a at (print a) rest else Err at) lawful.1

  only_checked : (at : ℕ) (bytes : List ℕ) (x : Read A) → AreBytes bytes → checked test read at bytes ≡ Ok x → WasPrinted print IsChecked at bytes x
  only_checked at bytes x are h =
      let first = from_and_then (read at bytes) (tested at) x h in
      let a = first.0 in
      let passed = from_test (test a.value) (record { value = a.value; at = a.at; rest = a.rest }) x at first.2 in
      let was = grammar.only at bytes a are first.1 in
      subst (WasPrinted print IsChecked at bytes) passed.1
      (record { text = was.text; lawful = (was.lawful, passed.0); behind = was.behind; rest_bytes = was.rest_bytes })

  pub checked_grammar : IsGrammar print IsChecked (checked test read)
  checked_grammar = record { reads = reads_checked; only = only_checked }

-- ---- a field as what it means: `f` and `g` carry lawful values to each other, there and back

module _ {A B : Type 0} (print : A → List ℕ) (La : A → Type 0) (read : Reader A) (grammar : IsGrammar print La read) (Lb : B → Type 0) (f : A → B) (g : B → A)
    (there : (a : A) → La a → Lb (f a) × (g (f a) ≡ a)) (back : (b : B) → Lb b → La (g b) × (f (g b) ≡ b)) where
  reads_mapped : (b : B) (at : ℕ) (rest : List ℕ) → Lb b → mapped f read at (print (g b) ++ rest) ≡ reading b at (print (g b)) rest
  reads_mapped b at rest lawful =
      ap (λ r. and_then r (λ a. gives (f a))) (grammar.reads (g b) at rest (back b lawful).0)
      ∙ ap (λ v. reading v at (print (g b)) rest) (back b lawful).1

  only_mapped : (at : ℕ) (bytes : List ℕ) (x : Read B) → AreBytes bytes → mapped f read at bytes ≡ Ok x → WasPrinted (λ b. print (g b)) Lb at bytes x
  only_mapped at bytes x are h =
      let first = from_and_then (read at bytes) (λ a. gives (f a)) x h in
      let a = first.0 in
      let was = grammar.only at bytes a are first.1 in
      let meant = there a.value was.lawful in
      let given : Ok (record { value = f a.value; at = a.at; rest = a.rest }) ≡ Ok x = first.2 in
      let same : record { value = f a.value; at = a.at; rest = a.rest } ≡ x = cc in
      subst (WasPrinted (λ b. print (g b)) Lb at bytes) same
      (record {
        text = was.text ∙ ap (λ v. print v ++ a.rest) (sym meant.1);
        lawful = meant.0;
        behind = was.behind ∙ ap (λ v. at + length (print v)) (sym meant.1);
        rest_bytes = was.rest_bytes;
      })

  pub mapped_grammar : IsGrammar (λ b. print (g b)) Lb (mapped f read)
  mapped_grammar = record { reads = reads_mapped; only = only_mapped }

-- ---- two fields

module _ {A B : Type 0} (pa : A → List ℕ) (La : A → Type 0) (ra : Reader A) (pb : A → B → List ℕ) (Lb : A → B → Type 0) (rb : A → Reader B)
    (first : IsGrammar pa La ra) (second : (a : A) → La a → IsGrammar (pb a) (Lb a) (rb a)) where
  abbrev print_both : A × B → List ℕ
  print_both e = pa e.0 ++ pb e.0 e.1

  abbrev AreBoth : A × B → Type 0
  AreBoth e = La e.0 × Lb e.0 e.1

  abbrev paired : A → B → Reader (A × B)
  paired a b = gives (a, b)

  abbrev then_second : A → Reader (A × B)
  then_second a at rest = and_then (rb a at rest) (paired a)

  reads_both : (e : A × B) (at : ℕ) (rest : List ℕ) → AreBoth e → both ra rb at (print_both e ++ rest) ≡ reading e at (print_both e) rest
  reads_both e at rest lawful =
      let one = first.reads e.0 at (pb e.0 e.1 ++ rest) lawful.0 in
      let two = (second e.0 lawful.0).reads e.1 (at + length (pa e.0)) rest lawful.1 in
      let sum : at + length (pa e.0) + length (pb e.0 e.1) ≡ at + length (print_both e) = omega (arith, length-append (pa e.0) (pb e.0 e.1)) in
      ap (both ra rb at) (append_assoc (pa e.0) (pb e.0 e.1) rest)
      ∙ ap (λ r. and_then r then_second) one
      ∙ ap (λ r. and_then r (paired e.0)) two
      ∙ ap (λ (n : ℕ). Ok (record { value = e; at = n; rest = rest })) sum

  only_both : (at : ℕ) (bytes : List ℕ) (x : Read (A × B)) → AreBytes bytes → both ra rb at bytes ≡ Ok x → WasPrinted print_both AreBoth at bytes x
  only_both at bytes x are h =
      let one = from_and_then (ra at bytes) then_second x h in
      let a = one.0 in
      let two = from_and_then (rb a.value a.at a.rest) (paired a.value) x one.2 in
      let b = two.0 in
      let was = first.only at bytes a are one.1 in
      let then_was = (second a.value was.lawful).only a.at a.rest b was.rest_bytes two.1 in
      let given : Ok (record { value = (a.value, b.value); at = b.at; rest = b.rest }) ≡ Ok x = two.2 in
      let same : record { value = (a.value, b.value); at = b.at; rest = b.rest } ≡ x = cc in
      let sum : b.at ≡ at + length (pa a.value ++ pb a.value b.value) =
      omega (arith, was.behind, then_was.behind, length-append (pa a.value) (pb a.value b.value)) in
      subst (WasPrinted print_both AreBoth at bytes) same
      (record {
        text = was.text ∙ ap (λ rest. pa a.value ++ rest) then_was.text ∙ sym (append_assoc (pa a.value) (pb a.value b.value) b.rest);
        lawful = (was.lawful, then_was.lawful);
        behind = sum;
        rest_bytes = then_was.rest_bytes;
      })

  pub both_grammar : IsGrammar print_both AreBoth (both ra rb)
  both_grammar = record { reads = reads_both; only = only_both }
