-- Grammars of a field that stands or not, and of one field or another.
use Rattle.std.proofs.Common.{◌≡◌, ℕ, ◌+◌, Bool, true, false, List, ◌++◌, length, Option, Some, None, Ok, refl, sym, ap, subst, arith, inl, inr}
use Rattle.std.specs.Prelude.{◌⊎◌}
use Rattle.grammar.specs.Reader.{Read, Reader, and_then, gives, mapped, maybe, either}
use Rattle.grammar.specs.Printer.{print_maybe, IsMaybe, print_either, IsEither}
use Rattle.grammar.specs.Grammar.{reading, WasPrinted, IsGrammar}
use Rattle.dr_base.specs.Bytes.{AreBytes}
use Rattle.grammar.proofs.Steps.{from_and_then}

-- what was read and then wrapped was printed, where the wrapped value prints as the value does
was_wrapped : {A B : Type 0} (pa : A → List ℕ) (La : A → Type 0) (ra : Reader A) (grammar : IsGrammar pa La ra) (pb : B → List ℕ) (Lb : B → Type 0) (wrap : A → B)
    → ((a : A) → pb (wrap a) ≡ pa a) → ((a : A) → La a → Lb (wrap a))
    → (at : ℕ) (bytes : List ℕ) (x : Read B) → AreBytes bytes → mapped wrap ra at bytes ≡ Ok x → WasPrinted pb Lb at bytes x
was_wrapped pa La ra grammar pb Lb wrap prints lawful at bytes x are h =
    let first = from_and_then (ra at bytes) (λ a. gives (wrap a)) x h in
    let a = first.0 in
    let was = grammar.only at bytes a are first.1 in
    let given : Ok (record { value = wrap a.value; at = a.at; rest = a.rest }) ≡ Ok x = first.2 in
    let same : record { value = wrap a.value; at = a.at; rest = a.rest } ≡ x = cc in
    let text : bytes ≡ pb (wrap a.value) ++ a.rest = subst (λ (t : List ℕ). bytes ≡ t ++ a.rest) (sym (prints a.value)) was.text in
    let behind : a.at ≡ at + length (pb (wrap a.value)) = subst (λ (t : List ℕ). a.at ≡ at + length t) (sym (prints a.value)) was.behind in
    subst (WasPrinted pb Lb at bytes) same
    (record { text = text; lawful = lawful a.value was.lawful; behind = behind; rest_bytes = was.rest_bytes })

-- ---- a field that stands or not

module _ {A : Type 0} (print : A → List ℕ) (Lawful : A → Type 0) (read : Reader A) (grammar : IsGrammar print Lawful read) where
  reads_maybe : (there : Bool) (o : Option A) (at : ℕ) (rest : List ℕ) → IsMaybe there Lawful o
      → maybe there read at (print_maybe print o ++ rest) ≡ reading o at (print_maybe print o) rest
  reads_maybe true None at rest lawful = absurd (let e : true ≡ false = lawful in cc)
  reads_maybe false None at rest lawful =
      ap (λ (n : ℕ). Ok (record { value = None; at = n; rest = rest })) (let here : at ≡ at + 0 = omega arith in here)
  reads_maybe true (Some a) at rest lawful = ap (λ r. and_then r (λ b. gives (Some b))) (grammar.reads a at rest lawful.1)
  reads_maybe false (Some a) at rest lawful = absurd (let e : false ≡ true = lawful.0 in cc)

  only_maybe : (there : Bool) (at : ℕ) (bytes : List ℕ) (x : Read (Option A)) → AreBytes bytes → maybe there read at bytes ≡ Ok x
      → WasPrinted (print_maybe print) (IsMaybe there Lawful) at bytes x
  only_maybe false at bytes x are h =
      let given : Ok (record { value = None; at = at; rest = bytes }) ≡ Ok x = h in
      let same : record { value = None; at = at; rest = bytes } ≡ x = cc in
      subst (WasPrinted (print_maybe print) (IsMaybe false Lawful) at bytes) same
      (record { text = refl; lawful = refl; behind = omega arith; rest_bytes = are })
  only_maybe true at bytes x are h =
      was_wrapped print Lawful read grammar (print_maybe print) (IsMaybe true Lawful) Some (λ a. refl) (λ a lawful. (refl, lawful)) at bytes x are h

  pub maybe_grammar : (there : Bool) → IsGrammar (print_maybe print) (IsMaybe there Lawful) (maybe there read)
  maybe_grammar there = record { reads = reads_maybe there; only = only_maybe there }

-- ---- one field or another

module _ {A B : Type 0} (pa : A → List ℕ) (La : A → Type 0) (ra : Reader A) (first : IsGrammar pa La ra)
    (pb : B → List ℕ) (Lb : B → Type 0) (rb : Reader B) (second : IsGrammar pb Lb rb) where
  reads_either : (there : Bool) (o : A ⊎ B) (at : ℕ) (rest : List ℕ) → IsEither there La Lb o
      → either there ra rb at (print_either pa pb o ++ rest) ≡ reading o at (print_either pa pb o) rest
  reads_either true (inl a) at rest lawful = ap (λ r. and_then r (λ b. gives (inl b))) (first.reads a at rest lawful.1)
  reads_either false (inl a) at rest lawful = absurd (let e : false ≡ true = lawful.0 in cc)
  reads_either true (inr b) at rest lawful = absurd (let e : true ≡ false = lawful.0 in cc)
  reads_either false (inr b) at rest lawful = ap (λ r. and_then r (λ a. gives (inr a))) (second.reads b at rest lawful.1)

  only_either : (there : Bool) (at : ℕ) (bytes : List ℕ) (x : Read (A ⊎ B)) → AreBytes bytes → either there ra rb at bytes ≡ Ok x
      → WasPrinted (print_either pa pb) (IsEither there La Lb) at bytes x
  only_either true at bytes x are h =
      was_wrapped pa La ra first (print_either pa pb) (IsEither true La Lb) inl (λ a. refl) (λ a lawful. (refl, lawful)) at bytes x are h
  only_either false at bytes x are h =
      was_wrapped pb Lb rb second (print_either pa pb) (IsEither false La Lb) inr (λ b. refl) (λ b lawful. (refl, lawful)) at bytes x are h

  pub either_grammar : (there : Bool) → IsGrammar (print_either pa pb) (IsEither there La Lb) (either there ra rb)
  either_grammar there = record { reads = reads_either there; only = only_either there }
