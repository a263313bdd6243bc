-- Grammars of lists: items, items after their count, bytes after their length.
use Rattle.std.proofs.Common.{◌≡◌, ℕ, zero, suc, ◌+◌, ◌<◌, ◌≤◌, Bool, true, List, [], ◌∷◌, ◌++◌, length, get_or, take, Ok, refl, sym, ◌∙◌, ap, subst, arith, append_assoc, length-append}
use Rattle.std.proofs.lemmas.List.{take_more, take_all}
use Rattle.std.specs.Int.{Width, to_be_bytes}
use Rattle.grammar.specs.Reader.{Read, Reader, and_then, gives, checked, number, piece, items, counted, sized}
use Rattle.grammar.specs.Printer.{print_items, print_counted, print_sized, AreItems, no_items, and_item}
use Rattle.grammar.specs.Grammar.{reading, WasPrinted, IsGrammar}
use Rattle.dr_base.specs.Bytes.{AreBytes}
use Rattle.grammar.proofs.Combined.{both_grammar, checked_grammar, mapped_grammar}
use Rattle.grammar.proofs.Fields.{number_grammar, piece_grammar}
use Rattle.dr_base.proofs.Widths.{IsExact}
use Rattle.grammar.proofs.Printing.{print_items-push}
use Rattle.grammar.proofs.Steps.{from_and_then}

-- ---- this many items

module _ {A : Type 0} (print : A → List ℕ) (Lawful : List A → A → Type 0) (read : List A → Reader A)
    (each : (before : List A) → IsGrammar print (Lawful before) (read before)) where
  abbrev pushed : List A → A → Reader (List A)
  pushed before a = gives (before ++ a ∷ [])

  abbrev one_more : List A → Reader (List A)
  one_more before at rest = and_then (read before at rest) (pushed before)

  reads_items : (n : ℕ) (list : List A) → AreItems Lawful n list → (at : ℕ) (rest : List ℕ)
      → items read n at (print_items print list ++ rest) ≡ reading list at (print_items print list) rest
  unfolding items print_items
  reads_items n list no_items at rest = ap (λ (m : ℕ). Ok (record { value = []; at = m; rest = rest })) (let here : at ≡ at + 0 = omega arith in here)
  reads_items m list (and_item n before a were lawful) at rest =
      let text = print_items-push print before a in
      let last = (each before).reads a (at + length (print_items print before)) rest lawful in
      let sum : at + length (print_items print before) + length (print a) ≡ at + length (print_items print (before ++ a ∷ [])) =
      omega (arith, length-append (print_items print before) (print a), ap (λ (t : List ℕ). length t) text) in
      ap (items read (suc n) at) (ap (λ t. t ++ rest) text ∙ append_assoc (print_items print before) (print a) rest)
      ∙ ap (λ r. and_then r one_more) (reads_items n before were at (print a ++ rest))
      ∙ ap (λ r. and_then r (pushed before)) last
      ∙ ap (λ (k : ℕ). Ok (record { value = before ++ a ∷ []; at = k; rest = rest })) sum

  only_items : (n : ℕ) (at : ℕ) (bytes : List ℕ) (x : Read (List A)) → AreBytes bytes → items read n at bytes ≡ Ok x
      → WasPrinted (print_items print) (AreItems Lawful n) at bytes x
  unfolding items print_items
  only_items zero at bytes x are h =
      let given : Ok (record { value = []; at = at; rest = bytes }) ≡ Ok x = h in
      let same : record { value = []; at = at; rest = bytes } ≡ x = cc in
      subst (WasPrinted (print_items print) (AreItems Lawful zero) at bytes) same
      (record { text = refl; lawful = no_items; behind = omega arith; rest_bytes = are })
  only_items (suc n) at bytes x are h =
      let one = from_and_then (items read n at bytes) one_more x h in
      let b = one.0 in
      let two = from_and_then (read b.value b.at b.rest) (pushed b.value) x one.2 in
      let a = two.0 in
      let were = only_items n at bytes b are one.1 in
      let last = (each b.value).only b.at b.rest a were.rest_bytes two.1 in
      let text = print_items-push print b.value a.value in
      let given : Ok (record { value = b.value ++ a.value ∷ []; at = a.at; rest = a.rest }) ≡ Ok x = two.2 in
      let same : record { value = b.value ++ a.value ∷ []; at = a.at; rest = a.rest } ≡ x = cc in
      let regrouped = sym (append_assoc (print_items print b.value) (print a.value) a.rest) in
      let sum : a.at ≡ at + length (print_items print (b.value ++ a.value ∷ [])) =
      omega (arith, were.behind, last.behind, length-append (print_items print b.value) (print a.value), ap (λ (t : List ℕ). length t) text) in
      subst (WasPrinted (print_items print) (AreItems Lawful (suc n)) at bytes) same
      (record {
        text = were.text ∙ ap (λ rest. print_items print b.value ++ rest) last.text ∙ regrouped ∙ ap (λ t. t ++ a.rest) (sym text);
        lawful = and_item n b.value a.value were.lawful last.lawful;
        behind = sum;
        rest_bytes = last.rest_bytes;
      })

  pub items_grammar : (n : ℕ) → IsGrammar (print_items print) (AreItems Lawful n) (items read n)
  items_grammar n = record { reads = λ list at rest lawful. reads_items n list lawful at rest; only = only_items n }

-- a list has as many items as were read
pub length-items : {A : Type 0} (Lawful : List A → A → Type 0) (n : ℕ) (list : List A) → AreItems Lawful n list → length list ≡ n
length-items Lawful n list no_items = refl
length-items Lawful m list (and_item n before a were lawful) =
    let shorter = length-items Lawful n before were in
    let long : length (before ++ a ∷ []) ≡ suc n = omega (arith, length-append before (a ∷ [])) in
    long

-- ---- items after their count

module _ {A : Type 0} (print : A → List ℕ) (Lawful : List A → A → Type 0) (read : List A → Reader A)
    (each : (before : List A) → IsGrammar print (Lawful before) (read before))
    (w : Width) (limit : ℕ) (exact : IsExact w limit) (test : ℕ → Bool) where
  abbrev pub IsCounted : List A → Type 0
  IsCounted list = ((length list < limit) × (test (length list) ≡ true)) × AreItems Lawful (length list) list

  pub counted_grammar : IsGrammar (print_counted w print) IsCounted (counted w test read)
  counted_grammar =
      mapped_grammar _ _ _
      (both_grammar (to_be_bytes w) (λ n. (n < limit) × (test n ≡ true)) (checked test (number w))
      (λ n. print_items print) (λ n. AreItems Lawful n) (items read)
      (checked_grammar _ _ _ (number_grammar w limit exact) test) (λ n _. items_grammar print Lawful read each n))
      IsCounted (λ e. e.1) (λ list. (length list, list))
      (λ e lawful.
      let long = length-items Lawful e.0 e.1 lawful.1 in
      (subst (λ n. ((n < limit) × (test n ≡ true)) × AreItems Lawful n e.1) (sym long) lawful, ap (λ n. (n, e.1)) long))
      (λ list lawful. (lawful, refl))

-- ---- bytes after their length

module _ (w : Width) (limit : ℕ) (exact : IsExact w limit) (test : ℕ → Bool) (is_text : List ℕ → Bool) where
  abbrev pub IsSized : List ℕ → Type 0
  IsSized bytes = ((length bytes < limit) × (test (length bytes) ≡ true)) × (is_text bytes ≡ true)

  pub sized_grammar : IsGrammar (print_sized w) IsSized (sized w test is_text)
  sized_grammar =
      mapped_grammar _ _ _
      (both_grammar (to_be_bytes w) (λ n. (n < limit) × (test n ≡ true)) (checked test (number w))
      (λ n b. b) (λ n b. (length b ≡ n) × (is_text b ≡ true)) (λ n. checked is_text (piece n))
      (checked_grammar _ _ _ (number_grammar w limit exact) test) (λ n _. checked_grammar _ _ _ (piece_grammar n) is_text))
      IsSized (λ e. e.1) (λ b. (length b, b))
      (λ e lawful.
      ((subst (λ n. (n < limit) × (test n ≡ true)) (sym lawful.1.0) lawful.0, lawful.1.1), ap (λ n. (n, e.1)) lawful.1.0))
      (λ b lawful. ((lawful.0, (refl, lawful.1)), refl))

-- ---- items place by place

-- items of which each is lawful after those before it, whatever stands for an item past the end
module _ {A : Type 0} (Lawful : List A → A → Type 0) (xs : List A) (default : A)
    (each : (i : ℕ) (d : A) → i < length xs → Lawful (take i xs) (get_or xs i d)) where
  first_items : (n : ℕ) → n ≤ length xs → AreItems Lawful n (take n xs)
  first_items zero inside = no_items
  first_items (suc n) inside =
      let below : n < length xs = omega arith in
      let one : suc n ≡ n + 1 = omega arith in
      let text : take (suc n) xs ≡ take n xs ++ get_or xs n default ∷ [] = ap (λ m. take m xs) one ∙ take_more xs n default below in
      let fewer = first_items n (omega arith) in
      subst (λ (l : List A). AreItems Lawful (suc n) l) (sym text) (and_item n (take n xs) (get_or xs n default) fewer (each n default below))

  pub items-from : AreItems Lawful (length xs) xs
  items-from = subst (λ (l : List A). AreItems Lawful (length xs) l) (take_all (length xs) xs (omega arith)) (first_items (length xs) (omega arith))
