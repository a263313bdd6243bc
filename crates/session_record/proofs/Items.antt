-- What items are that passed one by one: each of them, and where they stand at ascending positions.
use Rattle.std.proofs.Common.{◌≡◌, ℕ, zero, suc, ◌+◌, ◌<◌, ◌≤◌, true, List, [], ◌∷◌, ◌++◌, length, take, get_or, sym, ◌∙◌, ap, subst, arith}
use Rattle.std.specs.Prelude.{nat_lt, ◌||◌, All, AllPairs}
use Rattle.std.proofs.lemmas.Bool.Decides.{nat_tests}
use Rattle.std.proofs.lemmas.List.{take_more}
use Rattle.std.proofs.lemmas.List.Quantifiers.{all_pairs_push}
use Rattle.std.proofs.lemmas.List.Elements.{All-push}
use Rattle.dr_base.specs.Position.{IsBefore, IsUpTo, position_at}
use Rattle.dr_base.specs.declared.position.Position.{Position}
use Rattle.grammar.specs.Printer.{AreItems, no_items, and_item}

-- what each item of a list is, whatever stands before it
pub each_of : {A : Type 0} (Passing : List A → A → Type 0) (Lawful : A → Type 0)
    → ((before : List A) (a : A) → Passing before a → Lawful a) → (n : ℕ) (list : List A) → AreItems Passing n list → All Lawful list
each_of Passing Lawful one n list no_items = λ i d inside. absurd (omega arith)
each_of Passing Lawful one m list (and_item n before a were passes) =
    All-push Lawful before a (each_of Passing Lawful one n before were) (one before a passes)

-- ---- positions

before_all : (p q r : Position) → IsUpTo q p → IsBefore q r → IsBefore p r
before_all p q r most below = (omega (arith, most.0, below.0), λ same. omega (arith, most.0, below.0, most.1, below.1))

later : (p q r : Position) → IsUpTo q p → IsBefore q r → IsUpTo r p
later p q r most below = (omega (arith, most.0, below.0), λ same. omega (arith, most.0, below.0, most.1, below.1))

-- the test that an index is above the one before
pub above_last : (last p : Position) → IsBefore last p → (nat_lt last.epoch p.epoch || nat_lt last.index p.index) ≡ true
above_last last p before =
    let most = before.0 in
    let later = before.1 in
    grind (arith, nat_tests)

-- ---- items that stand at positions: of a list `last` is the position of its last item

pub record IsUp {A : Type 0} (place : A → Position) (last : List A → Position) (list : List A) : Type 0 where
  pub up : AllPairs (λ a b. IsBefore (place a) (place b)) list
  pub last_is : All (λ a. IsUpTo (last list) (place a)) list

module _ {A : Type 0} (place : A → Position) (last : List A → Position) (first : last [] ≡ position_at 0 0)
    (push : (list : List A) (a : A) → last (list ++ a ∷ []) ≡ place a) where
  -- the last of those before an item
  pub last_before : (list : List A) (i : ℕ) (d : A) → i < length list → 1 ≤ (place (get_or list i d)).index
      → AllPairs (λ a b. IsBefore (place a) (place b)) list
      → IsBefore (last (take i list)) (place (get_or list i d))
  last_before list zero d inside one up =
      subst (λ (p : Position). IsBefore p (place (get_or list zero d))) (sym first) (omega arith, λ _. omega arith)
  last_before list (suc i) d inside one up =
      let below : i < length list = omega arith in
      let next : suc i ≡ i + 1 = omega arith in
      let is : last (take (suc i) list) ≡ place (get_or list i d) =
      ap (λ n. last (take n list)) next ∙ ap (λ l. last l) (take_more list i d below) ∙ push (take i list) (get_or list i d) in
      subst (λ (p : Position). IsBefore p (place (get_or list (suc i) d))) (sym is) (up i (suc i) d (omega arith) inside)

  -- items of which each was seen to stand behind the last one
  pub ups : (Passing : List A → A → Type 0) → ((before : List A) (a : A) → Passing before a → IsBefore (last before) (place a))
      → (n : ℕ) (list : List A) → AreItems Passing n list → IsUp place last list
  ups Passing behind n list no_items =
      record { up = λ i j d small inside. absurd (omega arith); last_is = λ i d inside. absurd (omega arith) }
  ups Passing behind m list (and_item n before a were passes) =
      let earlier = ups Passing behind n before were in
      let next = behind before a passes in
      record {
        up = all_pairs_push (λ a b. IsBefore (place a) (place b)) before a earlier.up
            (λ i d inside. before_all _ _ _ (earlier.last_is i d inside) next);
        last_is = subst (λ (p : Position). All (λ b. IsUpTo p (place b)) (before ++ a ∷ [])) (sym (push before a))
            (All-push (λ b. IsUpTo (place a) (place b)) before a (λ i d inside. later _ _ _ (earlier.last_is i d inside) next)
            (omega arith, λ _. omega arith));
      }
