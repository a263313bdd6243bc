-- One more run.
use Rattle.std.proofs.Common.{List, None, Some, [], ap, arith, inl, inr, length, refl, subst, suc, sym, zero, ℕ, ⊎_elim, ◌++◌, ◌+◌, ◌<◌, ◌∙◌, ◌∷◌, ◌≡◌, ◌≤◌, ◌⊎◌, if◌then◌else◌}
use Rattle.std.specs.Prelude.{slice_get}
use Rattle.std.proofs.lemmas.Bool.{le-leb, lt-leb}
use Rattle.std.proofs.lemmas.List.{length_push}
use Rattle.dr_base.specs.declared.position.Side.TheVariants.{First, Second}
use Rattle.dr_disk.specs.State.{DiskState}
use Rattle.dr_model.specs.Machines.Worlds.{World}
use Rattle.dr_ports.specs.States.{DrawsState}
use Rattle.kem_laws.specs.Mechanism.{Mechanism}
use Rattle.conversation.specs.Joints.{IsConversation, HasRun, Joint, with_next}

-- an element of a list with one more is one of the list, or the last
either : {X : Type 0} (xs : List X) (x : X) (n : ℕ) (y : X) → slice_get (xs ++ x ∷ []) n ≡ Some y
    → (slice_get xs n ≡ Some y) ⊎ ((n ≡ length xs) × (x ≡ y))
either [] x zero y is = inr (refl, (let e : Some x ≡ Some y = is in cc))
either [] x (suc n) y is = absurd (let e : None ≡ Some y = is in cc)
either (z ∷ xs) x zero y is = inl is
either (z ∷ xs) x (suc n) y is =
    ⊎_elim (λ there. inl there) (λ last. inr (ap suc last.0, last.1)) (either xs x n y is)

within : {X : Type 0} (xs : List X) (n : ℕ) (y : X) → slice_get xs n ≡ Some y → n < length xs
within [] n y is = absurd (let e : None ≡ Some y = is in cc)
within (z ∷ xs) zero y is = omega arith
within (z ∷ xs) (suc n) y is = omega (arith, within xs n y is)

-- what stands first in a list that isn't empty stands first in it with one more
first_of_more : {X : Type 0} (xs : List X) (x a : X) (n : ℕ) → length xs ≡ n + 1
    → slice_get (xs ++ x ∷ []) 0 ≡ Some a → slice_get xs 0 ≡ Some a
first_of_more [] x a n long is = absurd (omega (arith, long))
first_of_more (z ∷ xs) x a n long is = is

module _ (joints : ℕ → Joint) (n : ℕ) (next : Joint) where
  pub up_to : (m : ℕ) → m ≤ n → joints m ≡ with_next joints n next m
  up_to m le = sym (ap (λ t. if t then joints m else next) (le-leb m n le))

  pub beyond : (m : ℕ) → n < m → next ≡ with_next joints n next m
  beyond m lt = sym (ap (λ t. if t then joints m else next) (lt-leb m n lt))

pub still_there : {X : Type 0} (xs : List X) (x y : X) (n : ℕ) → slice_get xs n ≡ Some y
    → slice_get (xs ++ x ∷ []) n ≡ Some y
still_there [] x y n is = absurd (let e : None ≡ Some y = is in cc)
still_there (z ∷ xs) x y zero is = is
still_there (z ∷ xs) x y (suc n) is = still_there xs x y n is

pub last_there : {X : Type 0} (xs : List X) (x : X) (n : ℕ) → n ≡ length xs
    → slice_get (xs ++ x ∷ []) n ≡ Some x
last_there [] x zero is = refl
last_there [] x (suc n) is = absurd (omega (arith, is))
last_there (z ∷ xs) x zero is = absurd (omega (arith, is))
last_there (z ∷ xs) x (suc n) is = last_there xs x n (omega (arith, is))

module _ {D E W : Type 0} (state : D → DiskState) (others : E → DiskState) (draws : W → DrawsState)
    (xs : List D) (ys : List E) (k : Mechanism) (w : World) (joints : ℕ → Joint)
    (are : IsConversation state others draws xs ys k w joints) (n : ℕ) (long : length xs ≡ n + 1)
    (a b : D) (c d : E) (here : slice_get xs n ≡ Some a) (there : slice_get ys n ≡ Some c)
    (next : Joint) where
  abbrev Step : (a b : D) (c d : E) (j i : Joint) → Type 0
  Step p q r s j i = HasRun state others draws k First p q r s j i ⊎ HasRun others state draws k Second r s p q j i

  module _ (has : Step a b c d (joints n) next) where
    old_step : (m : ℕ) (p q : D) (r s : E) → m + 1 ≤ n → slice_get xs m ≡ Some p
        → slice_get xs (m + 1) ≡ Some q → slice_get ys m ≡ Some r → slice_get ys (m + 1) ≡ Some s
        → Step p q r s (with_next joints n next m) (with_next joints n next (m + 1))
    old_step m p q r s le hp hq hr hs =
        subst (λ j. Step p q r s j (with_next joints n next (m + 1))) (up_to joints n next m (omega (arith, le)))
        (subst (λ i. Step p q r s (joints m) i) (up_to joints n next (m + 1) le) (are.ran m p q r s hp hq hr hs))

    new_step : (m : ℕ) (p q : D) (r s : E) → m ≡ n → slice_get xs m ≡ Some p → b ≡ q
        → slice_get ys m ≡ Some r → d ≡ s
        → Step p q r s (with_next joints n next m) (with_next joints n next (m + 1))
    new_step m p q r s at hp hq hr hs =
        let p_is : a ≡ p = let e : Some a ≡ Some p = sym here ∙ ap (slice_get xs) (sym at) ∙ hp in cc in
        let r_is : c ≡ r = let e : Some c ≡ Some r = sym there ∙ ap (slice_get ys) (sym at) ∙ hr in cc in
        subst (λ j. Step p q r s j (with_next joints n next (m + 1)))
        (ap joints (sym at) ∙ up_to joints n next m (omega (arith, at)))
        (subst (λ i. Step p q r s (joints n) i) (beyond joints n next (m + 1) (omega (arith, at)))
        (subst (λ x. Step x q r s (joints n) next) p_is
        (subst (λ x. Step a x r s (joints n) next) hq
        (subst (λ x. Step a b x s (joints n) next) r_is
        (subst (λ x. Step a b c x (joints n) next) hs has)))))

    pub extended : IsConversation state others draws (xs ++ b ∷ []) (ys ++ d ∷ []) k w (with_next joints n next)
    extended = record {
      begins = sym (up_to joints n next 0 (omega arith)) ∙ are.begins;
      both = length_push xs b ∙ ap (λ (l : ℕ). l + 1) are.both ∙ sym (length_push ys d);
      first_stands = λ p is. are.first_stands p (first_of_more xs b p n long is);
      second_stands = λ r is. are.second_stands r (first_of_more ys d r n (sym are.both ∙ long) is);
      ran = λ m p q r s hp hq hr hs.
          let far = within (xs ++ b ∷ []) (m + 1) q hq in
          let all : length (xs ++ b ∷ []) ≡ length xs + 1 = length_push xs b in
          ⊎_elim
          (λ q_in.
          let q_far = within xs (m + 1) q q_in in
          ⊎_elim
          (λ s_in.
          old_step m p q r s (omega (arith, q_far, long))
          (⊎_elim (λ p_in. p_in) (λ last. absurd (omega (arith, last.0, q_far))) (either xs b m p hp))
          q_in
          (⊎_elim (λ r_in. r_in) (λ last. absurd (omega (arith, last.0, q_far, are.both))) (either ys d m r hr))
          s_in)
          (λ last. absurd (omega (arith, last.0, q_far, are.both)))
          (either ys d (m + 1) s hs))
          (λ q_last.
          let at : m ≡ n = omega (arith, q_last.0, long) in
          new_step m p q r s at
          (⊎_elim (λ p_in. p_in) (λ last. absurd (omega (arith, last.0, q_last.0))) (either xs b m p hp))
          q_last.1
          (⊎_elim (λ r_in. r_in) (λ last. absurd (omega (arith, last.0, q_last.0, are.both))) (either ys d m r hr))
          (⊎_elim (λ s_in. absurd (let e = within ys (m + 1) s s_in in omega (arith, e, q_last.0, are.both)))
          (λ last. last.1) (either ys d (m + 1) s hs)))
          (either xs b (m + 1) q hq);
    }
