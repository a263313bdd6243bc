-- A receipt that is true stays true as more is opened, and as more is said.
use Rattle.std.proofs.Common.{ap, ap₂, ◌≡◌, ℕ, ◌+◌, ◌%◌, ◌≤◌, ◌==◌, ◌&&◌, not, true, nat_le, List, [], ◌∷◌, ◌++◌, length, Option, Some, None, sym, ◌∙◌, subst, arith, inl, inr}
use Rattle.std.specs.List.{list_any}
use Rattle.std.specs.Prelude.{◌⊎◌}
use Rattle.std.proofs.lemmas.Bool.{and_from, and_parts, cases_eq, cases_lt, le-leb, or_left}
use Rattle.std.proofs.lemmas.Bool.Decides.{nat_tests}
use Rattle.std.proofs.lemmas.List.{length_push}
use Rattle.std.proofs.lemmas.List.Folds.{list_any-append}
use Rattle.bodies.specs.Bodies.{Body}
use Rattle.bodies.specs.Receipts.{Receipt, is_covered, is_covered_by, is_up_to}
use Rattle.bodies.proofs.Listed.{up_to_is}
use Rattle.dr_base.specs.Position.{IsUpTo, is_at, position_at}
use Rattle.dr_base.specs.declared.position.Position.{Position}
use Rattle.dr_model.specs.Conversations.Conversation.{Conversation, body_at, count_of, is_said, next_position}
use Rattle.dr_model.specs.Conversations.Views.{View, after_opening, has_opened}
use Rattle.dr_model.specs.Conversations.Receipts.{IsBounded, IsTrue}
use Rattle.dr_model.proofs.Growth.Growing.{body_at-grown, body_at-new, count-grown, grown, said_from, said_to}
use Rattle.dr_model.proofs.Growth.Texts.{count-grows, count-here}

-- ---- the sender opens packets

-- in any view in which it has opened more
pub true_later : (c : Conversation) (v later : View) (receipt : Option Receipt)
    → ((p : Position) → has_opened v p ≡ true → has_opened later p ≡ true) → IsTrue c v receipt
    → IsTrue c later receipt
true_later c v later receipt more is = record {
  bounded = is.bounded;
  opened = λ p said covered. more p (is.opened p said covered);
}

pub true_opening : (c : Conversation) (v : View) (receipt : Option Receipt) (p : Position)
    → IsTrue c v receipt → IsTrue c (after_opening c v p) receipt
true_opening c v receipt p =
    true_later c v (after_opening c v p) receipt
    (λ q opened. list_any-append (is_at q) v.arrived (p ∷ [])
    ∙ or_left (list_any (is_at q) v.arrived) (list_any (is_at q) (p ∷ [])) opened)

-- ---- a text is said

-- what is said then was said before, but for the new one
pub said_before : (c : Conversation) (seeds : List (List ℕ)) (epoch : ℕ) (body : Body) (p : Position)
    → is_said (grown c seeds epoch body) p ≡ true → (p.epoch ≡ epoch → p.index ≤ count_of c epoch)
    → is_said c p ≡ true
said_before c seeds epoch body p said old =
    elim (cases_eq p.epoch epoch) as (λ _. is_said c p ≡ true) [
      | inl same ↦
          and_from (nat_le 1 p.index) (nat_le p.index (count_of c p.epoch))
          (le-leb 1 p.index (said_from p.index (count_of (grown c seeds epoch body) p.epoch) said))
          (le-leb p.index (count_of c p.epoch)
          (subst (λ (t : ℕ). p.index ≤ count_of c t) (sym same) (old same)))
      | inr other ↦
          subst (λ (n : ℕ). (nat_le 1 p.index && nat_le p.index n) ≡ true)
          (count-grown c seeds epoch body p.epoch other) said
    ]

-- so it was said before, or it is the new one
old_or_new : (c : Conversation) (seeds : List (List ℕ)) (epoch : ℕ) (body : Body) (p : Position)
    → is_said (grown c seeds epoch body) p ≡ true → (is_said c p ≡ true) ⊎ (p ≡ next_position c.said epoch)
old_or_new c seeds epoch body p said =
    elim (cases_eq p.epoch epoch) as (λ _. (is_said c p ≡ true) ⊎ (p ≡ next_position c.said epoch)) [
      | inl same ↦
          let most : p.index ≤ count_of c epoch + 1 =
          omega (
            arith,
            said_to p.index (count_of (grown c seeds epoch body) p.epoch) said,
            ap (count_of (grown c seeds epoch body)) same,
            count-here c.said epoch body,
          ) in
          elim (cases_lt p.index (count_of c epoch + 1)) as (λ _. (is_said c p ≡ true) ⊎ (p ≡ next_position c.said epoch)) [
            | inl early ↦ inl (said_before c seeds epoch body p said (λ _. omega arith))
            | inr late ↦ inr (ap₂ position_at same (omega arith))
          ]
      | inr other ↦ inl (said_before c seeds epoch body p said (λ same. absurd (other same)))
    ]

-- what holds of all that was said before, and of what is new, holds of all that is said then
pub each_body : (c : Conversation) (seeds : List (List ℕ)) (epoch : ℕ) (body : Body) (P : Position → Body → Type 0)
    → ((p : Position) → is_said c p ≡ true → P p (body_at c p)) → P (next_position c.said epoch) body → (p : Position)
    → is_said (grown c seeds epoch body) p ≡ true → P p (body_at (grown c seeds epoch body) p)
each_body c seeds epoch body P before new p said =
    elim (old_or_new c seeds epoch body p said) as (λ _. P p (body_at (grown c seeds epoch body) p)) [
      | inl old ↦ subst (P p) (sym (body_at-grown c seeds epoch body p old)) (before p old)
      | inr is ↦
          subst (λ (q : Position). P q (body_at (grown c seeds epoch body) q)) (sym is)
          (subst (P (next_position c.said epoch)) (sym (body_at-new c seeds epoch body)) new)
    ]

-- what is covered has the parity of the bound, and stands up to it
pub covered_up : (r : Receipt) (p : Position) → is_covered_by r p ≡ true
    → ((p.epoch % 2 == r.bound.epoch % 2) ≡ true) × IsUpTo r.bound p
unfolding is_covered_by
covered_up r p covered =
    let unlisted = not (list_any (is_at p) r.listed) in
    let own = and_parts (p.epoch % 2 == r.bound.epoch % 2) (is_up_to r.bound p && unlisted) covered in
    (own.0, up_to_is r.bound p (and_parts (is_up_to r.bound p) unlisted own.1).0)

-- two epochs of one side aren't next to each other
same_epoch : (t u : ℕ) → (t % 2 == u % 2) ≡ true → t ≤ u → u ≤ t + 1 → u ≡ t
same_epoch t u own low high = grind (arith, nat_tests)

-- so the new one isn't covered by a receipt that is bounded
old_covered : (c : Conversation) (receipt : Option Receipt) (p : Position)
    → length c.seeds ≤ p.epoch + 1 → IsBounded c receipt → is_covered receipt p ≡ true → p.index ≤ count_of c p.epoch
old_covered c None p near bounded covered = cc
old_covered c (Some r) p near bounded covered =
    let up = covered_up r p covered in
    let front = bounded.begun in
    let here = same_epoch p.epoch r.bound.epoch up.0 up.1.0 (omega arith) in
    subst (λ (t : ℕ). p.index ≤ count_of c t) here (omega (arith, up.1.1 (sym here), bounded.said))

pub bounded_grown : (c : Conversation) (seeds : List (List ℕ)) (epoch : ℕ) (body : Body)
    (receipt : Option Receipt) → length c.seeds ≤ length seeds → IsBounded c receipt
    → IsBounded (grown c seeds epoch body) receipt
bounded_grown c seeds epoch body None more bounded = bounded
bounded_grown c seeds epoch body (Some r) more bounded =
    let begun = bounded.begun in
    let said = bounded.said in
    record { begun = omega arith; said = omega (arith, count-grows c.said epoch body r.bound.epoch) }

-- by either side, in the last epoch, the one before or the next
pub true_grown : (c : Conversation) (v : View) (receipt : Option Receipt) (seeds : List (List ℕ))
    (epoch : ℕ) (body : Body) → length c.seeds ≤ length seeds → length c.seeds ≤ epoch + 1
    → IsTrue c v receipt → IsTrue (grown c seeds epoch body) v receipt
true_grown c v receipt seeds epoch body more near is = record {
  bounded = bounded_grown c seeds epoch body receipt more is.bounded;
  opened = λ p said covered.
      is.opened p
      (said_before c seeds epoch body p said
      (λ same. subst (λ (t : ℕ). p.index ≤ count_of c t) same
      (old_covered c receipt p (omega (arith, same)) is.bounded covered)))
      covered;
}

pub true_turning : (c : Conversation) (v : View) (receipt : Option Receipt) (seed : List ℕ) (body : Body)
    → IsTrue c v receipt → IsTrue (grown c (c.seeds ++ seed ∷ []) (length c.seeds + 1) body) v receipt
true_turning c v receipt seed body =
    true_grown c v receipt (c.seeds ++ seed ∷ []) (length c.seeds + 1) body
    (omega (arith, length_push c.seeds seed)) (omega arith)
