-- Where a position stands among those of all texts: once, if it was said.
use Rattle.std.proofs.Common.{Bool, List, None, Option, Some, [], add-zero, ap, append-nil, append_assoc, ap₂, arith, cond, count_by, false, if◌then◌else◌, inl, inr, length, length-append, nat_le, nat_lt, refl, suc, sym, true, zero, ℕ, ◌&&◌, ◌++◌, ◌+◌, ◌==◌, ◌∙◌, ◌∷◌, ◌≡◌, ◌≢◌, ◌≤◌}
use Rattle.std.specs.Prelude.{find}
use Rattle.std.proofs.lemmas.Bool.{cases_Bool, eqb-true, eqb-false, and_from, and_left}
use Rattle.std.proofs.lemmas.Bool.Decides.{nat_tests}
use Rattle.std.proofs.lemmas.List.Sums.{sum_by-cons}
use Rattle.dr_base.specs.Position.{is_at}
use Rattle.dr_base.specs.declared.position.Position.{Position}
use Rattle.dr_base.proofs.Positions.{is_at-same}
use Rattle.dr_model.specs.Conversations.Conversation.{Conversation, Said, is_said, next_position, positions, positions_after, bodies_of}
use Rattle.dr_model.specs.Machines.Worlds.{said_at}
use Rattle.dr_model.proofs.Growth.Texts.{bodies_of-append, bodies_of-first, bodies_of-skip}

-- a position lies after the first texts and up to the last ones
lies : List Said → List Said → Position → Bool
lies before said p = nat_lt (length (bodies_of before p.epoch)) p.index && nat_le p.index (length (bodies_of said p.epoch))

-- how many texts an epoch has with one more
counted : (before : List Said) (s : Said) (t : ℕ) (same : Bool) → (s.epoch == t) ≡ same
    → length (bodies_of (before ++ s ∷ []) t) ≡ length (bodies_of before t) + cond same 1 0
counted before s t true h =
    let e : s.epoch ≡ t = eqb-true s.epoch t h in
    ap length (bodies_of-append before (s ∷ []) t) ∙ length-append (bodies_of before t) (bodies_of (s ∷ []) t)
    ∙ ap (λ n. length (bodies_of before t) + n)
    (ap (λ u. length (bodies_of (s ∷ []) u)) (sym e) ∙ ap length (bodies_of-first s []))
counted before s t false h =
    let other : t ≢ s.epoch = λ e. eqb-false s.epoch t h (sym e) in
    ap length (bodies_of-append before (s ∷ []) t) ∙ length-append (bodies_of before t) (bodies_of (s ∷ []) t)
    ∙ ap (λ n. length (bodies_of before t) + n) (ap length (bodies_of-skip s [] t other))

pub same_test : (a b : Bool) → (a ≡ true → b ≡ true) → (b ≡ true → a ≡ true) → a ≡ b
same_test true b f g = sym (f refl)
same_test false true f g = g refl
same_test false false f g = refl

beyond : (m n own i : ℕ) (same : Bool) → m ≡ n + cond same 1 0 → (same ≡ true → own ≡ n) → (same && (own + 1 == i)) ≡ false
    → nat_lt m i ≡ nat_lt n i
beyond m n own i true e f h =
    let alike : own ≡ n = f refl in
    let apart : own + 1 ≢ i = eqb-false (own + 1) i h in
    same_test (nat_lt m i) (nat_lt n i) (λ x. grind (arith, nat_tests)) (λ x. grind (arith, nat_tests))
beyond m n own i false e f h = ap (λ x. nat_lt x i) (e ∙ add-zero n)

none_between : (n i : ℕ) → (nat_lt n i && nat_le i n) ≡ false
none_between n i = elim (cases_Bool (nat_lt n i && nat_le i n)) as (λ _. (nat_lt n i && nat_le i n) ≡ false) [
  | inl h ↦ absurd (grind (arith, nat_tests))
  | inr h ↦ h
]

chosen : (b : Bool) (p q : Position) (x : Option Position) → b ≡ true → q ≡ p → (if b then Some q else x) ≡ Some p
chosen true p q x h e = ap Some e
chosen false p q x h e = cc

passed : (b : Bool) (q : Position) (x : Option Position) → b ≡ false → (if b then Some q else x) ≡ x
passed true q x h = cc
passed false q x h = refl

given : (b : Bool) (p : Position) → b ≡ true → Some p ≡ (if b then Some p else None)
given true p h = refl
given false p h = cc

zero_more : (n : ℕ) → 0 + n ≡ n
zero_more n = omega arith

-- the next position lies after the first texts
next_lies : (before rest : List Said) (s : Said) → lies before (before ++ s ∷ rest) (next_position before s.epoch) ≡ true
unfolding lies
next_lies before rest s =
    let n = length (bodies_of before s.epoch) in
    let all : length (bodies_of (before ++ s ∷ rest) s.epoch) ≡ n + length (bodies_of (s ∷ rest) s.epoch) =
    ap length (bodies_of-append before (s ∷ rest) s.epoch)
    ∙ length-append (bodies_of before s.epoch) (bodies_of (s ∷ rest) s.epoch) in
    let some : 1 ≤ length (bodies_of (s ∷ rest) s.epoch) = omega (arith, ap length (bodies_of-first s rest)) in
    and_from (nat_lt n (n + 1)) (nat_le (n + 1) (length (bodies_of (before ++ s ∷ rest) s.epoch))) (grind (arith, nat_tests))
    (grind (arith, nat_tests))

-- where the first text is passed
lies-after : (p : Position) (before rest : List Said) (s : Said) → is_at p (next_position before s.epoch) ≡ false
    → lies (before ++ s ∷ []) ((before ++ s ∷ []) ++ rest) p ≡ lies before (before ++ s ∷ rest) p
unfolding lies
lies-after p before rest s h =
    ap₂ (λ a b. a && b)
    (beyond (length (bodies_of (before ++ s ∷ []) p.epoch)) (length (bodies_of before p.epoch))
    (length (bodies_of before s.epoch)) p.index (s.epoch == p.epoch)
    (counted before s p.epoch (s.epoch == p.epoch) refl)
    (λ e. ap (λ t. length (bodies_of before t)) (eqb-true s.epoch p.epoch e)) h)
    (ap (λ said. nat_le p.index (length (bodies_of said p.epoch))) (append_assoc before (s ∷ []) rest))

-- the first position that is this one, where it lies among them
find-positions : (p : Position) (before rest : List Said)
    → find (is_at p) (positions_after before rest) ≡ (if lies before (before ++ rest) p then Some p else None)
unfolding positions_after lies
find-positions p before [] =
    sym (ap (λ b. if b then Some p else None)
    (ap (λ said. nat_lt (length (bodies_of before p.epoch)) p.index && nat_le p.index (length (bodies_of said p.epoch)))
    (append-nil before)
    ∙ none_between (length (bodies_of before p.epoch)) p.index))
find-positions p before (s ∷ rest) =
    let q = next_position before s.epoch in
    elim (cases_Bool (is_at p q)) as (λ _. find (is_at p) (positions_after before (s ∷ rest)) ≡ (if lies before (before ++ s ∷ rest) p then Some p else None)) [
      | inl h ↦ chosen (is_at p q) p q _ h (is_at-same p q h) ∙ given (lies before (before ++ s ∷ rest) p) p (ap (lies before (before ++ s ∷ rest)) (sym (is_at-same p q h)) ∙ next_lies before rest s)
      | inr h ↦ passed (is_at p q) q _ h ∙ find-positions p (before ++ s ∷ []) rest ∙ ap (λ b. if b then Some p else None) (lies-after p before rest s h)
    ]

from_zero : (i : ℕ) (b : Bool) → (nat_lt 0 i && b) ≡ (nat_le 1 i && b)
from_zero zero b = refl
from_zero (suc i) b =
    ap (λ a. a && b) (same_test (nat_lt 0 (suc i)) (nat_le 1 (suc i)) (λ x. grind (arith, nat_tests))
    (λ x. grind (arith, nat_tests)))

-- the first position that is this one, if it was said
pub find-position : (c : Conversation) (p : Position) → find (is_at p) (positions c) ≡ said_at c p
unfolding lies
find-position c p =
    find-positions p [] c.said
    ∙ ap (λ b. if b then Some p else None) (from_zero p.index (nat_le p.index (length (bodies_of c.said p.epoch))))

-- ---- how often a position stands among all

counted_with : (p q : Position) (ps : List Position) (here there later : Bool) → is_at p q ≡ here
    → (here ≡ true → there ≡ true)
    → (here ≡ true → later ≡ false) → (here ≡ false → later ≡ there) → count_by (is_at p) ps ≡ cond later 1 0
    → cond (is_at p q) 1 0 + count_by (is_at p) ps ≡ cond there 1 0
counted_with p q ps true there later is now once same rest =
    ap₂ (λ b n. cond b 1 0 + n) is (rest ∙ ap (λ b. cond b 1 0) (once refl)) ∙ ap (λ b. cond b 1 0) (sym (now refl))
counted_with p q ps false there later is now once same rest =
    ap₂ (λ b n. cond b 1 0 + n) is (rest ∙ ap (λ b. cond b 1 0) (same refl)) ∙ zero_more (cond there 1 0)

-- the next position lies no more among the texts after it
passed_by : (p : Position) (before rest : List Said) (s : Said) → is_at p (next_position before s.epoch) ≡ true
    → lies (before ++ s ∷ []) ((before ++ s ∷ []) ++ rest) p ≡ false
unfolding lies
passed_by p before rest s h =
    let at = is_at-same p (next_position before s.epoch) h in
    let n = length (bodies_of before s.epoch) in
    let one : length (bodies_of (before ++ s ∷ []) s.epoch) ≡ n + 1 =
    ap length (bodies_of-append before (s ∷ []) s.epoch) ∙ length-append (bodies_of before s.epoch) (bodies_of (s ∷ []) s.epoch)
    ∙ ap (λ m. n + m) (ap length (bodies_of-first s [])) in
    ap (lies (before ++ s ∷ []) ((before ++ s ∷ []) ++ rest)) (sym at)
    ∙ and_left (nat_lt (length (bodies_of (before ++ s ∷ []) s.epoch)) (n + 1))
    (nat_le (n + 1) (length (bodies_of ((before ++ s ∷ []) ++ rest) s.epoch))) (grind (arith, nat_tests))

count-positions : (p : Position) (before rest : List Said)
    → count_by (is_at p) (positions_after before rest) ≡ cond (lies before (before ++ rest) p) 1 0
unfolding positions_after lies
count-positions p before [] =
    sym (ap (λ b. cond b 1 0)
    (ap (λ said. nat_lt (length (bodies_of before p.epoch)) p.index && nat_le p.index (length (bodies_of said p.epoch)))
    (append-nil before)
    ∙ none_between (length (bodies_of before p.epoch)) p.index))
count-positions p before (s ∷ rest) =
    let q = next_position before s.epoch in
    sum_by-cons (λ y. cond (is_at p y) 1 0) q (positions_after (before ++ s ∷ []) rest)
    ∙ counted_with p q (positions_after (before ++ s ∷ []) rest) (is_at p q) (lies before (before ++ s ∷ rest) p)
    (lies (before ++ s ∷ []) ((before ++ s ∷ []) ++ rest) p) refl
    (λ h. ap (lies before (before ++ s ∷ rest)) (sym (is_at-same p q h)) ∙ next_lies before rest s)
    (λ h. passed_by p before rest s h)
    (λ h. lies-after p before rest s h)
    (count-positions p (before ++ s ∷ []) rest)

-- once, if it was said
pub count-said : (c : Conversation) (p : Position) → count_by (is_at p) (positions c) ≡ cond (is_said c p) 1 0
unfolding lies
count-said c p =
    count-positions p [] c.said
    ∙ ap (λ b. cond b 1 0) (from_zero p.index (nat_le p.index (length (bodies_of c.said p.epoch))))
