-- A conversation with one text more: what was said stays.
use Rattle.std.proofs.Common.{◌≡◌, ◌≢◌, ℕ, ◌+◌, ◌-◌, ◌≤◌, ◌&&◌, Bool, true, false, nat_le, List, [], ◌∷◌, ◌++◌, length, filter, refl, sym, ◌∙◌, ap, append-nil, append_assoc, length-append, subst, if◌then◌else◌, arith}
use Rattle.std.specs.Prelude.{All, slice_index_or}
use Rattle.std.proofs.lemmas.Bool.Decides.{nat_tests}
use Rattle.std.proofs.lemmas.List.Elements.{All-nil, All-cons, filter-append}
use Rattle.std.proofs.lemmas.Bool.{and_from, le-leb}
use Rattle.bodies.specs.Bodies.{Body, text_body}
use Rattle.boxes.specs.Entries.{entry_with}
use Rattle.dr_base.specs.Position.{is_own}
use Rattle.dr_base.specs.declared.position.Position.{Position}
use Rattle.dr_base.specs.declared.position.Side.{Side}
use Rattle.dr_model.specs.Conversations.Conversation.{Said, Conversation, bodies_of, count_of, previous_of, body_at, is_said, next_position, positions_after, positions}
use Rattle.dr_model.specs.Conversations.Views.{entry_at}
use Rattle.dr_model.proofs.Growth.Texts.{saying_of, bodies_of-append, bodies_of-first, bodies_of-other, count-grows, body-stays, body-new, epoch-most}

-- a conversation with one text more, and these seeds
abbrev pub grown : Conversation → List (List ℕ) → ℕ → Body → Conversation
grown c seeds epoch body = record { key = c.key; formats = c.formats; seeds = seeds; said = c.said ++ saying_of epoch body ∷ [] }

-- ---- one position

-- a greater count
said_still : (i n m : ℕ) → n ≤ m → (nat_le 1 i && nat_le i n) ≡ true → (nat_le 1 i && nat_le i m) ≡ true
said_still i n m le h = grind (arith, nat_tests)

-- what was said is said
pub is_said-grown : (c : Conversation) (seeds : List (List ℕ)) (epoch : ℕ) (body : Body) (p : Position)
    → is_said c p ≡ true
    → is_said (grown c seeds epoch body) p ≡ true
is_said-grown c seeds epoch body p said =
    said_still p.index (count_of c p.epoch) (count_of (grown c seeds epoch body) p.epoch)
    (count-grows c.said epoch body p.epoch) said

-- its index is from 1 to the count
pub said_from : (i n : ℕ) → (nat_le 1 i && nat_le i n) ≡ true → 1 ≤ i
said_from i n h = grind (arith, nat_tests)

pub said_to : (i n : ℕ) → (nat_le 1 i && nat_le i n) ≡ true → i ≤ n
said_to i n h = grind (arith, nat_tests)

-- what was said there
pub body_at-grown : (c : Conversation) (seeds : List (List ℕ)) (epoch : ℕ) (body : Body) (p : Position)
    → is_said c p ≡ true
    → body_at (grown c seeds epoch body) p ≡ body_at c p
body_at-grown c seeds epoch body p said =
    body-stays c.said epoch body p.epoch (p.index - 1)
    (omega (arith, said_from p.index (count_of c p.epoch) said, said_to p.index (count_of c p.epoch) said))

pub entry_at-grown : (c : Conversation) (seeds : List (List ℕ)) (epoch : ℕ) (body : Body) (p : Position)
    → is_said c p ≡ true
    → entry_at (grown c seeds epoch body) p ≡ entry_at c p
entry_at-grown c seeds epoch body p said = ap (λ (b : Body). entry_with p b.kind b.content) (body_at-grown c seeds epoch body p said)

-- what is new
pub body_at-new : (c : Conversation) (seeds : List (List ℕ)) (epoch : ℕ) (body : Body)
    → body_at (grown c seeds epoch body) (next_position c.said epoch) ≡ body
body_at-new c seeds epoch body =
    let step : count_of c epoch + 1 - 1 ≡ count_of c epoch = omega arith in
    ap (λ i. slice_index_or (bodies_of (grown c seeds epoch body).said epoch) i (text_body [])) step
    ∙ body-new c.said epoch body

-- the count of another epoch
pub count-grown : (c : Conversation) (seeds : List (List ℕ)) (epoch : ℕ) (body : Body) (t : ℕ) → t ≢ epoch
    → count_of (grown c seeds epoch body) t ≡ count_of c t
count-grown c seeds epoch body t other = ap length (bodies_of-other c.said epoch body t other)

-- and the count two before, up to the epoch after
previous_by : (m n : ℕ) (late : Bool) → (late ≡ true → m ≡ n) → (if late then m else 0) ≡ (if late then n else 0)
previous_by m n true same = same refl
previous_by m n false same = refl

earlier : (t epoch : ℕ) → nat_le 2 t ≡ true → t ≤ epoch + 1 → t - 2 ≢ epoch
earlier t epoch late near same = let two : 2 ≤ t = grind (arith, nat_tests) in omega arith

pub previous-grown : (c : Conversation) (seeds : List (List ℕ)) (epoch : ℕ) (body : Body) (t : ℕ) → t ≤ epoch + 1
    → previous_of (grown c seeds epoch body) t ≡ previous_of c t
previous-grown c seeds epoch body t near =
    previous_by (count_of (grown c seeds epoch body) (t - 2)) (count_of c (t - 2)) (nat_le 2 t)
    (λ late. count-grown c seeds epoch body (t - 2) (earlier t epoch late near))

-- ---- all positions

-- one position more, at the end
positions_after-push : (before rest : List Said) (s : Said)
    → positions_after before (rest ++ s ∷ []) ≡ positions_after before rest ++ next_position (before ++ rest) s.epoch ∷ []
unfolding positions_after
positions_after-push before [] s = ap (λ said. next_position said s.epoch ∷ []) (sym (append-nil before))
positions_after-push before (r ∷ rest) s =
    ap (λ ps. next_position before r.epoch ∷ ps)
    (positions_after-push (before ++ r ∷ []) rest s
    ∙ ap (λ said. positions_after (before ++ r ∷ []) rest ++ next_position said s.epoch ∷ [])
    (append_assoc before (r ∷ []) rest))

pub positions-grown : (c : Conversation) (seeds : List (List ℕ)) (epoch : ℕ) (body : Body)
    → positions (grown c seeds epoch body) ≡ positions c ++ next_position c.said epoch ∷ []
positions-grown c seeds epoch body = positions_after-push [] c.said (saying_of epoch body)

-- those of a side
pub own_positions-grown : (c : Conversation) (seeds : List (List ℕ)) (epoch : ℕ) (body : Body) (side : Side)
    → filter (λ p. is_own side p.epoch) (positions (grown c seeds epoch body))
    ≡ filter (λ p. is_own side p.epoch) (positions c) ++ (if is_own side epoch then next_position c.said epoch ∷ [] else [])
own_positions-grown c seeds epoch body side =
    ap (filter (λ (p : Position). is_own side p.epoch)) (positions-grown c seeds epoch body)
    ∙ filter-append (λ (p : Position). is_own side p.epoch) (positions c) (next_position c.said epoch ∷ [])

-- each is one of a text
abbrev pub IsSaidIn : List Said → Position → Type 0
IsSaidIn said p = (nat_le 1 p.index && nat_le p.index (length (bodies_of said p.epoch))) ≡ true

next_said : (before rest : List Said) (s : Said) → IsSaidIn (before ++ s ∷ rest) (next_position before s.epoch)
next_said before rest s =
    let index = length (bodies_of before s.epoch) + 1 in
    and_from _ _ (le-leb 1 index (omega arith)) (le-leb index (length (bodies_of (before ++ s ∷ rest) s.epoch)) (omega (
      arith,
      ap length (bodies_of-append before (s ∷ rest) s.epoch),
      length-append (bodies_of before s.epoch) (bodies_of (s ∷ rest) s.epoch),
      ap length (bodies_of-first s rest),
    )))

positions_after-said : (before rest : List Said) → All (IsSaidIn (before ++ rest)) (positions_after before rest)
unfolding positions_after
positions_after-said before [] = All-nil (IsSaidIn (before ++ []))
positions_after-said before (s ∷ rest) =
    All-cons (IsSaidIn (before ++ s ∷ rest)) (next_position before s.epoch) (positions_after (before ++ s ∷ []) rest)
    (next_said before rest s)
    (subst (λ said. All (IsSaidIn said) (positions_after (before ++ s ∷ []) rest)) (append_assoc before (s ∷ []) rest)
    (positions_after-said (before ++ s ∷ []) rest))

pub positions-said : (c : Conversation) → All (λ p. is_said c p ≡ true) (positions c)
positions-said c = positions_after-said [] c.said

-- what was said has an epoch up to the last
pub said-begun : (c : Conversation) (last : ℕ) (p : Position) → All (λ s. s.epoch ≤ last) c.said → is_said c p ≡ true
    → p.epoch ≤ last
said-begun c last p begun said =
    epoch-most c.said last p.epoch begun
    (omega (arith, said_from p.index (count_of c p.epoch) said, said_to p.index (count_of c p.epoch) said))
