-- The indices of an epoch among the positions that arrived.
use Rattle.std.proofs.Common.{◌≡◌, ℕ, ◌<◌, ◌≤◌, ◌&&◌, ◌||◌, Bool, true, false, nat_eq, List, [], ◌∷◌, ◌++◌, map, refl, ap, ◌∙◌, arith, append-nil, if◌then◌else◌}
use Rattle.std.specs.List.{list_any}
use Rattle.std.specs.Prelude.{All, filter}
use Rattle.std.proofs.lemmas.Bool.{eq-eqb, ne_eqb}
use Rattle.std.proofs.lemmas.Bool.Decides.{nat_tests}
use Rattle.std.proofs.lemmas.List.{map-append}
use Rattle.std.proofs.lemmas.List.Elements.{All-head, All-tail, filter-append}
use Rattle.dr_base.specs.Position.{is_at}
use Rattle.dr_base.specs.declared.position.Position.{Position}
use Rattle.dr_model.specs.Conversations.Conversation.{Conversation, is_said, count_of}
use Rattle.dr_model.specs.Conversations.Indices.{is_among, reach}
use Rattle.dr_model.specs.Conversations.Lawful.{HasArrived}
use Rattle.dr_model.specs.Conversations.Views.{View, indices_in}

-- one index more, where its epoch is this one
pushed : (b : Bool) (p : Position) (rest : List ℕ) → b ≡ true
    → rest ++ map (λ (q : Position). q.index) (if b then p ∷ [] else []) ≡ rest ++ p.index ∷ []
pushed true p rest h = refl
pushed false p rest h = cc

passed_over : (b : Bool) (p : Position) (rest : List ℕ) → b ≡ false
    → rest ++ map (λ (q : Position). q.index) (if b then p ∷ [] else []) ≡ rest
passed_over true p rest h = cc
passed_over false p rest h = append-nil rest

-- one position more
indices_in-push : (arrived : List Position) (p : Position) (epoch : ℕ)
    → indices_in (arrived ++ p ∷ []) epoch ≡ indices_in arrived epoch ++ map (λ q. q.index)
    (if nat_eq p.epoch epoch then p ∷ [] else [])
indices_in-push arrived p epoch =
    ap (map (λ (q : Position). q.index)) (filter-append (λ q. nat_eq q.epoch epoch) arrived (p ∷ []))
    ∙ map-append (λ (q : Position). q.index) (filter (λ q. nat_eq q.epoch epoch) arrived)
    (if nat_eq p.epoch epoch then p ∷ [] else [])

-- one of this epoch
pub indices_in-same : (arrived : List Position) (p : Position) (epoch : ℕ) → p.epoch ≡ epoch
    → indices_in (arrived ++ p ∷ []) epoch ≡ indices_in arrived epoch ++ p.index ∷ []
indices_in-same arrived p epoch e =
    indices_in-push arrived p epoch ∙ pushed (nat_eq p.epoch epoch) p (indices_in arrived epoch) (eq-eqb p.epoch epoch e)

-- one of another
pub indices_in-other : (arrived : List Position) (p : Position) (epoch : ℕ) → (p.epoch ≡ epoch → ⊥)
    → indices_in (arrived ++ p ∷ []) epoch ≡ indices_in arrived epoch
indices_in-other arrived p epoch ne =
    indices_in-push arrived p epoch
    ∙ passed_over (nat_eq p.epoch epoch) p (indices_in arrived epoch) (ne_eqb p.epoch epoch ne)

-- an index more in front
among_first : (b : Bool) (q : Position) (rest : List Position) (i : ℕ) (more : Bool)
    → is_among (map (λ (p : Position). p.index) rest) i ≡ more
    → is_among (map (λ (p : Position). p.index) (if b then q ∷ rest else rest)) i ≡ ((b && nat_eq q.index i) || more)
among_first true q rest i more h = ap (λ m. nat_eq q.index i || m) h
among_first false q rest i more h = h

-- a position is among those that arrived where its index is among those of its epoch
pub is_among-indices : (arrived : List Position) (p : Position)
    → is_among (indices_in arrived p.epoch) p.index ≡ list_any (is_at p) arrived
is_among-indices [] p = refl
is_among-indices (q ∷ rest) p =
    among_first (nat_eq q.epoch p.epoch) q (filter (λ r. nat_eq r.epoch p.epoch) rest) p.index (list_any (is_at p) rest)
    (is_among-indices rest p)

-- ---- what was said

-- the reach with an index more in front
reach_first : (b : Bool) (q : Position) (rest : List Position) (n : ℕ) → (b ≡ true → q.index ≤ n)
    → reach (map (λ (p : Position). p.index) rest) ≤ n
    → reach (map (λ (p : Position). p.index) (if b then q ∷ rest else rest)) ≤ n
unfolding reach
reach_first true q rest n h le = let one = h refl in omega arith
reach_first false q rest n h le = le

-- a position's index is one of its epoch
said_within : (c : Conversation) (v : View) (q : Position) (epoch : ℕ) → HasArrived c v q → nat_eq q.epoch epoch ≡ true
    → q.index ≤ count_of c epoch
said_within c v q epoch arrived same =
    let at : q.epoch ≡ epoch = grind (arith, nat_tests) in
    let said : is_said c q ≡ true = arrived.said in
    let most : q.index ≤ count_of c q.epoch = grind (arith, nat_tests) in
    let count : count_of c q.epoch ≡ count_of c epoch = ap (count_of c) at in
    omega arith

-- no index that arrived is greater than the last that was said
pub reach-said : (c : Conversation) (v : View) (arrived : List Position) (epoch : ℕ) → All (HasArrived c v) arrived
    → reach (indices_in arrived epoch) ≤ count_of c epoch
unfolding reach
reach-said c v [] epoch all = omega arith
reach-said c v (q ∷ rest) epoch all =
    reach_first (nat_eq q.epoch epoch) q (filter (λ r. nat_eq r.epoch epoch) rest) (count_of c epoch)
    (said_within c v q epoch (All-head (HasArrived c v) q rest all))
    (reach-said c v rest epoch (All-tail (HasArrived c v) q rest all))

-- a position of another epoch in front
other_first : (b : Bool) (q : Position) (rest : List Position) → b ≡ false
    → map (λ (p : Position). p.index) (if b then q ∷ rest else rest) ≡ map (λ (p : Position). p.index) rest
other_first true q rest h = cc
other_first false q rest h = refl

-- none arrived of an epoch that wasn't reached
pub indices_in-beyond : (c : Conversation) (v : View) (arrived : List Position) (epoch : ℕ) → All (HasArrived c v) arrived
    → v.epoch < epoch → indices_in arrived epoch ≡ []
indices_in-beyond c v [] epoch all h = refl
indices_in-beyond c v (q ∷ rest) epoch all h =
    let first = All-head (HasArrived c v) q rest all in
    let low : q.epoch ≤ v.epoch = first.reached in
    other_first (nat_eq q.epoch epoch) q (filter (λ r. nat_eq r.epoch epoch) rest)
    (ne_eqb q.epoch epoch (λ same. omega arith))
    ∙ indices_in-beyond c v rest epoch (All-tail (HasArrived c v) q rest all) h
