-- What a view shows once the side has begun an epoch of its own: the same.
use Rattle.std.proofs.Common.{◌≡◌, ◌≢◌, ℕ, zero, suc, ◌+◌, ◌-◌, ◌≤◌, true, false, Bool, nat_le, List, [], ◌++◌, length, map, Some, refl, sym, ◌∙◌, ap, ap₂, add-one, append-nil, if◌then◌else◌, arith}
use Rattle.std.specs.Prelude.{option_map}
use Rattle.std.proofs.lemmas.Bool.{cond-true}
use Rattle.std.proofs.lemmas.Bool.Decides.{nat_tests}
use Rattle.std.proofs.lemmas.List.Elements.{All-weaker}
use Rattle.bodies.specs.Bodies.{Body}
use Rattle.session_model.proofs.Latest.{latest-peers, latest-turn}
use Rattle.dr_base.specs.Position.{is_own}
use Rattle.dr_base.specs.declared.position.Position.{Position}
use Rattle.dr_base.proofs.Parity.{own_after, own_other}
use Rattle.fs_aead.specs.Chain.{chain_of}
use Rattle.kem_laws.specs.Mechanism.{Mechanism}
use Rattle.session_model.specs.States.{receiving_epoch}
use Rattle.session_model.specs.Turns.{Turn}
use Rattle.dr_model.specs.Conversations.Conversation.{Conversation, count_of, previous_of}
use Rattle.dr_model.specs.Conversations.Indices.{missing_to, reach}
use Rattle.dr_model.specs.Conversations.Posts.{key_of}
use Rattle.dr_model.specs.Conversations.ViewStates.{view_reception}
use Rattle.dr_model.specs.Conversations.Views.{View, after_turn, indices_in, reach_in, missing_in, missing_below, missing_of}
use Rattle.dr_model.proofs.Growth.Growing.{grown, count-grown}
use Rattle.dr_model.proofs.Growth.GrowingViews.{IsBelow, missing_below-below}
use Rattle.dr_model.proofs.Growth.TurnGrowth.{SameTurns, key_of-grown, map-same}

-- ---- what is missing

-- epochs but the one before the reached one are read as far as before
test_turned : (reached t : ℕ) → t + 1 ≢ reached → t ≤ reached → nat_le (reached + 1) (t + 1) ≡ nat_le reached (t + 1)
test_turned reached t other within = grind (arith, nat_tests)

reach_in-turned : (c : Conversation) (seeds : List (List ℕ)) (body : Body) (v : View) (t : ℕ)
    → is_own v.side v.epoch ≡ false → is_own v.side t ≡ false
    → t ≤ v.epoch → reach_in (grown c seeds (v.epoch + 1) body) (after_turn v) t ≡ reach_in c v t
reach_in-turned c seeds body v t peers passed within =
    ap₂ (λ latest n. if latest then reach (indices_in v.arrived t) else n)
    (test_turned v.epoch t (own_other v.side (t + 1) v.epoch (own_after v.side t passed) peers) within)
    (count-grown c seeds (v.epoch + 1) body t (λ same. omega arith))

-- the positions that are missing in a peer's epoch
missing_by : (own : Bool) (ps qs : List Position) → (own ≡ false → ps ≡ qs)
    → (if own then [] else ps) ≡ (if own then [] else qs)
missing_by true ps qs same = refl
missing_by false ps qs same = same refl

missing_in-turned : (c : Conversation) (seeds : List (List ℕ)) (body : Body) (v : View) (t : ℕ)
    → is_own v.side v.epoch ≡ false → t ≤ v.epoch
    → (if is_own v.side t then [] else missing_in (grown c seeds (v.epoch + 1) body) (after_turn v) t)
    ≡ (if is_own v.side t then [] else missing_in c v t)
missing_in-turned c seeds body v t peers within =
    missing_by (is_own v.side t) (missing_in (grown c seeds (v.epoch + 1) body) (after_turn v) t) (missing_in c v t)
    (λ passed. ap (λ r. map (λ index. record { epoch = t; index = index }) (missing_to (indices_in v.arrived t) r))
    (reach_in-turned c seeds body v t peers passed within))

missing_below-turned : (c : Conversation) (seeds : List (List ℕ)) (body : Body) (v : View) (n : ℕ)
    → is_own v.side v.epoch ≡ false → n ≤ v.epoch + 1
    → missing_below (grown c seeds (v.epoch + 1) body) (after_turn v) n ≡ missing_below c v n
unfolding missing_below
missing_below-turned c seeds body v zero peers within = refl
missing_below-turned c seeds body v (suc n) peers within =
    ap₂ (λ front behind. front ++ behind) (missing_below-turned c seeds body v n peers (omega arith))
    (missing_in-turned c seeds body v n peers (omega arith))

-- the new epoch is the side's own, in which it misses nothing
missing_below-own : (c : Conversation) (v : View) (n : ℕ) → is_own v.side n ≡ true
    → missing_below c v (n + 1) ≡ missing_below c v n
unfolding missing_below
missing_below-own c v n own =
    ap (missing_below c v) (add-one n)
    ∙ ap (λ ps. missing_below c v n ++ ps) (cond-true (is_own v.side n) [] (missing_in c v n) own)
    ∙ append-nil (missing_below c v n)

pub missing_of-turned : (c : Conversation) (seeds : List (List ℕ)) (body : Body) (v : View) → is_own v.side v.epoch ≡ false
    → missing_of (grown c seeds (v.epoch + 1) body) (after_turn v) ≡ missing_of c v
missing_of-turned c seeds body v peers =
    missing_below-own (grown c seeds (v.epoch + 1) body) (after_turn v) (v.epoch + 1) (own_after v.side v.epoch peers)
    ∙ missing_below-turned c seeds body v (v.epoch + 1) peers (omega arith)

-- the keys that are kept
pub kept-turned : (k : Mechanism) (c : Conversation) (seeds : List (List ℕ)) (body : Body) (v : View)
    → SameTurns k c.key c.seeds seeds
    → is_own v.side v.epoch ≡ false → v.epoch ≤ length c.seeds
    → map (key_of k (grown c seeds (v.epoch + 1) body)) (missing_of (grown c seeds (v.epoch + 1) body) (after_turn v))
    ≡ map (key_of k c) (missing_of c v)
kept-turned k c seeds body v same peers within =
    let d = grown c seeds (v.epoch + 1) body in
    ap (map (key_of k d)) (missing_of-turned c seeds body v peers)
    ∙ map-same (key_of k d) (key_of k c) (missing_of c v)
    (All-weaker (IsBelow (v.epoch + 1)) (λ p. key_of k d p ≡ key_of k c p)
    (λ p h. key_of-grown k c seeds (v.epoch + 1) body p same (omega arith))
    (missing_of c v) (missing_below-below c v (v.epoch + 1)))

-- ---- the stream of the latest peer's epoch

pub receiving-turned : (k : Mechanism) (c : Conversation) (seeds : List (List ℕ)) (body : Body) (v : View)
    → SameTurns k c.key c.seeds seeds
    → is_own v.side v.epoch ≡ false → v.epoch ≤ length c.seeds
    → option_map (view_reception k (grown c seeds (v.epoch + 1) body) (after_turn v)) (receiving_epoch v.side (v.epoch + 1))
    ≡ option_map (view_reception k c v) (receiving_epoch v.side v.epoch)
receiving-turned k c seeds body v same peers within =
    ap (option_map (view_reception k (grown c seeds (v.epoch + 1) body) (after_turn v)))
    (latest-turn v.side v.epoch peers ∙ latest-peers v.side v.epoch peers)
    ∙ ap₂ (λ (turn : Turn) (r : ℕ). Some (record { chain = chain_of turn.stream r; reach = r }))
    (same v.epoch within) (reach_in-turned c seeds body v v.epoch peers peers (omega arith))
    ∙ sym (ap (option_map (view_reception k c v)) (latest-peers v.side v.epoch peers))

-- ---- how many texts the last own epoch had

two_or_one : (n : ℕ) → nat_le 2 (n + 1) ≡ nat_le 1 n
two_or_one n = grind (arith, nat_tests)

pub previous-turned : (c : Conversation) (seeds : List (List ℕ)) (body : Body) (v : View)
    → previous_of (grown c seeds (v.epoch + 1) body) (v.epoch + 1)
    ≡ (if nat_le 1 v.epoch then count_of c (v.epoch - 1) else 0)
previous-turned c seeds body v =
    let before : v.epoch + 1 - 2 ≡ v.epoch - 1 = omega arith in
    ap₂ (λ late n. if late then n else 0) (two_or_one v.epoch)
    (ap (count_of (grown c seeds (v.epoch + 1) body)) before
    ∙ count-grown c seeds (v.epoch + 1) body (v.epoch - 1) (λ same. omega arith))
