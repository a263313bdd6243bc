-- What a view of a conversation shows stays as the conversation grows.
use Rattle.std.proofs.Common.{◌≡◌, ◌≢◌, ℕ, zero, suc, ◌+◌, ◌<◌, ◌≤◌, true, false, Bool, nat_le, List, [], ◌++◌, length, map, Option, Some, None, refl, ◌∙◌, ap, ap₂, if◌then◌else◌, arith}
use Rattle.std.specs.Prelude.{All, option_map}
use Rattle.std.proofs.lemmas.Bool.Decides.{nat_tests}
use Rattle.std.proofs.lemmas.List.Elements.{All-append, All-map, All-nil, All-weaker}
use Rattle.bodies.specs.Bodies.{Body}
use Rattle.session_model.proofs.Latest.{latest-reached}
use Rattle.dr_base.specs.Position.{is_own}
use Rattle.dr_base.specs.declared.position.Position.{Position}
use Rattle.fs_aead.specs.Chain.{chain_of}
use Rattle.kem_laws.specs.Mechanism.{Mechanism}
use Rattle.session_model.specs.States.{Reception, receiving_epoch}
use Rattle.session_model.specs.Turns.{Turn}
use Rattle.dr_model.specs.Conversations.Conversation.{Conversation, count_of}
use Rattle.dr_model.specs.Conversations.Indices.{missing_to, reach}
use Rattle.dr_model.specs.Conversations.Posts.{key_of}
use Rattle.dr_model.specs.Conversations.ViewStates.{view_reception}
use Rattle.dr_model.specs.Conversations.Views.{View, indices_in, reach_in, missing_in, missing_below, missing_of}
use Rattle.dr_model.proofs.Growth.Growing.{grown, count-grown}
use Rattle.dr_model.proofs.Growth.TurnGrowth.{SameTurns, key_of-grown, map-same}

-- ---- what is missing

-- where a test chooses between the same and the count
reach_by : (r m n : ℕ) (latest : Bool) → (latest ≡ false → m ≡ n) → (if latest then r else m) ≡ (if latest then r else n)
reach_by r m n true same = refl
reach_by r m n false same = same refl

-- an epoch that is read to its end lies before the one that grows
ended : (reached t epoch : ℕ) → reached ≤ epoch + 1 → nat_le reached (t + 1) ≡ false → t ≢ epoch
ended reached t epoch near past same = let more : t + 1 < reached = grind (arith, nat_tests) in omega arith

-- how far each epoch was read
pub reach_in-grown : (c : Conversation) (seeds : List (List ℕ)) (epoch : ℕ) (body : Body) (v : View) (t : ℕ)
    → v.epoch ≤ epoch + 1
    → reach_in (grown c seeds epoch body) v t ≡ reach_in c v t
reach_in-grown c seeds epoch body v t near =
    reach_by (reach (indices_in v.arrived t)) (count_of (grown c seeds epoch body) t) (count_of c t) (nat_le v.epoch (t + 1))
    (λ past. count-grown c seeds epoch body t (ended v.epoch t epoch near past))

-- the positions that are missing in it
missing_in-grown : (c : Conversation) (seeds : List (List ℕ)) (epoch : ℕ) (body : Body) (v : View) (t : ℕ)
    → v.epoch ≤ epoch + 1
    → missing_in (grown c seeds epoch body) v t ≡ missing_in c v t
missing_in-grown c seeds epoch body v t near =
    ap (λ r. map (λ index. record { epoch = t; index = index }) (missing_to (indices_in v.arrived t) r))
    (reach_in-grown c seeds epoch body v t near)

pub missing_below-grown : (c : Conversation) (seeds : List (List ℕ)) (epoch : ℕ) (body : Body) (v : View) (n : ℕ)
    → v.epoch ≤ epoch + 1
    → missing_below (grown c seeds epoch body) v n ≡ missing_below c v n
unfolding missing_below
missing_below-grown c seeds epoch body v zero near = refl
missing_below-grown c seeds epoch body v (suc n) near =
    ap₂ (λ front behind. front ++ (if is_own v.side n then [] else behind))
    (missing_below-grown c seeds epoch body v n near) (missing_in-grown c seeds epoch body v n near)

pub missing_of-grown : (c : Conversation) (seeds : List (List ℕ)) (epoch : ℕ) (body : Body) (v : View)
    → v.epoch ≤ epoch + 1
    → missing_of (grown c seeds epoch body) v ≡ missing_of c v
missing_of-grown c seeds epoch body v near = missing_below-grown c seeds epoch body v (v.epoch + 1) near

-- their epochs are among those that were asked for
abbrev pub IsBelow : ℕ → Position → Type 0
IsBelow n p = p.epoch < n

one_below : (c : Conversation) (v : View) (n : ℕ) (own : Bool) → All (IsBelow (suc n)) (if own then [] else missing_in c v n)
one_below c v n true = All-nil (IsBelow (suc n))
one_below c v n false =
    All-map (IsBelow (suc n)) (λ index. record { epoch = n; index = index })
    (missing_to (indices_in v.arrived n) (reach_in c v n))
    (λ k d h. omega arith)

pub missing_below-below : (c : Conversation) (v : View) (n : ℕ) → All (IsBelow n) (missing_below c v n)
unfolding missing_below
missing_below-below c v zero = All-nil (IsBelow 0)
missing_below-below c v (suc n) =
    All-append (IsBelow (suc n)) (missing_below c v n) (if is_own v.side n then [] else missing_in c v n)
    (All-weaker (IsBelow n) (IsBelow (suc n)) (λ p h. omega arith) (missing_below c v n) (missing_below-below c v n))
    (one_below c v n (is_own v.side n))

-- the keys that are kept
pub kept-grown : (k : Mechanism) (c : Conversation) (seeds : List (List ℕ)) (epoch : ℕ) (body : Body) (v : View)
    → SameTurns k c.key c.seeds seeds
    → v.epoch ≤ epoch + 1 → v.epoch ≤ length c.seeds
    → map (key_of k (grown c seeds epoch body)) (missing_of (grown c seeds epoch body) v) ≡ map (key_of k c) (missing_of c v)
kept-grown k c seeds epoch body v same near within =
    let d = grown c seeds epoch body in
    ap (map (key_of k d)) (missing_of-grown c seeds epoch body v near)
    ∙ map-same (key_of k d) (key_of k c) (missing_of c v)
    (All-weaker (IsBelow (v.epoch + 1)) (λ p. key_of k d p ≡ key_of k c p)
    (λ p h. key_of-grown k c seeds epoch body p same (omega arith))
    (missing_of c v) (missing_below-below c v (v.epoch + 1)))

-- ---- the stream of the latest peer's epoch

-- of one epoch
pub reception-grown : (k : Mechanism) (c : Conversation) (seeds : List (List ℕ)) (epoch : ℕ) (body : Body) (v : View)
    (t : ℕ) → SameTurns k c.key c.seeds seeds
    → v.epoch ≤ epoch + 1 → t ≤ length c.seeds → view_reception k (grown c seeds epoch body) v t ≡ view_reception k c v t
reception-grown k c seeds epoch body v t same near within =
    ap₂ (λ (turn : Turn) (r : ℕ). record { chain = chain_of turn.stream r; reach = r }) (same t within)
    (reach_in-grown c seeds epoch body v t near)

-- of the epoch that there is, or none
some_same : (f g : ℕ → Reception) (o : Option ℕ) → ((t : ℕ) → o ≡ Some t → f t ≡ g t) → option_map f o ≡ option_map g o
some_same f g None same = refl
some_same f g (Some t) same = ap Some (same t refl)

pub receiving-grown : (k : Mechanism) (c : Conversation) (seeds : List (List ℕ)) (epoch : ℕ) (body : Body) (v : View)
    → SameTurns k c.key c.seeds seeds
    → v.epoch ≤ epoch + 1 → v.epoch ≤ length c.seeds
    → option_map (view_reception k (grown c seeds epoch body) v) (receiving_epoch v.side v.epoch)
    ≡ option_map (view_reception k c v) (receiving_epoch v.side v.epoch)
receiving-grown k c seeds epoch body v same near within =
    some_same (view_reception k (grown c seeds epoch body) v) (view_reception k c v) (receiving_epoch v.side v.epoch)
    (λ t is. reception-grown k c seeds epoch body v t same near
    (let latest = latest-reached v.side v.epoch t is in omega arith))
