-- What follows from what a side holds is later than all that it has opened and said, or was passed and not opened.
use Rattle.std.proofs.Common.{◌≡◌, ◌⊎◌, inl, inr, ⊎_elim, ℕ, ◌+◌, ◌<◌, ◌≤◌, Bool, true, false, List, [], ◌∷◌, map, Some, refl, sym, ◌∙◌, ap, subst, arith}
use Rattle.std.specs.List.{list_any}
use Rattle.std.specs.Prelude.{All, ◌||◌}
use Rattle.std.proofs.lemmas.List.Elements.{All-contains, All-head, All-map, All-tail}
use Rattle.dr_base.specs.Position.{is_at, is_own}
use Rattle.dr_base.specs.declared.key.Kept.{Kept}
use Rattle.dr_base.specs.declared.position.Position.{Position}
use Rattle.dr_base.specs.declared.position.Side.{Side}
use Rattle.dr_base.proofs.Positions.{is_at-same}
use Rattle.kem_laws.specs.Mechanism.{Mechanism}
use Rattle.session_model.specs.States.{Own, Reception, receiving_epoch}
use Rattle.dr_model.specs.Conversations.Conversation.{Conversation, count_of, is_said}
use Rattle.dr_model.specs.Conversations.Indices.{reach}
use Rattle.dr_model.specs.Conversations.Lawful.{HasArrived, IsLawfulConversation, IsLawfulView}
use Rattle.dr_model.specs.Conversations.Posts.{key_of}
use Rattle.dr_model.specs.Conversations.ViewStates.{state_of}
use Rattle.dr_model.specs.Conversations.Views.{View, has_opened, indices_in, missing_of, reach_in}
use Rattle.dr_model.specs.Secrets.Held.{Held, holds_kept, holds_receiving, holds_root, holds_secret, holds_sending}
use Rattle.dr_model.specs.Secrets.Made.{along, by_chain, is_held, root_by_secret, root_by_seed, secret_by_seed, seed_by_secret, stream_by_secret, stream_by_seed}
use Rattle.dr_model.specs.Secrets.Secret.{Secret, the_chain_key, the_message_key, the_pair_secret, the_root, the_seed}
use Rattle.dr_model.specs.Theorems.Erasure.{MadeIn}
use Rattle.dr_model.proofs.Missing.Arrived.{reach-greatest}
use Rattle.dr_model.proofs.Missing.EpochIndices.{is_among-indices}
use Rattle.dr_model.proofs.Missing.MissedPositions.{IsMissed, missing_below-missed}
use Rattle.dr_model.proofs.Secrets.HeldValues.{latest_reception, own_phase}
use Rattle.dr_model.proofs.Taking.LatestEpoch.{latest_is, reach_in-latest}
use Rattle.dr_model.proofs.Taking.PacketFields.{is_place}
use Rattle.dr_model.proofs.Worlds.WorldViews.{own_in, own_reached}

-- a text that the side has neither opened nor said nor passed
data Later (c : Conversation) (v : View) (t i : ℕ) : Type 0 where
  beyond : v.epoch < t → Later c v t i
  unsaid : is_own v.side t ≡ true → t ≡ v.epoch → count_of c t < i → Later c v t i
  unread : receiving_epoch v.side v.epoch ≡ Some t → reach_in c v t < i → Later c v t i

later_next : (c : Conversation) (v : View) (t i : ℕ) → Later c v t i → Later c v t (i + 1)
later_next c v t i (beyond more) = beyond more
later_next c v t i (unsaid own is more) = unsaid own is (omega arith)
later_next c v t i (unread is more) = unread is (omega arith)

-- a secret that gives no key but those of later texts, and of texts that were passed
abbrev Gives : Conversation → View → Secret → Type 0
Gives c v (the_message_key t i) = Later c v t i ⊎ IsMissed c v (record { epoch = t; index = i })
Gives c v (the_chain_key t n) = Later c v t (n + 1)
Gives c v (the_root t) = v.epoch ≤ t
Gives c v (the_pair_secret t) = v.epoch ≤ t
Gives c v (the_seed t) = v.epoch ≤ t

-- so is what a side holds
held_gives : (k : Mechanism) (c : Conversation) (v : View) (secret : Secret) (value : List ℕ)
    → Held (state_of k c v) secret value → Gives c v secret
held_gives k c v secret value holds_root = omega arith
held_gives k c v secret value (holds_secret own same) = omega arith
held_gives k c v secret value (holds_sending own same) =
    let phase = own_phase k c v own same in
    let sent : own.sent ≡ count_of c v.epoch = ap (λ (o : Own). o.sent) phase.is in
    unsaid phase.mine refl (omega arith)
held_gives k c v secret value (holds_receiving r t same latest) =
    let far : r.reach ≡ reach_in c v t = ap (λ (r : Reception). r.reach) (latest_reception k c v r t same latest) in
    unread latest (omega arith)
held_gives k c v secret value (holds_kept kept among) =
    inr (All-contains (λ (kept : Kept). IsMissed c v kept.position) (map (key_of k c) (missing_of c v)) kept
    (All-map (λ (kept : Kept). IsMissed c v kept.position) (key_of k c) (missing_of c v)
    (missing_below-missed c v (v.epoch + 1))) among)

-- and all that follows from it
made_gives : (k : Mechanism) (c : Conversation) (v : View) (secret : Secret) → MadeIn k c v secret → Gives c v secret
made_gives k c v secret (is_held same holds) = held_gives k c v same holds.0 holds.1
made_gives k c v secret (by_chain t n chain) = inl (made_gives k c v (the_chain_key t n) chain)
made_gives k c v secret (along t n chain) = later_next c v t (n + 1) (made_gives k c v (the_chain_key t n) chain)
made_gives k c v secret (root_by_secret t root pair) = let low = made_gives k c v (the_root t) root in omega arith
made_gives k c v secret (stream_by_secret t root pair) = beyond (let low = made_gives k c v (the_root t) root in omega arith)
made_gives k c v secret (root_by_seed t root seed) = let low = made_gives k c v (the_root t) root in omega arith
made_gives k c v secret (stream_by_seed t root seed) = beyond (let low = made_gives k c v (the_root t) root in omega arith)
made_gives k c v secret (secret_by_seed t seed) = made_gives k c v (the_seed t) seed
made_gives k c v secret (seed_by_secret t pair) = made_gives k c v (the_pair_secret t) pair

-- ---- a text that was opened

-- a position that was opened has arrived
arrived_by : (c : Conversation) (v : View) (p q : Position) (rest : List Position) (at : Bool) → is_at p q ≡ at
    → HasArrived c v q
    → (list_any (is_at p) rest ≡ true → HasArrived c v p) → list_any (is_at p) (q ∷ rest) ≡ true → HasArrived c v p
arrived_by c v p q rest true is has later opened = subst (HasArrived c v) (is_at-same p q is) has
arrived_by c v p q rest false is has later opened = later (sym (ap (λ b. b || list_any (is_at p) rest) is) ∙ opened)

pub has_arrived : (c : Conversation) (v : View) (p : Position) (ps : List Position) → All (HasArrived c v) ps
    → list_any (is_at p) ps ≡ true → HasArrived c v p
has_arrived c v p [] all opened = cc
has_arrived c v p (q ∷ rest) all opened =
    arrived_by c v p q rest (is_at p q) refl (All-head (HasArrived c v) q rest all)
    (has_arrived c v p rest (All-tail (HasArrived c v) q rest all)) opened

not_later : (c : Conversation) (v : View) (p : Position) → HasArrived c v p → has_opened v p ≡ true
    → Later c v p.epoch p.index → ⊥
not_later c v p has opened (beyond more) = let low = has.reached in omega arith
not_later c v p has opened (unsaid own is more) = let e : true ≡ false = sym own ∙ has.peers in cc
not_later c v p has opened (unread is more) =
    let latest = latest_is v.side v.epoch p.epoch is in
    let far : reach_in c v p.epoch ≡ reach (indices_in v.arrived p.epoch) = reach_in-latest c v p.epoch latest.near in
    let most = reach-greatest (indices_in v.arrived p.epoch) p.index (is_among-indices v.arrived p ∙ opened) in
    omega arith

pub opened_erased : (k : Mechanism) (c : Conversation) (side : Side) (v : View) (p : Position) → IsLawfulView k c side v
    → has_opened v p ≡ true
    → MadeIn k c v (the_message_key p.epoch p.index) → ⊥
opened_erased k c side v p lawful opened made =
    ⊎_elim
    (λ later. not_later c v p (has_arrived c v p v.arrived lawful.arrivals opened) opened later)
    (λ missed. let e : true ≡ false = sym opened ∙ missed.unopened in cc)
    (made_gives k c v (the_message_key p.epoch p.index) made)

-- ---- a text that was said

not_unsaid : (c : Conversation) (v : View) (p : Position) → p.index ≤ count_of c p.epoch → is_own v.side p.epoch ≡ true
    → p.epoch ≤ v.epoch → Later c v p.epoch p.index → ⊥
not_unsaid c v p most own low (beyond more) = omega arith
not_unsaid c v p most own low (unsaid mine is more) = omega arith
not_unsaid c v p most own low (unread is more) =
    let e : true ≡ false = sym own ∙ (latest_is v.side v.epoch p.epoch is).peers in cc

pub said_erased : (k : Mechanism) (c : Conversation) (side : Side) (v : View) (p : Position) → IsLawfulConversation k c
    → IsLawfulView k c side v → is_said c p ≡ true
    → is_own side p.epoch ≡ true → MadeIn k c v (the_message_key p.epoch p.index) → ⊥
said_erased k c side v p world lawful said own made =
    let place = is_place k c p world said in
    let mine = own_in k c side v p.epoch true lawful own in
    ⊎_elim
    (λ later. not_unsaid c v p place.most mine (own_reached k c side v p.epoch lawful own place.began) later)
    (λ missed. let e : true ≡ false = sym mine ∙ missed.peers in cc)
    (made_gives k c v (the_message_key p.epoch p.index) made)
