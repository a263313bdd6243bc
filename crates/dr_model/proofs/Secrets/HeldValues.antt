-- The values that the state of a view holds are those of its conversation.
use Rattle.std.proofs.Common.{◌≡◌, ℕ, true, Bool, false, List, map, Some, refl, sym, ◌∙◌, ap, if◌then◌else◌}
use Rattle.std.specs.Prelude.{option_map}
use Rattle.std.proofs.lemmas.List.Elements.{All-contains, All-map}
use Rattle.dr_base.specs.Position.{is_own}
use Rattle.dr_base.specs.declared.key.Kept.{Kept}
use Rattle.fs_aead.specs.Chain.{chain_of, message_key}
use Rattle.kem_laws.specs.Mechanism.{Mechanism}
use Rattle.session_model.specs.States.{Own, Reception, in_own, in_peers, receiving_epoch}
use Rattle.dr_model.specs.Conversations.Conversation.{Conversation}
use Rattle.dr_model.specs.Conversations.Posts.{key_of, turn_of_epoch}
use Rattle.dr_model.specs.Conversations.ViewStates.{view_own, view_phase, view_reception, state_of}
use Rattle.dr_model.specs.Conversations.Views.{View, missing_of}
use Rattle.dr_model.specs.Secrets.Held.{Held, holds_kept, holds_receiving, holds_root, holds_secret, holds_sending}
use Rattle.dr_model.specs.Secrets.Secret.{Secret, value_of}

-- what a phase holds of an own epoch
pub record IsOwnPhase (k : Mechanism) (c : Conversation) (v : View) (own : Own) : Type 0 where
  pub mine : is_own v.side v.epoch ≡ true
  pub is : own ≡ view_own k c v

phase_by : (b : Bool) (x own : Own) (public : List ℕ) → (if b then in_own x else in_peers public) ≡ in_own own
    → (b ≡ true) × (own ≡ x)
phase_by true x own public same = (refl, let e : in_own x ≡ in_own own = same in cc)
phase_by false x own public same = absurd (let e : in_peers public ≡ in_own own = same in cc)

pub own_phase : (k : Mechanism) (c : Conversation) (v : View) (own : Own) → view_phase k c v ≡ in_own own
    → IsOwnPhase k c v own
own_phase k c v own same =
    let both = phase_by (is_own v.side v.epoch) (view_own k c v) own (turn_of_epoch k c v.epoch).public same in
    record { mine = both.0; is = both.1 }

-- the reception of the latest peer's epoch
pub latest_reception : (k : Mechanism) (c : Conversation) (v : View) (r : Reception) (t : ℕ)
    → option_map (view_reception k c v) (receiving_epoch v.side v.epoch) ≡ Some r → receiving_epoch v.side v.epoch ≡ Some t
    → r ≡ view_reception k c v t
latest_reception k c v r t same is =
    let e : Some (view_reception k c v t) ≡ Some r = sym (ap (option_map (view_reception k c v)) is) ∙ same in cc

-- each value
pub held_values : (k : Mechanism) (c : Conversation) (v : View) (secret : Secret) (value : List ℕ)
    → Held (state_of k c v) secret value → value ≡ value_of k c secret
held_values k c v secret value holds_root = refl
held_values k c v secret value (holds_secret own same) = ap (λ (o : Own). o.secret) (own_phase k c v own same).is
held_values k c v secret value (holds_sending own same) =
    let is = (own_phase k c v own same).is in
    ap (λ (o : Own). o.chain) is ∙ sym (ap (λ (o : Own). chain_of (turn_of_epoch k c v.epoch).stream o.sent) is)
held_values k c v secret value (holds_receiving r t same latest) =
    let is = latest_reception k c v r t same latest in
    ap (λ (r : Reception). r.chain) is ∙ sym (ap (λ (r : Reception). chain_of (turn_of_epoch k c t).stream r.reach) is)
held_values k c v secret value (holds_kept kept among) =
    All-contains (λ (kept : Kept). kept.key.bytes ≡ message_key
    (turn_of_epoch k c kept.position.epoch).stream kept.position.index)
    (map (key_of k c) (missing_of c v)) kept
    (All-map (λ (kept : Kept). kept.key.bytes ≡ message_key
    (turn_of_epoch k c kept.position.epoch).stream kept.position.index)
    (key_of k c) (missing_of c v) (λ i d below. refl)) among
