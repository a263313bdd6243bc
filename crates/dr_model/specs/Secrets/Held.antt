-- The secrets whose values stand in what a session keeps.
use Rattle.std.specs.Prelude.{Contains, List, Some, ℕ, ◌≡◌}
use Rattle.dr_base.specs.declared.key.Kept.{Kept}
use Rattle.session_model.specs.States.{Own, Reception, State, in_own, receiving_epoch}
use Rattle.dr_model.specs.Secrets.Secret.{Secret, the_chain_key, the_message_key, the_pair_secret, the_root}

-- the state holds this value, which is to be that of the secret
pub data Held (s : State) : Secret → List ℕ → Type 0 where
  -- the root of the epoch that is reached
  holds_root : Held s (the_root s.epoch) s.root
  -- in an own epoch the secret of its pair, and the chain key after the texts that were said
  holds_secret : (own : Own) → s.phase ≡ in_own own → Held s (the_pair_secret s.epoch) own.secret
  holds_sending : (own : Own) → s.phase ≡ in_own own → Held s (the_chain_key s.epoch own.sent) own.chain
  -- the chain key after the greatest index that was opened in the latest peer's epoch
  holds_receiving : (r : Reception) (epoch : ℕ) → s.receiving ≡ Some r → receiving_epoch s.side s.epoch ≡ Some epoch
      → Held s (the_chain_key epoch r.reach) r.chain
  -- the keys that were passed
  holds_kept : (kept : Kept) → Contains s.kept kept
      → Held s (the_message_key kept.position.epoch kept.position.index) kept.key.bytes

-- it holds a value for this secret
abbrev pub Holds : State → Secret → Type 0
Holds s secret = (value : List ℕ) × Held s secret value
