-- The states that a session may have.
use Rattle.std.specs.Prelude.{All, List, None, Option, Some, [], false, length, true, ℕ, ◌+◌, ◌≡◌, ◌≤◌}
use Rattle.dr_base.specs.declared.limits.TheConstants.{INDEX_LIMIT, LAST_EPOCH, KEPT_LIMIT}
use Rattle.cka.specs.Agreement.{agreement_size}
use Rattle.dr_base.specs.Position.{is_own}
use Rattle.dr_base.specs.declared.key.Kept.{Kept}
use Rattle.dr_base.specs.declared.position.Side.{Side}
use Rattle.fs_aead.specs.Table.{AllBefore, IsAscending}
use Rattle.kem_laws.specs.Mechanism.{IsLawful, Mechanism}
use Rattle.packet.specs.Packet.{agreement_len}
use Rattle.session_model.specs.Awaiting.{AreWaiting}
use Rattle.session_model.specs.States.{Own, Phase, Reception, State, in_own, in_peers, receiving_epoch}

-- in an own epoch the secret is one of the mechanism's, and the agreement message is as long as the epoch asks
pub record IsLawfulOwn (k : Mechanism) (epoch : ℕ) (own : Own) : Type 0 where
  pub secret_long : length own.secret ≡ k.secret
  pub secret_lawful : IsLawful k.meaning own.secret
  pub agreement_long : length own.agreement ≡ agreement_len (agreement_size k) epoch
  pub chain_long : length own.chain ≡ 32
  pub few : own.sent ≤ INDEX_LIMIT

abbrev pub IsLawfulPhase : Mechanism → Side → ℕ → Phase → Type 0
IsLawfulPhase k side epoch (in_own own) = (is_own side epoch ≡ true) × IsLawfulOwn k epoch own
IsLawfulPhase k side epoch (in_peers public) = (is_own side epoch ≡ false) × (length public ≡ k.public)

-- the first own epoch has none before it
abbrev pub IsLawfulPrevious : ℕ → ℕ → Phase → Type 0
IsLawfulPrevious previous epoch (in_own own) = (previous ≤ INDEX_LIMIT) × (epoch ≤ 1 → previous ≡ 0)
IsLawfulPrevious previous epoch (in_peers public) = (previous ≤ INDEX_LIMIT) × (epoch ≡ 0 → previous ≡ 0)

-- there is a stream exactly where there is a peer's epoch; the kept keys are those of earlier epochs and of this one up
-- to its reach
abbrev pub IsLawfulReception : List Kept → Option Reception → Option ℕ → Type 0
IsLawfulReception kept None None = kept ≡ []
IsLawfulReception kept (Some r) (Some epoch) =
    (length r.chain ≡ 32) × (r.reach ≤ INDEX_LIMIT) × AllBefore kept (record { epoch = epoch; index = r.reach + 1 })
IsLawfulReception kept _ _ = ⊥

-- a kept key is of a peer's epoch, under an index that a packet may have
pub record IsLawfulKept (side : Side) (kept : Kept) : Type 0 where
  pub peers : is_own side kept.position.epoch ≡ false
  pub one : 1 ≤ kept.position.index
  pub most : kept.position.index ≤ INDEX_LIMIT

-- a state that a session may have
pub record IsLawfulState (k : Mechanism) (s : State) : Type 0 where
  pub session_long : length s.session ≡ 16
  pub root_long : length s.root ≡ 32
  pub epoch_fits : s.epoch ≤ LAST_EPOCH
  pub phase : IsLawfulPhase k s.side s.epoch s.phase
  pub previous : IsLawfulPrevious s.previous s.epoch s.phase
  pub receiving : IsLawfulReception s.kept s.receiving (receiving_epoch s.side s.epoch)
  pub kept : IsAscending s.kept
  pub each : All (IsLawfulKept s.side) s.kept
  pub few : length s.kept ≤ KEPT_LIMIT
  pub waiting : AreWaiting s.side s.epoch s.phase s.awaiting
