-- What playing a fan comes to.
use Rattle.std.specs.Prelude.{List, None, Option, Some, [], if◌then◌else◌, nat_le, ℕ, ◌&&◌, ◌+◌, ◌≡◌}
use Rattle.dr_disk.specs.declared.call.Mode.{Mode}
use Rattle.kem_laws.specs.Open.{open_kem}
use Rattle.session_model.specs.declared.answer.Refusal.TheVariants.{NoPair}
use Rattle.scripts.specs.Words.{mode_read}
use Rattle.hub.specs.Peers.{LacksPair, peer_name}
use Rattle.hub.specs.Plays.{AllAreAsked, IsRefusedAt, fan_told}
use Rattle.hub.specs.declared.peers.TheConstants.{PEERS_LIMIT}
use Rattle.endings.specs.PeerNames.{shown_name}
use Rattle.endings.specs.declared.ending.Ending.{Ending}
use Rattle.endings.specs.declared.ending.Ending.TheVariants.{Done, NoMemory, PeerRefused, Refused, Usage}

-- how the disk crashes, by a word, for as many people as a hub may have
abbrev pub fan_mode : ℕ → List ℕ → Option Mode
fan_mode peers word =
    if nat_le 1 peers && nat_le peers PEERS_LIMIT then mode_read word else None

-- The lines are those of a hub's fan, which these numbers alone tell. Without memory, where a key
-- gives no first pair, or where a session doesn't say the text, there are none.
abbrev pub PlaysFanSo : ℕ → ℕ → Mode → Ending → List ℕ → Type 0
PlaysFanSo peers calls mode Done lines =
    AllAreAsked open_kem peers × (lines ≡ fan_told peers calls mode)
PlaysFanSo peers calls mode NoMemory lines = lines ≡ []
PlaysFanSo peers calls mode (Refused refusal) lines =
    (lines ≡ []) × (refusal ≡ NoPair) × LacksPair open_kem peers
PlaysFanSo peers calls mode (PeerRefused name refusal) lines = (lines ≡ [])
    × ((at : ℕ) × (shown_name name ≡ peer_name (at + 1)) × IsRefusedAt open_kem peers at refusal)
PlaysFanSo peers calls mode _ lines = ⊥

-- words without a mode, or with another number of people, are no command
abbrev pub PlaysFanBy : ℕ → ℕ → Option Mode → Ending → List ℕ → Type 0
PlaysFanBy peers calls None ending lines = (ending ≡ Usage) × (lines ≡ [])
PlaysFanBy peers calls (Some mode) ending lines = PlaysFanSo peers calls mode ending lines
