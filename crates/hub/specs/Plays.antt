-- What a hub's fan comes to, on a disk that stops meanwhile.
use Rattle.std.specs.Prelude.{Bool, Err, List, Ok, Option, Result, nat_le, ℕ, ⊤, ◌+◌, ◌≡◌, ◌≤◌, ◌||◌}
use Rattle.book.specs.Fanning.{AsksInTurn}
use Rattle.book.specs.Fans.{AreAsked}
use Rattle.book.specs.declared.refusals.FanRefusal.TheVariants.{Peer as PeerOf}
use Rattle.client.specs.Beginning.{HasPair}
use Rattle.client.specs.declared.refusals.SayRefusal.{SayRefusal}
use Rattle.client.specs.declared.refusals.SayRefusal.TheVariants.{NoPair as SaysNoPair, Refused}
use Rattle.dr_base.specs.declared.key.Key32.{Key32}
use Rattle.dr_disk.specs.declared.call.Mode.{Mode}
use Rattle.dr_ports.specs.Memory.{Turning, turning_at}
use Rattle.dr_ports.specs.Ports.{Rose, appended}
use Rattle.dr_ports.specs.States.{SinkState}
use Rattle.dr_ports.specs.Writing.{TookBeginning}
use Rattle.kem_laws.specs.Mechanism.{Mechanism}
use Rattle.pages.specs.Stops.{put_took, puts, retires}
use Rattle.session_model.specs.declared.answer.Refusal.{Refusal}
use Rattle.session_model.specs.declared.answer.Refusal.TheVariants.{NoPair as HasNoPair}
use Rattle.hub.specs.Lines.{told_lines}
use Rattle.hub.specs.Peers.{LacksPair, first_draws, hello, hub_begin, hub_rows, places}
use Rattle.hub.specs.declared.playing.FanPlayError.{FanPlayError}
use Rattle.hub.specs.declared.playing.FanPlayError.TheVariants.{Memory, NoPair, Peer, Write}

-- ---- the fan, on a disk that stops once this many writes and syncs have passed, and then crashes

-- all sessions say the text with these seeds, each of which was drawn in its turn
pub record AllAreAsked (k : Mechanism) (peers : ℕ) : Type 0 where
  pub seeds : List (Option Key32)
  pub left : Turning
  pub asked : AreAsked turning_at k hello (hub_rows k peers) (places peers) (first_draws peers)
      peers left seeds

-- So many writes and syncs it makes: a page of each record is written, and one is wiped.
abbrev pub fan_calls : ℕ → ℕ
fan_calls peers = puts peers + retires peers

-- it is acknowledged exactly where all of them pass
abbrev pub is_answered : (peers after : ℕ) → Bool
is_answered peers after = nat_le (fan_calls peers) after

-- whether all sessions say the text, or none does
abbrev pub is_told : (peers after : ℕ) → Mode → Bool
is_told peers after mode = is_answered peers after || put_took peers after mode

-- the lines
abbrev pub fan_told : (peers after : ℕ) → Mode → List ℕ
fan_told peers after mode = told_lines peers (is_answered peers after) (is_told peers after mode)

-- ---- a refusal

abbrev pub IsSaidRefusal : SayRefusal → Type 0
IsSaidRefusal (Refused refusal) = ⊤
IsSaidRefusal (SaysNoPair seed) = ⊤
IsSaidRefusal _ = ⊥

abbrev pub IsRefusalOf : SayRefusal → Refusal → Type 0
IsRefusalOf (Refused refusal) result = result ≡ refusal
IsRefusalOf (SaysNoPair seed) result = result ≡ HasNoPair
IsRefusalOf _ result = ⊥

-- the session with the peer at this place refuses the text, the first that does
pub record IsRefusedAt (k : Mechanism) (peers at : ℕ) (refusal : Refusal) : Type 0 where
  pub said : SayRefusal
  pub is : IsRefusalOf said refusal
  pub seeds : List (Option Key32)
  pub left : Turning
  pub asked : AsksInTurn turning_at k hello (hub_rows k peers) (places peers) (first_draws peers)
      left seeds (Err (PeerOf at said))

-- ---- what it comes to

-- why nothing is left of the hub
abbrev pub StopsFan : Mechanism → ℕ → FanPlayError → Type 0
StopsFan k peers (Peer at refusal) = IsRefusedAt k peers at refusal
StopsFan k peers Memory = ⊤
StopsFan k peers _ = ⊥

-- All of it is done before anything is written: exactly these lines are, or nothing for a reason,
-- or a beginning of them.
abbrev pub PlaysFan : Mechanism → ℕ → ℕ → Mode → SinkState → SinkState → Result Unit FanPlayError
    → Type 0
PlaysFan k peers after mode old new (Ok u) = AllAreAsked k peers
    × ((number : ℕ) → 1 ≤ number → number ≤ peers → HasPair k (hub_begin number))
    × (new.taken ≡ appended old.taken (fan_told peers after mode))
    × (new.faults ≡ old.faults)
PlaysFan k peers after mode old new (Err Write) = AllAreAsked k peers
    × TookBeginning old.taken new.taken (fan_told peers after mode)
    × Rose old.faults new.faults
PlaysFan k peers after mode old new (Err NoPair) = LacksPair k peers × (new ≡ old)
PlaysFan k peers after mode old new (Err (Peer at refusal)) =
    IsRefusedAt k peers at refusal × (new ≡ old)
PlaysFan k peers after mode old new (Err Memory) = new ≡ old
