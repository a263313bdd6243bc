-- What a hub's fan leaves, over any mechanism: by how many pages its records take.
use Rattle.std.specs.Prelude.{Bool, Err, List, Ok, Option, Result, [], if◌then◌else◌, nat_le, replicate, ℕ, ◌≡◌, ◌≤◌, ◌||◌}
use Rattle.book.specs.Changing.{change_calls}
use Rattle.book.specs.Fans.{AreAsked, Fan, fan_of, fanned_rows, fanned_store, fanned_writes}
use Rattle.book.specs.Rows.{stored}
use Rattle.book_model.specs.Rows.{Rows}
use Rattle.book_store.specs.AtRest.{IsBookMarked}
use Rattle.book_store.specs.Store.{BookStore}
use Rattle.book_store.specs.declared.layout.TheConstants.{BOOK_ROWS}
use Rattle.client.specs.Beginning.{HasPair}
use Rattle.dr_base.specs.declared.key.Key32.{Key32}
use Rattle.dr_disk.specs.declared.call.Mode.{Mode}
use Rattle.dr_ports.specs.Memory.{Turning, turning_at}
use Rattle.dr_ports.specs.Ports.{Rose, appended}
use Rattle.dr_ports.specs.States.{SinkState}
use Rattle.dr_ports.specs.Writing.{TookBeginning}
use Rattle.kem_laws.specs.Mechanism.{Mechanism}
use Rattle.pages.specs.Stops.{put_took}
use Rattle.session_model.specs.Clients.{Client}
use Rattle.hub.specs.Held.{AreLawful}
use Rattle.hub.specs.Lines.{told_lines}
use Rattle.hub.specs.Peers.{LacksPair, first_draws, hello, hub_begin, hub_rows, places}
use Rattle.hub.specs.Plays.{IsRefusedAt}
use Rattle.hub.specs.declared.playing.FanPlayError.{FanPlayError}
use Rattle.hub.specs.declared.playing.FanPlayError.TheVariants.{Memory, NoPair, Peer, Write}

-- The store of a hub before its fan, whose sessions are lawful, and the seeds with which all of
-- them say the text: each was drawn in its turn.
pub record HubFan (k : Mechanism) (peers : ℕ) : Type 0 where
  pub lawful : AreLawful k (hub_rows k peers)
  pub store : BookStore
  pub count : store.rows ≡ peers
  pub holds : store.held ≡ stored (hub_rows k peers)
  pub marked : IsBookMarked store.rows store.mark store.held
  pub dropped : store.drops ≡ replicate BOOK_ROWS []
  pub seeds : List (Option Key32)
  pub left : Turning
  pub asked : AreAsked turning_at k hello (hub_rows k peers) (places peers) (first_draws peers)
      peers left seeds

abbrev pub fan_in : (k : Mechanism) (peers : ℕ) → HubFan k peers → Fan
fan_in k peers hub = fan_of (hub_rows k peers) (places peers) hello hub.seeds

-- how many pages it writes, and how many writes and syncs it makes
abbrev pub hub_writes : (k : Mechanism) (peers : ℕ) → HubFan k peers → ℕ
hub_writes k peers hub = fanned_writes k (fan_in k peers hub) hub.store peers

abbrev pub hub_calls : (k : Mechanism) (peers : ℕ) → HubFan k peers → ℕ
hub_calls k peers hub =
    change_calls (hub_writes k peers hub) (fanned_store k (fan_in k peers hub) hub.store peers)

-- ---- on a disk that stops once this many writes and syncs have passed, and crashes in this way

-- it is acknowledged exactly where all pass
abbrev pub is_acknowledged : (k : Mechanism) (peers after : ℕ) → HubFan k peers → Bool
is_acknowledged k peers after hub = nat_le (hub_calls k peers hub) after

-- whether all sessions say the text, or none does
abbrev pub has_happened : (k : Mechanism) (peers after : ℕ) → Mode → HubFan k peers → Bool
has_happened k peers after mode hub =
    is_acknowledged k peers after hub || put_took (hub_writes k peers hub) after mode

-- the rows that are left
abbrev pub rows_left : (k : Mechanism) (peers after : ℕ) → Mode → HubFan k peers → Rows Client
rows_left k peers after mode hub =
    if has_happened k peers after mode hub then fanned_rows k (fan_in k peers hub) peers
    else hub_rows k peers

-- the lines: as the fan ended, and that each peer opens the text that is said to it, or none has a
-- packet
abbrev pub hub_lines : (k : Mechanism) (peers after : ℕ) → Mode → HubFan k peers → List ℕ
hub_lines k peers after mode hub = told_lines peers (is_acknowledged k peers after hub)
    (has_happened k peers after mode hub)

-- ---- what it comes to

-- what is left of the hub
pub record IsLeftOf (k : Mechanism) (peers after : ℕ) (mode : Mode)
    (acknowledged : Bool) (rows : Rows Client) : Type 0 where
  pub hub : HubFan k peers
  pub acknowledged_is : acknowledged ≡ is_acknowledged k peers after hub
  pub rows_are : rows ≡ rows_left k peers after mode hub

-- All of it is done before anything is written, as `PlaysFan` says it in numbers.
abbrev pub PlaysOver : Mechanism → ℕ → ℕ → Mode → SinkState → SinkState → Result Unit FanPlayError
    → Type 0
PlaysOver k peers after mode old new (Ok u) = (hub : HubFan k peers)
    × ((number : ℕ) → 1 ≤ number → number ≤ peers → HasPair k (hub_begin number))
    × (new.taken ≡ appended old.taken (hub_lines k peers after mode hub))
    × (new.faults ≡ old.faults)
PlaysOver k peers after mode old new (Err Write) = (hub : HubFan k peers)
    × TookBeginning old.taken new.taken (hub_lines k peers after mode hub)
    × Rose old.faults new.faults
PlaysOver k peers after mode old new (Err NoPair) = LacksPair k peers × (new ≡ old)
PlaysOver k peers after mode old new (Err (Peer at refusal)) =
    IsRefusedAt k peers at refusal × (new ≡ old)
PlaysOver k peers after mode old new (Err Memory) = new ≡ old
