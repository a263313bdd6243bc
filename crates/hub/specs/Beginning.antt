-- How a hub's sessions begin.
use Rattle.std.specs.Prelude.{Err, IsNone, Ok, Result, ℕ, ⊤, ◌≡◌, ◌≤◌}
use Rattle.book.specs.Books.{BookNow}
use Rattle.book.specs.declared.refusals.BookBeginError.{BookBeginError}
use Rattle.book.specs.declared.refusals.BookBeginError.TheVariants.{Memory, NoPair}
use Rattle.book_model.specs.Rows.{begun}
use Rattle.client.specs.Beginning.{HasPair, begun_client}
use Rattle.kem_laws.specs.Mechanism.{Mechanism}
use Rattle.session_model.specs.Schedule.{agreement_seed}
use Rattle.session_record.specs.Lawful.{IsLawfulClient}
use Rattle.hub.specs.Held.{AreLawful}
use Rattle.hub.specs.Peers.{LacksPair, hub_begin, hub_rows, peer_key, peer_name}
use Rattle.hub.specs.declared.playing.FanPlayError.{FanPlayError}
use Rattle.hub.specs.declared.playing.FanPlayError.TheVariants.{Memory as NoMemory, NoPair as HasNoPair}

-- why no session is begun for a peer that has none, where a row is absent and all calls pass
abbrev pub IsFirstRefusal : BookBeginError → Type 0
IsFirstRefusal Memory = ⊤
IsFirstRefusal NoPair = ⊤
IsFirstRefusal _ = ⊥

abbrev pub IsErrorOf : BookBeginError → FanPlayError → Type 0
IsErrorOf NoPair error = error ≡ HasNoPair
IsErrorOf _ error = error ≡ NoMemory

-- a session of the hub's, which is lawful
pub record IsBegun (k : Mechanism) (number : ℕ) : Type 0 where
  pub pair : HasPair k (hub_begin number)
  pub lawful : IsLawfulClient k (begun_client k (hub_begin number))

-- the next session is begun; or its key has no pair, or memory was wanting
abbrev pub BeginsOne : Mechanism → ℕ → BookNow → BookNow → Result Unit FanPlayError → Type 0
BeginsOne k number old new (Ok u) =
    (new.rows ≡ begun (peer_name number) (begun_client k (hub_begin number)) old.rows)
    × (new.store.rows ≡ old.store.rows) × IsBegun k number
BeginsOne k number old new (Err HasNoPair) =
    IsNone (k.meaning.pair_of (agreement_seed (peer_key number).bytes))
BeginsOne k number old new (Err NoMemory) = ⊤
BeginsOne k number old new (Err _) = ⊥

-- a hub with a session for each peer
pub record IsHub (k : Mechanism) (peers : ℕ) (book : BookNow) : Type 0 where
  pub rows : book.rows ≡ hub_rows k peers
  pub count : book.store.rows ≡ peers
  pub lawful : AreLawful k book.rows
  pub pairs : (number : ℕ) → 1 ≤ number → number ≤ peers → HasPair k (hub_begin number)

abbrev pub BeginsHub : Mechanism → ℕ → Result BookNow FanPlayError → Type 0
BeginsHub k peers (Ok book) = IsHub k peers book
BeginsHub k peers (Err HasNoPair) = LacksPair k peers
BeginsHub k peers (Err NoMemory) = ⊤
BeginsHub k peers (Err _) = ⊥
