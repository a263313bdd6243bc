-- A hub's peers, and its book before the fan.
use Rattle.std.specs.Prelude.{IsNone, List, None, [], codes, decimal, replicate, suc, zero, ℕ, ◌++◌, ◌≤◌, ◌∷◌}
use Rattle.bodies.specs.declared.format.Format.TheVariants.{Plain}
use Rattle.book_model.specs.Rows.{Rows, begun}
use Rattle.client.specs.Beginning.{begin_of, begun_client}
use Rattle.client.specs.declared.begin.Begin.{Begin}
use Rattle.dr_base.specs.declared.key.Key32.{Key32}
use Rattle.dr_base.specs.declared.position.Side.TheVariants.{First, Second}
use Rattle.dr_model.specs.Machines.Draws.{drawn}
use Rattle.dr_ports.specs.Memory.{Turning}
use Rattle.kem_laws.specs.Mechanism.{Mechanism}
use Rattle.session_model.specs.Clients.{Client}
use Rattle.session_model.specs.Schedule.{agreement_seed}

-- ---- the peer of a number, from 1

abbrev pub peer_name : ℕ → List ℕ
peer_name number = codes "p" ++ decimal number

-- the key that it shares with the hub
abbrev pub peer_key : ℕ → Key32
peer_key number = record { bytes = replicate 32 number }

-- what the hub's session begins with, and the peer's
abbrev pub hub_begin : ℕ → Begin
hub_begin number = begin_of First Plain (peer_key number)

abbrev pub peer_begin : ℕ → Begin
peer_begin number = begin_of Second Plain (peer_key number)

-- a key of these peers has no first pair
pub record LacksPair (k : Mechanism) (peers : ℕ) : Type 0 where
  pub number : ℕ
  pub among : number ≤ peers
  pub none : IsNone (k.meaning.pair_of (agreement_seed (peer_key number).bytes))

-- ---- the hub

-- Rows for so many peers, once the first of them have what is kept for them.
abbrev pub rows_begun : {C : Type 0} → (ℕ → C) → ℕ → ℕ → Rows C
rows_begun kept peers zero = replicate peers None
rows_begun kept peers (suc number) =
    begun (peer_name (suc number)) (kept (suc number)) (rows_begun kept peers number)

-- the hub's, once the first of them have a session
abbrev pub begun_rows : Mechanism → ℕ → ℕ → Rows Client
begun_rows k = rows_begun (λ number. begun_client k (hub_begin number))

-- and once all have one
abbrev pub hub_rows : Mechanism → ℕ → Rows Client
hub_rows k peers = begun_rows k peers peers

-- ---- its fan

-- the text
abbrev pub hello : List ℕ
hello = codes "hello"

-- the places of all sessions, in order
abbrev pub places : ℕ → List ℕ
places zero = []
places (suc n) = places n ++ n ∷ []

-- so many seeds, which are drawn under the first peer's key
abbrev pub peer_seeds : ℕ → List Key32
peer_seeds zero = []
peer_seeds (suc n) = peer_seeds n ++ record { bytes = drawn (peer_key 1).bytes n } ∷ []

-- draws that give a seed for each peer
abbrev pub first_draws : ℕ → Turning
first_draws peers = record { seeds = peer_seeds peers; at = 0 }
