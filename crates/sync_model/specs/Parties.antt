-- A side that syncs, over any kind of state: all that a sync asks of it.
use Rattle.std.specs.Prelude.{ℕ, Bool, List, Option}
use Rattle.sync_model.specs.Tokens.{SyncKeys}
use Rattle.sync_model.specs.declared.more.More.{More}

-- a packet was taken: the line that says so, whether there was no room for its text, and what is kept then
pub record TookPacket (S : Type 0) : Type 0 where
  pub line : List ℕ
  pub full : Bool
  pub next : S

-- the names of its box and of the peer's, the keys of their guards, if it has any, how it takes a
-- packet, the packets that wait in its outbox (the oldest first), what it keeps without the oldest
-- of these, and its lines
pub record Party (S : Type 0) : Type 0 where
  pub own : List ℕ
  pub peers : List ℕ
  pub keys : Option SyncKeys
  pub take : S → List ℕ → TookPacket S
  pub outbox : S → List (List ℕ)
  pub sent : S → S
  pub stored_line : ℕ → List ℕ
  pub end_line : More → List ℕ

-- what a side does by itself
pub data SideAct : Type 0 where
  taking : List ℕ → SideAct
  sending : ℕ → SideAct
