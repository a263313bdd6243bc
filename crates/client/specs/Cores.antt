-- How a client's core begins, and the record of what it keeps.
use Rattle.std.specs.Prelude.{Err, IsNone, List, Ok, Result, drop, length, take, ℕ, ⊤, ◌≤◌, ◌≡◌}
use Rattle.grammar.specs.Printer.{HasRoom}
use Rattle.kem_laws.specs.Mechanism.{Mechanism}
use Rattle.session_model.specs.Clients.{Client}
use Rattle.session_model.specs.Schedule.{agreement_seed}
use Rattle.session_record.specs.Record.{record_text}
use Rattle.session_record.specs.declared.limits.TheConstants.{RECORD_LIMIT}
use Rattle.client.specs.Beginning.{HasPair, begun_client}
use Rattle.client.specs.declared.begin.Begin.{Begin}
use Rattle.client.specs.declared.refusals.CoreBeginError.{CoreBeginError}
use Rattle.client.specs.declared.refusals.CoreBeginError.TheVariants.{Memory, NoPair}

-- as the side of a conversation; or its agreement seed has no pair, or memory was wanting
abbrev pub BeginsCore : Mechanism → Begin → Result Client CoreBeginError → Type 0
BeginsCore k begin (Ok core) = (core ≡ begun_client k begin) × HasPair k begin
BeginsCore k begin (Err NoPair) = IsNone (k.meaning.pair_of (agreement_seed begin.key.bytes))
BeginsCore k begin (Err Memory) = ⊤

-- a buffer has room for the record of a client, or for any
abbrev pub HasRoomToWrite : Client → List ℕ → Type 0
HasRoomToWrite kept out = HasRoom RECORD_LIMIT (record_text kept) (length out)

-- so many bytes has the record of a client
pub record HasRecordLength (kept : Client) (len : ℕ) : Type 0 where
  pub long : len ≡ length (record_text kept)
  pub limit : len ≤ RECORD_LIMIT

-- the record of a client was put into the front of a buffer
pub record PutsRecord (kept : Client) (old new : List ℕ) (len : ℕ) : Type 0 where
  pub long : len ≡ length (record_text kept)
  pub written : take len new ≡ record_text kept
  pub rest : drop len new ≡ drop len old
  pub limit : len ≤ RECORD_LIMIT
