-- What the command that begins a session comes to, before its last line.
use Rattle.std.specs.Prelude.{List, Some, [], ℕ, ◌≡◌, ◌⊎◌}
use Rattle.bodies.specs.declared.format.Format.{Format}
use Rattle.dr_base.specs.declared.key.Key32.{Key32}
use Rattle.dr_base.specs.declared.position.Side.{Side}
use Rattle.dr_disk.specs.Spans.{IsQuiet, Span}
use Rattle.dr_disk.specs.State.{DiskState}
use Rattle.dr_model.specs.Conversations.Formats.{formats_of}
use Rattle.dr_model.specs.Machines.WorldSides.{kept_in}
use Rattle.dr_model.specs.Machines.Worlds.{World, opening_world}
use Rattle.dr_model.specs.Theorems.LawfulWorlds.{IsLawfulWorld}
use Rattle.dr_ports.specs.States.{SourceState}
use Rattle.endings.specs.declared.ending.Ending.{Ending}
use Rattle.endings.specs.declared.ending.Ending.TheVariants.{BadKey, Done}
use Rattle.kem_laws.specs.Mechanism.{Mechanism}
use Rattle.session_model.specs.Schedule.{session_of}
use Rattle.slot_store.specs.Reading.{IsLikeRead, no_content}
use Rattle.client.specs.Beginning.{HasPair, IsEntryOrFirst, IsFirst, IsUnbegun, begin_of}
use Rattle.client.specs.Clients.{client_area}
use Rattle.client.specs.Opening.{IsReadAs, ReadsAsSide}
use Rattle.client.specs.declared.begin.Begin.{Begin}
use Rattle.client.specs.declared.refusals.BeginRefusal.{BeginRefusal}
use Rattle.session_commands.specs.Disks.{IsClientAtRest, RunsOn}
use Rattle.command_lines.specs.Inputs.{IsInput, IsNoInput, key_in_hex}
use Rattle.command_lines.specs.Lines.{session_line}
use Rattle.session_commands.specs.Opening.{ending_of_begin}
use Rattle.command_lines.specs.declared.input.TheConstants.{KEY_TEXT_LIMIT}

-- the disk is at rest for a side of a lawful world
pub record RestsIn (k : Mechanism) (w : World) (side : Side) (disk : DiskState) : Type 0 where
  pub lawful : IsLawfulWorld k w
  pub rests : IsClientAtRest (kept_in k w side) disk

-- No client was begun; or one was, where what was read held none, and the disk is at rest for it: its side of the world in
-- which the conversation begins, whichever the peer's format.
pub data Began {X : Type 0} (state : X → DiskState) (k : Mechanism) (begin : Begin)
    (start now : X) : Ending → List ℕ → Type 0 where
  wasnt_begun : (refusal : BeginRefusal) → IsUnbegun state k begin start now refusal
      → Began state k begin start now (ending_of_begin refusal) []
  was_begun : IsReadAs k (state start) no_content → HasPair k begin
      → ((other : Format)
      → RestsIn k (opening_world begin.key.bytes (formats_of begin.side begin.format other))
      begin.side (state now))
      → IsQuiet (state start) (state now)
      → Began state k begin start now Done (session_line (session_of begin.key.bytes))

-- With what each crash meanwhile leaves and a read gives: what it did, but for what was tidied, or the first record, where
-- there was none. So a world that the disk reads stays.
pub record Begins {X : Type 0} (state : X → DiskState) (k : Mechanism) (begin : Begin)
    (start now : X) (ending : Ending) (lines : List ℕ) : Type 0 where
  pub began : Began state k begin start now ending lines
  pub any_moment : Span (state start) (state now) (IsEntryOrFirst k begin (state start))
  pub reads : (s : List ℕ) → (state now).seen ≡ Some s
      → IsLikeRead client_area (state start) s ⊎ IsFirst k begin (state start) s
  pub in_worlds : (w : World) (whose : Side) → ReadsAsSide k w whose (state start) → RunsOn k whose w w (state start) (state now)

-- The source holds no key, and the disk is left alone; or the session of the key is begun.
pub data RunsBegin {X : Type 0} (state : X → DiskState) (k : Mechanism) (side : Side) (format : Format)
    (from to : SourceState)
    (start now : X) : Ending → List ℕ → Type 0 where
  had_no_key : (ending : Ending) → IsNoInput KEY_TEXT_LIMIT key_in_hex BadKey from to ending
      → now ≡ start
      → RunsBegin state k side format from to start now ending []
  had_key : (key : Key32) (ending : Ending) (lines : List ℕ)
      → IsInput KEY_TEXT_LIMIT key_in_hex from to key.bytes
      → Begins state k (begin_of side format key) start now ending lines
      → RunsBegin state k side format from to start now ending lines
