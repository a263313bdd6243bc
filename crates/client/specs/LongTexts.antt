-- Long texts that stand in an inbox, in a world and on a disk.
use Rattle.std.specs.Prelude.{List, Ok, Some, false, filter, length, not, option_map, slice_get, true, ℕ, ◌<◌, ◌^◌, ◌≡◌, ◌≤◌, ◌⊎◌}
use Rattle.boxes.specs.Entries.{Entry, entry_with, is_of}
use Rattle.boxes.specs.Parts.{part_text}
use Rattle.boxes.specs.declared.kinds.TheConstants.{PART_KIND}
use Rattle.dr_base.specs.Position.{is_own}
use Rattle.dr_base.specs.declared.position.Position.{Position}
use Rattle.dr_base.specs.declared.position.Side.{Side}
use Rattle.dr_model.specs.Conversations.Conversation.{is_said}
use Rattle.dr_model.specs.Conversations.Views.{entry_at}
use Rattle.dr_model.specs.Machines.Worlds.{World, inbox_in}
use Rattle.kem_laws.specs.Mechanism.{Mechanism}
use Rattle.long_text.specs.Cuts.{count_of, part_at}
use Rattle.long_text.specs.declared.limits.TheConstants.{LONG_LIMIT}
use Rattle.session_model.specs.Clients.{Client}
use Rattle.session_record.specs.Record.{record_read}
use Rattle.client.specs.Cells.{client_cell}

-- ---- told in parts

-- the entry of a part of a text, under an id, at a position
abbrev pub part_entry : ℕ → List ℕ → ℕ → Position → Entry
part_entry id text number p = entry_with p PART_KIND (part_text (part_at id text number))

-- a number of one of its parts
abbrev pub IsNumberOf : List ℕ → ℕ → Type 0
IsNumberOf text number = (1 ≤ number) × (number ≤ count_of text)

-- The other side used an id for this text alone: whatever it said under the id, and however often,
-- is one of the text's parts.
abbrev pub IsUsedForOne : World → Side → ℕ → List ℕ → Type 0
IsUsedForOne w side id text =
    (p : Position) → is_said w.conversation p ≡ true → is_own side p.epoch ≡ false
    → is_of id (entry_at w.conversation p) ≡ true
    → (number : ℕ) × IsNumberOf text number
    × (entry_at w.conversation p ≡ part_entry id text number p)

-- a part stands in a side's inbox, at some place and under some position
abbrev pub StandsThere : World → Side → ℕ → List ℕ → ℕ → Type 0
StandsThere w side id text number =
    (at : ℕ) × (p : Position) × (slice_get (inbox_in w side) at ≡ Some (part_entry id text number p))

-- All parts of a text stand in a side's inbox, in whatever order they came there and however often;
-- and the other side used their id for this text alone.
pub record HasAllParts (w : World) (side : Side) (id : ℕ) (text : List ℕ) : Type 0 where
  pub fits : id < 2 ^ 32
  pub few : length text ≤ LONG_LIMIT
  pub one : IsUsedForOne w side id text
  pub each : (number : ℕ) → IsNumberOf text number → StandsThere w side id text number

-- ---- on a disk

-- bytes whose record has just these entries in the inbox
pub record HasInInbox (k : Mechanism) (entries : List Entry) (c : List ℕ) : Type 0 where
  pub kept : Client
  pub read : option_map (record_read k) (client_cell.record_in c) ≡ Some (Ok kept)
  pub inbox_is : kept.inbox ≡ entries

-- the entries that aren't parts of the long text of an id
abbrev pub without_long : ℕ → List Entry → List Entry
without_long id entries = filter (λ entry. not (is_of id entry)) entries

-- bytes whose record has all entries in the inbox that stood, or all but the parts of the long text
-- of an id, of which it has none
abbrev pub HasAllOrNone : Mechanism → ℕ → List Entry → List ℕ → Type 0
HasAllOrNone k id entries c =
    HasInInbox k entries c ⊎ HasInInbox k (without_long id entries) c
