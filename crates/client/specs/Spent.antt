-- The key of a position that was used up.
use Rattle.std.specs.Prelude.{List, Ok, Some, option_map, true, ℕ, ◌⊎◌, ◌≡◌}
use Rattle.dr_base.specs.Position.{is_own}
use Rattle.dr_base.specs.declared.position.Position.{Position}
use Rattle.dr_base.specs.declared.position.Side.{Side}
use Rattle.dr_disk.specs.State.{DiskState}
use Rattle.dr_model.specs.Conversations.Conversation.{is_said}
use Rattle.dr_model.specs.Conversations.Views.{has_opened}
use Rattle.dr_model.specs.Machines.Worlds.{World, view_of}
use Rattle.dr_model.specs.Secrets.Held.{Holds}
use Rattle.dr_model.specs.Secrets.Made.{Made}
use Rattle.dr_model.specs.Secrets.Secret.{the_message_key}
use Rattle.kem_laws.specs.Mechanism.{Mechanism}
use Rattle.session_model.specs.Clients.{Client}
use Rattle.session_record.specs.Record.{record_read}
use Rattle.client.specs.Cells.{Cell, client_cell}

-- the side has opened the packet of a position, or has said its text
abbrev pub IsUsed : World → Side → Position → Type 0
IsUsed w side p =
    (has_opened (view_of w side) p ≡ true) ⊎ ((is_said w.conversation p ≡ true) × (is_own side p.epoch ≡ true))

-- whatever a crash leaves, the state that is read then doesn't give the message key of the position
abbrev pub IsErasedInCell : Cell → Mechanism → Position → DiskState → Type 0
IsErasedInCell cell k p disk = (c : List ℕ) (kept : Client) → disk.image c
    → option_map (record_read k) (cell.record_in c) ≡ Some (Ok kept)
    → Made (Holds kept.state) (the_message_key p.epoch p.index) → ⊥

pub record IsSpentInCell (cell : Cell) (k : Mechanism) (w : World) (side : Side) (p : Position)
    (disk : DiskState) : Type 0 where
  pub used : IsUsed w side p
  pub erased : IsErasedInCell cell k p disk

-- ---- where a client lies

abbrev pub IsErasedOn : Mechanism → Position → DiskState → Type 0
IsErasedOn = IsErasedInCell client_cell

abbrev pub IsSpent : Mechanism → World → Side → Position → DiskState → Type 0
IsSpent = IsSpentInCell client_cell
