-- What a client learns from the receipts of the packets that it takes.
use Rattle.std.specs.Prelude.{Bool, List, Ok, Some, false, option_map, true, ℕ, ◌≡◌}
use Rattle.std.specs.List.{list_any}
use Rattle.dr_base.specs.Position.{is_at, peer_of}
use Rattle.dr_base.specs.declared.position.Position.{Position}
use Rattle.dr_base.specs.declared.position.Side.{Side}
use Rattle.dr_model.specs.Conversations.Views.{has_opened}
use Rattle.dr_model.specs.Machines.WorldSides.{kept_in}
use Rattle.dr_model.specs.Machines.Worlds.{World, view_of}
use Rattle.kem_laws.specs.Mechanism.{Mechanism}
use Rattle.session_model.specs.Clients.{Client}
use Rattle.session_record.specs.Record.{record_read}
use Rattle.client.specs.Cells.{client_cell}

-- an own text waits for a receipt
abbrev pub waits : Client → Position → Bool
waits client p = list_any (is_at p) client.state.awaiting

-- each own text that waited before, and doesn't any more, was opened by the other side
abbrev pub HaveArrived : World → Side → Client → Client → Type 0
HaveArrived w side before after =
    (p : Position) → waits before p ≡ true → waits after p ≡ false → has_opened (view_of w (peer_of side)) p ≡ true

-- bytes that tell the truth of a side's texts: each that waits in the world, and doesn't for the
-- client that the bytes have the record of, was opened by the other side
abbrev pub TellTruly : Mechanism → World → Side → List ℕ → Type 0
TellTruly k w side c = (after : Client)
    → option_map (record_read k) (client_cell.record_in c) ≡ Some (Ok after)
    → HaveArrived w side (kept_in k w side) after
