-- What comes of an act whose disk stops in it: it follows from the records before and after it.
use Rattle.std.specs.Prelude.{Bool, None, Option, Some, if◌then◌else◌, nat_le, ℕ}
use Rattle.dr_disk.specs.declared.call.Mode.{Mode}
use Rattle.dr_model.specs.Machines.Steps.{Step, cut_step}
use Rattle.session_model.specs.Clients.{Client}
use Rattle.session_record.specs.Record.{record_text}
use Rattle.slot_store.specs.Stops.{took}
use Rattle.client.specs.Outcomes.{replacing_calls}

-- whether the record after a call stands where this many of its writes and syncs passed, and the disk
-- then crashed in this way
abbrev pub is_replaced : ℕ → Mode → Client → Client → Bool
is_replaced n mode before after = took (Some (record_text before)) (Some (record_text after)) n mode

-- How the disk of a side cuts off a call that leads from what it keeps to what it would keep: not at
-- all where enough writes and syncs pass, else with the new record or the old one.
unfoldable pub cut_of : ℕ → Mode → Client → Client → Option Bool
cut_of n mode before after =
    if nat_le (replacing_calls before after) n then None else Some (is_replaced n mode before after)

-- a step that is cut off so, over what stood before it
abbrev pub cut_by : {S : Type 0} → Option Bool → S → Step S → Step S
cut_by None before made = made
cut_by (Some replaced) before made = cut_step before replaced made

-- ---- a stop, once this many writes and syncs have passed, and a crash in this way

-- of a client, in its step
unfoldable pub stopped_client : ℕ → Mode → Client → Step Client → Step Client
stopped_client n mode before made = cut_by (cut_of n mode before made.next) before made
