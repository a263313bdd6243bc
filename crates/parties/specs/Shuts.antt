-- What a call on a side's disk that failed left of the side, until its client opens again.
use Rattle.std.specs.Prelude.{Bool, None, Option, Some, if◌then◌else◌, nat_le, ℕ, ◌&&◌, ◌-◌}
use Rattle.dr_disk.specs.declared.call.Call.{Call}
use Rattle.dr_model.specs.Machines.Steps.{has_effect}
use Rattle.session_model.specs.Clients.{Client}
use Rattle.session_model.specs.declared.answer.Answer.{Answer}
use Rattle.session_record.specs.Record.{record_text}
use Rattle.slot_store.specs.Stops.{shows}
use Rattle.client.specs.Outcomes.{replacing_call, replacing_calls}

-- the kind of the call that failed, and what the next opening finds
pub record Shut (L : Type 0) : Type 0 where
  pub call : Call
  pub left : L

-- what a side keeps, and what was left of it where its client is closed
pub record PartyNow : Type 0 where
  pub kept : Client
  pub shut : Option (Shut Client)

abbrev pub open_party : Client → PartyNow
open_party kept = record { kept = kept; shut = None }

abbrev pub shut_party : Client → Call → Client → PartyNow
shut_party kept call left = record { kept = kept; shut = Some (record { call = call; left = left }) }

-- ---- a call that fails

-- the kind of the write or sync of this number, from 1, of an event with this answer, which leads from one client to the other;
-- none where it makes fewer
unfoldable pub failing_call : ℕ → Answer → Client → Client → Option Call
failing_call n answer before after =
    if has_effect answer && nat_le n (replacing_calls before after) then Some (replacing_call before after (n - 1)) else None

-- whether a read gives the record after it then
unfoldable pub is_shown : ℕ → Client → Client → Bool
is_shown n before after = shows (Some (record_text before)) (Some (record_text after)) (n - 1)

-- what the next opening finds: the one, where the record after it is read, or else the other
abbrev pub left_of : {L : Type 0} → ℕ → Client → Client → L → L → L
left_of n before after new old = if is_shown n before after then new else old
