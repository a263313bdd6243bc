-- What comes of a deed: for both sides and the relay's boxes, and in the world that they stand for.
use Rattle.std.specs.Prelude.{ℕ, List, [], ◌∷◌, None, Option, Some, false, if◌then◌else◌, true}
use Rattle.dr_base.specs.declared.position.Side.{Side}
use Rattle.dr_disk.specs.declared.call.Call.{Call}
use Rattle.kem_laws.specs.Mechanism.{Mechanism}
use Rattle.relay_core.specs.Boxes.{Box}
use Rattle.relay_link.specs.Connections.{kept_before}
use Rattle.session_model.specs.Clients.{Client}
use Rattle.session_model.specs.declared.answer.Answer.{Answer}
use Rattle.sync_model.specs.Scenes.{scene}
use Rattle.sync_model.specs.Transfers.{Meeting}
use Rattle.client.specs.Syncing.Parties.{client_party, world_party}
use Rattle.dr_model.specs.Machines.Acts.{Act}
use Rattle.dr_model.specs.Machines.WorldActs.{act_in}
use Rattle.dr_model.specs.Machines.Events.{Event, does}
use Rattle.dr_model.specs.Machines.Sides.{Sides, client_of, step_on, with_client}
use Rattle.dr_model.specs.Machines.Steps.{Step}
use Rattle.dr_model.specs.Machines.Worlds.{World, inbox_in, step_of}
use Rattle.dr_model.specs.Machines.WorldSides.{kept_in, sides_of}
use Rattle.scripts.specs.Deeds.{Deed, acts, fails, joins, reopens, stops, syncs}
use Rattle.scripts.specs.Sides.{acting_side, deed_side, side_text}
use Rattle.duet.specs.Gathering.{gathers}
use Rattle.duet.specs.Replies.{closed_line, failed_line, open_line, reply_of, shown_long}
use Rattle.parties.specs.Shuts.{Shut, failing_call, left_of}
use Rattle.duet.specs.Shuts.{Shuts, act_of_event, needs_open, shut_of, with_shut}
use Rattle.duet.specs.Stops.{stopped_in, stopped_on}
use Rattle.parties.specs.SyncLines.{sync_lines}

-- Both sides, or the world that they stand for, what was left of those that are closed, and the relay's boxes.
pub record Beside (S L : Type 0) : Type 0 where
  pub ends : S
  pub boxes : List Box
  pub shuts : Shuts L

-- what comes of a deed: the answers that are counted, the lines, and what stands then
pub record Played (S L : Type 0) : Type 0 where
  pub answers : List Answer
  pub lines : List ℕ
  pub next : Beside S L

-- of a side that is closed, there is the client that it has next; in a world, the act that its opening does, if it does one
abbrev pub SidesBeside : Type 0
SidesBeside = Beside Sides Client

abbrev pub WorldBeside : Type 0
WorldBeside = Beside World (Option Act)

abbrev pub SidesPlayed : Type 0
SidesPlayed = Played Sides Client

abbrev pub WorldPlayed : Type 0
WorldPlayed = Played World (Option Act)

-- lines alone
abbrev pub lines_alone : {S L : Type 0} → List ℕ → Beside S L → Played S L
lines_alone lines next = record { answers = []; lines = lines; next = next }

-- ---- an event

abbrev pub acted : {S L : Type 0} → Event → Beside S L → Step S → Played S L
acted event s made = record {
  answers = made.answer ∷ [];
  lines = reply_of event made;
  next = record s { ends = made.next };
}

-- ---- a sync

-- a side meets the relay, with the replies before the lost one
abbrev pub meeting_on : Mechanism → SidesBeside → Side → Option ℕ → Meeting Client
meeting_on k s side lost =
    scene (client_party k (side_text side) (client_of s.ends side)) (kept_before lost) (client_of s.ends side) s.boxes

abbrev pub synced_on : Mechanism → SidesBeside → Side → Option ℕ → SidesPlayed
synced_on k s side lost =
    let m = meeting_on k s side lost in record {
      answers = [];
      lines = sync_lines (client_party k (side_text side) (client_of s.ends side)) side m;
      next = record s { ends = with_client s.ends side m.course.state; boxes = m.boxes };
    }

-- the same in a world
abbrev pub meeting_in : Mechanism → WorldBeside → Side → Option ℕ → Meeting World
meeting_in k s side lost = scene (world_party k (side_text side) side s.ends) (kept_before lost) s.ends s.boxes

abbrev pub synced_in : Mechanism → WorldBeside → Side → Option ℕ → WorldPlayed
synced_in k s side lost =
    let m = meeting_in k s side lost in record {
      answers = [];
      lines = sync_lines (world_party k (side_text side) side s.ends) side m;
      next = record s { ends = m.course.state; boxes = m.boxes };
    }

-- ---- a call in which a disk fails once

-- The side is closed where that call is made: it keeps what it kept, and the draw is used up. Else the event takes place.
abbrev pub failed : {S L : Type 0} → Event → Beside S L → Step S → S → L → Option Call → Played S L
failed event s made drawn left None = acted event s made
failed event s made drawn left (Some call) =
    let side = acting_side event in
    lines_alone (failed_line side call)
    (record s { ends = drawn; shuts = with_shut s.shuts side (Some (record { call = call; left = left })) })

abbrev pub failed_on : Mechanism → SidesBeside → ℕ → Event → SidesPlayed
failed_on k s n event =
    let made = step_on k s.ends event in
    let before = client_of s.ends (acting_side event) in
    let after = client_of made.next (acting_side event) in
    failed event s made (record s.ends { draws = made.next.draws }) (left_of n before after after before)
    (failing_call n made.answer before after)

abbrev pub failed_in : Mechanism → WorldBeside → ℕ → Event → WorldPlayed
failed_in k s n event =
    let made = step_of k s.ends event in
    let before = kept_in k s.ends (acting_side event) in
    let after = kept_in k made.next (acting_side event) in
    failed event s made (record s.ends { draws = made.next.draws })
    (left_of n before after (act_of_event (sides_of k s.ends) event) None)
    (failing_call n made.answer before after)

-- ---- an opening

-- of a client that is closed
abbrev pub opened : {S L : Type 0} → Side → Beside S L → (L → S) → Option (Shut L) → Played S L
opened side s by None = lines_alone (open_line side false) s
opened side s by (Some shut) =
    lines_alone (open_line side true) (record s { ends = by shut.left; shuts = with_shut s.shuts side None })

-- the act that was left, in a world: its draw was used up before
abbrev pub act_done_in : Mechanism → World → Side → Option Act → World
act_done_in k w side None = w
act_done_in k w side (Some act) = record (act_in k w side act).next { draws = w.draws }

-- ---- any deed

-- what both sides and the relay make of it, where it isn't barred
abbrev pub freely_on : Mechanism → SidesBeside → Deed → SidesPlayed
freely_on k s (acts event) = acted event s (step_on k s.ends event)
freely_on k s (stops n mode side call) =
    let event = stopped_on k s.ends n mode (does side call) in
    acted event s (step_on k s.ends event)
freely_on k s (fails n side call) = failed_on k s n (does side call)
freely_on k s (reopens side) = opened side s (gathers s.ends side) (shut_of s.shuts side)
freely_on k s (syncs side lost) = synced_on k s side lost
freely_on k s (joins side id) = lines_alone (shown_long side id (client_of s.ends side).inbox) s

-- and the machine
abbrev pub freely_in : Mechanism → WorldBeside → Deed → WorldPlayed
freely_in k s (acts event) = acted event s (step_of k s.ends event)
freely_in k s (stops n mode side call) =
    let event = stopped_in k s.ends n mode (does side call) in
    acted event s (step_of k s.ends event)
freely_in k s (fails n side call) = failed_in k s n (does side call)
freely_in k s (reopens side) = opened side s (act_done_in k s.ends side) (shut_of s.shuts side)
freely_in k s (syncs side lost) = synced_in k s side lost
freely_in k s (joins side id) = lines_alone (shown_long side id (inbox_in s.ends side)) s

-- what bars a deed: its side is closed, and it asks for an open client
unfoldable pub barring : {L : Type 0} → Shuts L → Deed → Option (Shut L)
barring shuts deed = if needs_open deed then shut_of shuts (deed_side deed) else None

-- nothing but a line comes of one that is barred
abbrev pub unless_barred : {S L : Type 0} → Side → Beside S L → Played S L → Option (Shut L) → Played S L
unless_barred side s made None = made
unless_barred side s made (Some shut) = lines_alone (closed_line side shut.call) s

unfoldable pub deed_on : Mechanism → SidesBeside → Deed → SidesPlayed
deed_on k s deed = unless_barred (deed_side deed) s (freely_on k s deed) (barring s.shuts deed)

unfoldable pub deed_in : Mechanism → WorldBeside → Deed → WorldPlayed
deed_in k s deed = unless_barred (deed_side deed) s (freely_in k s deed) (barring s.shuts deed)
