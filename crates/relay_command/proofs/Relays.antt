-- What status 0 says, and that no count falls.
use Rattle.std.proofs.Common.{◌≡◌, inl, inr, ℕ, ◌≤◌, List, [], ◌∷◌, refl, sym, ◌∙◌, ap, arith}
use Rattle.dr_disk.specs.declared.call.Call.{Call}
use Rattle.dr_disk.specs.Spans.{IsQuiet}
use Rattle.dr_disk.specs.State.{DiskState}
use Rattle.dr_ports.specs.States.{SinkState}
use Rattle.dr_ports.specs.Wires.{Port}
use Rattle.dr_ports.specs.declared.pipe.Part.{Part}
use Rattle.dr_ports.specs.declared.pipe.Part.TheVariants.{Flow, Gate}
use Rattle.endings.specs.Ending.{code_of}
use Rattle.endings.specs.Ends.{Ends}
use Rattle.endings.specs.declared.ending.Ending.{Ending}
use Rattle.relay_server.specs.declared.errors.ServerOpenError.{ServerOpenError}
use Rattle.relay_server.specs.declared.errors.ServerOpenError.TheVariants.{BoxKeys, BoxName, Damaged, Memory, StoreFault}
use Rattle.relay_command.specs.Connections.{AreServed, Connection, SentReplies, ConnectionStanding, HowItWent, after_connection, behind_all, ended, failed, stopped}
use Rattle.relay_command.specs.Serving.{ServesConnections, was_stopped, was_unaccepted, went_on}
use Rattle.relay_command.specs.Relaying.{Relays, RunsRelay, ending_after_look, had_bad_box, was_opened, was_unheard, was_unopened, was_unsettled}
use Rattle.relay_command.proofs.Connections.{behind_more}

-- ---- status 0

open_code : (error : ServerOpenError) → code_of (ending_after_look error) ≡ 0 → ⊥
open_code Memory e = omega (arith, e)
open_code (StoreFault call) e = omega (arith, e)
open_code (Damaged area slot at) e = omega (arith, e)
open_code (BoxName k) e = omega (arith, e)
open_code (BoxKeys k) e = omega (arith, e)

serves_quiet : (earlier : List ℕ → Type 0) (turns : List Connection → Type 0) (s : ConnectionStanding) (port count : ℕ) (start now : DiskState) (from door : Port) (code : ℕ) (ending : Ending) (lines : List ℕ)
    → ServesConnections earlier turns s port count start now from door code ending lines → code_of ending ≡ 0 → IsQuiet start now × (door.faults Gate ≡ from.faults Gate)
serves_quiet earlier turns s port count start now from door code ending lines (was_unaccepted xs were less rose) e = absurd (omega (arith, e))
serves_quiet earlier turns s port count start now from door code ending lines (was_stopped xs x call come each stop less rose gate) e = absurd (omega (arith, e))
serves_quiet earlier turns s port count start now from door code ending lines (went_on xs were most full gate) e = (were.quiet, gate)

relays_quiet : {X Y : Type 0} (state : X → DiskState) (port_of : Y → Port) (words : List (List ℕ)) (port count : ℕ) (start now : X) (from door : Y) (code : ℕ) (ending : Ending) (lines : List ℕ)
    → Relays state port_of words port count start now from door code ending lines → code_of ending ≡ 0
    → IsQuiet (state start) (state now) × ((port_of door).faults Gate ≡ (port_of from).faults Gate)
relays_quiet state port_of words port count start now from door code ending lines (had_bad_box k bad same left) e = absurd (omega (arith, e))
relays_quiet state port_of words port count start now from door code ending lines (was_unopened names error why looks left) e = absurd (open_code error e)
relays_quiet state port_of words port count start now from door code ending lines (was_unheard names looked is looks unheard) e = absurd (omega (arith, e))
relays_quiet state port_of words port count start now from door code ending lines (was_unsettled names boxes read span call rose heard) e = absurd (omega (arith, e))
relays_quiet state port_of words port count start now from door code ending lines (was_opened names boxes read opened span rests ending' lines' serves) e =
    serves_quiet _ _ _ _ _ _ _ _ _ _ _ _ serves e

ended_by : (ending : Ending) (lines : List ℕ) (old new : SinkState) (code : ℕ) → code ≡ 0 → Ends ending lines old new code → (code_of ending ≡ 0) × (new.faults ≡ old.faults)
ended_by ending lines old new code zero (inl all) = (sym all.code_is ∙ zero, all.quiet)
ended_by ending lines old new code zero (inr cut) = absurd (omega (arith, zero, cut.code_is))

pub relay_quiet : {X Y : Type 0} (state : X → DiskState) (port_of : Y → Port) (words : List (List ℕ)) (port count : ℕ) (start now : X) (from door : Y) (old new : SinkState) (code : ℕ)
    → RunsRelay state port_of words port count start now from door old new code → code ≡ 0
    → IsQuiet (state start) (state now) × ((port_of door).faults Gate ≡ (port_of from).faults Gate) × (new.faults ≡ old.faults)
relay_quiet state port_of words port count start now from door old new code runs zero =
    let end = ended_by runs.ending runs.lines old new code zero runs.ends in
    let both = relays_quiet state port_of words port count start now from door code runs.ending runs.lines runs.came end.0 in
    (both.0, both.1, end.1)

-- ---- counts

sent_later : (s : ConnectionStanding) (x : Connection) (went : HowItWent) → SentReplies s x went → s.faults ≤ x.faults
sent_later s x ended sent = omega (arith, sent.2)
sent_later s x failed sent = sent.2.0
sent_later s x stopped sent = absurd sent

each_later : (s : ConnectionStanding) (xs : List Connection) → AreServed s xs → s.faults ≤ (behind_all s xs).faults
each_later s [] each = omega arith
each_later s (x ∷ xs) each = let first = sent_later s x x.went each.0 in let next = each_later (after_connection s x) xs each.1 in omega (arith, first, next)

serves_later : (earlier : List ℕ → Type 0) (turns : List Connection → Type 0) (s : ConnectionStanding) (port count : ℕ) (start now : DiskState) (from door : Port) (code : ℕ) (ending : Ending) (lines : List ℕ) → from.faults Flow ≡ s.faults
    → ServesConnections earlier turns s port count start now from door code ending lines → (part : Part) → from.faults part ≤ door.faults part
serves_later earlier turns s port count start now from door code ending lines same (was_unaccepted xs were less rose) Flow = omega (arith, same, were.come.faults, each_later s xs were.each)
serves_later earlier turns s port count start now from door code ending lines same (was_unaccepted xs were less rose) Gate = rose.0
serves_later earlier turns s port count start now from door code ending lines same (was_stopped xs x call come each stop less rose gate) Flow =
    omega (arith, same, come.faults, ap (λ (t : ConnectionStanding). t.faults) (behind_more s xs x), each_later s xs each, stop.later)
serves_later earlier turns s port count start now from door code ending lines same (was_stopped xs x call come each stop less rose gate) Gate = omega (arith, gate)
serves_later earlier turns s port count start now from door code ending lines same (went_on xs were most full gate) Flow = omega (arith, same, were.come.faults, each_later s xs were.each)
serves_later earlier turns s port count start now from door code ending lines same (went_on xs were most full gate) Gate = omega (arith, gate)

pub door_later : {X Y : Type 0} (state : X → DiskState) (port_of : Y → Port) (words : List (List ℕ)) (port count : ℕ) (start now : X) (from door : Y) (code : ℕ) (ending : Ending) (lines : List ℕ)
    → Relays state port_of words port count start now from door code ending lines → (part : Part) → (port_of from).faults part ≤ (port_of door).faults part
door_later state port_of words port count start now from door code ending lines (had_bad_box k bad same left) part = omega (arith, ap (λ y. (port_of y).faults part) left)
door_later state port_of words port count start now from door code ending lines (was_unopened names error why looks left) part = omega (arith, ap (λ y. (port_of y).faults part) left)
door_later state port_of words port count start now from door code ending lines (was_unheard names looked is looks unheard) Flow = omega (arith, unheard.flow)
door_later state port_of words port count start now from door code ending lines (was_unheard names looked is looks unheard) Gate = unheard.rose.0
door_later state port_of words port count start now from door code ending lines (was_unsettled names boxes read span call rose heard) Flow = omega (arith, heard.flow)
door_later state port_of words port count start now from door code ending lines (was_unsettled names boxes read span call rose heard) Gate = omega (arith, heard.gate)
door_later state port_of words port count start now from door code ending lines (was_opened names boxes read opened span rests ending' lines' serves) part =
    serves_later _ _ _ _ _ _ _ _ _ _ _ _ refl serves part

serves_counts : (earlier : List ℕ → Type 0) (turns : List Connection → Type 0) (s : ConnectionStanding) (port count : ℕ) (start now : DiskState) (from door : Port) (code : ℕ) (ending : Ending) (lines : List ℕ)
    → ServesConnections earlier turns s port count start now from door code ending lines → (call : Call) → start.faults call ≤ now.faults call
serves_counts earlier turns s port count start now from door code ending lines (was_unaccepted xs were less rose) call = were.come.during.counts call
serves_counts earlier turns s port count start now from door code ending lines (was_stopped xs x c come each stop less rose gate) call = come.during.counts call
serves_counts earlier turns s port count start now from door code ending lines (went_on xs were most full gate) call = were.come.during.counts call

pub disk_later : {X Y : Type 0} (state : X → DiskState) (port_of : Y → Port) (words : List (List ℕ)) (port count : ℕ) (start now : X) (from door : Y) (code : ℕ) (ending : Ending) (lines : List ℕ)
    → Relays state port_of words port count start now from door code ending lines → (call : Call) → (state start).faults call ≤ (state now).faults call
disk_later state port_of words port count start now from door code ending lines (had_bad_box k bad same left) call = omega (arith, ap (λ x. (state x).faults call) same)
disk_later state port_of words port count start now from door code ending lines (was_unopened names error why looks left) call = looks.during.counts call
disk_later state port_of words port count start now from door code ending lines (was_unheard names looked is looks unheard) call = looks.during.counts call
disk_later state port_of words port count start now from door code ending lines (was_unsettled names boxes read span call' rose heard) call = span.counts call
disk_later state port_of words port count start now from door code ending lines (was_opened names boxes read opened span rests ending' lines' serves) call =
    serves_counts _ _ _ _ _ _ _ _ _ _ _ _ serves call
