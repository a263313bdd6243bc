-- What an event shows, and what it adds to the network and to the draws.
use Rattle.std.proofs.Common.{◌≡◌, ℕ, ◌+◌, ◌≤◌, Bool, true, false, List, [], ◌∷◌, ◌++◌, length, Option, Some, None, Result, Ok, Err, if◌then◌else◌, refl, sym, ◌∙◌, ap, ap₂, append-nil, arith, length-append}
use Rattle.std.specs.Prelude.{IfOk, drop, nat_lt, ◌-◌}
use Rattle.std.proofs.lemmas.List.{length-drop}
use Rattle.dr_base.specs.declared.position.Side.{Side}
use Rattle.dr_base.specs.declared.position.Side.TheVariants.{First, Second}
use Rattle.boxes.specs.Posts.{Post}
use Rattle.session_model.specs.Contents.{Content}
use Rattle.session_model.specs.Leaving.{drop_check}
use Rattle.session_model.specs.declared.answer.Answer.TheVariants.{Stopped}
use Rattle.session_model.specs.declared.answer.Refusal.{Refusal}
use Rattle.session_model.specs.declared.answer.Which.{Which}
use Rattle.session_model.specs.Clients.{Client, SaidText, TakenPacket, say_check, say_on, take_on}
use Rattle.dr_model.specs.Machines.Sides.{Sides, act_of, acted_on, called_on, client_of, said_on, saying_on, settled_on, step_on, with_client}
use Rattle.dr_model.specs.Machines.Steps.{Shown, Step, has_effect, leaving, step, texts}
use Rattle.dr_model.specs.Machines.Acts.{Act, act_on, dropped_client, dropping, said_by, saying, saying_by, taken_by, taking}
use Rattle.dr_model.specs.Machines.Draws.{Draws, after_draw, given_or, next_seed}
use Rattle.dr_model.specs.Machines.Events.{Event, SideCall, cuts, does, says, seeds, shows_awaiting, shows_inbox, shows_state}
use Rattle.kem_laws.specs.Mechanism.{Mechanism}
use Rattle.session_model.specs.declared.answer.Answer.{Answer}
use Rattle.duet.specs.Outcomes.{SidesBeside, SidesPlayed, barring, deed_on, failed, freely_on, opened}
use Rattle.scripts.specs.Deeds.{Deed, acts, fails, joins, reopens, stops, syncs}
use Rattle.dr_disk.specs.declared.call.Call.{Call as DiskCall}
use Rattle.duet.specs.Gathering.{gathers, newest_from}
use Rattle.duet.specs.Held.{shown}
use Rattle.parties.specs.Shuts.{Shut, failing_call, left_of}
use Rattle.duet.specs.Shuts.{shut_of}
use Rattle.duet.proofs.Barred.{barred_or}
use Rattle.scripts.specs.Seen.{CallOfLine, call_event}
use Rattle.duet.specs.Replies.{reply_line, reply_of, shown_lines}
use Rattle.scripts.specs.Sides.{acting_side, deed_side}
use Rattle.duet.specs.Stops.{cut_event, stopped_on}
use Rattle.parties.specs.Stops.{cut_of}
use Rattle.scripts.specs.declared.lined.Stop.{Stop}

-- a step that shows nothing, adds at most one packet to the network, and makes at most one draw
record IsQuiet (s : Sides) (made : Step Sides) : Type 0 where
  none : made.shown ≡ texts []
  posts : length made.next.posts ≤ length s.posts + 1
  draws : made.next.draws.made ≤ s.draws.made + 1

still_quiet : (s : Sides) (made : Step Sides) → made.shown ≡ texts [] → made.next.posts ≡ s.posts → made.next.draws ≡ s.draws → IsQuiet s made
still_quiet s made none posts draws = record {
  none = none;
  posts = omega (arith, ap length posts);
  draws = omega (arith, ap (λ (d : Draws). d.made) draws);
}

said_quiet : (s : Sides) (side : Side) (draws : Draws) (r : Result SaidText Refusal) → draws.made ≤ s.draws.made + 1
    → IsQuiet s (said_on (record s { draws = draws }) side r)
said_quiet s First draws (Ok said) few = record { none = refl; posts = omega (arith, length-append s.posts (said.post ∷ [])); draws = few }
said_quiet s Second draws (Ok said) few = record { none = refl; posts = omega (arith, length-append s.posts (said.post ∷ [])); draws = few }
said_quiet s side draws (Err refusal) few = record { none = refl; posts = omega arith; draws = few }

saying_quiet : (k : Mechanism) (s : Sides) (side : Side) (content : Content) (r : Result Bool Refusal) → IsQuiet s (saying_on k s side content r)
saying_quiet k s side content (Err refusal) = still_quiet s _ refl refl refl
saying_quiet k s side content (Ok false) = said_quiet s side s.draws (say_on k (client_of s side) content []) (omega arith)
saying_quiet k s side content (Ok true) = said_quiet s side (after_draw s.draws) (say_on k (client_of s side) content (next_seed s.key s.draws)) (omega arith)

-- an act shows nothing
said_none : (r : Result SaidText Refusal) → IfOk (said_by r) (λ made. made.shown ≡ texts [])
said_none (Ok said) = refl
said_none (Err refusal) = tt

saying_none : (k : Mechanism) (c : Client) (content : Content) (draw : Option (List ℕ)) (r : Result Bool Refusal)
    → IfOk (saying_by k c content draw r) (λ made. made.shown ≡ texts [])
saying_none k c content draw (Ok turns) = said_none (say_on k c content (given_or [] draw))
saying_none k c content draw (Err refusal) = tt

taken_none : (r : Result TakenPacket Refusal) → IfOk (taken_by r) (λ made. made.shown ≡ texts [])
taken_none (Ok taken) = refl
taken_none (Err refusal) = tt

leaving_none : (which : Which) (check : Result Unit Refusal) (next : Client)
    → IfOk (leaving which check next) (λ made. made.shown ≡ texts [])
leaving_none which (Ok stand) next = refl
leaving_none which (Err refusal) next = tt

act_none : (k : Mechanism) (c : Client) (act : Act) → IfOk (act_on k c act) (λ made. made.shown ≡ texts [])
act_none k c (saying content draw) = saying_none k c content draw (say_check c content)
act_none k c (taking bytes) = taken_none (take_on k c bytes)
act_none k c (dropping which) = leaving_none which (drop_check which c.inbox c.outbox) (dropped_client c which)

settled_quiet : (s : Sides) (side : Side) (r : Result (Step Client) Refusal) → IfOk r (λ made. made.shown ≡ texts [])
    → IsQuiet s (settled_on s side r)
settled_quiet s First (Ok made) none = still_quiet s _ none refl refl
settled_quiet s Second (Ok made) none = still_quiet s _ none refl refl
settled_quiet s side (Err refusal) none = still_quiet s _ refl refl refl

acted_quiet : (k : Mechanism) (s : Sides) (side : Side) (act : Option Act) → IsQuiet s (acted_on k s side act)
acted_quiet k s side None = still_quiet s _ refl refl refl
acted_quiet k s side (Some act) = settled_quiet s side (act_on k (client_of s side) act) (act_none k (client_of s side) act)

called_quiet : (k : Mechanism) (s : Sides) (side : Side) (call : SideCall) → IsQuiet s (called_on k s side call)
called_quiet k s side (says content) = saying_quiet k s side content (say_check (client_of s side) content)
called_quiet k s side call = acted_quiet k s side (act_of s side call)

-- ---- a step that was cut off

pub uncut : (k : Mechanism) (s before : Sides) (took : Bool) (made : Step Sides) (effect : Bool) → has_effect made.answer ≡ effect
    → has_effect (if effect then step Stopped (if took then made.next else before) else made).answer ≡ true → ⊥
uncut k s before took made true e h = cc
uncut k s before took made false e h = cc

-- an event that took effect shows nothing
effect_shows_none : (k : Mechanism) (s t : Sides) (event : Event) → has_effect (step_on k s event).answer ≡ true
    → shown event t ≡ texts []
effect_shows_none k s t (seeds seed) h = refl
effect_shows_none k s t (does side call) h = refl
effect_shows_none k s t (shows_inbox side) h = cc
effect_shows_none k s t (shows_awaiting side) h = cc
effect_shows_none k s t (shows_state side) h = refl
effect_shows_none k s t (cuts took event) h =
    let made = step_on k s event in
    absurd (uncut k s (record s { draws = made.next.draws }) took made (has_effect made.answer) refl h)

-- a step that shows just what the event shows, adds at most one packet, and makes at most one draw
record IsShown (s : Sides) (event : Event) (made : Step Sides) : Type 0 where
  same : shown event made.next ≡ made.shown
  posts : length made.next.posts ≤ length s.posts + 1
  draws : made.next.draws.made ≤ s.draws.made + 1

from_quiet : (s : Sides) (event : Event) (made : Step Sides) → shown event made.next ≡ texts [] → IsQuiet s made → IsShown s event made
from_quiet s event made nothing quiet = record { same = nothing ∙ sym quiet.none; posts = quiet.posts; draws = quiet.draws }

-- a step that was cut off shows what it shows uncut, or nothing
cut_shown : (s : Sides) (event : Event) (took : Bool) (made : Step Sides) (effect : Bool) → has_effect made.answer ≡ effect
    → ((t : Sides) → has_effect made.answer ≡ true → shown event t ≡ texts []) → IsShown s event made
    → IsShown s (cuts took event)
    (if effect then step Stopped (if took then made.next else record s { draws = made.next.draws }) else made)
cut_shown s event true made true e none all = record { same = none made.next e; posts = all.posts; draws = all.draws }
cut_shown s event false made true e none all =
    record { same = none (record s { draws = made.next.draws }) e; posts = omega arith; draws = all.draws }
cut_shown s event took made false e none all = record { same = all.same; posts = all.posts; draws = all.draws }

shows : (k : Mechanism) (s : Sides) (event : Event) → IsShown s event (step_on k s event)
shows k s (seeds seed) = record { same = refl; posts = omega arith; draws = omega arith }
shows k s (does side call) = from_quiet s (does side call) _ refl (called_quiet k s side call)
shows k s (shows_inbox side) = record { same = refl; posts = omega arith; draws = omega arith }
shows k s (shows_awaiting side) = record { same = refl; posts = omega arith; draws = omega arith }
shows k s (shows_state side) = record { same = refl; posts = omega arith; draws = omega arith }
shows k s (cuts took event) =
    let made = step_on k s event in
    cut_shown s event took made (has_effect made.answer) refl (λ t. effect_shows_none k s t event) (shows k s event)

-- what an event shows
pub shown-same : (k : Mechanism) (s : Sides) (event : Event) → shown event (step_on k s event).next ≡ (step_on k s event).shown
shown-same k s event = (shows k s event).same

-- ---- a deed

-- at most one packet more for the network, and one draw
pub record AddsFew (s next : Sides) : Type 0 where
  pub posts : length next.posts ≤ length s.posts + 1
  pub draws : next.draws.made ≤ s.draws.made + 1

adds_none : (s : Sides) (side : Side) (kept : Client) → AddsFew s (with_client s side kept)
adds_none s First kept = record { posts = omega arith; draws = omega arith }
adds_none s Second kept = record { posts = omega arith; draws = omega arith }

event_adds : (k : Mechanism) (s : Sides) (event : Event) → AddsFew s (step_on k s event).next
event_adds k s event = let step = shows k s event in record { posts = step.posts; draws = step.draws }

failed_adds : (k : Mechanism) (s : SidesBeside) (event : Event) (left : Client) (fault : Option DiskCall)
    → let made = step_on k s.ends event in
    AddsFew s.ends (failed event s made (record s.ends { draws = made.next.draws }) left fault).next.ends
failed_adds k s event left None = event_adds k s.ends event
failed_adds k s event left (Some call) = record { posts = omega arith; draws = (shows k s.ends event).draws }

-- the newest packet is one at most
one_newest : (held : ℕ) (outbox : List Post) → length (drop (newest_from held (length outbox)) outbox) ≤ 1
one_newest held outbox = by_test (nat_lt held (length outbox))
  where
    by_test : (b : Bool) → length (drop (if b then length outbox - 1 else length outbox) outbox) ≤ 1
    by_test true = omega (arith, length-drop (length outbox - 1) outbox)
    by_test false = omega (arith, length-drop (length outbox) outbox)

gathers_adds : (s : Sides) (side : Side) (next : Client) → AddsFew s (gathers s side next)
gathers_adds s First next =
    let held = length s.first.outbox in
    let more = drop (newest_from held (length next.outbox)) next.outbox in
    record { posts = omega (arith, length-append s.posts more, one_newest held next.outbox); draws = omega arith }
gathers_adds s Second next =
    let held = length s.second.outbox in
    let more = drop (newest_from held (length next.outbox)) next.outbox in
    record { posts = omega (arith, length-append s.posts more, one_newest held next.outbox); draws = omega arith }

opened_adds : (s : SidesBeside) (side : Side) (shut : Option (Shut Client))
    → AddsFew s.ends (opened side s (gathers s.ends side) shut).next.ends
opened_adds s side None = record { posts = omega arith; draws = omega arith }
opened_adds s side (Some shut) = gathers_adds s.ends side shut.left

freely_adds : (k : Mechanism) (s : SidesBeside) (deed : Deed) → AddsFew s.ends (freely_on k s deed).next.ends
freely_adds k s (acts event) = event_adds k s.ends event
freely_adds k s (stops n mode side call) = event_adds k s.ends (stopped_on k s.ends n mode (does side call))
freely_adds k s (fails n side call) =
    let made = called_on k s.ends side call in
    let before = client_of s.ends side in
    let after = client_of made.next side in
    failed_adds k s (does side call) (left_of n before after after before) (failing_call n made.answer before after)
freely_adds k s (reopens side) = opened_adds s side (shut_of s.shuts side)
freely_adds k s (syncs side lost) = adds_none s.ends side _
freely_adds k s (joins side id) = record { posts = omega arith; draws = omega arith }

pub adds_few : (k : Mechanism) (s : SidesBeside) (deed : Deed) → AddsFew s.ends (deed_on k s deed).next.ends
unfolding deed_on
adds_few k s deed =
    barred_or (λ (made : SidesPlayed). AddsFew s.ends made.next.ends) (deed_side deed) s (freely_on k s deed)
    (barring s.shuts deed) (freely_adds k s deed) (λ call. record { posts = omega arith; draws = omega arith })

-- ---- a call in which a disk stops shows nothing

cut_shows_none : (t : Sides) (cut : Option Bool) (side : Side) (call : CallOfLine)
    → shown (cut_event cut (call_event side call)) t ≡ texts []
cut_shows_none t None side call = refl
cut_shows_none t (Some replaced) side call = refl

pub cut_acting : (cut : Option Bool) (event : Event)
    → acting_side (cut_event cut event) ≡ acting_side event
cut_acting None event = refl
cut_acting (Some replaced) event = refl

-- the reply of a call is its line
pub call_reply : (k : Mechanism) (s : Sides) (side : Side) (call : CallOfLine) (answer : Answer)
    → answer ≡ (step_on k s (call_event side call)).answer
    → reply_line side answer ≡ reply_of (call_event side call) (step_on k s (call_event side call))
unfolding reply_of
call_reply k s side call answer is =
    let event = call_event side call in
    let made = step_on k s event in
    let none : made.shown ≡ texts [] = sym (shown-same k s event) in
    let line = reply_line side made.answer in
    ap (reply_line side) is ∙ sym (append-nil line) ∙ ap (λ (s : Shown). line ++ shown_lines side s) (sym none)

-- so its reply is its line
pub stop_reply : (k : Mechanism) (s : Sides) (stop : Stop) (answer : Answer)
    → let event = stopped_on k s stop.after stop.mode (call_event stop.side stop.call) in
    answer ≡ (step_on k s event).answer
    → reply_line stop.side answer ≡ reply_of event (step_on k s event)
unfolding reply_of stopped_on
stop_reply k s stop answer is =
    let call = call_event stop.side stop.call in
    let next = client_of (step_on k s call).next stop.side in
    let cut = cut_of stop.after stop.mode (client_of s stop.side) next in
    let event = cut_event cut call in
    let made = step_on k s event in
    let same = cut_acting cut call in
    let none : made.shown ≡ texts [] =
    sym (shown-same k s event) ∙ cut_shows_none made.next cut stop.side stop.call in
    let line = reply_line (acting_side event) made.answer in
    ap₂ reply_line (sym same) is ∙ sym (append-nil line)
    ∙ ap (λ (s : Shown). line ++ shown_lines (acting_side event) s) (sym none)
