-- The lines of both sides, and their run in numbers, are the machine's.
use Rattle.std.proofs.Common.{◌≡◌, Bool, true, List, [], ◌∷◌, ◌++◌, Option, Some, None, refl, subst, sym, ◌∙◌, ap, ap₂, ℕ}
use Rattle.std.specs.Prelude.{All, IfSome, is_some, option_map}
use Rattle.std.proofs.lemmas.List.{length-map}
use Rattle.std.proofs.lemmas.List.Elements.{All-cons, All-head, All-nil, All-tail}
use Rattle.dr_base.specs.declared.position.Side.{Side}
use Rattle.dr_base.specs.declared.position.Side.TheVariants.{First, Second}
use Rattle.dr_disk.specs.declared.call.Mode.{Mode}
use Rattle.dr_model.specs.Conversations.Posts.{key_of}
use Rattle.dr_model.specs.Conversations.Views.{has_opened, missing_of}
use Rattle.dr_base.specs.Position.{peer_of}
use Rattle.dr_base.specs.declared.position.Position.{Position}
use Rattle.dr_model.specs.Machines.Acts.{Act}
use Rattle.dr_model.specs.Machines.Events.{Event, PacketSource, does, takes}
use Rattle.dr_model.specs.Machines.Sides.{Sides, client_of, step_on}
use Rattle.dr_model.specs.Machines.Steps.{Step}
use Rattle.dr_model.specs.Machines.Worlds.{World, opening_world, step_of, view_of}
use Rattle.dr_model.specs.Machines.WorldSides.{kept_in, sides_of}
use Rattle.dr_model.specs.Theorems.Fairness.{IsFair, IsSeedWhole, IsUnforgedEvent}
use Rattle.session_model.specs.Clients.{Client}
use Rattle.kem_laws.specs.Mechanism.{IsLawfulMechanism, Mechanism}
use Rattle.session_model.specs.Schedule.{agreement_seed}
use Rattle.dr_model.specs.Theorems.Receipts.{EndsWaiting}
use Rattle.dr_model.proofs.Receipts.Arrived.{taking_arrives}
use Rattle.dr_model.proofs.Worlds.Following.{step_follows}
use Rattle.dr_model.proofs.Worlds.OpeningWorlds.{lawful_opening}
use Rattle.dr_model.proofs.Worlds.SeenWorlds.{seen_world}
use Rattle.relay_core.specs.Boxes.{Box, Kept, empty_box}
use Rattle.client.specs.Syncing.Lines.{own_box, peers_box}
use Rattle.duet.specs.Relay.{first_keys, second_keys, spec_where}
use Rattle.session_model.specs.BoxKeys.{relay_keys_of}
use Rattle.duet.specs.Outcomes.{SidesBeside, SidesPlayed, WorldBeside, WorldPlayed, acted, barring, deed_in, deed_on, freely_in, freely_on, lines_alone, meeting_in, synced_in, unless_barred}
use Rattle.duet.specs.Replies.{shown_long}
use Rattle.scripts.specs.Deeds.{Deed, HasWholeSeed, acts, fails, joins, reopens, stops, syncs}
use Rattle.scripts.specs.Sides.{acting_side, deed_side}
use Rattle.duet.specs.Stops.{cut_event, stopped_in, stopped_on}
use Rattle.parties.specs.Stops.{cut_of}
use Rattle.scripts.specs.Script.{Scripted}
use Rattle.duet.specs.Receipts.{ReceiptsHold}
use Rattle.duet.specs.Tally.{both_reached, both_reached_in, counted_all, counted_by, opening_tally, tally_in, tally_of}
use Rattle.duet.specs.Trace.{IsUnforgedDeed, IsUnforgedPlay, IsUnforgedScript, after_by, beginning_in, lines_by, played, trace_of}
use Rattle.duet.specs.declared.tally.Tally.{Tally}
use Rattle.duet.proofs.SaidBoxes.{HoldsOnly, IsHonest, IsLeft, IsSaidPacket, KeepsShut, honest_next}
use Rattle.duet.proofs.SaidSyncs.{sync_fair, sync_honest}
use Rattle.duet.proofs.SyncsFollow.{sync_follows, sync_leaves}
use Rattle.parties.specs.Shuts.{Shut}
use Rattle.duet.specs.Shuts.{Shuts, asks_open, both_open, needs_open, shut_of}
use Rattle.duet.proofs.Arriving.{deed_arrives}
use Rattle.duet.proofs.Barred.{is_open}
use Rattle.duet.proofs.FailsFollow.{fails_follow, fails_honest, same_acted}
use Rattle.duet.proofs.Moving.{if_any, if_none, keeps_shut, one_of}
use Rattle.duet.proofs.OpensFollow.{opens_follow, opens_honest}
use Rattle.duet.proofs.SeenBeside.{barring_seen, seen_beside, seen_played, seen_same, seen_shut, seen_shuts}
use Rattle.duet.proofs.Showing.{cut_acting}

-- ---- one deed

-- an event that a disk cuts off makes up what it makes up by itself
cut_whole : (cut : Option Bool) (event : Event) → IsSeedWhole event
    → IsSeedWhole (cut_event cut event)
cut_whole None event whole = whole
cut_whole (Some replaced) event whole = whole

cut_unforged : (k : Mechanism) (w : World) (cut : Option Bool) (event : Event)
    → IsUnforgedEvent k w event
    → IsUnforgedEvent k w (cut_event cut event)
cut_unforged k w None event unforged = unforged
cut_unforged k w (Some replaced) event unforged = unforged

kept_side : (k : Mechanism) (w : World) (side : Side)
    → client_of (sides_of k w) side ≡ kept_in k w side
kept_side k w First = refl
kept_side k w Second = refl

-- both sides cut off what the machine does: their records before and after are the same
same_stop : (k : Mechanism) (w : World) (n : ℕ) (mode : Mode) (call : Event)
    → step_on k (sides_of k w) call ≡ seen_world k (step_of k w call)
    → stopped_on k (sides_of k w) n mode call ≡ stopped_in k w n mode call
unfolding stopped_on stopped_in
same_stop k w n mode call same =
    let side = acting_side call in
    ap₂ (λ (before after : Client). cut_event (cut_of n mode before after) call)
    (kept_side k w side)
    (ap (λ (made : Step Sides). client_of made.next side) same
    ∙ kept_side k (step_of k w call).next side)

-- both sides do what the machine does, and what stands beside the world stays honest
record Follows (k : Mechanism) (made : SidesPlayed) (other : WorldPlayed) : Type 0 where
  same : made ≡ seen_played k other
  honest : IsHonest k other.next

event_follows : (k : Mechanism) (s : WorldBeside) (event : Event) → IsLawfulMechanism k → IsHonest k s → IsFair k s.ends event
    → (asks_open event ≡ true → shut_of s.shuts (acting_side event) ≡ None)
    → Follows k (acted event (seen_beside k s) (step_on k (sides_of k s.ends) event)) (acted event s (step_of k s.ends event))
event_follows k s event law honest fair moves =
    let keeps = keeps_shut k s.ends event law honest.lawful fair s.shuts moves in record {
      same = same_acted k s event keeps (step_follows k s.ends event law honest.lawful fair);
      honest = honest_next k s event honest fair.whole keeps;
    }

-- where the side of a deed is open, if the deed asks for that
freely_follows : (k : Mechanism) (s : WorldBeside) (deed : Deed) → IsLawfulMechanism k → IsHonest k s → HasWholeSeed deed
    → IsUnforgedDeed k s deed
    → (needs_open deed ≡ true → shut_of s.shuts (deed_side deed) ≡ None)
    → Follows k (freely_on k (seen_beside k s) deed) (freely_in k s deed)
unfolding stopped_in
freely_follows k s (acts event) law honest whole unforged moves =
    event_follows k s event law honest (record { unforged = unforged; whole = whole }) moves
freely_follows k s (stops n mode side one) law honest whole unforged moves =
    let call = does side one in
    let cut = cut_of n mode (kept_in k s.ends side) (kept_in k (step_of k s.ends call).next side) in
    let event = cut_event cut call in
    let step = step_follows k s.ends call law honest.lawful (record { unforged = unforged; whole = whole }) in
    let by = event_follows k s event law honest
    (record { unforged = cut_unforged k s.ends cut call unforged; whole = cut_whole cut call whole })
    (λ asks. subst (λ (own : Side). shut_of s.shuts own ≡ None) (sym (cut_acting cut call)) (moves refl)) in record {
      same = ap (λ (e : Event). acted e (seen_beside k s) (step_on k (sides_of k s.ends) e)) (same_stop k s.ends n mode call step) ∙ by.same;
      honest = by.honest;
    }
freely_follows k s (fails n side one) law honest whole unforged moves =
    let call = does side one in
    let fair : IsFair k s.ends call = record { unforged = unforged; whole = whole } in
    let keeps = keeps_shut k s.ends call law honest.lawful fair s.shuts (λ asks. moves refl) in record {
      same = fails_follow k s n call law honest.lawful fair keeps;
      honest = fails_honest k s n call law honest.lawful fair honest (honest_next k s call honest whole keeps);
    }
freely_follows k s (reopens side) law honest whole unforged moves =
    record { same = opens_follow k s side law honest; honest = opens_honest k s side law honest }
freely_follows k s (syncs side lost) law honest whole unforged moves =
    let unshut = moves refl in
    let fair = sync_fair k law side s.ends s.shuts unshut s.boxes honest lost in
    let came = meeting_in k s side lost in
    let keeps : KeepsShut k s.shuts s.ends came.course.state = λ x.
    one_of (λ (y : Side). IfSome (shut_of s.shuts y) (λ _. kept_in k came.course.state y ≡ kept_in k s.ends y)) side x
    (if_none (λ _. kept_in k came.course.state side ≡ kept_in k s.ends side) (shut_of s.shuts side) unshut)
    (if_any (kept_in k came.course.state (peer_of side) ≡ kept_in k s.ends (peer_of side)) (shut_of s.shuts (peer_of side))
    (sync_leaves k law side s.ends honest.lawful lost s.boxes fair (seen_shuts k s.ends s.shuts))) in
    let shown = seen_played k (synced_in k s side lost) in record {
      same = sync_follows k law side s.ends honest.lawful lost s.boxes fair (seen_shuts k s.ends s.shuts)
          ∙ ap (λ (shuts : Shuts Client). let played : SidesPlayed = record shown { next = record shown.next { shuts = shuts } } in played)
          (sym (seen_same k s.ends came.course.state s.shuts keeps));
      honest = sync_honest k law side s.ends s.shuts unshut s.boxes honest lost;
    }
freely_follows k s (joins side id) law honest whole unforged moves = record {
  same = ap (λ (kept : Client). lines_alone (shown_long side id kept.inbox) (seen_beside k s)) (kept_side k s.ends side);
  honest = honest;
}

-- a deed
abbrev DeedFollows : Mechanism → WorldBeside → Deed → Type 0
DeedFollows k s deed = Follows k (deed_on k (seen_beside k s) deed) (deed_in k s deed)

deed_follows : (k : Mechanism) (s : WorldBeside) (deed : Deed) → IsLawfulMechanism k → IsHonest k s → HasWholeSeed deed
    → IsUnforgedDeed k s deed → DeedFollows k s deed
unfolding deed_on deed_in
deed_follows k s deed law honest whole unforged =
    subst (λ o. Follows k (unless_barred (deed_side deed) (seen_beside k s) (freely_on k (seen_beside k s) deed) o)
    (unless_barred (deed_side deed) s (freely_in k s deed) (barring s.shuts deed)))
    (sym (barring_seen k s.ends s.shuts deed)) (by_bar (barring s.shuts deed) refl)
  where
    by_bar : (o : Option (Shut (Option Act))) → barring s.shuts deed ≡ o
        → Follows k (unless_barred (deed_side deed) (seen_beside k s) (freely_on k (seen_beside k s) deed)
        (option_map (seen_shut k s.ends (deed_side deed)) o))
        (unless_barred (deed_side deed) s (freely_in k s deed) o)
    by_bar None is = freely_follows k s deed law honest whole unforged (is_open s.shuts deed is)
    by_bar (Some shut) is = record { same = refl; honest = honest }

-- ---- a run

-- From what both sides keep in a world: the same lines, the same counts, and what both keep in the world that is reached.
record RunsAlike (k : Mechanism) (s : WorldBeside) (deeds : List Deed) : Type 0 where
  lines : lines_by (deed_on k) (seen_beside k s) deeds ≡ lines_by (deed_in k) s deeds
  counts : (t : Tally) → counted_by (deed_on k) (seen_beside k s) t deeds ≡ counted_by (deed_in k) s t deeds
  leads : after_by (deed_on k) (seen_beside k s) deeds ≡ seen_beside k (after_by (deed_in k) s deeds)
  receipts : ReceiptsHold k s deeds
  honest : IsHonest k (after_by (deed_in k) s deeds)

run_follows : (k : Mechanism) (s : WorldBeside) (deeds : List Deed) → IsLawfulMechanism k → IsHonest k s → All HasWholeSeed deeds
    → IsUnforgedPlay k s deeds → RunsAlike k s deeds
unfolding lines_by counted_by after_by ReceiptsHold
run_follows k s [] law honest whole unforged = record { lines = refl; counts = λ t. refl; leads = refl; receipts = tt; honest = honest }
run_follows k s (deed ∷ deeds) law honest whole unforged =
    let first = deed_follows k s deed law honest (All-head HasWholeSeed deed deeds whole) unforged.0 in
    let later = run_follows k (deed_in k s deed).next deeds law first.honest (All-tail HasWholeSeed deed deeds whole) unforged.1 in
    record {
      lines = ap (λ (made : SidesPlayed). made.lines ++ lines_by (deed_on k) made.next deeds) first.same
          ∙ ap (λ rest. (deed_in k s deed).lines ++ rest) later.lines;
      counts = λ t. ap (λ (made : SidesPlayed). counted_by (deed_on k) made.next (counted_all (deed_side deed) made.answers t) deeds) first.same
          ∙ later.counts (counted_all (deed_side deed) (deed_in k s deed).answers t);
      leads = ap (λ (made : SidesPlayed). after_by (deed_on k) made.next deeds) first.same ∙ later.leads;
      receipts = (deed_arrives k s honest.lawful deed law honest, later.receipts);
      honest = later.honest;
    }

-- how far both sides have come in a world
reached_alike : (k : Mechanism) (w : World) (t : Tally) → both_reached (sides_of k w) t ≡ both_reached_in w t
reached_alike k w t =
    ap₂ (λ (m n : ℕ). let reached : Tally = record t {
      first = record t.first { epoch = w.first.epoch; missing = m };
      second = record t.second { epoch = w.second.epoch; missing = n };
    } in reached)
    (length-map (missing_of w.conversation w.first) (key_of k w.conversation)) (length-map (missing_of w.conversation w.second) (key_of k w.conversation))

-- ---- a script

none_left : (k : Mechanism) (w : World) (side : Side) → IfSome (shut_of {L = Option Act} both_open side) (IsLeft k w side)
none_left k w First = tt
none_left k w Second = tt

-- at its opening the boxes are empty
honest_beginning : (k : Mechanism) (script : Scripted) → is_some (k.meaning.pair_of (agreement_seed script.key)) ≡ true
    → IsHonest k (beginning_in k script)
honest_beginning k script pairs =
    let w = opening_world script.key script.formats in
    let Only : Box → Type 0 = HoldsOnly (IsSaidPacket k w) in
    let none = All-nil (λ (kept : Kept). IsSaidPacket k w kept.packet) in
    let keys = relay_keys_of script.key in
    let own = empty_box (spec_where script.guarded (own_box (kept_in k w First)) (first_keys keys)) in
    let peers = empty_box (spec_where script.guarded (peers_box (kept_in k w First)) (second_keys keys)) in
    record {
      lawful = lawful_opening k script.key script.formats pairs;
      shuts = none_left k w;
      boxes = All-cons Only own (peers ∷ []) none (All-cons Only peers [] none (All-nil Only));
    }

-- from there
script_follows : (k : Mechanism) (script : Scripted) → IsLawfulMechanism k → is_some (k.meaning.pair_of (agreement_seed script.key)) ≡ true
    → All HasWholeSeed script.deeds → IsUnforgedScript k script
    → RunsAlike k (beginning_in k script) script.deeds
script_follows k script law pairs whole fair =
    run_follows k (beginning_in k script) script.deeds law (honest_beginning k script pairs) whole fair

pub follows : (k : Mechanism) (script : Scripted) → IsLawfulMechanism k → is_some (k.meaning.pair_of (agreement_seed script.key)) ≡ true
    → All HasWholeSeed script.deeds → IsUnforgedScript k script
    → played k script ≡ trace_of k script
unfolding played trace_of
follows k script law pairs whole fair = (script_follows k script law pairs whole fair).lines

pub tallies_follow : (k : Mechanism) (script : Scripted) → IsLawfulMechanism k
    → is_some (k.meaning.pair_of (agreement_seed script.key)) ≡ true → All HasWholeSeed script.deeds → IsUnforgedScript k script
    → tally_of k script ≡ tally_in k script
unfolding tally_of tally_in
tallies_follow k script law pairs whole fair =
    let s = beginning_in k script in
    let run = script_follows k script law pairs whole fair in
    ap₂ (λ (end : SidesBeside) (t : Tally). both_reached end.ends t) run.leads (run.counts (opening_tally script.rounds))
    ∙ reached_alike k (after_by (deed_in k) s script.deeds).ends (counted_by (deed_in k) s (opening_tally script.rounds) script.deeds)

pub receipts_hold : (k : Mechanism) (script : Scripted) → IsLawfulMechanism k → is_some (k.meaning.pair_of (agreement_seed script.key)) ≡ true
    → All HasWholeSeed script.deeds → IsUnforgedScript k script → ReceiptsHold k (beginning_in k script) script.deeds
receipts_hold k script law pairs whole fair = (script_follows k script law pairs whole fair).receipts

-- what waits no more after a take has arrived
pub arrives : (k : Mechanism) (script : Scripted) (side : Side) (source : PacketSource) (p : Position) → IsLawfulMechanism k
    → is_some (k.meaning.pair_of (agreement_seed script.key)) ≡ true → All HasWholeSeed script.deeds → IsUnforgedScript k script
    → let w = (after_by (deed_in k) (beginning_in k script) script.deeds).ends in
    EndsWaiting w (step_of k w (does side (takes source))).next side p → has_opened (view_of w (peer_of side)) p ≡ true
arrives k script side source p law pairs whole fair ends =
    let s = after_by (deed_in k) (beginning_in k script) script.deeds in
    taking_arrives k s.ends side p (script_follows k script law pairs whole fair).honest.lawful source ends
