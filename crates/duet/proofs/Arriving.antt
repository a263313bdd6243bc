-- What waits no more after a deed in which a side takes packets was opened by the other side.
use Rattle.std.proofs.Common.{Bool, List, None, Option, Some, ap, false, refl, suc, sym, true, zero, ℕ, ◌∙◌, ◌≡◌}
use Rattle.std.specs.List.{list_any}
use Rattle.dr_base.specs.Position.{is_at, peer_of}
use Rattle.dr_base.specs.declared.position.Position.{Position}
use Rattle.dr_base.specs.declared.position.Side.{Side}
use Rattle.dr_base.specs.declared.position.Side.TheVariants.{First, Second}
use Rattle.dr_disk.specs.declared.call.Call.{Call}
use Rattle.dr_model.specs.Conversations.Views.{View, has_opened}
use Rattle.dr_model.specs.Machines.Acts.{Act, dropping, saying, taking}
use Rattle.dr_model.specs.Machines.Events.{PacketSource, cuts, does, drops, drops_long, of_bytes, says, seeds, shows_awaiting, shows_inbox, shows_state, takes}
use Rattle.dr_model.specs.Machines.WorldActs.{act_in}
use Rattle.dr_model.specs.Machines.WorldSides.{kept_in, sides_of}
use Rattle.dr_model.specs.Machines.Worlds.{World, step_of, view_of}
use Rattle.dr_model.specs.Theorems.Fairness.{IsUnforged}
use Rattle.dr_model.specs.Theorems.LawfulWorlds.{IsLawfulWorld}
use Rattle.dr_model.specs.Theorems.Receipts.{EndsWaiting}
use Rattle.dr_model.proofs.Receipts.Arrived.{cut_arrives, taking_arrives}
use Rattle.kem_laws.specs.Mechanism.{IsLawfulMechanism, Mechanism}
use Rattle.relay_core.specs.Boxes.{answers_of}
use Rattle.relay_link.specs.Connections.{kept_before}
use Rattle.relay_wire.specs.Requests.{Asked}
use Rattle.sync_model.specs.Courses.{asked_now, repeats}
use Rattle.sync_model.specs.Parties.{Party}
use Rattle.sync_model.specs.Scenes.{IsFairNext, MeetsFairly}
use Rattle.sync_model.specs.Transfers.{Meeting, answered, begins, meet_times, meets}
use Rattle.client.specs.Syncing.Parties.{world_party}
use Rattle.client.proofs.Syncs.Covered.{LeadsOn, steps_arrive}
use Rattle.client.proofs.Syncs.Steps.{HoldsOfSteps, heard_leads}
use Rattle.parties.specs.Shuts.{Shut, failing_call, left_of}
use Rattle.parties.specs.Stops.{cut_of}
use Rattle.scripts.specs.Deeds.{Deed, acts, fails, joins, reopens, stops, syncs}
use Rattle.scripts.specs.Sides.{deed_side, side_text}
use Rattle.duet.specs.Outcomes.{WorldBeside, act_done_in, barring, deed_in, failed, freely_in, opened, unless_barred}
use Rattle.duet.specs.Receipts.{DeedArrives, IsTaking, LeavesTake, TakesPackets}
use Rattle.duet.specs.Shuts.{act_of_event, needs_open, shut_of}
use Rattle.duet.specs.Stops.{cut_event, stopped_in}
use Rattle.duet.proofs.Barred.{is_open}
use Rattle.duet.proofs.SaidBoxes.{IsHonest}
use Rattle.duet.proofs.SaidSyncs.{sync_fair}

-- ---- a meeting with a relay, as often as it replies

module _ (k : Mechanism) (prefix : List ℕ) (side : Side) (first : World) (Leads : World → World → Type 0)
    (holds : HoldsOfSteps k prefix side first Leads) where
  abbrev party : Party World
  party = world_party k prefix side first

  abbrev Fair : World → List ℕ → Type 0
  Fair turn packet = IsUnforged k turn side packet

  one_leads : (m : Meeting World) (o : Option Asked) → IsFairNext party Fair m o → Leads m.course.state (answered party m o).course.state
  one_leads m None fair = holds.none m.course.state
  one_leads m (Some asked) fair =
      let reply = (answers_of m.boxes asked).reply in
      heard_leads k prefix side first Leads holds m.course reply (repeats party m.course reply) fair

  meets_lead : (n : ℕ) (m : Meeting World) → MeetsFairly party Fair n m → Leads m.course.state (meet_times party n m).course.state
  meets_lead zero m fair = holds.none m.course.state
  meets_lead (suc n) m fair =
      holds.twice m.course.state (meets party m).course.state (meet_times party n (meets party m)).course.state
      (one_leads m (asked_now party m.course) fair.0) (meets_lead n (meets party m) fair.1)

-- ---- a deed

module _ (k : Mechanism) (s : WorldBeside) (lawful : IsLawfulWorld k s.ends) where
  abbrev w : World
  w = s.ends

  -- where a world follows, each own text of the side's that waits no more was opened by the other side
  abbrev Arrives : Side → World → Type 0
  Arrives side next = (p : Position) → EndsWaiting w next side p → has_opened (view_of w (peer_of side)) p ≡ true

  -- the same texts wait
  same_arrives : (side : Side) (next : World) → view_of next side ≡ view_of w side → Arrives side next
  same_arrives side next same p ends =
      absurd (let e : true ≡ false = sym ends.waited ∙ ap (λ (v : View). list_any (is_at p) v.awaiting) (sym same) ∙ ends.over in cc)

  drawn_view : (x : World) (draws : _) (side : Side) → view_of (record x { draws = draws }) side ≡ view_of x side
  drawn_view x draws First = refl
  drawn_view x draws Second = refl

  drawn_arrives : (side : Side) (next : World) (draws : _) → Arrives side next → Arrives side (record next { draws = draws })
  drawn_arrives side next draws arrives p ends =
      arrives p (record {
        waited = ends.waited;
        over = ap (λ (v : View). list_any (is_at p) v.awaiting) (sym (drawn_view next draws side)) ∙ ends.over;
      })

  take_arrives : (side : Side) (source : PacketSource) → Arrives side (step_of k w (does side (takes source))).next
  take_arrives side source p ends = taking_arrives k w side p lawful source ends

  -- also where it is cut off
  stop_arrives : (side : Side) (source : PacketSource) (cut : Option Bool)
      → Arrives side (step_of k w (cut_event cut (does side (takes source)))).next
  stop_arrives side source None = take_arrives side source
  stop_arrives side source (Some took) = λ p ends. cut_arrives k w side p lawful took source ends

  -- where a call failed, the world stays
  fail_arrives : (side : Side) (source : PacketSource) (left : Option Act) (call : Option Call)
      → let made = step_of k w (does side (takes source)) in
      Arrives side (failed (does side (takes source)) s made (record w { draws = made.next.draws }) left call).next.ends
  fail_arrives side source left None = take_arrives side source
  fail_arrives side source left (Some call) =
      drawn_arrives side w (step_of k w (does side (takes source))).next.draws (same_arrives side w refl)

  -- an opening does what was left
  left_arrives : (side : Side) (left : Option Act) → IsTaking left → Arrives side (act_done_in k w side left)
  left_arrives side None take = absurd take
  left_arrives side (Some (saying content draw)) take = absurd take
  left_arrives side (Some (dropping which)) take = absurd take
  left_arrives side (Some (taking packet)) take =
      drawn_arrives side (act_in k w side (taking packet)).next w.draws (take_arrives side (of_bytes packet))

  open_arrives : (side : Side) (shut : Option (Shut (Option Act))) → LeavesTake shut
      → Arrives side (opened side s (act_done_in k w side) shut).next.ends
  open_arrives side None take = absurd take
  open_arrives side (Some shut) take = left_arrives side shut.left take

  sync_arrives : (side : Side) (lost : Option ℕ) → IsLawfulMechanism k → IsHonest k s → shut_of s.shuts side ≡ None
      → Arrives side (freely_in k s (syncs side lost)).next.ends
  sync_arrives side lost law honest unshut p =
      (meets_lead k (side_text side) side w (LeadsOn k side p) (steps_arrive k side p (side_text side) w)
      (kept_before lost) (begins (world_party k (side_text side) side w) w s.boxes)
      (sync_fair k law side w s.shuts unshut s.boxes honest lost) lawful).arrived

  -- where the side is open, if the deed asks for that
  freely_arrives : (deed : Deed) → IsLawfulMechanism k → IsHonest k s → TakesPackets s deed
      → (needs_open deed ≡ true → shut_of s.shuts (deed_side deed) ≡ None) → Arrives (deed_side deed) (freely_in k s deed).next.ends
  unfolding stopped_in
  freely_arrives (acts (does side (takes source))) law honest take moves = take_arrives side source
  freely_arrives (acts (does side (says content))) law honest take moves = absurd take
  freely_arrives (acts (does side (drops items amount))) law honest take moves = absurd take
  freely_arrives (acts (does side (drops_long id))) law honest take moves = absurd take
  freely_arrives (acts (seeds seed)) law honest take moves = absurd take
  freely_arrives (acts (shows_inbox side)) law honest take moves = absurd take
  freely_arrives (acts (shows_awaiting side)) law honest take moves = absurd take
  freely_arrives (acts (shows_state side)) law honest take moves = absurd take
  freely_arrives (acts (cuts took event)) law honest take moves = absurd take
  freely_arrives (stops n mode side (takes source)) law honest take moves =
      stop_arrives side source (cut_of n mode (kept_in k w side) (kept_in k (step_of k w (does side (takes source))).next side))
  freely_arrives (stops n mode side (says content)) law honest take moves = absurd take
  freely_arrives (stops n mode side (drops items amount)) law honest take moves = absurd take
  freely_arrives (stops n mode side (drops_long id)) law honest take moves = absurd take
  freely_arrives (fails n side (takes source)) law honest take moves =
      let made = step_of k w (does side (takes source)) in
      let before = kept_in k w side in
      let after = kept_in k made.next side in
      fail_arrives side source (left_of n before after (act_of_event (sides_of k w) (does side (takes source))) None)
      (failing_call n made.answer before after)
  freely_arrives (fails n side (says content)) law honest take moves = absurd take
  freely_arrives (fails n side (drops items amount)) law honest take moves = absurd take
  freely_arrives (fails n side (drops_long id)) law honest take moves = absurd take
  freely_arrives (reopens side) law honest take moves = open_arrives side (shut_of s.shuts side) take
  freely_arrives (syncs side lost) law honest take moves = sync_arrives side lost law honest (moves refl)
  freely_arrives (joins side id) law honest take moves = absurd take

  -- a deed
  pub deed_arrives : (deed : Deed) → IsLawfulMechanism k → IsHonest k s → TakesPackets s deed → DeedArrives k s deed
  unfolding deed_in
  deed_arrives deed law honest take = by_bar (barring s.shuts deed) refl
    where
      by_bar : (o : Option (Shut (Option Act))) → barring s.shuts deed ≡ o
          → Arrives (deed_side deed) (unless_barred (deed_side deed) s (freely_in k s deed) o).next.ends
      by_bar None is = freely_arrives deed law honest take (is_open s.shuts deed is)
      by_bar (Some shut) is = same_arrives (deed_side deed) w refl
