-- A command whose session acted once.
use Rattle.std.proofs.Common.{Bool, None, Some, [], arith, false, subst, sym, true, ◌∙◌, ◌≡◌}
use Rattle.dr_base.specs.declared.position.Side.{Side}
use Rattle.dr_disk.specs.Spans.{Span}
use Rattle.dr_disk.specs.State.{Always, DiskState, IsLawful}
use Rattle.dr_disk.proofs.Steps.{quiet_twice}
use Rattle.dr_model.specs.Machines.Acts.{Act, act_on}
use Rattle.dr_model.specs.Machines.WorldActs.{act_in}
use Rattle.dr_model.specs.Machines.Steps.{has_effect, step}
use Rattle.dr_model.specs.Machines.WorldSides.{kept_in}
use Rattle.dr_model.specs.Machines.Worlds.{World}
use Rattle.dr_model.specs.Theorems.Acting.{IsFairAct}
use Rattle.dr_model.specs.Theorems.LawfulWorlds.{IsLawfulWorld}
use Rattle.endings.specs.declared.ending.Ending.TheVariants.{Done}
use Rattle.kem_laws.specs.Mechanism.{Mechanism}
use Rattle.session_model.specs.Clients.{Client}
use Rattle.session_model.specs.declared.answer.Answer.{Answer}
use Rattle.client.specs.InWorlds.{CellStandsFor, IsKeeperIn, KeeperActsIn}
use Rattle.client.specs.Keepings.{Keeping}
use Rattle.client.specs.Opening.{CellReadsAsSide, IsEntryOrAsReadInCell, StandsInOpening}
use Rattle.client.specs.Outcomes.{IsKeeperEffected, KeeperActs, Outcome, acknowledged, faulted, is_closed, refused, undrawn}
use Rattle.command_lines.specs.Acting.{ActedAt, ClientAsk, was_cut, was_done, was_refused}
use Rattle.command_lines.specs.Closing.{ending_by, lines_of_ending, printed_answer, worked_as}
use Rattle.command_lines.specs.InWorlds.{RunsActAt, RunsInPlace, goes_on, is_in_doubt, stays_refused, stays_undrawn}
use Rattle.command_lines.specs.Places.{IsOpenedAt, LeavesPlaceAtRest, Place}
use Rattle.command_lines.proofs.Standing.{Fits, leaves_either, runs_on, stays_on, still_rests, stood}

-- What was opened in a world: the session is a side of it, and what is left stands for it.
pub record OpensInPlace {S : Type 0} (place : Place) (keeping : Keeping S) (k : Mechanism) (w : World) (side : Side) (s : S)
    (start mid : DiskState) : Type 0 where
  pub is : IsKeeperIn keeping k w side s
  pub stand : Always (CellStandsFor place.cell k w side) mid
  pub opens : StandsInOpening place.cell k w side start mid

module _ {S X : Type 0} (place : Place) (keeping : Keeping S) (state : X → DiskState) (k : Mechanism) (start mid now : X)
    (lawful : IsLawful (state now)) (s after : S) (fits : Fits place keeping s)
    (opened : IsOpenedAt place keeping k s (state start) (state mid))
    (opening : Span (state start) (state mid) (IsEntryOrAsReadInCell place.cell k (state start))) where
  module _ (asked : ClientAsk) (act : Act) (asks : asked.acts (keeping.kept s) act) where
    done_by : (effect : Bool) (answer : Answer)
        → IsKeeperEffected keeping state effect (act_on k (keeping.kept s) act) s after mid now answer
        → ActedAt place state k asked start now Done (printed_answer answer)
    done_by true answer acts =
        was_done (keeping.kept s) act (step answer (keeping.kept after)) opened.read asks acts.made_is (record {
          either = leaves_either place keeping state k start mid now lawful s fits opened opening (keeping.kept s) (keeping.kept after)
              acts.disk.any_moment;
          rests = fits.rests after (state now) acts.disk.stays acts.disk.ready;
          quiet = quiet_twice (state start) (state mid) (state now) opened.quiet acts.disk.quiet;
        })
    done_by false answer acts =
        was_done (keeping.kept s) act (step answer (keeping.kept after)) opened.read asks acts.0
        (subst (λ (n : S). LeavesPlaceAtRest place k (keeping.kept s) (keeping.kept n) (state start) (state now)) (sym acts.2)
        (stood place keeping state k start mid now lawful s fits opened opening acts.3))

    pub acted_as : (outcome : Outcome) → KeeperActs keeping state (act_on k (keeping.kept s) act) s after mid now outcome
        → ActedAt place state k asked start now (ending_by (worked_as outcome)) (lines_of_ending (worked_as outcome))
    acted_as (is_closed call) acts = absurd (let e : None ≡ Some call = sym opened.is_open ∙ acts.0 in cc)
    acted_as (refused refusal) acts =
        was_refused (keeping.kept s) act refusal opened.read asks acts.1
        (stood place keeping state k start mid now lawful s fits opened opening acts.3)
    acted_as undrawn acts = absurd acts
    acted_as (acknowledged answer) acts = done_by (has_effect answer) answer acts
    acted_as (faulted call) acts =
        was_cut (keeping.kept s) act acts.next call opened.read asks acts.made_is
        (leaves_either place keeping state k start mid now lawful s fits opened opening (keeping.kept s) acts.next.next
        acts.disk.any_moment)
        (omega (arith, acts.disk.rose, opened.quiet call))

  -- ---- in a world

  -- what stands once an act is over
  abbrev pub Settles : Outcome → Type 0
  Settles (is_closed call) = keeping.closed s ≡ Some call
  Settles (refused refusal) = now ≡ mid
  Settles undrawn = now ≡ mid
  Settles (acknowledged answer) = place.rests (keeping.kept after) (state now)
  Settles (faulted call) = Unit {0}

  rests_by : (effect : Bool) (act : Act) (answer : Answer)
      → IsKeeperEffected keeping state effect (act_on k (keeping.kept s) act) s after mid now answer
      → place.rests (keeping.kept after) (state now)
  rests_by true act answer acts = fits.rests after (state now) acts.disk.stays acts.disk.ready
  rests_by false act answer acts =
      subst (λ (n : S). place.rests (keeping.kept n) (state now)) (sym acts.2)
      (still_rests place keeping state k start mid now lawful s fits opened opening acts.3)

  pub settles : (act : Act) (outcome : Outcome) → KeeperActs keeping state (act_on k (keeping.kept s) act) s after mid now outcome
      → Settles outcome
  settles act (is_closed call) acts = acts.0
  settles act (refused refusal) acts = acts.3
  settles act undrawn acts = absurd acts
  settles act (acknowledged answer) acts = rests_by (has_effect answer) act answer acts
  settles act (faulted call) acts = tt

  module _ (w : World) (side : Side) (opens : OpensInPlace place keeping k w side s (state start) (state mid)) (asked : ClientAsk) where
    -- it rests for what the side keeps
    rests_in : now ≡ mid → place.rests (kept_in k w side) (state now)
    rests_in same = subst (λ (kept : Client). place.rests kept (state now)) opens.is.keeps
        (still_rests place keeping state k start mid now lawful s fits opened opening same)

    pub undrawn_in : asked.undrawn (keeping.kept s) → now ≡ mid
        → RunsInPlace place k w side asked (state start) (state now) (ending_by (worked_as undrawn)) []
    undrawn_in lacks same =
        stays_undrawn (subst asked.undrawn opens.is.keeps lacks)
        (stays_on place keeping state k start mid now lawful s fits opened opening same side w opens.opens opens.stand)
        (rests_in same)

    -- what is asked of the session is asked of the side
    asked_in : (act : Act) → asked.acts (keeping.kept s) act → asked.acts (kept_in k w side) act
    asked_in act asks = subst (λ (kept : Client). asked.acts kept act) opens.is.keeps asks

    pub runs_in : (act : Act) → asked.acts (keeping.kept s) act → IsFairAct k w side act → (outcome : Outcome) → Settles outcome
        → KeeperActsIn keeping k w side act s after (state mid) (state now) outcome
        → RunsInPlace place k w side asked (state start) (state now) (ending_by (worked_as outcome)) (lines_of_ending (worked_as outcome))
    runs_in act asks fair (is_closed call) settled acts =
        absurd (let e : None ≡ Some call = sym opened.is_open ∙ settled in cc)
    runs_in act asks fair (refused refusal) settled acts =
        stays_refused act refusal (asked_in act asks) fair acts.0
        (stays_on place keeping state k start mid now lawful s fits opened opening settled side w opens.opens opens.stand)
        (rests_in settled)
    runs_in act asks fair undrawn settled acts = absurd acts
    runs_in act asks fair (acknowledged answer) settled acts =
        subst (λ a. RunsInPlace place k w side asked (state start) (state now) Done (printed_answer a)) acts.0
        (goes_on act (asked_in act asks) fair
        (runs_on place keeping state k start mid now lawful s fits opened opening side w (act_in k w side act).next opens.opens
        opens.stand acts.2)
        (subst (λ (kept : Client). place.rests kept (state now)) acts.1.keeps settled))
    runs_in act asks fair (faulted call) settled acts =
        is_in_doubt act (asked_in act asks) fair
        (runs_on place keeping state k start mid now lawful s fits opened opening side w (act_in k w side act).next opens.opens
        opens.stand acts.1)

  -- the whole of a command whose act is what it asks
  pub act_runs : (asked : ClientAsk) (act : Act) → asked.acts (keeping.kept s) act
      → ((w : World) (side : Side) → asked.fair w side → IsFairAct k w side act) → (outcome : Outcome)
      → KeeperActs keeping state (act_on k (keeping.kept s) act) s after mid now outcome
      → ((w : World) (side : Side) → IsLawfulWorld k w → CellReadsAsSide place.cell k w side (state start)
      → OpensInPlace place keeping k w side s (state start) (state mid))
      → ((w : World) (side : Side) → IsKeeperIn keeping k w side s → asked.fair w side
      → KeeperActsIn keeping k w side act s after (state mid) (state now) outcome)
      → RunsActAt place state k asked start now (ending_by (worked_as outcome)) (lines_of_ending (worked_as outcome))
  act_runs asked act asks fairly outcome acts opens acts_in = record {
    acted = acted_as asked act asks outcome acts;
    in_worlds = λ w side lawful_world stands fair.
        let open_in = opens w side lawful_world stands in
        runs_in w side open_in asked act asks (fairly w side fair) outcome (settles act outcome acts)
        (acts_in w side open_in.is fair);
  }
