-- Status 0 says that no call failed, so a command that comes to something counts what failed.
use Rattle.std.proofs.Common.{List, Option, arith, inl, inr, refl, sym, ℕ, ◌∙◌, ◌≡◌, ◌≤◌}
use Rattle.dr_disk.specs.Spans.{IsQuiet}
use Rattle.dr_disk.specs.State.{DiskState}
use Rattle.dr_model.specs.Machines.Acts.{Act}
use Rattle.dr_ports.specs.States.{DrawsState, SinkState, SourceState}
use Rattle.endings.specs.Ending.{code_of}
use Rattle.endings.specs.Ends.{Ends}
use Rattle.endings.specs.declared.ending.Ending.{Ending}
use Rattle.kem_laws.specs.Mechanism.{Mechanism}
use Rattle.session_model.specs.Clients.{Client}
use Rattle.session_model.specs.Contents.{Content}
use Rattle.command_lines.specs.Acting.{ActedAt, ClientAsk, was_cut, was_done, was_refused, was_undrawn, was_unopened}
use Rattle.command_lines.specs.Asking.{SaysContent, with_seed, without_seed}
use Rattle.command_lines.specs.InWorlds.{RunsActAt}
use Rattle.command_lines.specs.Inputs.{IsNoInput, had_no_memory, is_bad, is_too_long, read_failed}
use Rattle.command_lines.specs.Places.{Place}
use Rattle.command_lines.specs.Runs.{Runs, RunsAndCounts, RunsTakeAt, had_no_packet, had_packet}
use Rattle.command_lines.specs.Showing.{RunsTellAt, ToldAt, was_shown, wasnt_opened}

-- ---- the endings that aren't 0

pub input_code : (limit : ℕ) (parse : List ℕ → Option (List ℕ)) (bad : Ending) (from to : SourceState)
    (ending : Ending) → code_of bad ≡ 3 → IsNoInput limit parse bad from to ending → code_of ending ≡ 0 → ⊥
input_code limit parse bad from to ending three (had_no_memory same quiet) e = omega (arith, e)
input_code limit parse bad from to ending three (read_failed gave rose) e = omega (arith, e)
input_code limit parse bad from to ending three (is_too_long long past quiet) e = omega (arith, e)
input_code limit parse bad from to ending three (is_bad text drained quiet) e = omega (arith, three, e)

-- the ending of a status 0, whose lines were written
pub ended : (ending : Ending) (lines : List ℕ) (old new : SinkState) (code : ℕ) → code ≡ 0
    → Ends ending lines old new code → (code_of ending ≡ 0) × (new.faults ≡ old.faults)
ended ending lines old new code zero (inl all) = (sym all.code_is ∙ zero, all.quiet)
ended ending lines old new code zero (inr cut) = absurd (omega (arith, zero, cut.code_is))

-- so a run that says this of the other calls wherever its ending is one of status 0
pub counted : (comes : Ending → List ℕ → Type 0) (others : Type 0) (old new : SinkState) (code : ℕ)
    → ((ending : Ending) (lines : List ℕ) → comes ending lines → code_of ending ≡ 0 → others)
    → Runs comes old new code → old.faults ≤ new.faults → RunsAndCounts comes others old new code
counted comes others old new code so runs later = record {
  runs = runs;
  quiet = λ zero.
      let end = ended runs.ending runs.lines old new code zero runs.ends in
      (so runs.ending runs.lines runs.came end.0, end.1);
  later = later;
}

-- ---- what came to pass with it

pub no_draw_failed : {W : Type 0} (draws : W → DrawsState) (content : Content) (source left : W) (kept : Client)
    (act : Act) → SaysContent draws content source left kept act → (draws left).faults ≡ (draws source).faults
no_draw_failed draws content source left kept act (without_seed none same) = cc
no_draw_failed draws content source left kept act (with_seed seed needed long drew quiet) = quiet

-- where no session is found, the status isn't 0
abbrev pub TellsRefusals : Place → Type 0
TellsRefusals place = (refusal : place.Refusal) → code_of (place.ending refusal) ≡ 0 → ⊥

module _ {X : Type 0} (place : Place) (tells : TellsRefusals place) (state : X → DiskState) (k : Mechanism) (start now : X) where
  pub acted_quiet : (asked : ClientAsk) (others : Type 0)
      → ((kept : Client) (act : Act) → asked.acts kept act → IsQuiet (state start) (state now) → others)
      → (ending : Ending) (lines : List ℕ)
      → ActedAt place state k asked start now ending lines → code_of ending ≡ 0 → others
  acted_quiet asked others so _ _ (was_unopened refusal why leaves idle) e = absurd (tells refusal e)
  acted_quiet asked others so _ _ (was_undrawn kept is undrawn leaves) e = absurd (omega (arith, e))
  acted_quiet asked others so _ _ (was_refused kept act refusal is asks refuses leaves) e = absurd (omega (arith, e))
  acted_quiet asked others so _ _ (was_done kept act made is asks makes leaves) e = so kept act asks leaves.quiet
  acted_quiet asked others so _ _ (was_cut kept act made call is asks makes leaves rose) e = absurd (omega (arith, e))

  pub act_counts : (asked : ClientAsk) (others : Type 0)
      → ((kept : Client) (act : Act) → asked.acts kept act → IsQuiet (state start) (state now) → others)
      → (old new : SinkState) (code : ℕ) → Runs (RunsActAt place state k asked start now) old new code
      → old.faults ≤ new.faults → RunsAndCounts (RunsActAt place state k asked start now) others old new code
  act_counts asked others so old new code runs later =
      counted (RunsActAt place state k asked start now) others old new code
      (λ ending lines came zero. acted_quiet asked others so ending lines came.acted zero) runs later

  take_came : (from to : SourceState) (ending : Ending) (lines : List ℕ) → RunsTakeAt place state k from to start now ending lines
      → code_of ending ≡ 0 → IsQuiet (state start) (state now) × (to.faults ≡ from.faults)
  take_came from to _ _ (had_no_packet e none same) zero = absurd (input_code _ _ _ _ _ e refl none zero)
  take_came from to _ _ (had_packet packet e l input runs truly) zero = (
    acted_quiet _ (IsQuiet (state start) (state now)) (λ kept act asks quiet. quiet) e l runs.acted zero,
    input.quiet,
  )

  pub take_counts : (from to : SourceState) (old new : SinkState) (code : ℕ)
      → Runs (RunsTakeAt place state k from to start now) old new code → old.faults ≤ new.faults
      → RunsAndCounts (RunsTakeAt place state k from to start now)
      (IsQuiet (state start) (state now) × (to.faults ≡ from.faults)) old new code
  take_counts from to old new code runs later =
      counted (RunsTakeAt place state k from to start now) (IsQuiet (state start) (state now) × (to.faults ≡ from.faults))
      old new code (take_came from to) runs later

  pub shown_came : (ends : Client → Ending) (shows : Client → List ℕ) (ending : Ending) (lines : List ℕ)
      → ToldAt place state k ends shows start now ending lines → code_of ending ≡ 0 → IsQuiet (state start) (state now)
  shown_came ends shows _ _ (wasnt_opened refusal why leaves) e = absurd (tells refusal e)
  shown_came ends shows _ _ (was_shown kept is behind leaves) e = leaves.quiet

  pub show_counts : (ends : Client → Ending) (shows : Client → List ℕ) (old new : SinkState) (code : ℕ)
      → Runs (RunsTellAt place state k ends shows start now) old new code → old.faults ≤ new.faults
      → RunsAndCounts (RunsTellAt place state k ends shows start now) (IsQuiet (state start) (state now)) old new code
  show_counts ends shows old new code runs later =
      counted (RunsTellAt place state k ends shows start now) (IsQuiet (state start) (state now)) old new code
      (λ ending lines came zero. shown_came ends shows ending lines came.shown zero) runs later
