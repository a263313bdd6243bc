-- A run in which a part is said, and a row of them: the disk keeps its size, and status 0 says that
-- no call failed.
use Rattle.std.proofs.Common.{List, [], ap, arith, inl, inr, refl, subst, sym, ℕ, ◌∙◌, ◌≡◌, ◌≤◌, ◌⊎◌}
use Rattle.boxes.specs.Parts.{Part}
use Rattle.dr_disk.proofs.Steps.{quiet_twice}
use Rattle.dr_disk.specs.Spans.{IsQuiet}
use Rattle.dr_disk.specs.State.{DiskState}
use Rattle.dr_ports.specs.States.{DrawsState, SinkState}
use Rattle.endings.specs.Ending.{code_of}
use Rattle.endings.specs.declared.ending.Ending.{Ending}
use Rattle.endings.specs.declared.ending.Ending.TheVariants.{Done}
use Rattle.kem_laws.specs.Mechanism.{Mechanism}
use Rattle.session_model.specs.Contents.{part_content}
use Rattle.slot_store.specs.Areas.{area_end}
use Rattle.client.specs.Clients.{client_area}
use Rattle.command_lines.proofs.Counting.{acted_quiet, ended, no_draw_failed}
use Rattle.command_lines.specs.Acting.{ClientAsk, was_cut, was_done, was_refused, was_undrawn, was_unopened}
use Rattle.command_lines.specs.Asking.{asked_content}
use Rattle.session_commands.proofs.Quiet.{open_code}
use Rattle.session_commands.specs.Acting.{Acted}
use Rattle.session_commands.specs.Disks.{HasClientRoom, client_place}
use Rattle.session_commands.specs.LongSaying.{SaysPart}
use Rattle.session_commands.specs.PartsSaid.{WasShown, WasUnwritten, WasntSaid}

module _ {X W : Type 0} (state : X → DiskState) (draws : W → DrawsState) (k : Mechanism) where
  keeps_size : (asked : ClientAsk) (start now : X) (ending : Ending) (lines : List ℕ)
      → Acted state k asked start now ending lines → (state now).size ≡ (state start).size
  keeps_size asked start now _ _ (was_unopened refusal why leaves idle) = leaves.any_moment.size
  keeps_size asked start now _ _ (was_undrawn kept is undrawn leaves) = leaves.either.any_moment.size
  keeps_size asked start now _ _ (was_refused kept act refusal is asks refuses leaves) = leaves.either.any_moment.size
  keeps_size asked start now _ _ (was_done kept act made is asks makes leaves) = leaves.either.any_moment.size
  keeps_size asked start now _ _ (was_cut kept act made call is asks makes leaves rose) = leaves.any_moment.size

  pub keeps_room : (part : Part) (start now : X) (source left : W) (ending : Ending) (lines : List ℕ)
      → SaysPart state draws k part start now source left ending lines
      → HasClientRoom (state start) → HasClientRoom (state now)
  keeps_room part start now source left ending lines says room =
      subst (λ (n : ℕ). area_end client_area ≤ n)
      (sym (keeps_size (asked_content draws (part_content part) source left) start now ending lines says.acted)) room

  -- no call on the disk failed, and no draw
  abbrev pub AreQuiet : X → X → W → W → Type 0
  AreQuiet start now source left =
      IsQuiet (state start) (state now) × ((draws left).faults ≡ (draws source).faults)

  pub left_alone : (start now : X) (source left : W) → now ≡ start → left ≡ source → AreQuiet start now source left
  left_alone start now source left same undrawn =
      ((λ call. ap (λ x. (state x).faults call) same), ap (λ s. (draws s).faults) undrawn)

  pub quiet_both : (start mid now : X) (source between left : W) → AreQuiet start mid source between
      → AreQuiet mid now between left → AreQuiet start now source left
  quiet_both start mid now source between left first next =
      (quiet_twice (state start) (state mid) (state now) first.0 next.0, next.1 ∙ first.1)

  part_quiet : (part : Part) (start now : X) (source left : W) (ending : Ending) (lines : List ℕ)
      → SaysPart state draws k part start now source left ending lines → code_of ending ≡ 0
      → AreQuiet start now source left
  part_quiet part start now source left ending lines says zero =
      acted_quiet (client_place k) open_code state k start now (asked_content draws (part_content part) source left)
      (AreQuiet start now source left)
      (λ kept act asks quiet. (quiet, no_draw_failed draws (part_content part) source left kept act asks))
      ending lines says.acted zero

  -- a part whose line was written
  pub shown_quiet : (part : Part) (start now : X) (source left : W) (old new : SinkState)
      → WasShown state draws k part start now source left old new → AreQuiet start now source left
  shown_quiet part start now source left old new shown =
      part_quiet part start now source left Done _ shown.says refl

  -- one with which the command ends in status 0
  pub ended_quiet : (part : Part) (start now : X) (source left : W) (old new : SinkState) (code : ℕ)
      → WasntSaid state draws k part start now source left old new code
      ⊎ WasUnwritten state draws k part start now source left old new code
      → code ≡ 0 → AreQuiet start now source left
  ended_quiet part start now source left old new code (inl said) zero =
      part_quiet part start now source left said.ending [] said.says
      (ended said.ending [] old new code zero said.ends).0
  ended_quiet part start now source left old new code (inr said) zero = absurd (omega (arith, said.code_is, zero))
