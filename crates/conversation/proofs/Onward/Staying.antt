-- A check leaves the disk alone, and a session that is begun once more stays as it is.
use Rattle.std.proofs.Common.{List, None, Ok, Some, ap, arith, subst, sym, ℕ, ⊎_elim, ◌∙◌, ◌≡◌}
use Rattle.std.specs.Prelude.{option_map}
use Rattle.bodies.specs.declared.format.Format.{Format}
use Rattle.dr_base.specs.declared.position.Side.{Side}
use Rattle.dr_disk.specs.State.{DiskState, IsLawful}
use Rattle.dr_model.specs.Machines.WorldSides.{kept_in}
use Rattle.dr_model.specs.Machines.Worlds.{World}
use Rattle.dr_ports.specs.States.{DrawsState, SourceState}
use Rattle.endings.specs.declared.ending.Ending.{Ending}
use Rattle.endings.specs.declared.ending.Ending.TheVariants.{BadKey, Done, InputTooLong, NoMemory, ReadFault}
use Rattle.kem_laws.specs.Mechanism.{Mechanism}
use Rattle.session_record.specs.Record.{record_read}
use Rattle.slot_store.specs.Laws.{IsRead}
use Rattle.slot_store.specs.Reading.{no_content}
use Rattle.slot_store.specs.Records.{stored_record}
use Rattle.client.specs.Beginning.{begin_of}
use Rattle.client.specs.Clients.{client_area}
use Rattle.client.specs.Moments.{IsAmongKnown, Known}
use Rattle.client.specs.Opening.{IsReadAs, ReadsAsSide, client_record_fault}
use Rattle.client.specs.declared.begin.Begin.{Begin}
use Rattle.command_lines.specs.Inputs.{IsNoInput, had_no_memory, is_bad, is_too_long, key_in_hex, read_failed}
use Rattle.command_lines.specs.declared.input.TheConstants.{KEY_TEXT_LIMIT}
use Rattle.session_commands.specs.Beginning.{Began, RunsBegin, had_key, had_no_key, was_begun, wasnt_begun}
use Rattle.session_commands.specs.Checking.{RunsCheck}
use Rattle.session_commands.specs.WholeRuns.{IsCutFrom, Ran, stayed, was_cut_staying, was_left_alone}
use Rattle.conversation.proofs.Begun.{undone}

-- ---- a check

module _ {X W : Type 0} (state : X → DiskState) (lawful : (x : X) → IsLawful (state x))
    (draws : W → DrawsState) (k : Mechanism) (side : Side) (known : Known) (a b : X)
    (ending : Ending) (lines : List ℕ) (runs : RunsCheck state k a b ending lines) where
  pub checked_ran : Ran state draws k side a b known known
  checked_ran =
      was_left_alone known (λ image left. ⊎_elim (λ i. i) (λ i. i) (runs.any_moment.last image left))

  pub checked_cut : (crashed : X) → IsCutFrom (state a) (state b) (state crashed)
      → Ran state draws k side a crashed known known
  checked_cut crashed leaves =
      was_left_alone known
      (λ image left. ⊎_elim
      (λ here. ⊎_elim (λ i. i) (λ i. i) (runs.any_moment.last image here))
      (λ since. ⊎_elim (λ was. (lawful a).only_now image was) (λ i. i)
      (runs.any_moment.each (state a).moment image (omega arith) since))
      (leaves image left))

-- ---- a session that is begun once more

-- a text that holds no key doesn't end a command with `Done`
no_key_undone : (from to : SourceState) (ending : Ending)
    → IsNoInput KEY_TEXT_LIMIT key_in_hex BadKey from to ending → ending ≡ Done → ⊥
no_key_undone from to _ (had_no_memory left quiet) is = absurd (let e : NoMemory ≡ Done = is in cc)
no_key_undone from to _ (read_failed gave rose) is = absurd (let e : ReadFault ≡ Done = is in cc)
no_key_undone from to _ (is_too_long long left quiet) is =
    absurd (let e : InputTooLong KEY_TEXT_LIMIT ≡ Done = is in cc)
no_key_undone from to _ (is_bad text left quiet) is = absurd (let e : BadKey ≡ Done = is in cc)

-- where a world was read, there was a record
never_empty : (k : Mechanism) → IsRead → (v : World) (side : Side) (start : DiskState)
    → ReadsAsSide k v side start → IsReadAs k start no_content → ⊥
never_empty k readings v side start reads empty =
    let none : stored_record client_area reads.bytes ≡ None =
    readings.none (client_record_fault k) client_area reads.bytes (empty reads.bytes reads.told) in
    let same : None ≡ Some (Ok (kept_in k v side)) =
    sym (ap (option_map (record_read k)) none) ∙ reads.stands in
    absurd (let e : None ≡ Some (Ok (kept_in k v side)) = same in cc)

module _ {X W : Type 0} (state : X → DiskState) (draws : W → DrawsState) (k : Mechanism)
    (readings : IsRead) (side : Side) (known : Known) (v : World)
    (which : IsAmongKnown known v) (a b : X) (reads : ReadsAsSide k v side (state a)) where
  began_undone : (begin : Begin) (ending : Ending) (lines : List ℕ)
      → Began state k begin a b ending lines → ending ≡ Done → ⊥
  began_undone begin _ _ (wasnt_begun refusal why) is = undone refusal is
  began_undone begin _ _ (was_begun none pair rests quiet) is =
      never_empty k readings v side (state a) reads none

  module _ (whose : Side) (format : Format) (from to : SourceState) where
    pub begin_undone : (ending : Ending) (lines : List ℕ)
        → RunsBegin state k whose format from to a b ending lines → ending ≡ Done → ⊥
    begin_undone _ _ (had_no_key ending none alone) is = no_key_undone from to ending none is
    begin_undone _ _ (had_key key ending lines input begins) is =
        began_undone (begin_of whose format key) ending lines begins.began is

    pub begin_ran : (ending : Ending) (lines : List ℕ)
        → RunsBegin state k whose format from to a b ending lines
        → Ran state draws k side a b known known
    begin_ran _ _ (had_no_key ending none alone) =
        subst (λ x. Ran state draws k side a x known known) (sym alone)
        (was_left_alone known (λ image left. left))
    begin_ran _ _ (had_key key ending lines input begins) =
        stayed known v which (begins.in_worlds v side reads)

    pub begin_cut : (lawful : (x : X) → IsLawful (state x)) (crashed : X)
        → IsCutFrom (state a) (state b) (state crashed) → (ending : Ending) (lines : List ℕ)
        → RunsBegin state k whose format from to a b ending lines
        → Ran state draws k side a crashed known known
    begin_cut lawful crashed leaves _ _ (had_no_key ending none alone) =
        was_left_alone known
        (λ image left. ⊎_elim
        (λ here. subst (λ x. (state x).image image) alone here)
        (λ since. (lawful a).only_now image (subst (λ x. (state x).since (state a).moment image) alone since))
        (leaves image left))
    begin_cut lawful crashed leaves _ _ (had_key key ending lines input begins) =
        was_cut_staying known v which b (begins.in_worlds v side reads) leaves
