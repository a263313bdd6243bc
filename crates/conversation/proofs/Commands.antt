-- What a command comes to by its own clauses counts, and so does a crash in it.
use Rattle.std.proofs.Common.{List, Some, [], arith, inl, inr, length, refl, subst, sym, ℕ, ⊎_elim, ◌++◌, ◌+◌, ◌∷◌, ◌≡◌}
use Rattle.std.specs.Prelude.{slice_get, ⊤}
use Rattle.dr_base.specs.declared.position.Side.{Side}
use Rattle.dr_disk.specs.State.{DiskState, IsLawful}
use Rattle.dr_model.specs.Machines.Worlds.{World}
use Rattle.dr_ports.specs.States.{DrawsState}
use Rattle.endings.specs.declared.ending.Ending.{Ending}
use Rattle.endings.specs.declared.ending.Ending.TheVariants.{DiskFault, Done, DrawFault, Refused}
use Rattle.dr_model.specs.Machines.WorldActs.{act_in}
use Rattle.session_model.specs.declared.answer.Answer.{Answer}
use Rattle.command_lines.specs.Closing.{printed_answer}
use Rattle.conversation.specs.Answered.{IsAcknowledged, WasAnswered}
use Rattle.conversation.proofs.Extending.{beyond, last_there, still_there, up_to}
use Rattle.kem_laws.specs.Mechanism.{Mechanism}
use Rattle.client.specs.Cells.{client_cell}
use Rattle.client.specs.Grounds.{Grounds}
use Rattle.client.specs.Moments.{AreLinked, IsAmongKnown, Known, StandsStill}
use Rattle.client.specs.Opening.{ReadsAsSide}
use Rattle.client.proofs.Standing.{stands}
use Rattle.session_commands.specs.Histories.{acted_known, cut_known}
use Rattle.command_lines.specs.InWorlds.{goes_on, is_in_doubt, stays_refused, stays_undrawn, stays_unopened}
use Rattle.session_commands.specs.Acting.{RunsAct, RunsIn}
use Rattle.session_commands.specs.WholeRuns.{Command, IsCutFrom, Ran, acted, asked_by, was_cut_acting}
use Rattle.session_commands.proofs.KnownWorlds.{one_lawful}
use Rattle.session_commands.proofs.Talks.{unopened_undone}
use Rattle.conversation.specs.Joints.{HasRun, Joint, cut_off, known_in, with_next}
use Rattle.conversation.proofs.Counts.{counts, none_cut}
use Rattle.conversation.proofs.Moved.{IsSound, sound_known}

module _ {X W : Type 0} (state : X → DiskState) (draws : W → DrawsState) (k : Mechanism)
    (side : Side) (a b : X) (known : Known) (v : World) (which : IsAmongKnown known v)
    (command : Command W) where
  acked : (ending : Ending) (lines : List ℕ)
      (runs : RunsIn k v side (asked_by draws k command) (state a) (state b) ending lines)
      → ending ≡ Done → (answer : Answer) × (lines ≡ printed_answer answer)
      × (let ran : Ran state draws k side a b known (acted_known runs known) = acted known v which command ending lines runs in
      WasAnswered ran command answer)
      × ((acted_known runs known).doubtful ≡ [])
  acked ending lines (stays_unopened refusal on) is = absurd (unopened_undone refusal is)
  acked ending lines (stays_undrawn lacks on rests) is = absurd (let e : DrawFault ≡ Done = is in cc)
  acked ending lines (stays_refused act refusal asks fair answer on rests) is =
      absurd (let e : Refused refusal ≡ Done = is in cc)
  acked ending lines (goes_on act asks fair on rests) is =
      ((act_in k v side act).answer, refl, (refl, refl), refl)
  acked ending lines (is_in_doubt act asks fair on) is =
      absurd (let e : DiskFault ≡ Done = is in cc)

module _ {X Y W : Type 0} (state : X → DiskState) (sound_disk : (x : X) → IsLawful (state x))
    (others : Y → DiskState) (draws : W → DrawsState) (k : Mechanism) (grounds : Grounds k)
    (side : Side) (xs : List X) (w : World) (joints : ℕ → Joint)
    (linked : AreLinked state xs k side w (λ n. known_in k side (joints n)))
    (n : ℕ) (sound : IsSound k (joints n)) (before : X) (here : slice_get xs n ≡ Some before)
    (bytes : List ℕ) (told : (state before).seen ≡ Some bytes) (c : Y) where
  abbrev known : Known
  known = known_in k side (joints n)

  still : StandsStill k side w known (state before)
  still = stands client_cell state xs k side w (λ m. known_in k side (joints m)) linked n before here

  -- a read gives a world that is known
  pub found : (v : World) × IsAmongKnown known v × ReadsAsSide k v side (state before)
  found =
      ⊎_elim
      (λ stood. (
        (joints n).world,
        inl refl,
        record { bytes = bytes; told = told; stands = stood },
      ))
      (λ at. (
        at.1,
        inr (at.0, at.2, at.3),
        record { bytes = bytes; told = told; stands = at.4 },
      ))
      (still.images bytes ((sound_disk before).seen_now bytes told))

  module _ (command : Command W) (after : X) (ending : Ending) (lines : List ℕ)
      (runs : RunsAct state k (asked_by draws k command) before after ending lines)
      (fair : (v : World) → IsAmongKnown known v → (asked_by draws k command).fair v side) where
    in_world : RunsIn k found.0 side (asked_by draws k command) (state before) (state after) ending lines
    in_world =
        runs.in_worlds found.0 side
        (one_lawful k known found.0 (sound_known k grounds side (joints n) sound) found.1) found.2
        (fair found.0 found.1)

    -- with `Done` it was acknowledged
    abbrev Acked : (later : Known) → Ran state draws k side before after known later → Type 0
    Acked later ran = ending ≡ Done → (answer : Answer) × (lines ≡ printed_answer answer)
        × WasAnswered ran command answer × (later.doubtful ≡ [])

    abbrev Acting : Type 0
    Acting = (next : Joint)
        × (has : HasRun state others draws k side before after c c (joints n) next)
        × Acked (known_in k side next) has.ran

    pub act_counts : Acting
    act_counts =
        counts state sound_disk others draws k grounds side w before after c c (joints n) sound still
        Acked (acted_known in_world known) (
          acted known found.0 found.1 command ending lines in_world,
          acked state draws k side before after known found.0 found.1 command ending lines in_world,
        )
        (λ image left. left)

    pub crash_counts : (crashed : X) → IsCutFrom (state before) (state after) (state crashed)
        → (next : Joint) × HasRun state others draws k side before crashed c c (joints n) next
    crash_counts crashed leaves =
        let is = counts state sound_disk others draws k grounds side w before crashed c c (joints n)
        sound still (λ later ran. ⊤) (cut_known in_world known)
        (was_cut_acting known found.0 found.1 command after ending lines in_world leaves, tt)
        (λ image left. left) in
        (is.0, is.1)

    module _ (long : length xs ≡ n + 1) (made : Acting) where
      abbrev now : ℕ → Joint
      now = with_next joints n made.0

      pub is_acked : ending ≡ Done
          → IsAcknowledged state draws k side (xs ++ after ∷ []) now n command lines
      is_acked is =
          let ack = made.2 is in
          let Both : Joint → Joint → Type 0 = λ j i.
          (ran : Ran state draws k side before after (known_in k side j) (known_in k side i))
          × WasAnswered ran command ack.0 in
          let both : Both (now n) (now (n + 1)) =
          subst (λ j. Both j (now (n + 1))) (up_to joints n made.0 n (omega arith))
          (subst (λ i. Both (joints n) i) (beyond joints n made.0 (n + 1) (omega arith))
          (made.1.ran, ack.2)) in
          record {
            answer = ack.0;
            printed = ack.1;
            has = record {
              before = before;
              after = after;
              here = still_there xs after before n here;
              next = last_there xs after (n + 1) (sym long);
              ran = both.0;
              answered = both.1;
            };
            settled = subst (λ i. cut_off i side ≡ []) (beyond joints n made.0 (n + 1) (omega arith))
                (none_cut k side made.0 ack.3);
          }
