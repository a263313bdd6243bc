-- A command that was done has the answer that it asks for.
use Rattle.std.proofs.Common.{Bool, Err, List, Ok, Option, Result, Some, ap, arith, refl, subst, sym, ℕ, ⊎_elim, ◌+◌, ◌∙◌, ◌≡◌}
use Rattle.std.specs.Prelude.{slice_get}
use Rattle.answer_lines.specs.Answers.{answer_text, drop_word, which_text}
use Rattle.dr_base.specs.declared.position.Position.{Position}
use Rattle.dr_base.specs.declared.position.Side.{Side}
use Rattle.dr_disk.specs.State.{DiskState}
use Rattle.dr_model.specs.Machines.Acts.{Act, act_on, dropping, said_by, saying, saying_by, taken_by, taking}
use Rattle.dr_model.specs.Machines.Steps.{Step, leaving, step}
use Rattle.dr_model.specs.Machines.WorldSides.{kept_in}
use Rattle.dr_ports.specs.States.{DrawsState}
use Rattle.endings.specs.declared.ending.Ending.{Ending}
use Rattle.endings.specs.declared.ending.Ending.TheVariants.{DiskFault, Done, DrawFault, Refused as EndsRefused}
use Rattle.kem_laws.specs.Mechanism.{Mechanism}
use Rattle.session_model.specs.Clients.{Client, SaidText, TakenPacket}
use Rattle.session_model.specs.Contents.{Content}
use Rattle.session_model.specs.declared.answer.Answer.{Answer}
use Rattle.session_model.specs.declared.answer.Answer.TheVariants.{Dropped, Opened, Refused, Said}
use Rattle.session_model.specs.declared.answer.Items.TheVariants.{Packets, Texts}
use Rattle.session_model.specs.declared.answer.Refusal.{Refusal}
use Rattle.session_model.specs.declared.answer.Which.{Which}
use Rattle.session_model.specs.declared.answer.Which.TheVariants.{OfId, Oldest}
use Rattle.command_lines.specs.Acting.{ActedAt, ClientAsk, was_cut, was_done, was_refused, was_undrawn, was_unopened}
use Rattle.command_lines.specs.Closing.{printed_answer}
use Rattle.session_commands.specs.Acting.{RunsAct}
use Rattle.session_commands.specs.Disks.{client_place}
use Rattle.session_commands.specs.WholeRuns.{Command, asked_by}
use Rattle.session_commands.proofs.Talks.{unopened_undone}
use Rattle.conversation.specs.Answered.{IsAcknowledged}
use Rattle.conversation.specs.Fitting.{IsAnswerTo}
use Rattle.conversation.specs.Joints.{Joint, known_in}
use Rattle.conversation.proofs.Answering.{answered_in}
use Rattle.conversation.proofs.Fitting.InWorlds.{fits_or_refused}

-- ---- what is printed once it was done

abbrev first_byte : List ℕ → Option ℕ
first_byte bytes = slice_get bytes 0

-- the answer of an act that was done
data IsDone : Answer → Type 0 where
  was_said : (p : Position) → IsDone (Said p)
  was_opened : (p : Position) → IsDone (Opened p)
  was_left : (which : Which) → IsDone (Dropped which)

refused_first : (refusal : Refusal) → first_byte (printed_answer (Refused refusal)) ≡ Some 114
unfolding answer_text
refused_first refusal = refl

said_first : (p : Position) → first_byte (printed_answer (Said p)) ≡ Some 115
unfolding answer_text
said_first p = refl

opened_first : (p : Position) → first_byte (printed_answer (Opened p)) ≡ Some 111
unfolding answer_text
opened_first p = refl

sent_first : (n : ℕ) → first_byte (printed_answer (Dropped (Oldest Packets n))) ≡ Some 115
unfolding answer_text which_text drop_word
sent_first n = refl

done_first : (n : ℕ) → first_byte (printed_answer (Dropped (Oldest Texts n))) ≡ Some 100
unfolding answer_text which_text drop_word
done_first n = refl

long_first : (id : ℕ) → first_byte (printed_answer (Dropped (OfId id))) ≡ Some 100
unfolding answer_text which_text
long_first id = refl

one_byte : (x y : ℕ) → Some x ≡ Some y → x ≡ y
one_byte x y is = cc

differ : (text other : List ℕ) (x y : ℕ) → first_byte text ≡ Some x → first_byte other ≡ Some y
    → text ≡ other → x ≡ y
differ text other x y is is_other same =
    one_byte x y (sym is ∙ ap first_byte same ∙ is_other)

never_refused : (answer : Answer) → IsDone answer → (refusal : Refusal)
    → printed_answer answer ≡ printed_answer (Refused refusal) → ⊥
never_refused _ (was_said p) refusal same =
    absurd (omega (arith, differ _ _ 115 114 (said_first p) (refused_first refusal) same))
never_refused _ (was_opened p) refusal same =
    absurd (omega (arith, differ _ _ 111 114 (opened_first p) (refused_first refusal) same))
never_refused _ (was_left (Oldest Packets n)) refusal same =
    absurd (omega (arith, differ _ _ 115 114 (sent_first n) (refused_first refusal) same))
never_refused _ (was_left (Oldest Texts n)) refusal same =
    absurd (omega (arith, differ _ _ 100 114 (done_first n) (refused_first refusal) same))
never_refused _ (was_left (OfId id)) refusal same =
    absurd (omega (arith, differ _ _ 100 114 (long_first id) (refused_first refusal) same))

-- ---- what was done has such an answer

module _ (k : Mechanism) (kept : Client) (made : Step Client) where
  abbrev Made : Result (Step Client) Refusal → Type 0
  Made result = result ≡ Ok made → IsDone made.answer

  made_as : (answer : Answer) (next : Client) → IsDone answer → Made (Ok (step answer next))
  made_as answer next done is =
      let same : step answer next ≡ made = cc in
      subst (λ (s : Step Client). IsDone s.answer) same done

  made_none : (refusal : Refusal) → Made (Err refusal)
  made_none refusal is = absurd (let e : Err refusal ≡ Ok made = is in cc)

  said_made : (result : Result SaidText Refusal) → Made (said_by result)
  said_made (Ok said) = made_as (Said said.post.position) said.next (was_said said.post.position)
  said_made (Err refusal) = made_none refusal

  says_made : (content : Content) (draw : Option (List ℕ)) (check : Result Bool Refusal)
      → Made (saying_by k kept content draw check)
  says_made content draw (Ok turns) = said_made _
  says_made content draw (Err refusal) = made_none refusal

  takes_made : (result : Result TakenPacket Refusal) → Made (taken_by result)
  takes_made (Ok taken) = made_as (Opened taken.position) taken.next (was_opened taken.position)
  takes_made (Err refusal) = made_none refusal

  drops_made : (which : Which) (check : Result Unit Refusal) (next : Client)
      → Made (leaving which check next)
  drops_made which (Ok stand) next = made_as (Dropped which) next (was_left which)
  drops_made which (Err refusal) next = made_none refusal

  acted_made : (act : Act) → Made (act_on k kept act)
  acted_made (saying content draw) = says_made content draw _
  acted_made (taking bytes) = takes_made _
  acted_made (dropping which) = drops_made which _ _

-- so no refusal was printed
pub done_prints : {X : Type 0} (state : X → DiskState) (k : Mechanism) (asked : ClientAsk)
    (start now : X) (ending : Ending) (lines : List ℕ)
    → ActedAt (client_place k) state k asked start now ending lines → ending ≡ Done
    → (refusal : Refusal) → lines ≡ printed_answer (Refused refusal) → ⊥
done_prints state k asked start now _ _ (was_unopened refusal why leaves idle) is =
    absurd (unopened_undone refusal is)
done_prints state k asked start now _ _ (was_undrawn kept read none leaves) is =
    absurd (let e : DrawFault ≡ Done = is in cc)
done_prints state k asked start now _ _ (was_refused kept act refusal read asks made leaves) is =
    absurd (let e : EndsRefused refusal ≡ Done = is in cc)
done_prints state k asked start now _ _ (was_done kept act made read asks makes leaves) is =
    λ refusal. never_refused made.answer (acted_made k kept made act makes) refusal
done_prints state k asked start now _ _ (was_cut kept act made call read asks makes leaves rose) is =
    absurd (let e : DiskFault ≡ Done = is in cc)

-- and the answer that was acknowledged fits
module _ {X W : Type 0} (state : X → DiskState) (draws : W → DrawsState) (k : Mechanism)
    (side : Side) (moments : List X) (joints : ℕ → Joint) (n : ℕ) (command : Command W)
    (lines : List ℕ) (acked : IsAcknowledged state draws k side moments joints n command lines)
    (start now : X) where
  pub answer_fits : RunsAct state k (asked_by draws k command) start now Done lines
      → IsAnswerTo command acked.answer
  answer_fits runs =
      let has = acked.has in
      let is = answered_in state draws k side has.before has.after (known_in k side (joints n))
      (known_in k side (joints (n + 1))) has.ran command acked.answer has.answered in
      ⊎_elim (λ fits. subst (IsAnswerTo command) is.answered fits)
      (λ refused. absurd (done_prints state k (asked_by draws k command) start now Done lines runs.acted
      refl refused.0 (acked.printed ∙ ap printed_answer (sym is.answered ∙ refused.1))))
      (fits_or_refused k side is.world draws (kept_in k is.world side) command is.act is.asked)
