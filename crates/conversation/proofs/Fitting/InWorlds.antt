-- What an act answers in a world: what was asked for, or a refusal.
use Rattle.std.proofs.Common.{Bool, Err, List, None, Ok, Option, Result, Some, false, if◌then◌else◌, inl, inr, length, nat_le, nat_lt, refl, subst, sym, true, ℕ, ◌≡◌, ◌⊎◌}
use Rattle.dr_base.specs.Position.{is_own}
use Rattle.dr_base.specs.declared.limits.TheConstants.{INBOX_LIMIT, KEPT_LIMIT}
use Rattle.dr_base.specs.declared.position.Position.{Position}
use Rattle.dr_base.specs.declared.position.Side.{Side}
use Rattle.dr_model.specs.Conversations.Views.{after_opening, has_opened, missing_of}
use Rattle.dr_model.specs.Machines.Acts.{Act, dropping, saying, taking}
use Rattle.dr_model.specs.Machines.Steps.{Step, leaving, settled, step}
use Rattle.dr_model.specs.Machines.WorldActs.{act_in, with_draw}
use Rattle.dr_model.specs.Machines.Worlds.{World, inbox_in, made_at, may_say, outbox_in, saying_in, taking_in, taking_made, view_of, with_view}
use Rattle.dr_ports.specs.States.{DrawsState}
use Rattle.kem_laws.specs.Mechanism.{Mechanism}
use Rattle.session_model.specs.Clients.{Client}
use Rattle.session_model.specs.Contents.{Content}
use Rattle.session_model.specs.Leaving.{drop_check}
use Rattle.session_model.specs.declared.answer.Answer.{Answer}
use Rattle.session_model.specs.declared.answer.Answer.TheVariants.{Dropped, Opened, Refused, Said}
use Rattle.session_model.specs.declared.answer.Refusal.{Refusal}
use Rattle.session_model.specs.declared.answer.Refusal.TheVariants.{InboxFull, OwnPacket, SkipLimit, Spent}
use Rattle.session_model.specs.declared.answer.Which.{Which}
use Rattle.session_model.specs.declared.answer.Which.TheVariants.{OfId, Oldest}
use Rattle.command_lines.specs.Asking.{SaysContent, with_seed, without_seed}
use Rattle.session_commands.specs.WholeRuns.{Command, asked_by, drops, says, takes}
use Rattle.conversation.specs.Fitting.{IsAnswerTo}

abbrev pub IsRefusal : Answer → Type 0
IsRefusal answer = (refusal : Refusal) × (answer ≡ Refused refusal)

module _ (k : Mechanism) (side : Side) where
  abbrev SaysOrNot : Answer → Type 0
  SaysOrNot answer = ((p : Position) × (answer ≡ Said p)) ⊎ IsRefusal answer

  either_says : (test : Bool) (one other : Step World) → SaysOrNot one.answer
      → SaysOrNot other.answer → SaysOrNot (if◌then◌else◌ {A = Step World} test one other).answer
  either_says true one other is is_other = is
  either_says false one other is is_other = is_other

  said_by_check : (w : World) (content : Content) (check : Result Bool Refusal)
      → SaysOrNot (saying_in k w side content check).answer
  said_by_check w content (Err refusal) = inr (refusal, refl)
  said_by_check w content (Ok false) = inl (_, refl)
  said_by_check w content (Ok true) = either_says _ _ _ (inr (_, refl)) (inl (_, refl))

  said_so : (w : World) (content : Content) (draw : Option (List ℕ))
      → SaysOrNot (act_in k w side (saying content draw)).answer
  said_so w content draw =
      said_by_check (with_draw w draw) content (may_say k (with_draw w draw) side content)

  module _ (w : World) where
    abbrev OpensOrNot : Answer → Type 0
    OpensOrNot answer = ((p : Position) × (answer ≡ Opened p)) ⊎ IsRefusal answer

    opened_by : (own old far full : Bool) (a b c d : Refusal) (p : Position) (next : World)
        → OpensOrNot (settled w (if own then Err a else (if old then Err b else (if far then Err c
        else (if full then Err d else Ok (step (Opened p) next)))))).answer
    opened_by true old far full a b c d p next = inr (a, refl)
    opened_by false true far full a b c d p next = inr (b, refl)
    opened_by false false true full a b c d p next = inr (c, refl)
    opened_by false false false true a b c d p next = inr (d, refl)
    opened_by false false false false a b c d p next = inl (p, refl)

    opened_at : (p : Position) → OpensOrNot (settled w (taking_in w side p)).answer
    opened_at p =
        let opened = after_opening w.conversation (view_of w side) p in
        let missing = length (missing_of w.conversation opened) in
        opened_by (is_own side p.epoch) (has_opened (view_of w side) p) (nat_lt KEPT_LIMIT missing)
        (nat_le INBOX_LIMIT (length (inbox_in w side))) (OwnPacket p.epoch) (Spent p)
        (SkipLimit missing) InboxFull p (with_view w side opened)

    opened_made : (bytes : List ℕ) (made : Option Position)
        → OpensOrNot (settled w (taking_made k w side bytes made)).answer
    opened_made bytes None = inr (_, refl)
    opened_made bytes (Some p) = opened_at p

    opened_so : (bytes : List ℕ) → OpensOrNot (act_in k w side (taking bytes)).answer
    opened_so bytes = opened_made bytes (made_at k w bytes)

    left_by : (which : Which) (check : Result Unit Refusal) (next : World)
        → (answer : Answer) → answer ≡ (settled w (leaving which check next)).answer
        → (answer ≡ Dropped which) ⊎ IsRefusal answer
    left_by which (Ok stand) next answer is = inl is
    left_by which (Err refusal) next answer is = inr (refusal, is)

    left_so : (which : Which) → ((act_in k w side (dropping which)).answer ≡ Dropped which)
        ⊎ IsRefusal (act_in k w side (dropping which)).answer
    left_so (Oldest items n) =
        left_by (Oldest items n)
        (drop_check (Oldest items n) (inbox_in w side) (outbox_in k w side)) _ _ refl
    left_so (OfId id) =
        left_by (OfId id) (drop_check (OfId id) (inbox_in w side) (outbox_in k w side)) _ _ refl

    module _ {W : Type 0} (draws : W → DrawsState) (kept : Client) where
      said_with : (content : Content) (source left : W) (act : Act)
          → SaysContent draws content source left kept act → SaysOrNot (act_in k w side act).answer
      said_with content source left _ (without_seed none same) = said_so w content None
      said_with content source left _ (with_seed seed needed long gave faults) =
          said_so w content (Some seed)

      pub fits_or_refused : (command : Command W) (act : Act)
          → (asked_by draws k command).acts kept act
          → IsAnswerTo command (act_in k w side act).answer
          ⊎ IsRefusal (act_in k w side act).answer
      fits_or_refused (says content source left) act asks =
          said_with content source left act asks
      fits_or_refused (takes packet) act is =
          subst (λ (i : Act). OpensOrNot (act_in k w side i).answer) (sym is) (opened_so packet)
      fits_or_refused (drops which) act is =
          subst (λ (i : Act). ((act_in k w side i).answer ≡ Dropped which)
          ⊎ IsRefusal (act_in k w side i).answer) (sym is) (left_so which)
