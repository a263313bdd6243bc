-- What a command's answer says of the world.
use Rattle.std.proofs.Common.{List, None, Some, refl, subst, sym, true, ℕ, ◌≡◌}
use Rattle.dr_base.specs.declared.position.Position.{Position}
use Rattle.dr_base.specs.declared.position.Side.{Side}
use Rattle.dr_disk.specs.State.{DiskState}
use Rattle.dr_model.specs.Conversations.Views.{has_opened}
use Rattle.dr_model.specs.Machines.Acts.{Act, taking}
use Rattle.dr_model.specs.Machines.WorldActs.{act_in}
use Rattle.dr_model.specs.Machines.WorldSides.{kept_in}
use Rattle.dr_model.specs.Machines.Worlds.{World, view_of}
use Rattle.dr_model.specs.Theorems.Acting.{IsFairAct}
use Rattle.dr_model.specs.Theorems.LawfulWorlds.{IsLawfulWorld}
use Rattle.dr_ports.specs.States.{DrawsState}
use Rattle.kem_laws.specs.Mechanism.{Mechanism}
use Rattle.session_model.specs.Clients.{Client}
use Rattle.session_model.specs.Contents.{Content}
use Rattle.session_model.specs.declared.answer.Answer.{Answer}
use Rattle.session_model.specs.declared.answer.Answer.TheVariants.{Opened, Said}
use Rattle.client.specs.Moments.{IsAmongKnown, Known}
use Rattle.client.proofs.Spending.{taken_used}
use Rattle.command_lines.specs.Asking.{SaysContent, with_seed, without_seed}
use Rattle.command_lines.specs.InWorlds.{goes_on, is_in_doubt, stays_refused, stays_undrawn, stays_unopened}
use Rattle.session_commands.specs.WholeRuns.{Command, Ran, acted, asked_by, showed, stayed, synced, was_cut_acting, was_cut_showing, was_cut_shown, was_cut_staying, was_cut_synced, was_cut_syncing, was_left_alone}
use Rattle.conversation.specs.Answered.{WasAnswered}
use Rattle.dr_model.specs.Theorems.Spoken.{IsSpoken}
use Rattle.dr_model.proofs.Saying.Spoken.{spoken}

-- an act was answered so, in a world that was known, and leads to the one that is known then
pub record Acting (k : Mechanism) (side : Side) (before : Known) (last : World)
    (asks : Client → Act → Type 0) (answer : Answer) : Type 0 where
  pub world : World
  pub which : IsAmongKnown before world
  pub act : Act
  pub asked : asks (kept_in k world side) act
  pub fair : IsFairAct k world side act
  pub answered : (act_in k world side act).answer ≡ answer
  pub leads : (act_in k world side act).next ≡ last

module _ {X W : Type 0} (state : X → DiskState) (draws : W → DrawsState) (k : Mechanism)
    (side : Side) (a b : X) where
  pub answered_in : (before after : Known) (ran : Ran state draws k side a b before after)
      (asked : Command W) (answer : Answer) → WasAnswered ran asked answer
      → Acting k side before after.last (asked_by draws k asked).acts answer
  answered_in before after
      (acted known w which command ending lines (goes_on act asks fair on rests)) asked answer is =
      record {
        world = w;
        which = which;
        act = act;
        asked = subst (λ (c : Command W). (asked_by draws k c).acts (kept_in k w side) act) is.0 asks;
        fair = fair;
        answered = is.1;
        leads = refl;
      }
  answered_in before after
      (acted known w which command ending lines (stays_unopened refusal on)) asked answer is =
      absurd is
  answered_in before after
      (acted known w which command ending lines (stays_undrawn lacks on rests)) asked answer is =
      absurd is
  answered_in before after
      (acted known w which command ending lines (stays_refused act refusal asks fair refuses on rests))
      asked answer is = absurd is
  answered_in before after
      (acted known w which command ending lines (is_in_doubt act asks fair on)) asked answer is =
      absurd is
  answered_in before after
      (was_cut_acting known w which command now ending lines runs leaves) asked answer is =
      absurd is
  answered_in before after (showed known w which shows ending lines runs) asked answer is =
      absurd is
  answered_in before after
      (was_cut_showing known w which shows now ending lines runs leaves) asked answer is =
      absurd is
  answered_in before after
      (was_cut_shown known w which shows opened ending lines runs alone) asked answer is =
      absurd is
  answered_in before after (synced known w which kept replies result fair runs) asked answer is =
      absurd is
  answered_in before after
      (was_cut_syncing known w which kept replies now result fair runs leaves) asked answer is =
      absurd is
  answered_in before after
      (was_cut_synced known w which kept replies opened now result fair runs behind leaves) asked
      answer is =
      absurd is
  answered_in before after (stayed known w which on) asked answer is = absurd is
  answered_in before after (was_cut_staying known w which now on leaves) asked answer is = absurd is
  answered_in before after (was_left_alone known alone) asked answer is = absurd is

module _ (k : Mechanism) (side : Side) (w : World) where
  -- the packet was opened
  pub opened_in : (packet : List ℕ) (act : Act) (p : Position) → act ≡ taking packet
      → (act_in k w side act).answer ≡ Opened p
      → has_opened (view_of (act_in k w side act).next side) p ≡ true
  opened_in packet act p is answered =
      subst (λ (i : Act). has_opened (view_of (act_in k w side i).next side) p ≡ true) (sym is)
      (taken_used k w side packet p
      (subst (λ (i : Act). (act_in k w side i).answer ≡ Opened p) is answered))

  -- the text, or the part of one, was said
  pub said_in : {W : Type 0} (draws : W → DrawsState) (content : Content) (source left : W) (kept : Client)
      (act : Act) (p : Position) → SaysContent draws content source left kept act → IsLawfulWorld k w
      → IsFairAct k w side act → (act_in k w side act).answer ≡ Said p
      → IsSpoken (act_in k w side act).next.conversation side content p
  said_in draws content source left kept act p (without_seed none same) lawful fair answered =
      spoken k w side content None p lawful fair answered
  said_in draws content source left kept act p (with_seed seed needed long gave faults) lawful fair
      answered = spoken k w side content (Some seed) p lawful fair answered
