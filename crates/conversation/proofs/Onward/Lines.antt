-- The line of a packet that is taken, and what a side opens with it.
use Rattle.std.proofs.Common.{Bool, Err, List, None, Ok, Option, Result, Some, [], ap, append_assoc, append-nil, false, if◌then◌else◌, length, nat_le, nat_lt, refl, sym, true, ℕ, ◌++◌, ◌==◌, ◌∙◌, ◌∷◌, ◌||◌, ◌≡◌, subst}
use Rattle.std.specs.List.{list_any, slice_split}
use Rattle.std.specs.Prelude.{All, flat_map}
use Rattle.std.proofs.lemmas.List.Elements.{All-cons, All-nil}
use Rattle.dr_base.proofs.Positions.{is_at-itself}
use Rattle.dr_base.specs.Position.{is_at, is_own}
use Rattle.dr_base.specs.declared.limits.TheConstants.{INBOX_LIMIT, KEPT_LIMIT}
use Rattle.dr_base.specs.declared.position.Position.{Position}
use Rattle.dr_base.specs.declared.position.Side.{Side}
use Rattle.dr_base.specs.declared.position.Side.TheVariants.{First, Second}
use Rattle.dr_model.specs.Conversations.Views.{View, after_drop, after_opening, has_opened, missing_of}
use Rattle.dr_model.specs.Machines.Acts.{taking}
use Rattle.dr_model.specs.Machines.Steps.{Step, leaving, settled, step}
use Rattle.dr_model.specs.Machines.WorldActs.{act_in}
use Rattle.dr_model.specs.Machines.Worlds.{World, inbox_in, made_at, standing_in, taking_in, taking_made, view_of, with_view}
use Rattle.kem_laws.specs.Mechanism.{Mechanism}
use Rattle.session_model.specs.Leaving.{enough}
use Rattle.session_model.specs.declared.answer.Answer.TheVariants.{Opened}
use Rattle.session_model.specs.declared.answer.Items.TheVariants.{Packets}
use Rattle.session_model.specs.declared.answer.Refusal.{Refusal}
use Rattle.session_model.specs.declared.answer.Refusal.TheVariants.{InboxFull, OwnPacket, SkipLimit, Spent}
use Rattle.session_model.specs.declared.answer.Which.TheVariants.{Oldest}
use Rattle.client.specs.Syncing.Lines.{answer_line}
use Rattle.client.specs.Syncing.Parties.{oldest_sent}
use Rattle.conversation.specs.Shown.{SyncLine, TellsOpened, opened, opened_in, refused}
use Rattle.conversation.proofs.Onward.Words.{opened_line_is, refused_line_is, split_lines, sync_line}

own_view : (w : World) (side : Side) (v : View) → view_of (with_view w side v) side ≡ v
own_view w First v = refl
own_view w Second v = refl

abbrev pub arrived_in : World → Side → List Position
arrived_in w side = (view_of w side).arrived

-- ---- a packet that is taken

-- ---- what was printed, from one world to another

pub record Tells (side : Side) (w v : World) (text : List ℕ) : Type 0 where
  pub printed : List SyncLine
  pub text_is : text ≡ flat_map sync_line printed
  pub arrived : arrived_in v side ≡ arrived_in w side ++ opened_in printed

or_true : (a b : Bool) → b ≡ true → (a || b) ≡ true
or_true true b is = refl
or_true false b is = is

among : (before after : List Position) (p : Position)
    → list_any (is_at p) (before ++ p ∷ after) ≡ true
among [] after p = ap (λ (b : Bool). b || list_any (is_at p) after) (is_at-itself p)
among (q ∷ before) after p =
    or_true (is_at p q) (list_any (is_at p) (before ++ p ∷ after)) (among before after p)

all_among : (before after : List Position)
    → All (λ p. list_any (is_at p) (before ++ after) ≡ true) after
all_among before [] = All-nil (λ p. list_any (is_at p) (before ++ []) ≡ true)
all_among before (p ∷ after) =
    All-cons (λ q. list_any (is_at q) (before ++ p ∷ after) ≡ true) p after (among before after p)
    (subst (λ (all : List Position). All (λ q. list_any (is_at q) all ≡ true) after)
    (append_assoc before (p ∷ []) after) (all_among (before ++ p ∷ []) after))

pub as_told : (side : Side) (w v : World) (text : List ℕ) → Tells side w v text
    → TellsOpened side w v text
as_told side w v text tells = record {
  printed = tells.printed;
  lines_are = ap (slice_split (λ b. b == 10)) tells.text_is ∙ split_lines tells.printed;
  arrived = tells.arrived;
  there = subst (λ (all : List Position). All (λ p. list_any (is_at p) all ≡ true) (opened_in tells.printed))
      (sym tells.arrived) (all_among (arrived_in w side) (opened_in tells.printed));
}

-- ---- a packet that is taken

-- the line of an answer, and what was opened with it
pub record HasLine (side : Side) (w : World) (made : Step World) : Type 0 where
  pub line : SyncLine
  pub line_is : answer_line [] made.answer ≡ sync_line line
  pub arrived : arrived_in made.next side ≡ arrived_in w side ++ opened_in (line ∷ [])

module _ (k : Mechanism) (side : Side) (w : World) where
  refused_line : (refusal : Refusal) → HasLine side w (settled w (Err refusal))
  refused_line refusal =
      record { line = refused refusal; line_is = refused_line_is refusal; arrived = sym (append-nil (arrived_in w side)) }

  opened_line : (p : Position) → HasLine side w
      (step (Opened p) (with_view w side (after_opening w.conversation (view_of w side) p)))
  opened_line p = record {
    line = opened p;
    line_is = opened_line_is p;
    arrived = ap (λ (v : View). v.arrived)
        (own_view w side (after_opening w.conversation (view_of w side) p));
  }

  line_by : (own old far full : Bool) (a b c d : Refusal) (p : Position)
      → HasLine side w (settled w (if own then Err a else (if old then Err b else (if far then Err c
      else (if full then Err d
      else Ok (step (Opened p) (with_view w side (after_opening w.conversation (view_of w side) p))))))))
  line_by true old far full a b c d p = refused_line a
  line_by false true far full a b c d p = refused_line b
  line_by false false true full a b c d p = refused_line c
  line_by false false false true a b c d p = refused_line d
  line_by false false false false a b c d p = opened_line p

  line_at : (p : Position) → HasLine side w (settled w (taking_in w side p))
  line_at p =
      let missing = length (missing_of w.conversation
      (after_opening w.conversation (view_of w side) p)) in
      line_by (is_own side p.epoch) (has_opened (view_of w side) p) (nat_lt KEPT_LIMIT missing)
      (nat_le INBOX_LIMIT (length (inbox_in w side))) (OwnPacket p.epoch) (Spent p)
      (SkipLimit missing) InboxFull p

  line_made : (bytes : List ℕ) (made : Option Position)
      → HasLine side w (settled w (taking_made k w side bytes made))
  line_made bytes None = refused_line _
  line_made bytes (Some p) = line_at p

  pub line_taken : (bytes : List ℕ) → HasLine side w (act_in k w side (taking bytes))
  line_taken bytes = line_made bytes (made_at k w bytes)

  -- ---- the oldest packet has gone

  gone_by : (check : Result Unit Refusal)
      → arrived_in (settled w (leaving (Oldest Packets 1) check
      (with_view w side (after_drop w.conversation (view_of w side) (Oldest Packets 1))))).next side
      ≡ arrived_in w side
  gone_by (Ok stand) = ap (λ (v : View). v.arrived)
      (own_view w side (after_drop w.conversation (view_of w side) (Oldest Packets 1)))
  gone_by (Err refusal) = refl

  pub sent_arrived : arrived_in (act_in k w side oldest_sent).next side ≡ arrived_in w side
  sent_arrived = gone_by (enough 1 (standing_in k w side Packets))
