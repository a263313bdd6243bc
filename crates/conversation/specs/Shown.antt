-- What a side's program showed: of what the side keeps, and of a sync.
use Rattle.std.specs.List.{slice_split}
use Rattle.std.specs.Prelude.{All, List, [], codes, decimal, map, true, ℕ, ◌++◌, ◌==◌, ◌∷◌, ◌≡◌}
use Rattle.answer_lines.specs.Answers.{position_text, refusal_text}
use Rattle.dr_base.specs.declared.position.Position.{Position}
use Rattle.dr_base.specs.declared.position.Side.{Side}
use Rattle.dr_model.specs.Conversations.Views.{has_opened}
use Rattle.dr_model.specs.Machines.WorldSides.{kept_in}
use Rattle.dr_model.specs.Machines.Worlds.{World, view_of}
use Rattle.endings.specs.declared.ending.Ending.{Ending}
use Rattle.endings.specs.declared.ending.Ending.TheVariants.{Done}
use Rattle.kem_laws.specs.Mechanism.{Mechanism}
use Rattle.session_model.specs.Clients.{Client}
use Rattle.session_model.specs.declared.answer.Refusal.{Refusal}
use Rattle.sync_model.specs.declared.more.More.{More}
use Rattle.sync_model.specs.declared.more.More.TheVariants.{End, More as MoreStands}
use Rattle.client.specs.Moments.{IsAmongKnown, Known}
use Rattle.conversation.specs.Joints.{Joint, cut_off}

-- what was shown is what the side keeps in the world of both, and nothing that it did is in doubt
pub record IsShown (k : Mechanism) (side : Side) (next : Joint) (shows : Client → List ℕ)
    (lines : List ℕ) : Type 0 where
  pub printed : lines ≡ shows (kept_in k next.world side)
  pub settled : cut_off next side ≡ []

-- ---- a sync

-- a line that a sync prints: a packet was opened, under this position, or refused; the relay keeps
-- one of the side's, under this number; or the sync has come to its end
pub data SyncLine : Type 0 where
  opened : (p : Position) → SyncLine
  refused : (refusal : Refusal) → SyncLine
  stored : (number : ℕ) → SyncLine
  ended : (which : More) → SyncLine

abbrev pub sync_words : SyncLine → List ℕ
sync_words (opened p) = codes "opened " ++ position_text p
sync_words (refused refusal) = codes "refused " ++ refusal_text refusal
sync_words (stored number) = codes "stored " ++ decimal number
sync_words (ended MoreStands) = codes "more"
sync_words (ended End) = codes "end"

-- the positions that lines say were opened
abbrev pub opened_in : List SyncLine → List Position
opened_in [] = []
opened_in (opened p ∷ lines) = p ∷ opened_in lines
opened_in (refused refusal ∷ lines) = opened_in lines
opened_in (stored number ∷ lines) = opened_in lines
opened_in (ended which ∷ lines) = opened_in lines

-- What a sync printed, from one world of the conversation to another: split at its line feeds, the
-- text is the words of these lines and nothing behind the last. What they say was opened is just what
-- the side opened meanwhile, in that order, and is opened then.
pub record TellsOpened (side : Side) (w v : World) (text : List ℕ) : Type 0 where
  pub printed : List SyncLine
  pub lines_are : slice_split (λ b. b == 10) text ≡ map sync_words printed ++ [] ∷ []
  pub arrived : (view_of v side).arrived ≡ (view_of w side).arrived ++ opened_in printed
  pub there : All (λ p. has_opened (view_of v side) p ≡ true) (opened_in printed)

-- A sync read one of the worlds that were known, and what it printed tells of the steps from that
-- world to the one of both. Where it was done, nothing that the side did is in doubt.
pub record HasSynced (side : Side) (before : Known) (next : Joint) (ending : Ending)
    (text : List ℕ) : Type 0 where
  pub read : World
  pub known : IsAmongKnown before read
  pub tells : TellsOpened side read next.world text
  pub settled : ending ≡ Done → cut_off next side ≡ []
