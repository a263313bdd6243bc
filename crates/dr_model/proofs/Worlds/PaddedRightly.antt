-- A packet that a session made isn't refused for its padding.
use Rattle.std.proofs.Common.{◌≢◌, ℕ, Bool, true, false, Option, Some, None, Ok, Err}
use Rattle.std.specs.Prelude.{if◌then◌else◌, length, nat_le, nat_lt}
use Rattle.dr_base.specs.Position.{is_own}
use Rattle.dr_base.specs.declared.limits.TheConstants.{INBOX_LIMIT, KEPT_LIMIT}
use Rattle.dr_base.specs.declared.position.Position.{Position}
use Rattle.dr_base.specs.declared.position.Side.{Side}
use Rattle.kem_laws.specs.Mechanism.{Mechanism}
use Rattle.session_model.specs.declared.answer.Answer.TheVariants.{Opened, Refused}
use Rattle.session_model.specs.declared.answer.Refusal.TheVariants.{BadPadding, InboxFull, OwnPacket, SkipLimit, Spent}
use Rattle.dr_model.specs.Conversations.Views.{after_opening, has_opened, missing_of}
use Rattle.dr_model.specs.Machines.Events.{does, of_position, takes}
use Rattle.dr_model.specs.Machines.Steps.{settled, step}
use Rattle.dr_model.specs.Machines.Worlds.{World, inbox_in, said_at, step_of, taking_at, view_of, with_view}

-- by what the side finds: its own packet, one that was opened, too many missing, or a full inbox
taken : (own old far full : Bool) (w : World) (p : Position) (n : ℕ) (next : World)
    → (settled w (if own then Err (OwnPacket p.epoch)
    else (if old then Err (Spent p) else (if far then Err (SkipLimit n) else (if full then Err InboxFull else Ok (step (Opened p) next)))))).answer
    ≢ Refused BadPadding
taken true old far full w p n next same = cc
taken false true far full w p n next same = cc
taken false false true full w p n next same = cc
taken false false false true w p n next same = cc
taken false false false false w p n next same = cc

at_position : (w : World) (side : Side) (o : Option Position) → (taking_at w side o).answer ≢ Refused BadPadding
at_position w side None same = cc
at_position w side (Some p) same =
    let opened = after_opening w.conversation (view_of w side) p in
    let missing = length (missing_of w.conversation opened) in
    taken (is_own side p.epoch) (has_opened (view_of w side) p) (nat_lt KEPT_LIMIT missing) (nat_le INBOX_LIMIT (length (inbox_in w side))) w p missing
    (with_view w side opened) same

pub padded_rightly : (k : Mechanism) (w : World) (side : Side) (p : Position)
    → (step_of k w (does side (takes (of_position p)))).answer ≢ Refused BadPadding
padded_rightly k w side p = at_position w side (said_at w.conversation p)
