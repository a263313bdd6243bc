-- The refusals of a session among those of an event.
use Rattle.std.specs.Prelude.{Result, Ok, Err}
use Rattle.session_model.specs.declared.answer.Refusal.{Refusal}
use Rattle.session_model.specs.declared.answer.Refusal.TheVariants as refusal
use Rattle.session_model.specs.declared.refusals.SendRefusal.{SendRefusal}
use Rattle.session_model.specs.declared.refusals.SendRefusal.TheVariants.{NoParts, TextTooLong, EpochFull, LastEpoch}
use Rattle.session_model.specs.declared.refusals.ReceiveRefusal.{ReceiveRefusal}
use Rattle.session_model.specs.declared.refusals.ReceiveRefusal.TheVariants.{OtherSession, OwnPacket, Ahead, Spent, Count, SkipLimit, BadTag, BadPadding}

abbrev pub send_refusal : SendRefusal → Refusal
send_refusal NoParts = refusal.NoParts
send_refusal (TextTooLong len) = refusal.TextTooLong len
send_refusal EpochFull = refusal.EpochFull
send_refusal LastEpoch = refusal.LastEpoch

abbrev pub receive_refusal : ReceiveRefusal → Refusal
receive_refusal OtherSession = refusal.OtherSession
receive_refusal (OwnPacket epoch) = refusal.OwnPacket epoch
receive_refusal (Ahead epoch reached) = refusal.Ahead epoch reached
receive_refusal (Spent position) = refusal.Spent position
receive_refusal (Count claimed known) = refusal.Count claimed known
receive_refusal (SkipLimit would) = refusal.SkipLimit would
receive_refusal BadTag = refusal.BadTag
receive_refusal BadPadding = refusal.BadPadding

-- an answer whose refusal is read as one of an event
abbrev pub refused_as : {A E : Type 0} → (E → Refusal) → Result A E → Result A Refusal
refused_as of (Ok value) = Ok value
refused_as of (Err e) = Err (of e)
