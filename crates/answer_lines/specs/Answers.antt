-- Answers in words, as the program prints them.
use Rattle.std.specs.Prelude.{ℕ, List, [], ◌++◌, codes, decimal}
use Rattle.dr_base.specs.declared.position.Position.{Position}
use Rattle.packet.specs.declared.fault.Kind.{Kind}
use Rattle.packet.specs.declared.fault.Kind.TheVariants.{Version, Epoch, Previous, Index, Agreement, Text, Short, Long}
use Rattle.session_model.specs.declared.answer.Answer.{Answer}
use Rattle.session_model.specs.declared.answer.Answer.TheVariants.{Said, Opened, Dropped, Inbox, Awaiting, State, Seeded, Stopped, Nothing, Refused}
use Rattle.session_model.specs.declared.answer.Items.{Items}
use Rattle.session_model.specs.declared.answer.Items.TheVariants.{Packets, Texts}
use Rattle.session_model.specs.declared.answer.Refusal.{Refusal}
use Rattle.session_model.specs.declared.answer.Refusal.TheVariants.{NoParts, TextTooLong, OutboxFull, EpochFull, LastEpoch, NoPair, Malformed, OtherSession, OwnPacket, Ahead, Spent, Count, SkipLimit, BadTag, BadPadding, InboxFull, NoLong, Fewer}
use Rattle.session_model.specs.declared.answer.Summary.{Summary}
use Rattle.session_model.specs.declared.answer.Which.{Which}
use Rattle.session_model.specs.declared.answer.Which.TheVariants.{OfId, Oldest}

-- `epoch.index`
unfoldable pub position_text : Position → List ℕ
position_text p = decimal p.epoch ++ codes "." ++ decimal p.index

-- a fault's kind
unfoldable pub kind_text : Kind → List ℕ
kind_text Version = codes "Version"
kind_text Epoch = codes "Epoch"
kind_text Previous = codes "Previous"
kind_text Index = codes "Index"
kind_text Agreement = codes "Agreement"
kind_text Text = codes "Text"
kind_text Short = codes "Short"
kind_text Long = codes "Long"

-- a refusal's name and values
unfoldable pub refusal_text : Refusal → List ℕ
refusal_text NoParts = codes "NoParts"
refusal_text (TextTooLong len) = codes "TextTooLong " ++ decimal len
refusal_text OutboxFull = codes "OutboxFull"
refusal_text EpochFull = codes "EpochFull"
refusal_text LastEpoch = codes "LastEpoch"
refusal_text NoPair = codes "NoPair"
refusal_text (Malformed fault) = codes "Malformed " ++ kind_text fault.kind ++ codes " " ++ decimal fault.at
refusal_text OtherSession = codes "OtherSession"
refusal_text (OwnPacket epoch) = codes "OwnPacket " ++ decimal epoch
refusal_text (Ahead epoch reached) = codes "Ahead " ++ decimal epoch ++ codes " " ++ decimal reached
refusal_text (Spent p) = codes "Spent " ++ position_text p
refusal_text (Count claimed known) = codes "Count " ++ decimal claimed ++ codes " " ++ decimal known
refusal_text (SkipLimit would) = codes "SkipLimit " ++ decimal would
refusal_text BadTag = codes "BadTag"
refusal_text BadPadding = codes "BadPadding"
refusal_text InboxFull = codes "InboxFull"
refusal_text (Fewer held) = codes "Fewer " ++ decimal held
refusal_text NoLong = codes "NoLong"

-- what a side holds
unfoldable pub summary_text : Summary → List ℕ
summary_text s =
    codes "epoch " ++ decimal s.epoch ++ codes " missing " ++ decimal s.missing ++ codes " inbox " ++ decimal s.inbox
    ++ codes " outbox " ++ decimal s.outbox

-- the word of a call that drops items, before their number
unfoldable pub drop_word : Items → List ℕ
drop_word Packets = codes "sent "
drop_word Texts = codes "done "

-- what left a box
unfoldable pub which_text : Which → List ℕ
which_text (Oldest items n) = drop_word items ++ decimal n
which_text (OfId id) = codes "done-long " ++ decimal id

-- an answer in words
unfoldable pub answer_text : Answer → List ℕ
answer_text (Said p) = codes "said " ++ position_text p
answer_text (Opened p) = codes "opened " ++ position_text p
answer_text (Dropped which) = which_text which
answer_text (Inbox n) = codes "inbox " ++ decimal n
answer_text (Awaiting n) = codes "awaiting " ++ decimal n
answer_text (State s) = codes "state " ++ summary_text s
answer_text Seeded = []
answer_text Stopped = codes "stopped"
answer_text Nothing = codes "nothing"
answer_text (Refused r) = codes "refused " ++ refusal_text r
