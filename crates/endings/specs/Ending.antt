-- The status and the last line of each ending.
use Rattle.std.specs.Prelude.{ℕ, List, [], ◌++◌, codes, decimal}
use Rattle.answer_lines.specs.Answers.{refusal_text}
use Rattle.answer_lines.specs.Longs.{long_refusal_text}
use Rattle.endings.specs.declared.ending.Ending.{Ending}
use Rattle.endings.specs.declared.ending.Ending.TheVariants.{Done, Usage, InputTooLong, BadKey, NotHex, BadBox, BoxName, BoxKeys, BadName, NameTaken, NoName, BookFull, Twice, FanFull, PeerRefused, BadLine, NoRelayKeys, Refused, Unjoined, NoSuchPart, BoxFull, NoBox, Denied, ReadFault, DiskFault, LinkFault, DrawFault, NoSession, Exists, Damaged, DamagedArea, DamagedBookTable, DamagedBookRow, Peer, NoMemory}
use Rattle.endings.specs.PeerNames.{shown_name}
use Rattle.relay_pipe.specs.declared.faults.PeerKind.{PeerKind}
use Rattle.relay_pipe.specs.declared.faults.PeerKind.TheVariants.{Frame, Kind, Size, Wrong, Ended}

-- the status
abbrev pub code_of : Ending → ℕ
code_of Done = 0
code_of Usage = 2
code_of (InputTooLong limit) = 3
code_of BadKey = 3
code_of NotHex = 3
code_of (BadBox number) = 3
code_of (BoxName number) = 3
code_of (BoxKeys number) = 3
code_of BadName = 3
code_of NameTaken = 3
code_of NoName = 3
code_of (BookFull rows) = 3
code_of Twice = 3
code_of FanFull = 3
code_of (PeerRefused name refusal) = 3
code_of (BadLine number) = 3
code_of NoRelayKeys = 3
code_of (Refused refusal) = 3
code_of (Unjoined refusal) = 3
code_of (NoSuchPart count) = 3
code_of BoxFull = 3
code_of NoBox = 3
code_of (Denied rule) = 3
code_of ReadFault = 4
code_of DiskFault = 6
code_of LinkFault = 7
code_of DrawFault = 8
code_of NoSession = 9
code_of Exists = 10
code_of (Damaged slot at) = 11
code_of (DamagedArea area slot at) = 11
code_of (DamagedBookTable table at) = 11
code_of (DamagedBookRow row at) = 11
code_of (Peer what at) = 12
code_of NoMemory = 13

-- what is wrong with a relay's bytes
unfoldable pub peer_kind_text : PeerKind → List ℕ
peer_kind_text Frame = codes "Frame"
peer_kind_text Kind = codes "Kind"
peer_kind_text Size = codes "Size"
peer_kind_text Wrong = codes "Wrong"
peer_kind_text Ended = codes "Ended"

-- the last line without its line feed, but for the ending that has none
unfoldable pub ending_text : Ending → List ℕ
ending_text Done = []
ending_text Usage = codes "usage"
ending_text (InputTooLong limit) = codes "refused: InputTooLong " ++ decimal limit
ending_text BadKey = codes "refused: BadKey"
ending_text NotHex = codes "refused: NotHex"
ending_text (BadBox number) = codes "refused: BadBox " ++ decimal number
ending_text (BoxName number) = codes "refused: BoxName " ++ decimal number
ending_text (BoxKeys number) = codes "refused: BoxKeys " ++ decimal number
ending_text BadName = codes "refused: BadName"
ending_text NameTaken = codes "refused: NameTaken"
ending_text NoName = codes "refused: NoName"
ending_text (BookFull rows) = codes "refused: BookFull " ++ decimal rows
ending_text Twice = codes "refused: Twice"
ending_text FanFull = codes "refused: FanFull"
ending_text (PeerRefused name refusal) =
    codes "refused: Peer " ++ shown_name name ++ codes " " ++ refusal_text refusal
ending_text (BadLine number) = codes "refused: Script " ++ decimal number
ending_text NoRelayKeys = codes "refused: NoRelayKeys"
ending_text (Refused refusal) = codes "refused: " ++ refusal_text refusal
ending_text (Unjoined refusal) = codes "refused: " ++ long_refusal_text refusal
ending_text (NoSuchPart count) = codes "refused: NoSuchPart " ++ decimal count
ending_text BoxFull = codes "refused: BoxFull"
ending_text NoBox = codes "refused: Unknown"
ending_text (Denied rule) = codes "refused: Denied " ++ decimal rule
ending_text ReadFault = codes "fault: read"
ending_text DiskFault = codes "fault: disk"
ending_text LinkFault = codes "fault: link"
ending_text DrawFault = codes "fault: draws"
ending_text NoSession = codes "no session"
ending_text Exists = codes "session exists"
ending_text (Damaged slot at) = codes "damaged slot " ++ decimal slot ++ codes " at " ++ decimal at
ending_text (DamagedArea area slot at) =
    codes "damaged area " ++ decimal area ++ codes " slot " ++ decimal slot ++ codes " at " ++ decimal at
ending_text (DamagedBookTable table at) =
    codes "damaged book table " ++ decimal table ++ codes " at " ++ decimal at
ending_text (DamagedBookRow row at) =
    codes "damaged book row " ++ decimal row ++ codes " at " ++ decimal at
ending_text (Peer what at) = codes "peer: " ++ peer_kind_text what ++ codes " at " ++ decimal at
ending_text NoMemory = codes "no memory"

-- the last line: none where the command did its work
unfoldable pub last_line : Ending → List ℕ
last_line Done = []
last_line ending = ending_text ending ++ codes "\n"
