-- The lines that commands show.
use Rattle.std.specs.Prelude.{List, [], codes, decimal, flat_map, length, ℕ, ◌++◌}
use Rattle.answer_lines.specs.Answers.{position_text}
use Rattle.answer_lines.specs.Texts.{content_line, place_line}
use Rattle.boxes.specs.Posts.{Post}
use Rattle.dr_base.specs.declared.position.Side.{Side}
use Rattle.dr_base.specs.declared.position.Side.TheVariants.{First, Second}
use Rattle.hex.specs.Hex.{encode_lower}
use Rattle.session_model.specs.Clients.{Client}

-- the session's name, in hex digits
unfoldable pub session_line : List ℕ → List ℕ
session_line session = codes "session " ++ encode_lower session ++ codes "\n"

unfoldable pub side_line : Side → List ℕ
side_line First = codes "side first\n"
side_line Second = codes "side second\n"

-- a name, and a number
unfoldable pub count_line : List ℕ → ℕ → List ℕ
count_line name n = name ++ decimal n ++ codes "\n"

-- who it is: its session and its side
unfoldable pub name_lines : Client → List ℕ
name_lines kept = session_line kept.state.session ++ side_line kept.state.side

-- how far it has come: its epoch, and how many texts are missing and how many its boxes hold
unfoldable pub count_lines : Client → List ℕ
count_lines kept =
    count_line (codes "epoch ") kept.state.epoch ++ count_line (codes "missing ") (length kept.state.kept)
    ++ count_line (codes "inbox ") (length kept.inbox) ++ count_line (codes "outbox ") (length kept.outbox)

abbrev pub state_lines : Client → List ℕ
state_lines kept = name_lines kept ++ count_lines kept

-- a packet with its position
unfoldable pub packet_line : Post → List ℕ
packet_line post =
    position_text post.position ++ codes " " ++ encode_lower post.packet ++ codes "\n"

-- what an inbox holds, and the packets of an outbox, the oldest first
abbrev pub inbox_lines : Client → List ℕ
inbox_lines kept = flat_map (content_line []) kept.inbox

abbrev pub outbox_lines : Client → List ℕ
outbox_lines kept = flat_map packet_line kept.outbox

-- how many own texts wait for a receipt, and where they stand
abbrev pub awaiting_lines : Client → List ℕ
awaiting_lines kept =
    count_line (codes "awaiting ") (length kept.state.awaiting)
    ++ flat_map (place_line []) kept.state.awaiting
