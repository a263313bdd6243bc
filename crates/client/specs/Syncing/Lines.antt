-- The names of a client's boxes at a relay, and the lines of a sync.
use Rattle.std.specs.Prelude.{List, codes, decimal, ℕ, ◌++◌}
use Rattle.answer_lines.specs.Answers.{answer_text}
use Rattle.dr_base.specs.Position.{peer_of}
use Rattle.dr_base.specs.declared.position.Side.{Side}
use Rattle.dr_base.specs.declared.position.Side.TheVariants.{First, Second}
use Rattle.hex.specs.Hex.{encode_lower}
use Rattle.session_model.specs.Clients.{Client}
use Rattle.session_model.specs.declared.answer.Answer.{Answer}
use Rattle.sync_model.specs.declared.more.More.{More}
use Rattle.sync_model.specs.declared.more.More.TheVariants.{More as MoreStands, End}

-- the box of a side: the session in lower-case hex digits, a dash and the side's number
unfoldable pub box_name : List ℕ → Side → List ℕ
box_name session First = encode_lower session ++ codes "-1"
box_name session Second = encode_lower session ++ codes "-2"

-- a client's own box, and its peer's
abbrev pub own_box : Client → List ℕ
own_box kept = box_name kept.state.session kept.state.side

abbrev pub peers_box : Client → List ℕ
peers_box kept = box_name kept.state.session (peer_of kept.state.side)

-- ---- lines, each after a prefix

-- the answer to a packet
unfoldable pub answer_line : List ℕ → Answer → List ℕ
answer_line prefix answer = prefix ++ (answer_text answer ++ codes "\n")

-- the relay keeps a packet, under this number
unfoldable pub stored_line : List ℕ → ℕ → List ℕ
stored_line prefix number = prefix ++ (codes "stored " ++ decimal number ++ codes "\n")

-- the last line
unfoldable pub end_line : List ℕ → More → List ℕ
end_line prefix MoreStands = prefix ++ codes "more\n"
end_line prefix End = prefix ++ codes "end\n"
