-- The lines of a hub's fan.
use Rattle.std.specs.Prelude.{Bool, Err, IsNone, List, Ok, Result, [], codes, if◌then◌else◌, is_some, suc, zero, ℕ, ⊤, ◌++◌, ◌≡◌}
use Rattle.answer_lines.specs.Answers.{answer_text}
use Rattle.book_model.specs.Rows.{Rows, under}
use Rattle.dr_base.specs.Position.{position_at}
use Rattle.kem_laws.specs.Mechanism.{Mechanism}
use Rattle.session_model.specs.Clients.{Client}
use Rattle.session_model.specs.Schedule.{agreement_seed}
use Rattle.session_model.specs.declared.answer.Answer.{Answer}
use Rattle.session_model.specs.declared.answer.Answer.TheVariants.{Nothing, Opened}
use Rattle.hub.specs.Peers.{LacksPair, peer_key, peer_name}
use Rattle.hub.specs.Receiving.{answer_of, first_post}
use Rattle.hub.specs.declared.playing.FanPlayError.{FanPlayError}
use Rattle.hub.specs.declared.playing.FanPlayError.TheVariants.{Memory, NoPair}

-- a peer's line: its name, and what it answers
unfoldable pub peer_line : ℕ → Answer → List ℕ
peer_line number answer =
    peer_name number ++ codes " " ++ answer_text answer ++ codes "\n"

-- the lines of the first peers, over what rows have for them
abbrev pub peer_lines : Mechanism → Rows Client → ℕ → List ℕ
peer_lines k rows zero = []
peer_lines k rows (suc number) =
    peer_lines k rows number ++ peer_line (suc number) (answer_of k (suc number) rows)

-- the first peer's session has said the text
abbrev pub has_said : Rows Client → Bool
has_said rows = is_some (first_post (under (peer_name 1) rows))

-- the line before them: the fan was acknowledged, or whether all say the text, as recovered
abbrev pub first_line : Bool → Bool → List ℕ
first_line acknowledged said =
    if acknowledged then codes "answered\n"
    else (if said then codes "after\n" else codes "before\n")

abbrev pub end_line : Bool → Rows Client → List ℕ
end_line acknowledged rows = first_line acknowledged (has_said rows)

abbrev pub fan_lines : Mechanism → ℕ → Bool → Rows Client → List ℕ
fan_lines k peers acknowledged rows =
    end_line acknowledged rows ++ peer_lines k rows peers

-- ---- outright, by whether all sessions say the text, or none does

-- each peer opens the packet of the first text that is said to it; or there is no packet
abbrev pub told_answer : Bool → Answer
told_answer said = if said then Opened (position_at 1 1) else Nothing

abbrev pub told_peers : Bool → ℕ → List ℕ
told_peers said zero = []
told_peers said (suc number) =
    told_peers said number ++ peer_line (suc number) (told_answer said)

abbrev pub told_lines : ℕ → Bool → Bool → List ℕ
told_lines peers acknowledged said = first_line acknowledged said ++ told_peers said peers

-- ---- they are put after what stands

abbrev pub PutsPeer : Mechanism → ℕ → Rows Client → List ℕ → List ℕ → Result Unit FanPlayError
    → Type 0
PutsPeer k number rows old new (Ok u) = new ≡ old ++ peer_line number (answer_of k number rows)
PutsPeer k number rows old new (Err NoPair) =
    IsNone (k.meaning.pair_of (agreement_seed (peer_key number).bytes))
PutsPeer k number rows old new (Err Memory) = ⊤
PutsPeer k number rows old new (Err _) = ⊥

abbrev pub PutsLines : Mechanism → ℕ → Bool → Rows Client → List ℕ → Result Unit FanPlayError
    → Type 0
PutsLines k peers acknowledged rows new (Ok u) = new ≡ fan_lines k peers acknowledged rows
PutsLines k peers acknowledged rows new (Err NoPair) = LacksPair k peers
PutsLines k peers acknowledged rows new (Err Memory) = ⊤
PutsLines k peers acknowledged rows new (Err _) = ⊥
