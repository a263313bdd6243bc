-- A script that is made from a number: in each round a side says a text, or takes one of the packets that the other side made.
use Rattle.std.specs.Prelude.{ℕ, zero, suc, false, ◌+◌, ◌/◌, ◌%◌, ◌^◌, ◌==◌, nat_lt, List, [], ◌∷◌, ◌++◌, replicate, codes, decimal, if◌then◌else◌}
use Rattle.dr_base.specs.declared.position.Side.{Side}
use Rattle.dr_base.specs.declared.position.Side.TheVariants.{First, Second}
use Rattle.session_model.specs.Contents.{text_content}
use Rattle.session_model.specs.declared.answer.Amount.TheVariants.{All, Exactly}
use Rattle.session_model.specs.declared.answer.Items.TheVariants.{Packets, Texts}
use Rattle.dr_model.specs.Machines.Events.{does, drops, of_number, says, takes}
unfoldable pub use Rattle.script_parts.specs.Parts.{next_number}
use Rattle.scripts.specs.Deeds.{Deed, acts}
use Rattle.scripts.specs.Heads.{both_plain}
use Rattle.scripts.specs.Script.{Scripted}
use Rattle.scripts.specs.declared.script.KemName.TheVariants.{Open}
use Rattle.scripts.specs.declared.make.rounds.Making.{Making}
use Rattle.scripts.specs.declared.make.rounds.Turn.{Turn}
use Rattle.scripts.specs.declared.make.rounds.Turn.TheVariants.{Says, Takes, Rests}

-- ---- draws

-- a draw steps to the next number
unfoldable pub advanced : Making → Making
advanced m = record m { number = next_number m.number }

-- and is its upper 32 bits
unfoldable pub drawn : Making → ℕ
drawn m = (advanced m).number / 2 ^ 32

-- ---- one round

-- an even draw is First's
unfoldable pub side_drawn : ℕ → Side
side_drawn draw = if draw % 2 == 0 then First else Second

-- its next two bits choose what the side does
abbrev pub choice : ℕ → ℕ
choice draw = draw / 2 % 4

abbrev pub with_said : Side → Making → Making
with_said First m = record m { first = m.first + 1 }
with_said Second m = record m { second = m.second + 1 }

-- how many texts the other side has said
abbrev pub said_to : Side → Making → ℕ
said_to First m = m.second
said_to Second m = m.first

-- what a round does, and what stands after it
pub record Round : Type 0 where
  pub turn : Turn
  pub next : Making

abbrev pub saying : Side → Making → Round
saying side m = record { turn = Says side; next = with_said side m }

-- by one more draw it takes any packet of the other side's, if there is one
unfoldable pub taking : Side → Making → Round
taking side m =
    if said_to side m == 0 then record { turn = Rests; next = m }
    else record { turn = Takes side (1 + drawn m % said_to side m); next = advanced m }

-- a draw decides
unfoldable pub round_of : Making → Round
round_of m =
    if nat_lt (choice (drawn m)) 2 then saying (side_drawn (drawn m)) (advanced m)
    else taking (side_drawn (drawn m)) (advanced m)

-- the deeds of a round: what was said leaves the outbox, what was taken leaves the inbox
unfoldable pub turn_deeds : ℕ → Turn → List Deed
turn_deeds round (Says side) =
    acts (does side (says (text_content (codes "m" ++ decimal round))))
    ∷ acts (does side (drops Packets (Exactly 1))) ∷ []
turn_deeds round (Takes side nth) =
    acts (does side (takes (of_number nth))) ∷ acts (does side (drops Texts All)) ∷ []
turn_deeds round Rests = []

-- ---- a script

-- the deeds of this many rounds, of which the first has this number
unfoldable pub deeds_from : Making → ℕ → ℕ → List Deed
deeds_from m round zero = []
deeds_from m round (suc left) = turn_deeds round (round_of m).turn ++ deeds_from (round_of m).next (round + 1) left

-- before the first round
abbrev pub opening : ℕ → Making
opening number = record { number = number; first = 0; second = 0 }

unfoldable pub made_deeds : ℕ → ℕ → List Deed
made_deeds rounds number = deeds_from (opening number) 1 rounds

-- a script of this many rounds, made from a number
abbrev pub made_script : ℕ → ℕ → Scripted
made_script rounds number = record {
  kem = Open;
  key = replicate 32 0;
  formats = both_plain;
  guarded = false;
  deeds = made_deeds rounds number;
  rounds = rounds;
}
