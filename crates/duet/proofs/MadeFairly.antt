-- A script that is made from a number gives no seed and makes up no bytes.
use Rattle.std.proofs.Common.{ℕ, zero, suc, ◌+◌, List, [], ◌∷◌, ◌++◌}
use Rattle.std.specs.Prelude.{All}
use Rattle.std.proofs.lemmas.List.Elements.{All-append, All-cons, All-nil}
use Rattle.kem_laws.specs.Mechanism.{Mechanism}
use Rattle.duet.specs.Outcomes.{WorldBeside}
use Rattle.scripts.specs.Deeds.{Deed, HasWholeSeed}
use Rattle.scripts.specs.Make.{deeds_from, made_deeds, made_script, opening, round_of, turn_deeds}
use Rattle.duet.specs.Trace.{IsUnforgedPlay, IsUnforgedScript, beginning_in}
use Rattle.scripts.specs.declared.make.rounds.Making.{Making}
use Rattle.scripts.specs.declared.make.rounds.Turn.{Turn}
use Rattle.scripts.specs.declared.make.rounds.Turn.TheVariants.{Says, Takes, Rests}

-- ---- seeds

both_whole : (x y : Deed) → HasWholeSeed x → HasWholeSeed y → All HasWholeSeed (x ∷ y ∷ [])
both_whole x y h i = All-cons HasWholeSeed x (y ∷ []) h (All-cons HasWholeSeed y [] i (All-nil HasWholeSeed))

turn_whole : (round : ℕ) (turn : Turn) → All HasWholeSeed (turn_deeds round turn)
unfolding turn_deeds
turn_whole round (Says side) = both_whole _ _ tt tt
turn_whole round (Takes side nth) = both_whole _ _ tt tt
turn_whole round Rests = All-nil HasWholeSeed

whole_from : (m : Making) (round left : ℕ) → All HasWholeSeed (deeds_from m round left)
unfolding deeds_from
whole_from m round zero = All-nil HasWholeSeed
whole_from m round (suc left) =
    All-append HasWholeSeed (turn_deeds round (round_of m).turn) (deeds_from (round_of m).next (round + 1) left) (turn_whole round (round_of m).turn)
    (whole_from (round_of m).next (round + 1) left)

pub made_whole : (rounds number : ℕ) → All HasWholeSeed (made_deeds rounds number)
unfolding made_deeds
made_whole rounds number = whole_from (opening number) 1 rounds

-- ---- bytes

turn_fair : (k : Mechanism) (s : WorldBeside) (round : ℕ) (turn : Turn) (more : List Deed)
    → ((next : WorldBeside) → IsUnforgedPlay k next more)
    → IsUnforgedPlay k s (turn_deeds round turn ++ more)
unfolding turn_deeds
turn_fair k s round (Says side) more later = (tt, (tt, later _))
turn_fair k s round (Takes side nth) more later = (tt, (tt, later _))
turn_fair k s round Rests more later = later s

fair_from : (k : Mechanism) (s : WorldBeside) (m : Making) (round left : ℕ) → IsUnforgedPlay k s (deeds_from m round left)
unfolding deeds_from
fair_from k s m round zero = tt
fair_from k s m round (suc left) =
    turn_fair k s round (round_of m).turn (deeds_from (round_of m).next (round + 1) left)
    (λ next. fair_from k next (round_of m).next (round + 1) left)

pub made_fair : (k : Mechanism) (rounds number : ℕ) → IsUnforgedScript k (made_script rounds number)
unfolding made_deeds
made_fair k rounds number = fair_from k (beginning_in k (made_script rounds number)) (opening number) 1 rounds
