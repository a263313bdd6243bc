-- What playing a script made from a number comes to.
use Rattle.std.specs.Prelude.{IsNone, List, [], ℕ, ◌≡◌}
use Rattle.kem_laws.specs.Open.{open_kem}
use Rattle.session_model.specs.Schedule.{agreement_seed}
use Rattle.session_model.specs.declared.answer.Refusal.TheVariants.{NoPair}
use Rattle.scripts.specs.Make.{made_script}
use Rattle.duet.specs.Summary.{summary_lines}
use Rattle.duet.specs.Tally.{tally_in, tally_of}
use Rattle.duet.specs.declared.tally.Tally.{Tally}
use Rattle.endings.specs.declared.ending.Ending.{Ending}
use Rattle.endings.specs.declared.ending.Ending.TheVariants.{Done, NoMemory, Refused}

-- the numbers of what both sides answer, and of what they keep; and these are the machine's
pub record IsTallyOf (rounds number : ℕ) (tally : Tally) : Type 0 where
  pub tally_is : tally ≡ tally_of open_kem (made_script rounds number)
  pub machine_is : tally ≡ tally_in open_kem (made_script rounds number)

-- the same in lines
pub record IsSummaryOf (rounds number : ℕ) (lines : List ℕ) : Type 0 where
  pub lines_are : lines ≡ summary_lines (tally_of open_kem (made_script rounds number))
  pub machine_is : lines ≡ summary_lines (tally_in open_kem (made_script rounds number))

-- The lines are those of what both sides answer, in numbers, and the machine's. Without memory, or where the key of zeros gives
-- no pair, there are none.
abbrev pub PlaysMade : ℕ → ℕ → Ending → List ℕ → Type 0
PlaysMade rounds number Done lines = IsSummaryOf rounds number lines
PlaysMade rounds number NoMemory lines = lines ≡ []
PlaysMade rounds number (Refused refusal) lines =
    (lines ≡ []) × (refusal ≡ NoPair) × IsNone (open_kem.meaning.pair_of (agreement_seed (made_script rounds number).key))
PlaysMade rounds number _ lines = ⊥
