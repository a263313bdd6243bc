-- A long text that couldn't be joined.
use Rattle.std.proofs.Common.{Err, List, Ok, Result, [], subst, ℕ}
use Rattle.dr_ports.specs.States.{SinkState}
use Rattle.endings.specs.Ends.{Ends}
use Rattle.endings.specs.declared.ending.Ending.TheVariants.{Unjoined}
use Rattle.long_text.specs.Seen.{Fills}
use Rattle.long_text.specs.declared.refusal.LongRefusal.{LongRefusal}
use Rattle.command_lines.specs.LongLines.{ending_joined, lines_joined}

-- the last line says why
pub ends_unjoined : (before room : List ℕ) (id : ℕ) (joined : Result (List ℕ) LongRefusal) (old new : SinkState) (code : ℕ)
    (refusal : LongRefusal) → Fills before room (Err refusal) joined → Ends (Unjoined refusal) [] old new code
    → Ends (ending_joined joined) (lines_joined id joined) old new code
ends_unjoined before room id (Ok text) old new code refusal fills ends = absurd fills
ends_unjoined before room id (Err other) old new code refusal fills ends =
    subst (λ r. Ends (Unjoined r) [] old new code) fills.0 ends
