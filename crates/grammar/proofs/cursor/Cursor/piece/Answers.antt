use Rattle.std.proofs.Common.{arith}
use Rattle.std.proofs.lemmas.Grind.{common_steps}
use Rattle.grammar.specs.Reader.{piece}
use Rattle.grammar.proofs.cursor.Cursor.piece.Goals as goal

pub returns-clause-reads : goal.returns-clause-reads
unfolding piece
returns-clause-reads c = grind (arith, common_steps)

pub returns-clause-moves : goal.returns-clause-moves
unfolding piece
returns-clause-moves c = grind (arith, common_steps)
