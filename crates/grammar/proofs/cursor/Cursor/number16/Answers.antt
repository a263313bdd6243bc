use Rattle.std.proofs.Common.{arith}
use Rattle.std.proofs.lemmas.Grind.{common_steps}
use Rattle.grammar.specs.Reader.{number, piece}
use Rattle.grammar.proofs.cursor.Cursor.number16.Goals as goal

pub returns-clause-reads : goal.returns-clause-reads
unfolding number piece
returns-clause-reads c = grind (arith, common_steps)
