use Rattle.book.specs.Fans.{AreListed}
use Rattle.book_commands.specs.Fanning.{AreAdded}
use Rattle.book_commands.proofs.FanAdded.{texts}
use Rattle.book_commands.proofs.fanning.add_all.Given as goal

-- the sessions of the names so far
abbrev pub invariant-names : goal.invariant-names
invariant-names g l = record {
  added : AreAdded (texts l.names) l.book.rows l.i l.list;
  listed : AreListed l.book.rows l.list;
}
