use Rattle.scripts.proofs.Making.{IsMaking}
use Rattle.scripts.proofs.script.Script.make.Given as goal

abbrev pub invariant-rounds : goal.invariant-rounds
invariant-rounds l = IsMaking l.fn.rounds l.fn.number l.round l.made l.text.items l.count
