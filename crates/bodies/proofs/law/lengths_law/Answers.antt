use Rattle.bodies.proofs.Lengths.{alone_text, length-plain, length-receipt, length-sealed, length-told}
use Rattle.bodies.proofs.law.lengths_law.Goals as goal

pub returns-clause-plain : goal.returns-clause-plain
returns-clause-plain c = length-plain

pub returns-clause-padded : goal.returns-clause-padded
returns-clause-padded c = length-sealed

pub returns-clause-alone : goal.returns-clause-alone
returns-clause-alone c = alone_text

pub returns-clause-told : goal.returns-clause-told
returns-clause-told c = length-told

pub returns-clause-receipt : goal.returns-clause-receipt
returns-clause-receipt c = length-receipt
