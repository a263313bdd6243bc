use Rattle.bodies.proofs.Covered.{receipt-lawful, covered-opened}
use Rattle.bodies.proofs.Enough.{all-covered, first-covered}
use Rattle.bodies.proofs.law.receipts_law.Goals as goal

pub returns-clause-lawful : goal.returns-clause-lawful
returns-clause-lawful c = receipt-lawful

pub returns-clause-covers : goal.returns-clause-covers
returns-clause-covers c = covered-opened

pub returns-clause-covers_all : goal.returns-clause-covers_all
returns-clause-covers_all c = all-covered

pub returns-clause-covers_first : goal.returns-clause-covers_first
returns-clause-covers_first c = first-covered
