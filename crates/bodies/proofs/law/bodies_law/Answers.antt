use Rattle.bodies.proofs.Sealed.{sealed-opens, sealed-only}
use Rattle.bodies.proofs.Opened.{opened-fits, opened-place}
use Rattle.bodies.proofs.law.bodies_law.Goals as goal

pub returns-clause-opens : goal.returns-clause-opens
returns-clause-opens c = sealed-opens

pub returns-clause-only : goal.returns-clause-only
returns-clause-only c = sealed-only

pub returns-clause-fits : goal.returns-clause-fits
returns-clause-fits c = opened-fits

pub returns-clause-place : goal.returns-clause-place
returns-clause-place c = opened-place
