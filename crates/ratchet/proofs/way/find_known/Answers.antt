use Rattle.ratchet.proofs.LawfulKept.{lawful_without}
use Rattle.ratchet.proofs.way.find_known.Goals as goal

pub returns-in-None-take-clause-state : goal.returns-in-None-take-clause-state
returns-in-None-take-clause-state g c = lawful_without _ _ c.args.position _ c.requires.state c.take.ensures.rest

pub returns-in-Some-take-clause-state : goal.returns-in-Some-take-clause-state
returns-in-Some-take-clause-state g c = lawful_without _ _ c.args.position _ c.requires.state c.take.ensures.rest
