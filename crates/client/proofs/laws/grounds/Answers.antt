use Rattle.client.proofs.laws.grounds.Goals as goal

pub returns : goal.returns
returns g c = c.client_grounds.ensures g.K.Kem.mechanism c.laws.ensures.law
