use Rattle.client.proofs.cores.reading.RecordReader.into_core.Goals as goal

pub invariant_of-result : goal.invariant_of-result
invariant_of-result g c = c.requires.lawful c.in-Some.session c.in-Some.is
