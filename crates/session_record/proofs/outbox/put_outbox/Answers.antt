use Rattle.session_record.proofs.outbox.put_outbox.Goals as goal

pub put_more-requires-clause-room : goal.put_more-requires-clause-room
put_more-requires-clause-room g c = rw c.in-Said.is at c.requires.room

pub returns-in-Said : goal.returns-in-Said
returns-in-Said g c = rw c.in-Said.is c.put_more.ensures
