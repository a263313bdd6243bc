use Rattle.dr_disk.specs.MemoryDisks.{state_of}
use Rattle.hub.proofs.Refused.{only_memory}
use Rattle.hub.proofs.Reopened.{read_sessions}
use Rattle.hub.proofs.opening.opened.Goals as goal

pub want_of_memory-requires : goal.want_of_memory-requires
want_of_memory-requires g c =
    let holds = c.requires.holds in
    only_memory c.record_law.ensures.written g.K.Kem.mechanism c.args.rows holds.0 (state_of c.args.disk.now)
    (state_of c.open.new.disk) holds.1 c.in-Err.error c.in-Err.ensures.refused
    (c.in-Err.ensures.fate c.requires.passes).0

pub returns-in-Ok-clause-rows : goal.returns-in-Ok-clause-rows
returns-in-Ok-clause-rows g c = λ sessions holds.
    read_sessions c.record_law.ensures.written g.K.Kem.mechanism c.args.rows sessions (state_of c.args.disk.now) holds
    c.in-Ok.book.rows c.in-Ok.ensures.opened.places (c.in-Ok.ensures.opened.read holds.bytes holds.told)

pub returns-in-Ok-clause-held : goal.returns-in-Ok-clause-held
returns-in-Ok-clause-held g c =
    let opened = c.in-Ok.ensures.opened in record {
      is_open = (opened.is_open, opened.ready);
      count = opened.count;
      passes = (c.in-Ok.ensures.fate c.requires.passes).1;
    }
