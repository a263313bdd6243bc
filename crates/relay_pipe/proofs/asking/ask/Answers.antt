use Rattle.relay_wire.specs.Seen.{asked_of}
use Rattle.relay_pipe.proofs.Asked.{refused}
use Rattle.relay_pipe.proofs.asking.ask.Goals as goal

pub returns-in-Err-read_next-clause-asks : goal.returns-in-Err-read_next-clause-asks
returns-in-Err-read_next-clause-asks g c =
    refused (asked_of c.args.request.now) c.exchange.new.reader (g.P.Pipe.port c.args.pipe.now) (g.P.Pipe.port c.exchange.new.pipe)
    c.in-Ok.ensures.pulled c.in-Err-read_next.bad c.fault_of.result c.fault_of.ensures c.in-Err-read_next.ensures.bad
