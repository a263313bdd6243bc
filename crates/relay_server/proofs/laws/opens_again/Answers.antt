use Rattle.relay_server.proofs.Reopening.{opens_again, stands_opening}
use Rattle.relay_server.proofs.Replacing.{ready_stands}
use Rattle.relay_server.proofs.laws.opens_again.Goals as goal

pub returns-clause-at_rest : goal.returns-clause-at_rest
returns-clause-at_rest g c = λ server ready. ready_stands server (g.D.Disk.state c.args.before.now) ready c.resting.ensures

pub returns-clause-opening : goal.returns-clause-opening
returns-clause-opening g c = λ boxes image stood. stands_opening boxes (g.D.Disk.state c.args.before.now) image stood

pub returns-clause-opens : goal.returns-clause-opens
returns-clause-opens g c = λ boxes reads. opens_again boxes (g.D.Disk.state c.args.before.now) (g.D.Disk.state c.args.after.now) reads
