use Rattle.session_commands.proofs.Linking.{reads_one}
use Rattle.session_commands.proofs.Wholeness.{reads_whole}
use Rattle.session_commands.proofs.histories.reads_known.Goals as goal

pub returns-clause-known : goal.returns-clause-known
returns-clause-known g c = λ k side first known.
    reads_one k side first known (g.D.Disk.state c.args.disk.now) (g.met.D.Disk.lawful c.args.disk.now)

pub returns-clause-whole : goal.returns-clause-whole
returns-clause-whole g c = λ k side first known bytes lawful_first still whole told.
    let disk = g.D.Disk.state c.args.disk.now in
    let lawful = g.met.D.Disk.lawful c.args.disk.now in
    let found = reads_one k side first known disk lawful bytes lawful_first still told in
    (found.0, found.1, reads_whole k found.0 side disk lawful whole found.2 found.3)
