use Rattle.command_lines.specs.Asking.{asked_content, asked_drop, asked_take}
use Rattle.session_commands.proofs.Linking.{acts_cut, stays_cut, syncs_cut}
use Rattle.session_commands.proofs.histories.crashes_are_links.Goals as goal

pub returns-clause-says : goal.returns-clause-says
returns-clause-says g c = λ k side known w which leaves content.
    acts_cut k side known w which (g.D.Disk.state c.args.before.now) (g.D.Disk.state c.args.after.now) (g.D.Disk.state c.args.crashed.now)
    (g.met.D.Disk.lawful c.args.before.now) leaves (asked_content g.W.Draws.at content c.args.draws.now c.args.left.now)

pub returns-clause-takes : goal.returns-clause-takes
returns-clause-takes g c = λ k side known w which leaves packet.
    acts_cut k side known w which (g.D.Disk.state c.args.before.now) (g.D.Disk.state c.args.after.now) (g.D.Disk.state c.args.crashed.now)
    (g.met.D.Disk.lawful c.args.before.now) leaves (asked_take k packet)

pub returns-clause-drops : goal.returns-clause-drops
returns-clause-drops g c = λ k side known w which leaves act.
    acts_cut k side known w which (g.D.Disk.state c.args.before.now) (g.D.Disk.state c.args.after.now) (g.D.Disk.state c.args.crashed.now)
    (g.met.D.Disk.lawful c.args.before.now) leaves (asked_drop act)

pub returns-clause-syncs : goal.returns-clause-syncs
returns-clause-syncs g c = λ k side known w which kept replies result fair runs leaves.
    syncs_cut k side known w which (g.D.Disk.state c.args.before.now) (g.D.Disk.state c.args.after.now) (g.D.Disk.state c.args.crashed.now)
    (g.met.D.Disk.lawful c.args.before.now) leaves kept replies result fair runs

pub returns-clause-stays : goal.returns-clause-stays
returns-clause-stays g c = λ k side known w which on leaves.
    stays_cut k side known w which (g.D.Disk.state c.args.before.now) (g.D.Disk.state c.args.after.now) (g.D.Disk.state c.args.crashed.now)
    (g.met.D.Disk.lawful c.args.before.now) leaves on
