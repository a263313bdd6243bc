use Rattle.session_commands.proofs.Linking.{behind_cut, shown_cut}
use Rattle.session_commands.proofs.histories.crashes_behind_are_links.Goals as goal

pub returns-clause-shows : goal.returns-clause-shows
returns-clause-shows g c = λ k law side known w which lawful alone.
    shown_cut k side known w which (c.client_grounds.ensures k law) (g.D.Disk.state c.args.before.now)
    (g.D.Disk.state c.args.opened.now) (g.D.Disk.state c.args.crashed.now) alone lawful

pub returns-clause-syncs : goal.returns-clause-syncs
returns-clause-syncs g c = λ k side known w which leaves.
    behind_cut k side known w which (g.D.Disk.state c.args.before.now) (g.D.Disk.state c.args.opened.now)
    (g.D.Disk.state c.args.after.now) (g.D.Disk.state c.args.crashed.now) (g.met.D.Disk.lawful c.args.opened.now) leaves
