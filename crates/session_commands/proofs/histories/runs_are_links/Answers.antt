use Rattle.command_lines.specs.Asking.{asked_content, asked_drop, asked_take}
use Rattle.session_commands.proofs.Linking.{acts_link, shows_link, stays_link, syncs_link}
use Rattle.session_commands.proofs.histories.runs_are_links.Goals as goal

pub returns-clause-says : goal.returns-clause-says
returns-clause-says g c = λ k law side known w which lawful content.
    acts_link k side known w which (c.client_grounds.ensures k law) (g.D.Disk.state c.args.before.now) (g.D.Disk.state c.args.after.now) lawful
    (asked_content g.W.Draws.at content c.args.draws.now c.args.left.now)

pub returns-clause-takes : goal.returns-clause-takes
returns-clause-takes g c = λ k law side known w which lawful packet.
    acts_link k side known w which (c.client_grounds.ensures k law) (g.D.Disk.state c.args.before.now) (g.D.Disk.state c.args.after.now) lawful
    (asked_take k packet)

pub returns-clause-drops : goal.returns-clause-drops
returns-clause-drops g c = λ k law side known w which lawful act.
    acts_link k side known w which (c.client_grounds.ensures k law) (g.D.Disk.state c.args.before.now) (g.D.Disk.state c.args.after.now) lawful
    (asked_drop act)

pub returns-clause-shows : goal.returns-clause-shows
returns-clause-shows g c = λ k law side known w which lawful.
    shows_link k side known w which (c.client_grounds.ensures k law) (g.D.Disk.state c.args.before.now) (g.D.Disk.state c.args.after.now) lawful

pub returns-clause-syncs : goal.returns-clause-syncs
returns-clause-syncs g c = λ k law side known w which lawful kept replies result fair.
    syncs_link k side known w which (c.client_grounds.ensures k law) (g.D.Disk.state c.args.before.now) (g.D.Disk.state c.args.after.now) lawful
    kept replies fair result

pub returns-clause-stays : goal.returns-clause-stays
returns-clause-stays g c = λ k side known w which.
    stays_link k side known w which (g.D.Disk.state c.args.before.now) (g.D.Disk.state c.args.after.now)
