use Rattle.command_lines.specs.Asking.{asked_drop, asked_say, asked_take}
use Rattle.book_commands.proofs.Others.{acts_leave, begins_leave, forgets_leave, shows_leave}
use Rattle.book_commands.proofs.laws.others_stay.Goals as goal

pub returns-clause-says : goal.returns-clause-says
returns-clause-says g c = λ k name text ending lines runs.
    acts_leave g.D.Disk.state k (c.record_law.ensures.written k) name c.args.before.now c.args.after.now
    (asked_say g.W.Draws.at text c.args.draws.now c.args.left.now) ending lines runs.acted

pub returns-clause-takes : goal.returns-clause-takes
returns-clause-takes g c = λ k name packet ending lines runs.
    acts_leave g.D.Disk.state k (c.record_law.ensures.written k) name c.args.before.now c.args.after.now
    (asked_take k packet) ending lines runs.acted

pub returns-clause-drops : goal.returns-clause-drops
returns-clause-drops g c = λ k name act ending lines runs.
    acts_leave g.D.Disk.state k (c.record_law.ensures.written k) name c.args.before.now c.args.after.now
    (asked_drop act) ending lines runs.acted

pub returns-clause-shows : goal.returns-clause-shows
returns-clause-shows g c = λ k name shows ending lines runs.
    shows_leave g.D.Disk.state k (c.record_law.ensures.written k) name c.args.before.now c.args.after.now shows ending lines runs.shown

pub returns-clause-begins : goal.returns-clause-begins
returns-clause-begins g c = λ k name begin ending lines begins.
    begins_leave g.D.Disk.state k (c.record_law.ensures.written k) name c.args.before.now c.args.after.now begin ending lines begins

pub returns-clause-forgets : goal.returns-clause-forgets
returns-clause-forgets g c = λ k name ending lines forgets.
    forgets_leave g.D.Disk.state k (c.record_law.ensures.written k) name c.args.before.now c.args.after.now ending lines forgets
