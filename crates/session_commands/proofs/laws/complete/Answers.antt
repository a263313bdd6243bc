use Rattle.command_lines.specs.Asking.{asked_content, asked_drop, asked_take}
use Rattle.session_commands.proofs.Completing.{act_completes, begin_completes, check_completes, show_completes}
use Rattle.session_commands.proofs.laws.complete.Goals as goal

pub returns-clause-says : goal.returns-clause-says
returns-clause-says g c = λ k w side content ending lines whole none accepted runs.
    act_completes g.D.Disk.state k w side
    (asked_content g.W.Draws.at content c.args.draws.now c.args.left.now) c.args.before.now c.args.after.now
    ending lines whole none accepted runs

pub returns-clause-takes : goal.returns-clause-takes
returns-clause-takes g c = λ k w side packet ending lines whole none accepted runs.
    act_completes g.D.Disk.state k w side (asked_take k packet) c.args.before.now c.args.after.now ending lines whole none
    accepted runs

pub returns-clause-drops : goal.returns-clause-drops
returns-clause-drops g c = λ k w side act ending lines whole none accepted runs.
    act_completes g.D.Disk.state k w side (asked_drop act) c.args.before.now c.args.after.now ending lines whole none accepted
    runs

pub returns-clause-shows : goal.returns-clause-shows
returns-clause-shows g c = λ k w side shows ending lines whole none runs.
    show_completes g.D.Disk.state k w side shows c.args.before.now c.args.after.now ending lines whole none runs

pub returns-clause-begins : goal.returns-clause-begins
returns-clause-begins g c = λ k begin ending lines may none runs.
    begin_completes g.D.Disk.state k begin c.args.before.now c.args.after.now ending lines may none runs

pub returns-clause-checks : goal.returns-clause-checks
returns-clause-checks g c = λ k ending lines none runs.
    check_completes g.D.Disk.state k c.args.before.now c.args.after.now ending lines none runs
