use Rattle.std.proofs.Common.{Err, [], refl, subst, sym}
use Rattle.session_model.specs.Contents.{text_content}
use Rattle.command_lines.specs.Asking.{asked_say}
use Rattle.command_lines.specs.Closing.{ending_by, lines_of_ending}
use Rattle.session_commands.specs.Acting.{RunsAct}
use Rattle.client.specs.Keepings.{client_keeping}
use Rattle.command_lines.proofs.Says.{say_runs}
use Rattle.session_commands.specs.Disks.{client_place}
use Rattle.session_commands.proofs.Opened.{client_fits, opened_at, opens_at, stands_at}
use Rattle.command_lines.proofs.Unopened.{unopened_runs}
use Rattle.session_commands.proofs.saying.say_text.Goals as goal

pub returns-in-Err : goal.returns-in-Err
returns-in-Err g c =
    let asked = asked_say g.W.Draws.at c.args.text.now c.args.draws.now c.args.draws.now in
    subst (λ e. RunsAct g.D.Disk.state g.K.Kem.mechanism asked c.args.disk.now c.open.new.disk e []) (sym c.unopened.ensures)
    (unopened_runs (client_place g.K.Kem.mechanism) g.D.Disk.state g.K.Kem.mechanism c.args.disk.now c.open.new.disk c.in-Err.refusal
    c.in-Err.ensures.unopened c.open.ensures.any_moment c.open.ensures.reads
    (λ w side lawful reads. stands_at g.K.Kem.mechanism w side (g.D.Disk.state c.args.disk.now) (g.D.Disk.state c.open.new.disk)
    (Err c.in-Err.refusal) (c.in-Err.ensures.in_worlds w side lawful reads)) asked refl)

pub returns-in-Ok : goal.returns-in-Ok
returns-in-Ok g c =
    let asked = asked_say g.W.Draws.at c.args.text.now c.args.draws.now c.say-acted.new.draws in
    subst (λ r. RunsAct g.D.Disk.state g.K.Kem.mechanism asked c.args.disk.now c.say-acted.new.disk (ending_by r) (lines_of_ending r))
    (sym c.said.ensures)
    (say_runs (client_place g.K.Kem.mechanism) client_keeping g.D.Disk.state g.W.Draws.at g.K.Kem.mechanism
    (text_content c.args.text.now) c.args.draws.now c.say-acted.new.draws c.args.disk.now c.open.new.disk c.say-acted.new.disk
    (g.met.D.Disk.lawful c.say-acted.new.disk) c.in-Ok.client c.say-acted.new.self (client_fits g.K.Kem.mechanism c.in-Ok.client)
    (opened_at g.K.Kem.mechanism c.in-Ok.client (g.D.Disk.state c.args.disk.now) (g.D.Disk.state c.open.new.disk)
    c.in-Ok.ensures.opened)
    c.open.ensures.any_moment c.say-acted.result c.say-acted.ensures.exact
    (λ w side lawful reads. opens_at g.K.Kem.mechanism w side c.in-Ok.client (g.D.Disk.state c.args.disk.now)
    (g.D.Disk.state c.open.new.disk) (c.in-Ok.ensures.in_worlds w side lawful reads))
    c.say-acted.ensures.in_worlds)
