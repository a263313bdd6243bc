use Rattle.std.proofs.Common.{[], subst, sym}
use Rattle.book_commands.specs.Forgetting.{RunsForget, forgot_ending, forgot_lines}
use Rattle.book_commands.proofs.Forgets.{forgets, unopened_forgets}
use Rattle.book_commands.proofs.forgetting.open_and_forget.Goals as goal

pub returns-in-Err : goal.returns-in-Err
returns-in-Err g c =
    let k = g.K.Kem.mechanism in
    subst (λ e. RunsForget g.D.Disk.state k c.args.name.now c.args.disk.now c.open.new.disk e []) (sym c.unopened.ensures)
    (unopened_forgets g.D.Disk.state k c.args.name.now c.args.disk.now c.open.new.disk c.open.ensures.any_moment
    c.open.ensures.reads c.in-Err.error (record { refused = c.in-Err.ensures.refused; memory = c.in-Err.ensures.memory }))

pub returns-in-Ok : goal.returns-in-Ok
returns-in-Ok g c =
    let k = g.K.Kem.mechanism in
    subst (λ r. RunsForget g.D.Disk.state k c.args.name.now c.args.disk.now c.forget-acted.new.disk (forgot_ending r)
    (forgot_lines c.args.name.now r)) (sym c.forgotten_under.ensures)
    (forgets c.resting_books.ensures g.D.Disk.state k (c.record_law.ensures.written k) c.args.name.now c.args.disk.now
    c.open.new.disk c.forget-acted.new.disk (g.met.D.Disk.lawful c.forget-acted.new.disk) c.in-Ok.book
    c.forget-acted.new.self c.in-Ok.ensures.opened c.in-Ok.ensures.quiet c.open.ensures.any_moment c.open.ensures.reads
    c.forget-acted.result c.forget-acted.ensures.forgets)
