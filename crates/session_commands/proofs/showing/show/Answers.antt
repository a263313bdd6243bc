use Rattle.std.proofs.Common.{arith, subst}
use Rattle.command_lines.specs.Listings.{lines_of}
use Rattle.dr_ports.specs.Writing.{Writes}
use Rattle.endings.specs.declared.ending.Ending.TheVariants.{Done}
use Rattle.session_model.specs.Clients.{Client}
use Rattle.session_commands.proofs.Told.{tells_opened, tells_unopened}
use Rattle.session_commands.proofs.showing.show.Goals as goal

pub returns-in-Err : goal.returns-in-Err
returns-in-Err g c =
    tells_unopened g.D.Disk.state g.K.Kem.mechanism (λ kept. Done) (lines_of c.args.listing) c.args.disk.now c.open.new.disk
    (g.O.Sink.at c.args.out.now) (g.O.Sink.at c.finish.new.out) c.finish.result.code
    c.in-Err.refusal c.in-Err.ensures.unopened c.open.ensures.any_moment c.open.ensures.reads c.in-Err.ensures.in_worlds
    c.unopened.result c.unopened.ensures c.finish.ensures.ends c.finish.ensures.later

pub returns-in-Ok : goal.returns-in-Ok
returns-in-Ok g c =
    tells_opened g.D.Disk.state g.K.Kem.mechanism (λ kept. Done) (lines_of c.args.listing) c.args.disk.now c.open.new.disk
    (g.O.Sink.at c.args.out.now) (g.O.Sink.at c.finish_written.new.out) c.finish_written.result.code
    (g.met.D.Disk.lawful c.open.new.disk) c.in-Ok.client c.in-Ok.ensures.opened c.open.ensures.any_moment
    c.in-Ok.ensures.still c.in-Ok.ensures.in_worlds
    (c.finish_written.ensures.ends _ _
    (subst (λ (kept : Client). Writes (g.O.Sink.at c.args.out.now) (g.O.Sink.at c.write_listing-wrote.new.out) (lines_of c.args.listing kept) c.write_listing-wrote.result)
    c.core.ensures c.write_listing-wrote.ensures))
    (omega (arith, c.write_listing-wrote.ensures.cause.later, c.finish_written.ensures.later))
