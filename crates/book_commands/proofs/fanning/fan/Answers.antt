use Rattle.std.proofs.Common.{Err, List, Ok, [], arith, refl, subst, sym, ℕ}
use Rattle.std.proofs.lemmas.List.{length-map}
use Rattle.std.specs.Borrow.{Bor}
use Rattle.dr_ports.specs.Writing.{Writes}
use Rattle.endings.specs.declared.ending.Ending.TheVariants.{Done}
use Rattle.book.proofs.Fanning.Listed.{fans_listed}
use Rattle.book_commands.specs.FanLines.{said_lines}
use Rattle.book_commands.specs.Fanning.{RunsFan, wasnt_opened}
use Rattle.book_commands.proofs.FanAdded.{texts}
use Rattle.book_commands.proofs.FanCodes.{fan_counts}
use Rattle.book_commands.proofs.FanRuns.{fan_lines, fan_runs, unadded_runs}
use Rattle.book_commands.proofs.fanning.fan.Goals as goal

pub returns-in-Err : goal.returns-in-Err
returns-in-Err g c =
    let k = g.K.Kem.mechanism in
    fan_counts g.D.Disk.state g.W.Draws.at k c.args.text.now (texts c.args.names.now) c.args.disk.now c.open.new.disk
    c.args.draws.now c.args.draws.now (g.O.Sink.at c.args.out.now) (g.O.Sink.at c.finish.new.out) c.finish.result.code
    (record {
      ending = c.unopened.result;
      lines = [];
      came =
          subst (λ e. RunsFan g.D.Disk.state g.W.Draws.at k c.args.text.now (texts c.args.names.now) c.args.disk.now
          c.open.new.disk c.args.draws.now c.args.draws.now e []) (sym c.unopened.ensures)
          (wasnt_opened c.in-Err.error (record { refused = c.in-Err.ensures.refused; memory = c.in-Err.ensures.memory })
          (record { any_moment = c.open.ensures.any_moment; reads = c.open.ensures.reads }) refl);
      ends = c.finish.ensures.ends;
    }) c.finish.ensures.later

pub returns-in-Err-add_all : goal.returns-in-Err-add_all
returns-in-Err-add_all g c =
    let k = g.K.Kem.mechanism in
    let names = texts c.args.names.now in
    fan_counts g.D.Disk.state g.W.Draws.at k c.args.text.now names c.args.disk.now c.open.new.disk
    c.args.draws.now c.args.draws.now (g.O.Sink.at c.args.out.now) (g.O.Sink.at c.finish-in-Err-add_all.new.out)
    c.finish-in-Err-add_all.result.code
    (record {
      ending = c.unadded.result;
      lines = [];
      came =
          subst (λ e. RunsFan g.D.Disk.state g.W.Draws.at k c.args.text.now names c.args.disk.now c.open.new.disk
          c.args.draws.now c.args.draws.now e []) (sym c.unadded.ensures)
          (unadded_runs g.D.Disk.state g.W.Draws.at k c.args.text.now names c.args.disk.now c.open.new.disk c.in-Ok.book
          c.in-Ok.ensures.opened c.in-Ok.ensures.quiet c.open.ensures.any_moment c.open.ensures.reads c.args.draws.now
          c.add_all.new.list c.in-Err-add_all.error c.in-Err-add_all.ensures.adds);
      ends = c.finish-in-Err-add_all.ensures.ends;
    }) c.finish-in-Err-add_all.ensures.later

pub returns-in-Err-fan : goal.returns-in-Err-fan
returns-in-Err-fan g c =
    let k = g.K.Kem.mechanism in
    let names = texts c.args.names.now in
    fan_counts g.D.Disk.state g.W.Draws.at k c.args.text.now names c.args.disk.now c.fan.new.disk
    c.args.draws.now c.fan.new.draws (g.O.Sink.at c.args.out.now) (g.O.Sink.at c.finish-in-Err-fan.new.out)
    c.finish-in-Err-fan.result.code
    (record {
      ending = c.unfanned.result;
      lines = [];
      came =
          subst (λ e. RunsFan g.D.Disk.state g.W.Draws.at k c.args.text.now names c.args.disk.now c.fan.new.disk
          c.args.draws.now c.fan.new.draws e []) (sym c.unfanned.ensures)
          (fan_runs g.D.Disk.state g.W.Draws.at k c.args.text.now names c.args.disk.now c.open.new.disk c.in-Ok.book
          c.in-Ok.ensures.opened c.in-Ok.ensures.quiet c.open.ensures.any_moment c.open.ensures.reads c.args.draws.now
          c.resting_books.ensures c.fan.new.disk (g.met.D.Disk.lawful c.fan.new.disk) c.fan.new.self c.fan.new.draws
          c.add_all.new.list c.in-Ok-add_all.ensures.adds (Err c.in-Err-fan.refusal) c.in-Err-fan.ensures);
      ends = c.finish-in-Err-fan.ensures.ends;
    }) c.finish-in-Err-fan.ensures.later

pub write_all_said-wrote-requires : goal.write_all_said-wrote-requires
write_all_said-wrote-requires g c =
    fans_listed g.D.Disk.state g.W.Draws.at g.K.Kem.mechanism c.args.text.now c.add_all.new.list c.in-Ok.book c.fan.new.self
    c.open.new.disk c.fan.new.disk c.args.draws.now c.fan.new.draws c.add_all.ensures.listed (Ok tt) c.in-Ok-fan.ensures

pub returns : goal.returns
returns g c =
    let k = g.K.Kem.mechanism in
    let names = texts c.args.names.now in
    fan_counts g.D.Disk.state g.W.Draws.at k c.args.text.now names c.args.disk.now c.fan.new.disk
    c.args.draws.now c.fan.new.draws (g.O.Sink.at c.args.out.now) (g.O.Sink.at c.finish_written.new.out)
    c.finish_written.result.code
    (record {
      ending = Done;
      lines = fan_lines c.fan.new.self.rows names c.add_all.new.list (Ok tt);
      came =
          fan_runs g.D.Disk.state g.W.Draws.at k c.args.text.now names c.args.disk.now c.open.new.disk c.in-Ok.book
          c.in-Ok.ensures.opened c.in-Ok.ensures.quiet c.open.ensures.any_moment c.open.ensures.reads c.args.draws.now
          c.resting_books.ensures c.fan.new.disk (g.met.D.Disk.lawful c.fan.new.disk) c.fan.new.self c.fan.new.draws
          c.add_all.new.list c.in-Ok-add_all.ensures.adds (Ok tt) c.in-Ok-fan.ensures;
      ends = c.finish_written.ensures.ends _ _
          (subst (λ n. Writes (g.O.Sink.at c.args.out.now) (g.O.Sink.at c.write_all_said-wrote.new.out)
          (said_lines c.fan.new.self.rows names c.add_all.new.list n) c.write_all_said-wrote.result)
          (sym (length-map {A = Bor (List ℕ)} c.args.names.now (λ w. w.now))) c.write_all_said-wrote.ensures);
    })
    (omega (arith, c.write_all_said-wrote.ensures.cause.later, c.finish_written.ensures.later))
