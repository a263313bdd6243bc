use Rattle.std.proofs.Common.{[], ap, inl, inr, refl, subst, ◌∙◌}
use Rattle.boxes.specs.Parts.{Part}
use Rattle.dr_ports.specs.Ports.{appended}
use Rattle.dr_ports.specs.Writing.{TookBeginning}
use Rattle.command_lines.specs.LongLines.{said_part_line}
use Rattle.session_commands.proofs.PartRuns.{keeps_room}
use Rattle.session_commands.proofs.long_saying.say_and_show.Goals as goal

pub returns-in-Err-clause-says : goal.returns-in-Err-clause-says
returns-in-Err-clause-says g c =
    inl (record { ending = c.in-Err.ending; says = c.in-Err.ensures; ends = c.finish.ensures.ends })

pub returns-in-Err-clause-room : goal.returns-in-Err-clause-room
returns-in-Err-clause-room g c =
    keeps_room g.D.Disk.state g.W.Draws.at g.K.Kem.mechanism c.args.part.now c.args.disk.now c.say_part.new.disk
    c.args.draws.now c.say_part.new.draws c.in-Err.ending [] c.in-Err.ensures c.requires.room

pub returns-in-Err-write_said_part-clause-says : goal.returns-in-Err-write_said_part-clause-says
returns-in-Err-write_said_part-clause-says g c =
    let writes = c.in-Err-write_said_part.ensures in
    let line = ap (λ (p : Part). said_part_line c.in-Ok.position p.number p.count) c.part.view_is in
    inr (record {
      position = c.in-Ok.position;
      says = c.in-Ok.ensures;
      wrote =
          subst (TookBeginning (g.O.Sink.at c.args.out.now).taken (g.O.Sink.at c.write_said_part.new.out).taken) line
          writes.part;
      rose = writes.cause.failed;
      code_is = refl;
    })

pub returns-in-Ok-write_said_part-clause-says : goal.returns-in-Ok-write_said_part-clause-says
returns-in-Ok-write_said_part-clause-says g c =
    let writes = c.in-Ok-write_said_part.ensures in
    let line = ap (λ (p : Part). said_part_line c.in-Ok.position p.number p.count) c.part.view_is in
    record {
      position = c.in-Ok.position;
      says = c.in-Ok.ensures;
      wrote = writes.whole ∙ ap (appended (g.O.Sink.at c.args.out.now).taken) line;
      quiet = writes.cause.passed;
    }
