use Rattle.std.proofs.Common.{List, arith, refl, subst, ◌+◌, ◌<◌, ◌≤◌}
use Rattle.boxes.specs.Parts.{Part}
use Rattle.long_text.specs.Cuts.{count_of}
use Rattle.session_commands.proofs.PartsCut.{parts_next, parts_none}
use Rattle.session_commands.proofs.PartRuns.{ended_quiet, left_alone, quiet_both, shown_quiet}
use Rattle.session_commands.proofs.PartsSaid.{SaidSoFar, all_were, ended_with, none_yet, one_more}
use Rattle.session_commands.specs.LongSaying.{parts_from}
use Rattle.session_commands.proofs.long_saying.say_parts.Goals as goal

pub parts-init : goal.parts-init
parts-init g c = record {
  far = none_yet g.D.Disk.state g.W.Draws.at g.K.Kem.mechanism (parts_from c.args.id c.args.text.now c.args.from)
      c.args.disk.now c.args.draws.now (g.O.Sink.at c.args.out.now);
  calm =
      left_alone g.D.Disk.state g.W.Draws.at g.K.Kem.mechanism c.args.disk.now c.args.disk.now c.args.draws.now c.args.draws.now
      refl refl;
  room = c.requires.room;
}

pub returns-in-Err-clause-runs : goal.returns-in-Err-clause-runs
returns-in-Err-clause-runs g c =
    let all = parts_from c.args.id c.args.text.now c.args.from in
    let most : c.parts.number ≤ count_of c.args.text.now = omega (arith, c.part_count-count.ensures.value) in
    let far = subst (λ (rest : List Part). SaidSoFar g.D.Disk.state g.W.Draws.at g.K.Kem.mechanism all rest
    c.args.disk.now c.parts.disk c.args.draws.now c.parts.draws (g.O.Sink.at c.args.out.now) (g.O.Sink.at c.parts.out))
    (parts_next c.args.id c.args.text.now c.parts.number c.in-Some.part most c.in-Some.ensures.value) c.parts.invariant.far in
    ended_with g.D.Disk.state g.W.Draws.at g.K.Kem.mechanism all c.args.disk.now c.args.draws.now (g.O.Sink.at c.args.out.now)
    c.in-Some.part (parts_from c.args.id c.args.text.now (c.parts.number + 1)) c.parts.disk c.say_and_show.new.disk
    c.parts.draws c.say_and_show.new.draws (g.O.Sink.at c.parts.out) (g.O.Sink.at c.say_and_show.new.out) far
    c.in-Err.status.code c.in-Err.ensures.says

pub returns-in-Err-clause-later : goal.returns-in-Err-clause-later
returns-in-Err-clause-later g c = omega (arith, c.say_and_show.ensures.later, c.parts.invariant.far.quiet)

pub returns-in-Err-clause-quiet : goal.returns-in-Err-clause-quiet
returns-in-Err-clause-quiet g c = λ zero.
    quiet_both g.D.Disk.state g.W.Draws.at g.K.Kem.mechanism c.args.disk.now c.parts.disk c.say_and_show.new.disk
    c.args.draws.now c.parts.draws c.say_and_show.new.draws c.parts.invariant.calm
    (ended_quiet g.D.Disk.state g.W.Draws.at g.K.Kem.mechanism c.in-Some.part c.parts.disk c.say_and_show.new.disk
    c.parts.draws c.say_and_show.new.draws (g.O.Sink.at c.parts.out) (g.O.Sink.at c.say_and_show.new.out)
    c.in-Err.status.code c.in-Err.ensures.says zero)

pub parts-preserved : goal.parts-preserved
parts-preserved g c =
    let all = parts_from c.args.id c.args.text.now c.args.from in
    let most : c.parts.number ≤ count_of c.args.text.now = omega (arith, c.part_count-count.ensures.value) in
    let far = subst (λ (rest : List Part). SaidSoFar g.D.Disk.state g.W.Draws.at g.K.Kem.mechanism all rest
    c.args.disk.now c.parts.disk c.args.draws.now c.parts.draws (g.O.Sink.at c.args.out.now) (g.O.Sink.at c.parts.out))
    (parts_next c.args.id c.args.text.now c.parts.number c.in-Some.part most c.in-Some.ensures.value) c.parts.invariant.far in
    record {
      far =
          one_more g.D.Disk.state g.W.Draws.at g.K.Kem.mechanism all c.args.disk.now c.args.draws.now (g.O.Sink.at c.args.out.now)
          c.in-Some.part (parts_from c.args.id c.args.text.now (c.parts.number + 1)) c.parts.disk c.say_and_show.new.disk
          c.parts.draws c.say_and_show.new.draws (g.O.Sink.at c.parts.out) (g.O.Sink.at c.say_and_show.new.out) far
          c.in-Ok.ensures.says;
      calm =
          quiet_both g.D.Disk.state g.W.Draws.at g.K.Kem.mechanism c.args.disk.now c.parts.disk c.say_and_show.new.disk
          c.args.draws.now c.parts.draws c.say_and_show.new.draws c.parts.invariant.calm
          (shown_quiet g.D.Disk.state g.W.Draws.at g.K.Kem.mechanism c.in-Some.part c.parts.disk c.say_and_show.new.disk
          c.parts.draws c.say_and_show.new.draws (g.O.Sink.at c.parts.out) (g.O.Sink.at c.say_and_show.new.out)
          c.in-Ok.ensures.says);
      room = c.say_and_show.ensures.room;
    }

pub returns-clause-runs : goal.returns-clause-runs
returns-clause-runs g c =
    let all = parts_from c.args.id c.args.text.now c.args.from in
    let past : count_of c.args.text.now < c.parts.number = omega (arith, c.part_count-count.ensures.value) in
    let far = subst (λ (rest : List Part). SaidSoFar g.D.Disk.state g.W.Draws.at g.K.Kem.mechanism all rest
    c.args.disk.now c.parts.disk c.args.draws.now c.parts.draws (g.O.Sink.at c.args.out.now) (g.O.Sink.at c.parts.out))
    (parts_none c.args.id c.args.text.now c.parts.number past) c.parts.invariant.far in
    all_were g.D.Disk.state g.W.Draws.at g.K.Kem.mechanism all c.args.disk.now c.args.draws.now (g.O.Sink.at c.args.out.now)
    c.parts.disk c.parts.draws (g.O.Sink.at c.parts.out) (g.O.Sink.at c.finish.new.out) c.finish.result.code far
    c.finish.ensures.ends

pub returns-clause-quiet : goal.returns-clause-quiet
returns-clause-quiet g c = λ zero. c.parts.invariant.calm

pub returns-clause-later : goal.returns-clause-later
returns-clause-later g c = omega (arith, c.finish.ensures.later, c.parts.invariant.far.quiet)
