use Rattle.std.proofs.Common.{[], refl, subst, List, ℕ}
use Rattle.command_lines.proofs.Counting.{ended, input_code}
use Rattle.command_lines.specs.Runs.{Runs}
use Rattle.session_commands.specs.LongSaying.{SaysFrom, had_no_text, had_text}
use Rattle.session_commands.proofs.long_saying.say_long.Goals as goal

pub returns-in-Err-clause-runs : goal.returns-in-Err-clause-runs
returns-in-Err-clause-runs g c = record {
  runs = record {
    ending = c.in-Err.ending;
    lines = [];
    came = had_no_text c.in-Err.ending c.in-Err.ensures.reads.input refl refl;
    ends = c.finish.ensures.ends;
  };
  quiet = λ zero.
      absurd (input_code _ _ _ _ _ c.in-Err.ending refl c.in-Err.ensures.reads.input
      (ended c.in-Err.ending [] (g.O.Sink.at c.args.out.now) (g.O.Sink.at c.finish.new.out) c.finish.result.code zero
      c.finish.ensures.ends).0);
  later = c.finish.ensures.later;
}

pub returns-in-Ok-clause-runs : goal.returns-in-Ok-clause-runs
returns-in-Ok-clause-runs g c =
    let Says : List ℕ → Type 0 = λ text.
    Runs (SaysFrom g.D.Disk.state g.W.Draws.at g.K.Kem.mechanism c.args.id c.args.from text c.args.disk.now c.say_from.new.disk
    c.args.draws.now c.say_from.new.draws (g.O.Sink.at c.args.out.now).faults (g.O.Sink.at c.say_from.new.out).faults)
    (g.O.Sink.at c.args.out.now) (g.O.Sink.at c.say_from.new.out) c.say_from.result.code in
    let runs : Says c.in-Ok.text.items = subst Says c.as_slice.ensures.value c.say_from.ensures.runs in
    record {
      runs = record {
        ending = runs.ending;
        lines = runs.lines;
        came = had_text c.in-Ok.text.items runs.ending runs.lines c.in-Ok.ensures.reads.input runs.came;
        ends = runs.ends;
      };
      quiet = λ zero.
          let calm = c.say_from.ensures.quiet zero in (
            (calm.0, c.in-Ok.ensures.reads.input.quiet, calm.1),
            (ended runs.ending runs.lines (g.O.Sink.at c.args.out.now) (g.O.Sink.at c.say_from.new.out) c.say_from.result.code
                zero runs.ends).1,
          );
      later = c.say_from.ensures.later;
    }
