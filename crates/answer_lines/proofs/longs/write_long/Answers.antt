use Rattle.std.proofs.Common.{◌++◌, ◌∙◌}
use Rattle.std.specs.Prelude.{codes, flat_map}
use Rattle.dr_ports.proofs.WritingLemmas.{writes_behind, writes_first}
use Rattle.answer_lines.specs.Longs.{long_head}
use Rattle.answer_lines.specs.Texts.{escaped}
use Rattle.answer_lines.proofs.Pieces.{writes_these}
use Rattle.answer_lines.proofs.longs.write_long.Goals as goal

pub returns-in-Err : goal.returns-in-Err
returns-in-Err g c =
    writes_first (g.O.Sink.at c.args.out.now) (g.O.Sink.at c.write_all.new.out) (long_head c.args.head.now c.args.id)
    (flat_map escaped c.args.text.now ++ codes "\"\n") _
    (writes_these _ _ _ _ _ (c.as_bytes.ensures ∙ c.long_head.ensures) c.in-Err.ensures)

pub returns-in-Ok : goal.returns-in-Ok
returns-in-Ok g c =
    let first = writes_these _ _ _ _ _ (c.as_bytes.ensures ∙ c.long_head.ensures) c.in-Ok.ensures in
    writes_behind (g.O.Sink.at c.args.out.now) (g.O.Sink.at c.write_all.new.out) (g.O.Sink.at c.write_rest.new.out)
    (long_head c.args.head.now c.args.id) (flat_map escaped c.args.text.now ++ codes "\"\n") _ first.whole first.cause.passed
    c.write_rest.ensures
