use Rattle.std.specs.Prelude.{codes, flat_map}
use Rattle.dr_ports.proofs.WritingLemmas.{writes_behind, writes_first}
use Rattle.answer_lines.specs.Texts.{escaped}
use Rattle.answer_lines.proofs.longs.write_rest.Goals as goal

pub returns-in-Err : goal.returns-in-Err
returns-in-Err g c = writes_first _ _ (flat_map escaped c.args.text.now) (codes "\"\n") _ c.in-Err.ensures

pub returns-in-Ok : goal.returns-in-Ok
returns-in-Ok g c =
    writes_behind _ _ _ (flat_map escaped c.args.text.now) (codes "\"\n") _ c.in-Ok.ensures.whole c.in-Ok.ensures.cause.passed
    c.write_all.ensures
