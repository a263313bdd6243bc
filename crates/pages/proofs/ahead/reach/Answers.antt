use Rattle.std.proofs.Common.{refl}
use Rattle.pages.proofs.ReadAhead.{row_ahead}
use Rattle.pages.proofs.ahead.reach.Goals as goal

pub returns-clause-ahead : goal.returns-clause-ahead
returns-clause-ahead g c = λ s told. row_ahead c.args.layout c.args.number c.args.ahead.now _
    c.args.bytes.now c.read_row.new.into s (c.requires.ahead s told) refl refl
    (c.in-Ok.ensures.pages s told)
