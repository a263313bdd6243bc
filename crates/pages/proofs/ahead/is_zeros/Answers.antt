use Rattle.std.proofs.Common.{refl, sym, ◌∙◌, arith}
use Rattle.pages.proofs.ahead.is_zeros.Goals as goal

pub returns-then-page_at-ahead-clause-zeros : goal.returns-then-page_at-ahead-clause-zeros
returns-then-page_at-ahead-clause-zeros g c = λ s told. (
  λ is. (c.requires.ahead s told).past c.args.number c.requires.page (omega arith)
      (omega (arith, c.page_at.ensures)),
  λ zeros. refl,
)

pub returns-clause-zeros : goal.returns-clause-zeros
returns-clause-zeros g c = λ s told.
    let here = (c.in-Ok.ensures.ahead s told).held c.args.number c.requires.page (omega arith)
    c.in-Ok.ensures.held in
    (λ is. sym here ∙ c.is_blank_at.ensures.0 is, λ zeros. c.is_blank_at.ensures.1 (here ∙ zeros))
