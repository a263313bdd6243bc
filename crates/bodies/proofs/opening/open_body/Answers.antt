use Rattle.std.proofs.Common.{◌≡◌, ◌∙◌, Option, Some, None, IfSome, refl, sym}
use Rattle.bodies.specs.Bodies.{Body}
use Rattle.bodies.proofs.Opened.{opened-fits, opened-padded, opened-place}
use Rattle.bodies.proofs.opening.open_body.Goals as goal

if_some : (P : Body → Type 0) (o : Option Body) → ((body : Body) → o ≡ Some body → P body) → IfSome o P
if_some P None each = tt
if_some P (Some body) each = each body refl

pub returns-in-Some-clause-place : goal.returns-in-Some-clause-place
returns-in-Some-clause-place c =
    if_some _ c.read_body.result (λ body is.
    opened-place c.args.version c.args.side c.args.bytes.now body
    (opened-padded c.args.version c.args.side c.args.bytes.now c.in-Some.text.now c.if-version-eq-PLAIN.false (sym c.in-Some.ensures)
    ∙ sym c.read_body.ensures ∙ is))

pub returns-in-Some-clause-fits : goal.returns-in-Some-clause-fits
returns-in-Some-clause-fits c padded =
    if_some _ c.read_body.result (λ body is.
    opened-fits c.args.version c.args.side c.args.bytes.now body
    (opened-padded c.args.version c.args.side c.args.bytes.now c.in-Some.text.now c.if-version-eq-PLAIN.false (sym c.in-Some.ensures)
    ∙ sym c.read_body.ensures ∙ is) padded)
