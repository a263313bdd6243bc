use Rattle.std.proofs.Common.{◌∙◌, ℕ, List, length, ap, sym, arith}
use Rattle.bodies.specs.Bodies.{Body, sealed_body}
use Rattle.bodies.specs.Padding.{padded_len}
use Rattle.bodies.proofs.Lengths.{alone_text, length-plain, length-sealed}
use Rattle.bodies.proofs.sealing.sealed_len.Goals as goal

pub returns-then-version-eq-PLAIN-clause-sealed : goal.returns-then-version-eq-PLAIN-clause-sealed
returns-then-version-eq-PLAIN-clause-sealed c =
    ap (λ (b : Body). length b.content) c.body.view_is
    ∙ sym (length-plain c.args.body.now)
    ∙ ap (λ (v : ℕ). length (sealed_body v c.args.body.now)) (sym c.if-version-eq-PLAIN.true)

pub returns-else-version-eq-PLAIN-clause-sealed : goal.returns-else-version-eq-PLAIN-clause-sealed
returns-else-version-eq-PLAIN-clause-sealed c =
    c.padded_len.ensures ∙ ap padded_len c.text_len.ensures.value
    ∙ sym (length-sealed c.args.version c.args.body.now c.if-version-eq-PLAIN.false)

pub returns-else-version-eq-PLAIN-clause-alone : goal.returns-else-version-eq-PLAIN-clause-alone
returns-else-version-eq-PLAIN-clause-alone c = λ other.
    let body = c.args.body.now in
    omega (
      arith,
      c.padded_len.ensures,
      c.text_len.ensures.value,
      c.requires,
      ap (λ (t : List ℕ). length t) (alone_text c.args.version body other),
    )
