use Rattle.std.proofs.Common.{◌≡◌, ◌+◌, true, false, length, sym, ◌∙◌, ap, arith}
use Rattle.std.specs.Prelude.{filter, find, is_some}
use Rattle.std.specs.List.{list_any, range_with_len}
use Rattle.boxes.specs.declared.limits.TheConstants.{PARTS_LIMIT}
use Rattle.long_text.specs.Longs.{has_number}
use Rattle.long_text.specs.Pieces.{pieces}
use Rattle.long_text.proofs.Wholes.{had_next}
use Rattle.long_text.proofs.finding.numbers_had.Goals as goal
use Rattle.long_text.proofs.finding.numbers_had.Goals.{then-is_some, else-is_some}

pub numbers-preserved : goal.numbers-preserved
numbers-preserved c =
    let list = pieces c.args.id c.args.inbox.now in
    let i = c.numbers.i in
    let found : is_some c.under.result ≡ is_some (find (has_number (1 + i)) list) = ap is_some (c.under.ensures.value ∙ ap (λ n. find (has_number n) list) (let h : i + 1 ≡ 1 + i = omega arith in h)) in
    elim c.if-is_some.branch [
      | then-is_some w ↦
          let next = had_next list i true (sym found ∙ sym c.is_some.ensures ∙ w.if-is_some.true) in
          (omega (arith, w.had-is, c.numbers.invariant.0, next), omega (arith, w.had-is, c.numbers.invariant.1))
      | else-is_some w ↦
          let next = had_next list i false (sym found ∙ sym c.is_some.ensures ∙ w.if-is_some.false) in
          (omega (arith, w.had-is, c.numbers.invariant.0, next), omega (arith, w.had-is, c.numbers.invariant.1))
    ]

pub returns : goal.returns
returns c =
    c.numbers.invariant.0 ∙ ap (λ i. length (filter (λ n. list_any (has_number n) (pieces c.args.id c.args.inbox.now)) (range_with_len 1 i)))
    (let h : c.numbers.i ≡ PARTS_LIMIT = omega (arith, c.numbers-test.false, c.numbers.auto.i-end) in h)
