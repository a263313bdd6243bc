use Rattle.std.proofs.Common.{◌<◌, length, Some, sym, ◌∙◌, ap, arith}
use Rattle.long_text.specs.Longs.{count_told}
use Rattle.long_text.specs.Pieces.{Piece}
use Rattle.long_text.proofs.Stepping.{here_is, none_left, nothing_here, stepped}
use Rattle.long_text.proofs.finding.count_told.Goals as goal

pub returns-in-Some-clause-value : goal.returns-in-Some-clause-value
returns-in-Some-clause-value c =
    let at = c.pieces.at in
    let lt : at < length c.args.inbox.now = omega (arith, c.len-at-end.ensures.value) in
    let here = stepped c.args.id c.args.inbox.now at c.piece_at.result lt c.piece_at.ensures.value in
    ap (λ (p : Piece). Some p.count) c.piece.view_is ∙ sym (ap count_told (here_is _ _ c.piece_at.result c.in-Some.piece here c.in-Some.is)) ∙ c.pieces.invariant

pub pieces-preserved : goal.pieces-preserved
pieces-preserved c =
    let at = c.pieces.at in
    let lt : at < length c.args.inbox.now = omega (arith, c.len-at-end.ensures.value) in
    let here = stepped c.args.id c.args.inbox.now at c.piece_at.result lt c.piece_at.ensures.value in
    ap count_told (nothing_here _ _ c.piece_at.result here c.in_default.is) ∙ c.pieces.invariant

pub returns-clause-value : goal.returns-clause-value
returns-clause-value c =
    sym (ap count_told (none_left c.args.id c.args.inbox.now c.pieces.at (omega (arith, c.len-at-end.ensures.value, c.pieces-test.false)))) ∙ c.pieces.invariant
