use Rattle.std.proofs.Common.{◌≡◌, ◌+◌, length, sym, ◌∙◌, ap, arith}
use Rattle.std.specs.Prelude.{find}
use Rattle.long_text.specs.Longs.{bytes_of, has_number}
use Rattle.long_text.specs.Pieces.{Piece, pieces}
use Rattle.long_text.proofs.Wholes.{put_next, put_none}
use Rattle.long_text.proofs.joining.join.Goals as goal
use Rattle.long_text.proofs.joining.join.Goals.{in-Some, in_default}

pub numbers-preserved : goal.numbers-preserved
numbers-preserved c =
    let list = pieces c.args.id c.args.inbox.now in
    let i = c.numbers.i in
    let found : c.under.result ≡ find (has_number (1 + i)) list = c.under.ensures.value ∙ ap (λ n. find (has_number n) list) (let h : i + 1 ≡ 1 + i = omega arith in h) in
    elim c.match-under.branch [
      | in-Some w ↦ (
        put_next list i c.under.result c.numbers.invariant.0 found (ap bytes_of w.in-Some.is ∙ sym (ap (λ (p : Piece). p.bytes) w.piece.view_is)) w.put-at.ensures w.into-is w.at-is,
        omega (arith, w.at-is, w.put-at.ensures.next_is, c.numbers.invariant.1, w.in-Some.ensures.short, ap (λ (p : Piece). length p.bytes) w.piece.view_is),
      )
      | in_default w ↦ (
        put_none list i c.under.result c.numbers.invariant.0 found w.in_default.is w.into-is w.at-is,
        omega (arith, w.at-is, c.numbers.invariant.1),
      )
    ]
