use Rattle.std.proofs.Common.{◌≡◌, ◌≢◌, ◌<◌, length, sym, ◌∙◌, ap, arith}
use Rattle.std.specs.Prelude.{find}
use Rattle.std.proofs.lemmas.Bool.Decides.{Decides-eqb}
use Rattle.long_text.specs.Longs.{has_number}
use Rattle.long_text.specs.Pieces.{Piece}
use Rattle.long_text.proofs.Stepping.{differ, found_hit, found_miss, none_left, nothing_here, stepped}
use Rattle.long_text.proofs.finding.under.Goals as goal
use Rattle.long_text.proofs.finding.under.Goals.{in-Some+else-piece-number, in_default}

pub returns-then-piece-number-clause-value : goal.returns-then-piece-number-clause-value
returns-then-piece-number-clause-value c =
    let at = c.pieces.at in
    let lt : at < length c.args.inbox.now = omega (arith, c.len-at-end.ensures.value) in
    let here = stepped c.args.id c.args.inbox.now at c.piece_at.result lt c.piece_at.ensures.value in
    let number : c.in-Some.piece.number ≡ c.args.number = sym (ap (λ (p : Piece). p.number) c.piece.view_is) ∙ c.if-piece-number.true in
    sym (found_hit (has_number c.args.number) _ _ c.piece_at.result c.in-Some.piece here c.in-Some.is ((Decides-eqb _ _).1 number)) ∙ c.pieces.invariant

pub pieces-preserved : goal.pieces-preserved
pieces-preserved c =
    let at = c.pieces.at in
    let lt : at < length c.args.inbox.now = omega (arith, c.len-at-end.ensures.value) in
    let here = stepped c.args.id c.args.inbox.now at c.piece_at.result lt c.piece_at.ensures.value in
    elim c.match-piece_at.branch [
      | in-Some+else-piece-number w ↦
          let other : w.in-Some.piece.number ≢ c.args.number = λ same. w.if-piece-number.false (ap (λ (p : Piece). p.number) w.piece.view_is ∙ same) in
          found_miss (has_number c.args.number) _ _ c.piece_at.result w.in-Some.piece here w.in-Some.is (differ other) ∙ c.pieces.invariant
      | in_default w ↦ ap (find (has_number c.args.number)) (nothing_here _ _ c.piece_at.result here w.in_default.is) ∙ c.pieces.invariant
    ]

pub returns-clause-value : goal.returns-clause-value
returns-clause-value c =
    sym (ap (find (has_number c.args.number)) (none_left c.args.id c.args.inbox.now c.pieces.at (omega (arith, c.len-at-end.ensures.value, c.pieces-test.false)))) ∙ c.pieces.invariant
