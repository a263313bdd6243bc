use Rattle.std.proofs.Common.{◌<◌, length, Some, sym, ◌∙◌, ap, arith}
use Rattle.std.specs.Prelude.{find, option_map}
use Rattle.long_text.specs.Longs.{clashes}
use Rattle.long_text.specs.Pieces.{Piece}
use Rattle.long_text.proofs.Stepping.{found_hit, found_miss, none_left, nothing_here, stepped}
use Rattle.long_text.proofs.finding.clash_after.Goals as goal
use Rattle.long_text.proofs.finding.clash_after.Goals.{in-Some+else-clash, in_default}

pub returns-then-clash : goal.returns-then-clash
returns-then-clash c =
    let at = c.later.at in
    let lt : at < length c.args.inbox.now = omega (arith, c.len-at-end.ensures.value) in
    let here = stepped c.args.id c.args.inbox.now at c.piece_at.result lt c.piece_at.ensures.value in
    ap (λ (p : Piece). Some p.position) c.second.view_is
    ∙ sym (ap (option_map (λ (p : Piece). p.position)) (found_hit (clashes c.args.first.now) _ _ c.piece_at.result c.in-Some.second here c.in-Some.is (sym c.clash.ensures ∙ c.if-clash.true)))
    ∙ ap (option_map (λ (p : Piece). p.position)) c.later.invariant

pub later-preserved : goal.later-preserved
later-preserved c =
    let at = c.later.at in
    let lt : at < length c.args.inbox.now = omega (arith, c.len-at-end.ensures.value) in
    let here = stepped c.args.id c.args.inbox.now at c.piece_at.result lt c.piece_at.ensures.value in
    elim c.match-piece_at.branch [
      | in-Some+else-clash w ↦
          found_miss (clashes c.args.first.now) _ _ c.piece_at.result w.in-Some.second here w.in-Some.is (sym w.clash.ensures ∙ w.if-clash.false) ∙ c.later.invariant
      | in_default w ↦ ap (find (clashes c.args.first.now)) (nothing_here _ _ c.piece_at.result here w.in_default.is) ∙ c.later.invariant
    ]

pub returns : goal.returns
returns c =
    sym (ap (λ list. option_map (λ (p : Piece). p.position) (find (clashes c.args.first.now) list)) (none_left c.args.id c.args.inbox.now c.later.at (omega (arith, c.len-at-end.ensures.value, c.later-test.false))))
    ∙ ap (option_map (λ (p : Piece). p.position)) c.later.invariant
