use Rattle.std.proofs.Common.{◌≡◌, ◌+◌, ◌<◌, length, drop, Option, None, Some, refl, sym, ◌∙◌, ap, arith}
use Rattle.std.specs.Prelude.{find, option_map}
use Rattle.dr_base.specs.declared.position.Position.{Position}
use Rattle.long_text.specs.Longs.{clash_in, clash_of, clashes}
use Rattle.long_text.specs.Pieces.{Piece, pieces}
use Rattle.long_text.specs.declared.refusal.LongRefusal.{LongRefusal}
use Rattle.long_text.specs.declared.refusal.LongRefusal.TheVariants.{Clash}
use Rattle.long_text.proofs.Stepping.{here_is, none_left, nothing_here, stepped}
use Rattle.long_text.proofs.finding.clash_in.Goals as goal
use Rattle.long_text.proofs.finding.clash_in.Goals.{in-Some+in_default-clash_after, in_default}

-- a first piece with a later one that clashes with it, by the later one's position
clash_here : (first : Piece) (found : Option Piece) (second : Position) (later : Option LongRefusal)
    → option_map (λ (p : Piece). p.position) found ≡ Some second → clash_of first found later ≡ Some (Clash first.position second)
clash_here first (Some p) second later is =
    let same : p.position ≡ second = (let e : (let o : Option Position = Some p.position in o) ≡ Some second = is in cc) in
    ap (λ q. Some (Clash first.position q)) same
clash_here first None second later is = absurd (let e : (let o : Option Position = None in o) ≡ Some second = is in cc)

clash_later : (first : Piece) (found : Option Piece) (later : Option LongRefusal)
    → option_map (λ (p : Piece). p.position) found ≡ None → clash_of first found later ≡ later
clash_later first (Some p) later is = absurd (let e : (let o : Option Position = Some p.position in o) ≡ None = is in cc)
clash_later first None later is = refl

pub returns-in-Some-clash_after : goal.returns-in-Some-clash_after
returns-in-Some-clash_after c =
    let at = c.firsts.at in
    let lt : at < length c.args.inbox.now = omega (arith, c.len-at-end.ensures.value) in
    let here = stepped c.args.id c.args.inbox.now at c.piece_at.result lt c.piece_at.ensures.value in
    let rest = pieces c.args.id (drop (at + 1) c.args.inbox.now) in
    let first = c.in-Some.first in
    ap (λ (p : Piece). Some (Clash p.position c.in-Some-clash_after.second)) c.first.view_is
    ∙ sym (clash_here first (find (clashes first) rest) c.in-Some-clash_after.second (clash_in rest) (sym c.clash_after.ensures ∙ c.in-Some-clash_after.is))
    ∙ sym (ap clash_in (here_is _ _ c.piece_at.result first here c.in-Some.is))
    ∙ c.firsts.invariant

pub firsts-preserved : goal.firsts-preserved
firsts-preserved c =
    let at = c.firsts.at in
    let lt : at < length c.args.inbox.now = omega (arith, c.len-at-end.ensures.value) in
    let here = stepped c.args.id c.args.inbox.now at c.piece_at.result lt c.piece_at.ensures.value in
    let rest = pieces c.args.id (drop (at + 1) c.args.inbox.now) in
    elim c.match-piece_at.branch [
      | in-Some+in_default-clash_after w ↦
          let first = w.in-Some.first in
          sym (clash_later first (find (clashes first) rest) (clash_in rest) (sym w.clash_after.ensures ∙ w.in_default-clash_after.is))
          ∙ sym (ap clash_in (here_is _ _ c.piece_at.result first here w.in-Some.is)) ∙ c.firsts.invariant
      | in_default w ↦ ap clash_in (nothing_here _ _ c.piece_at.result here w.in_default.is) ∙ c.firsts.invariant
    ]

pub returns : goal.returns
returns c =
    sym (ap clash_in (none_left c.args.id c.args.inbox.now c.firsts.at (omega (arith, c.len-at-end.ensures.value, c.firsts-test.false)))) ∙ c.firsts.invariant
