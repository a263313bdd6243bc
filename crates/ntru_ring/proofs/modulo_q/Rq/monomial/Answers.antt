use Rattle.std.proofs.Common.{ap, ◌∙◌, sym, set, length-set, lit<, to_z, of_z, subst}
use Rattle.std.proofs.lemmas.List.Elements.{All-set}
use Rattle.ntru_ring.specs.Ring.{zero_of}
use Rattle.ntru_ring.specs.Reduction.{IsWithin}
use Rattle.ntru_ring.proofs.Numbers.Ranges.{stored}
use mir.Syntax.{w16}
use Rattle.ntru_ring.proofs.modulo_q.Rq.monomial.Goals as goal

pub invariant_of-result : goal.invariant_of-result
invariant_of-result c =
    let z = c.zero.result in
    let v = to_z w16 (of_z w16 c.args.c) in
    record {
      length = length-set z.coefficients c.args.place v ∙ z.length;
      within = All-set (IsWithin 2295) z.coefficients c.args.place v (subst (IsWithin 2295) (sym (stored w16 2295 c.args.c c.requires.within (lit< tt))) c.requires.within) z.within;
    }

pub returns : goal.returns
returns c = ap (λ t. set t c.args.place (to_z w16 (of_z w16 c.args.c))) c.zero.ensures ∙ ap (set (zero_of 761) c.args.place) (stored w16 2295 c.args.c c.requires.within (lit< tt))
