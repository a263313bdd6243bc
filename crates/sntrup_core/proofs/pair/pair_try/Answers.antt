use Rattle.std.proofs.Common.{refl, sym, subst, ap, ◌∙◌, List, ℤ, Option}
use Rattle.std.specs.Prelude.{IsSome}
use Rattle.ntru_ring.specs.Ring.{times}
use Rattle.ntru_ring.specs.Reduction.{reduced, Annihilates}
use Rattle.sntrup_core.proofs.InverseLaws.{inverse-found, inverse-none}
use Rattle.sntrup_core.proofs.Quotients.{made-pair}
use Rattle.sntrup_core.proofs.pair.pair_try.Goals as goal

pub returns-in-Err : goal.returns-in-Err
returns-in-Err c =
    let g = c.args.g.now in
    let z = c.in-Err.field-0.z in
    record {
      none = inverse-none 1 760 g.coefficients z.coefficients g.length z.length z.within c.in-Err.ensures;
      shown = c.in-Err.ensures;
    }

pub returns-in-Ok-inverse_q : goal.returns-in-Ok-inverse_q
returns-in-Ok-inverse_q c =
    let g = c.args.g.now in
    let f = c.args.f.now in
    let v = c.in-Ok.v in
    let w = c.in-Ok-inverse_q.inverse in
    made-pair 760 g.coefficients f.coefficients c.lift.result.coefficients v.coefficients w.coefficients
    c.mul_small.result.coefficients c.scale.result.coefficients
    g.length f.length v.length w.length g.within v.within w.within c.in-Ok.ensures c.lift.ensures
    c.in-Ok-inverse_q.ensures (c.mul_small.ensures ∙ ap (λ t. reduced 2295 (times w.coefficients t)) c.planes_of.ensures) c.scale.ensures

pub returns-in-Err-inverse_q : goal.returns-in-Err-inverse_q
returns-in-Err-inverse_q c =
    let g = c.args.g.now in
    let f = c.args.f.now in
    let v = c.in-Ok.v in
    let z = c.in-Err-inverse_q.field-0.z in
    let shown : Annihilates 2295 f.coefficients z.coefficients =
    subst (λ (t : List ℤ). Annihilates 2295 t z.coefficients) c.lift.ensures c.in-Err-inverse_q.ensures in
    record {
      other = subst (λ (o : Option (List ℤ)). IsSome o)
          (sym (inverse-found 1 760 g.coefficients v.coefficients g.length v.length v.within c.in-Ok.ensures)) refl;
      none = inverse-none 2295 760 f.coefficients z.coefficients f.length z.length z.within shown;
      shown = shown;
    }
