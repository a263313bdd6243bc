use Rattle.std.proofs.Common.{◌≡◌, ◌+◌, ◌-◌, ℕ, ◌∙◌, sym, ap, arith, subst, lit<, length-set, to_z, of_z}
use Rattle.std.proofs.lemmas.List.Elements.{All-set}
use lib.Lanes.{chunk}
use mir.Syntax.{w16}
use Rattle.ntru_ring.specs.Ring.{coefficient}
use Rattle.ntru_ring.specs.Reduction.{IsWithin}
use Rattle.ntru_ring.specs.Powers.{rotated, power}
use Rattle.ntru_ring.proofs.Numbers.Ranges.{stored}
use Rattle.ntru_ring.proofs.Rings.Places.{coefficient_within}
use Rattle.ntru_ring.proofs.Rings.Powers.{power_none, rows_more}
use Rattle.ntru_ring.proofs.Vectors.LanesQ.{sum_centred}
use Rattle.ntru_ring.proofs.powers_q.Powers.of.Goals as goal

pub loop-k-init : goal.loop-k-init
loop-k-init c =
    let a = c.args.element.now.coefficients in
    let z = c.first_power-places.result in
    record {
      length = c.first_power-places.ensures.length;
      within = c.first_power-places.ensures.within;
      rows = λ j l. let e : 0 ≡ j = omega arith in
          subst (λ (i : ℕ). chunk (760 - i) 761 z ≡ rotated (power i a)) e (c.first_power-places.ensures.row ∙ ap rotated (sym (power_none a)));
    }

pub loop-k-preserved : goal.loop-k-preserved
loop-k-preserved c =
    let a = c.args.element.now in
    let z = c.loop-k.places in
    let k = c.loop-k.k in
    let i = c.loop-k.invariant in
    let x = coefficient z (759 - k + 760) in
    let y = coefficient z (759 - k + 761) in
    let v = to_z w16 (of_z w16 c.centred_q.result) in
    let w = subst (IsWithin 2295) (sym (stored w16 2295 c.centred_q.result c.centred_q.ensures.within (lit< tt))) c.centred_q.ensures.within in
    record {
      length = length-set z (759 - k) v ∙ i.length;
      within = All-set (IsWithin 2295) z (759 - k) v w i.within;
      rows = rows_more z a.coefficients k v i.length a.length a.within (omega arith)
          (sum_centred x y c.from.result c.from-in-loop-k.result c.centred_q.result (coefficient_within 2295 z (759 - k + 760) i.within) (coefficient_within 2295 z (759 - k + 761) i.within) c.from.ensures c.from-in-loop-k.ensures c.centred_q.ensures.value)
          i.rows;
    }
