use Rattle.std.proofs.Common.{◌≡◌, ◌-◌, ◌*◌, ℕ, inl, inr, get_or, set, replicate, refl, sym, ap, ◌∙◌, arith, subst, length-set, get_or-set_same, get_or-set_other}
use Rattle.std.proofs.lemmas.Bool.{cases_eq}
use Rattle.ntru_ring.specs.Elements.{element}
use Rattle.ntru_ring.specs.Powers.{shifted}
use Rattle.ntru_ring.specs.Reduction.{reduced}
use Rattle.ntru_ring.proofs.Rings.Shifted.{shifted_none, shifted_row}
use Rattle.ntru_ring.proofs.Vectors.Elements.{reduced-element}
use Rattle.ntru_ring.proofs.products_three.rows_of.Goals as goal

pub loop-k-init : goal.loop-k-init
loop-k-init c =
    let a = c.args.a.now in
    record {
      long = refl;
      rows = λ k d l. let e : 0 ≡ k = omega arith in
          subst (λ (i : ℕ). element (get_or (replicate 12 a) i d) ≡ reduced 1 (shifted (64 * i) (element a))) e (sym (reduced-element a) ∙ ap (reduced 1) (sym (shifted_none (element a))));
    }

pub listed : goal.listed
listed c = omega (arith, c.loop-k.invariant.long)

pub loop-k-preserved : goal.loop-k-preserved
loop-k-preserved c =
    let a = element c.args.a.now in
    let rows = c.loop-k.rows in
    let k = c.loop-k.k in
    let new = c.shift_word.result in
    let before = c.index-rows-k.result in
    record {
      long = length-set rows k new ∙ c.loop-k.invariant.long;
      rows = λ i d l. elim (cases_eq i k) [
        | inl e ↦
            ap (λ t. element (get_or (set rows k new) t d)) e ∙ ap element (get_or-set_same rows k new d (omega (arith, c.loop-k.invariant.long)))
            ∙ shifted_row (element new) _ a k (omega arith) c.shift_word.ensures (c.loop-k.invariant.rows (k - 1) before (omega arith)) ∙ ap (λ t. reduced 1 (shifted (64 * t) a)) (sym e)
        | inr n ↦ ap element (get_or-set_other rows k i new d n) ∙ c.loop-k.invariant.rows i d (omega arith)
      ];
    }

pub returns : goal.returns
returns c = λ k d l. c.loop-k.invariant.rows k d (omega arith)
