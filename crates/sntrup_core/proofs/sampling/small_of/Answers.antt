use Rattle.std.proofs.Common.{get_or, subst, sym, ◌∙◌, arith, pos}
use Rattle.std.proofs.lemmas.List.Elements.{All-from_get_or}
use Rattle.ntru_ring.proofs.Vectors.Mapped.{mapped}
use Rattle.ntru_ring.specs.Reduction.{IsWithin}
use Rattle.sntrup_core.specs.Sampling.{small_coefficient, small_element}
use Rattle.sntrup_core.proofs.Shorts.{small_coefficient-within}
use Rattle.sntrup_core.proofs.sampling.small_of.Goals as goal

pub new-requires : goal.new-requires
new-requires c =
    All-from_get_or (IsWithin 1) c.loop-k.coefficients (pos 0) (λ i h.
    subst (IsWithin 1) (sym (c.loop-k.invariant.written i (omega arith))) (small_coefficient-within (get_or c.args.words.now i 0)))

pub returns : goal.returns
unfolding small_element
returns c =
    c.new.ensures
    ∙ mapped small_coefficient 0 (pos 0) c.args.words.now c.loop-k.coefficients
    (c.loop-k.invariant.whole ∙ sym c.told-words) (λ j h. c.loop-k.invariant.written j (omega arith))
