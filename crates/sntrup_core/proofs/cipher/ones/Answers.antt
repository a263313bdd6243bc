use Rattle.std.proofs.Common.{inl, inr, refl, ◌∙◌, arith, pos}
use Rattle.std.proofs.lemmas.Bool.{cases_lt}
use Rattle.std.proofs.lemmas.Int.{ints}
use Rattle.std.proofs.lemmas.List.{get_or-replicate}
use Rattle.std.proofs.lemmas.List.Elements.{All-from_get_or}
use Rattle.ntru_ring.specs.Reduction.{IsWithin}
use Rattle.sntrup_core.proofs.Ciphers.{ones-are}
use Rattle.sntrup_core.proofs.cipher.ones.Goals as goal

pub loop-k-init : goal.loop-k-init
loop-k-init c = record {
  whole = refl;
  ones = λ j h. absurd (omega arith);
  zeros =
      λ j h l. get_or-replicate 761 j (pos 0) (pos 0) l;
}

pub new-requires : goal.new-requires
new-requires c =
    All-from_get_or (IsWithin 1) c.loop-k.coefficients (pos 0) (λ i h.
    elim (cases_lt i c.loop-k.k) [
      | inl l ↦ let one = c.loop-k.invariant.ones i l in record { low = omega (arith, ints); high = omega (arith, ints) }
      | inr g ↦ let zero = c.loop-k.invariant.zeros i g
          (omega arith) in record { low = omega (arith, ints); high = omega (arith, ints) }
    ])

pub returns : goal.returns
returns c = c.new.ensures ∙ ones-are c.loop-k.coefficients c.loop-k.invariant.whole
    (λ j h. c.loop-k.invariant.ones j (omega arith)) (λ j h l. c.loop-k.invariant.zeros j (omega arith) l)
