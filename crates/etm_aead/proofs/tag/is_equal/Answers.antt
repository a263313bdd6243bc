-- The difference so far is 0 exactly where the bytes so far are the same.
use Rattle.std.proofs.Common.{below_more, ap₂, arith}
use Rattle.std.specs.Prelude.{bit_or}
use Rattle.std.proofs.lemmas.Bool.Decides.{Decides-eqb}
use Rattle.std.proofs.lemmas.Grind.{same_number_lists}
use Rattle.etm_aead.proofs.Difference.{or_zero, same_from_xor, xor-equal}
use Rattle.etm_aead.proofs.tag.is_equal.Goals as goal

pub bytes-preserved : goal.bytes-preserved
bytes-preserved c = record {
  seen = λ zero.
      let parts = or_zero _ _ zero in
      below_more _ _ (c.bytes.invariant.seen parts.0) (same_from_xor _ _ parts.1);
  same = λ equal.
      ap₂ bit_or (c.bytes.invariant.same equal) (xor-equal _ _ c.bytes.i equal);
}

pub returns : goal.returns
returns c =
    let zero = Decides-eqb c.bytes.difference 0 in (
      λ is_zero. same_number_lists _ _ (omega arith) (λ k below. c.bytes.invariant.seen (zero.0 is_zero) k (omega arith)),
      λ equal. zero.1 (c.bytes.invariant.same equal),
    )
