use Rattle.std.proofs.Common.{sym, ◌∙◌, arith}
use Rattle.ntru_codec.proofs.SmallLaws.{first_bad-some, first_bad-none}
use Rattle.ntru_codec.proofs.small.first_bad.Goals as goal

pub returns-then-is_bad : goal.returns-then-is_bad
returns-then-is_bad c =
    sym (first_bad-some c.args.bytes.now c.loop-k.k c.loop-k-test.true (sym c.is_bad.ensures ∙ c.if-is_bad.true) c.loop-k.invariant)

pub returns : goal.returns
returns c = sym (first_bad-none c.args.bytes.now (λ j h. c.loop-k.invariant j (omega arith)))
