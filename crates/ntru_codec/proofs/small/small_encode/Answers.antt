use Rattle.std.proofs.Common.{◌≡◌, ℕ, ◌+◌, ◌*◌, ◌<◌, pos, get_or, arith, length-set}
use Rattle.std.proofs.lemmas.Grind.{common_steps}
use Rattle.ntru_codec.specs.Small.{small_byte}
use Rattle.ntru_codec.proofs.Digits.{digit-stored}
use Rattle.ntru_codec.proofs.SmallLaws.{bytes-more, byte-is, last-byte-is, small_encoded-all}
use Rattle.ntru_codec.proofs.small.small_encode.Goals as goal

pub loop-k-preserved : goal.loop-k-preserved
loop-k-preserved c =
    let a = c.args.a.now in
    let k = c.loop-k.k in
    let e = byte-is a.coefficients k c.digit.result c.digit-in-loop-k.result c.digit-in-loop-k-2.result c.digit-in-loop-k-3.result (omega (arith, a.length))
    (digit-stored _ _ (a.within (4 * k) (pos 0) (omega (arith, a.length))) c.digit.ensures.value)
    (digit-stored _ _ (a.within (4 * k + 1) (pos 0) (omega (arith, a.length))) c.digit-in-loop-k.ensures.value)
    (digit-stored _ _ (a.within (4 * k + 2) (pos 0) (omega (arith, a.length))) c.digit-in-loop-k-2.ensures.value)
    (digit-stored _ _ (a.within (4 * k + 3) (pos 0) (omega (arith, a.length))) c.digit-in-loop-k-3.ensures.value) in
    record {
      whole = rw length-set c.loop-k.invariant.whole;
      written = bytes-more a.coefficients c.loop-k.bytes k _ (omega arith) e c.loop-k.invariant.written;
    }

pub returns : goal.returns
returns c =
    let a = c.args.a.now in
    let before : (j : ℕ) → j < 190 → get_or c.loop-k.bytes j 0 ≡ small_byte a.coefficients j = λ j h. c.loop-k.invariant.written j (omega arith) in
    let e = last-byte-is a.coefficients c.digit-2.result a.length (digit-stored _ _ (a.within 760 (pos 0) (omega (arith, a.length))) c.digit-2.ensures.value) in
    small_encoded-all a.coefficients _ (rw length-set c.loop-k.invariant.whole) (bytes-more a.coefficients c.loop-k.bytes 190 c.digit-2.result (omega arith) e before)

pub digit-requires-in-loop-k : goal.digit-requires-in-loop-k
digit-requires-in-loop-k c = grind (arith, common_steps)

pub digit-requires-in-loop-k-2 : goal.digit-requires-in-loop-k-2
digit-requires-in-loop-k-2 c = grind (arith, common_steps)

pub digit-requires-in-loop-k-3 : goal.digit-requires-in-loop-k-3
digit-requires-in-loop-k-3 c = grind (arith, common_steps)
