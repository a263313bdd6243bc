use Rattle.std.proofs.Common.{◌≡◌, ◌+◌, ◌*◌, ◌/◌, ◌<◌, ◌++◌, length, take, drop, arith, ap, ◌∙◌, sym}
use Rattle.ntru_codec.specs.Levels.{pair_values}
use Rattle.ntru_codec.proofs.Pairs.{pair_length-more, pair_values-is, pair_values-last, fill_two, carried_pairs, rest-short}
use Rattle.ntru_codec.proofs.decoder.decode_pairs.Goals as goal

pub number_at-number-requires-clause-within : goal.number_at-number-requires-clause-within
number_at-number-requires-clause-within c =
    let counts = pair_length-more c.args.limits.now c.loop-i.i (omega arith) in
    omega arith

pub loop-i-preserved : goal.loop-i-preserved
loop-i-preserved c =
    let limits = c.args.limits.now in
    let i = c.loop-i.i in
    let within : 2 * i + 1 < length limits = omega arith in
    let counts = pair_length-more limits i within in
    let pair = c.shrink_pair-pair in
    let is = pair_values-is c.args.bytes.now limits c.args.next.now c.loop-i.at i pair.result.bytes c.number_at-number.result c.low_part.result c.high_part.result within (omega arith) pair.ensures.bytes c.number_at-number.ensures c.low_part.ensures.value c.high_part.ensures.value in
    record {
      counted = omega arith;
      made = fill_two c.loop-i.out i c.low_part.result c.high_part.result _ _ _ (omega arith) c.loop-i.invariant.made is;
    }

pub returns : goal.returns
returns c =
    let limits = c.args.limits.now in
    let next = c.args.next.now in
    let i = c.loop-i.i in
    let ended : i ≡ length limits / 2 = omega arith in
    let last = pair_values-last (drop c.loop-i.at c.args.bytes.now) (drop (2 * i) limits) (drop i next) (rest-short limits i ended) in
    let front : take (2 * i) c.loop-i.out ++ drop i next ≡ pair_values c.args.bytes.now limits next = ap (λ t. take (2 * i) c.loop-i.out ++ t) (sym last) ∙ c.loop-i.invariant.made in
    carried_pairs c.loop-i.out _ next _ (length limits) i c.requires.same ended c.carry.ensures front
