use Rattle.std.proofs.Common.{◌≡◌, ◌+◌, ◌*◌, ◌/◌, ◌<◌, ◌++◌, length, take, drop, arith, refl, ap, ◌∙◌, sym}
use Rattle.ntru_codec.specs.Levels.{next_limits}
use Rattle.ntru_codec.proofs.Places.{fill_more}
use Rattle.ntru_codec.proofs.Pairs.{pair_length-more, next_limits-more, pair_length-last, next_limits-last, carried, rest-short}
use Rattle.ntru_codec.proofs.levels.shrink.Goals as goal

pub loop-i-preserved : goal.loop-i-preserved
loop-i-preserved c =
    let limits = c.args.limits.now in
    let i = c.loop-i.i in
    let within : 2 * i + 1 < length limits = omega arith in
    let counts = pair_length-more limits i within in
    let leaves = next_limits-more limits i within in
    record {
      few = omega arith;
      counted = omega arith;
      made = fill_more c.loop-i.next i c.shrink_pair-pair.result.limit _ _ _ (omega arith) c.loop-i.invariant.made (cc);
    }

pub returns-clause-bytes : goal.returns-clause-bytes
returns-clause-bytes c =
    let short = rest-short c.args.limits.now c.loop-i.i (omega arith) in
    let none = pair_length-last _ short in
    omega arith

pub returns-clause-next : goal.returns-clause-next
returns-clause-next c =
    let limits = c.args.limits.now in
    let i = c.loop-i.i in
    let ended : i ≡ length limits / 2 = omega arith in
    let last = next_limits-last (drop (2 * i) limits) (rest-short limits i ended) in
    let front : take i c.loop-i.next ++ drop (2 * i) limits ≡ next_limits limits = ap (λ t. take i c.loop-i.next ++ t) (sym last) ∙ c.loop-i.invariant.made in
    carried c.loop-i.next _ limits _ (length limits) i refl ended c.carry.ensures front
