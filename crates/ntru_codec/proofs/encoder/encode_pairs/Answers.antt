use Rattle.std.proofs.Common.{◌≡◌, ◌+◌, ◌*◌, ◌/◌, ◌<◌, ◌≤◌, ◌++◌, length, take, drop, arith, ap, ◌∙◌, sym}
use Rattle.std.proofs.lemmas.List.Elements.{AllZip-get_or}
use Rattle.ntru_codec.specs.Levels.{pair_length, next_values}
use Rattle.ntru_codec.proofs.Places.{fill_more, append_more, behind_more, length-low_bytes}
use Rattle.ntru_codec.proofs.Limits.{left_small}
use Rattle.ntru_codec.proofs.Pairs.{pair_length-more, pair_bytes-more, next_values-more, pair_length-last, pair_bytes-last, next_values-last, carried, rest-short, written_all}
use Rattle.ntru_codec.proofs.encoder.encode_pairs.Goals as goal

pub pair_number-number-requires-clause-first : goal.pair_number-number-requires-clause-first
pair_number-number-requires-clause-first c = AllZip-get_or ◌<◌ c.args.values.now c.args.limits.now (2 * c.loop-i.i) 0 0 c.requires.below (omega arith)

pub pair_number-number-requires-clause-second : goal.pair_number-number-requires-clause-second
pair_number-number-requires-clause-second c = AllZip-get_or ◌<◌ c.args.values.now c.args.limits.now (2 * c.loop-i.i + 1) 0 0 c.requires.below (omega arith)

pub put_low_bytes-requires-clause-room : goal.put_low_bytes-requires-clause-room
put_low_bytes-requires-clause-room c =
    let counts = pair_length-more c.args.limits.now c.loop-i.i (omega arith) in
    omega arith

pub overflow_cast-next : goal.overflow_cast-next
overflow_cast-next c =
    let limit = c.shrink_pair-pair.ensures in
    let small = left_small c.shrink_pair-pair.result.bytes c.pair_number-number.result _ c.shrink_pair-pair.result.limit c.without_low_bytes.result c.pair_number-number.ensures.below limit.bytes limit.limit limit.is_limit.small c.without_low_bytes.ensures in
    omega arith

pub loop-i-preserved : goal.loop-i-preserved
loop-i-preserved c =
    let values = c.args.values.now in
    let limits = c.args.limits.now in
    let i = c.loop-i.i in
    let pair = c.shrink_pair-pair.result in
    let number = c.pair_number-number.result in
    let within : 2 * i + 1 < length limits = omega arith in
    let within_values : 2 * i + 1 < length values = omega arith in
    let counts = pair_length-more limits i within in
    let bytes = pair_bytes-more values limits i within_values within in
    let leaves = next_values-more values limits i within_values within in
    let long = length-low_bytes pair.bytes number in
    let room : c.loop-i.at + pair.bytes ≤ length c.loop-i.out = omega arith in
    record {
      counted = omega arith;
      written = append_more c.loop-i.out c.put_low_bytes.new.out _ c.loop-i.at pair.bytes _ _ _ c.put_low_bytes.ensures long room c.loop-i.invariant.written (cc);
      kept = behind_more c.loop-i.out c.put_low_bytes.new.out _ c.args.out.now c.loop-i.at pair.bytes c.put_low_bytes.ensures long room c.loop-i.invariant.kept;
      made = fill_more c.loop-i.next i c.without_low_bytes.result _ _ _ (omega arith) c.loop-i.invariant.made (cc);
    }

pub returns-clause-bytes : goal.returns-clause-bytes
returns-clause-bytes c =
    let values = c.args.values.now in
    let limits = c.args.limits.now in
    let short = rest-short limits c.loop-i.i (omega arith) in
    let none = pair_length-last _ short in
    let all : c.loop-i.at ≡ pair_length limits = omega arith in
    let empty = pair_bytes-last (drop (2 * c.loop-i.i) values) _ short in
    written_all c.loop-i.out c.args.out.now _ _ c.loop-i.at (pair_length limits) all empty c.loop-i.invariant.written c.loop-i.invariant.kept

pub returns-clause-next : goal.returns-clause-next
returns-clause-next c =
    let values = c.args.values.now in
    let limits = c.args.limits.now in
    let i = c.loop-i.i in
    let ended : i ≡ length limits / 2 = omega arith in
    let last = next_values-last (drop (2 * i) values) (drop (2 * i) limits) (rest-short limits i ended) in
    let front : take i c.loop-i.next ++ drop (2 * i) values ≡ next_values values limits = ap (λ t. take i c.loop-i.next ++ t) (sym last) ∙ c.loop-i.invariant.made in
    carried c.loop-i.next _ values _ (length limits) i c.requires.same ended c.carry.ensures front
