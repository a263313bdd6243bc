use Rattle.std.proofs.Common.{◌≡◌, ◌<◌, ◌≤◌, length, take, arith, rules}
use Rattle.ntru_codec.proofs.Steps.{encoded_length-level, encoded_length-one}
use Rattle.ntru_codec.proofs.Recursion.{IsNext, next-All, next-length, next-bytes, decoded-next, decoded-small, decoded-whole, decoded-single}
use Rattle.ntru_codec.proofs.decoder.+decode_into.Goals as goal

pub number_at-requires-clause-within : goal.number_at-requires-clause-within
number_at-requires-clause-within t c =
    let size = encoded_length-one c.args.limits.now c.if-limits-eq1.true in
    omega arith

pub returns-then-limits-eq1 : goal.returns-then-limits-eq1
returns-then-limits-eq1 t c =
    decoded-single c.args.bytes.now c.args.limits.now c.args.out.now c.last_bytes-count.result c.number_at.result c.low_part.result c.if-limits-eq1.true (omega arith) c.requires.whole c.last_bytes-count.ensures.bytes c.number_at.ensures c.low_part.ensures.value

pub slice_bounds-decode_into-count : goal.slice_bounds-decode_into-count
slice_bounds-decode_into-count t c =
    let size = encoded_length-level c.args.limits.now (omega arith) in
    omega arith

pub slice_bounds-decode_into-start : goal.slice_bounds-decode_into-start
slice_bounds-decode_into-start t c =
    let size = encoded_length-level c.args.limits.now (omega arith) in
    let within : c.shrink-at.result ≤ length c.args.bytes.now = omega arith in
    search rules

pub decode_into-requires : goal.decode_into-requires
decode_into-requires t c =
    let limits = c.args.limits.now in
    let array = c.shrink-at.new.next in
    let count = c.next_count-count.result in
    let next : IsNext limits array count = record { several = omega arith; half = c.next_count-count.ensures; front = c.shrink-at.ensures.next } in
    let long : length (take count array) ≡ count = next-length limits array count next in
    let less : count < length limits = omega arith in
    (omega arith, (next-All limits array count next c.requires.limits, (omega arith, (omega arith, (omega arith, next-bytes c.args.bytes.now limits array count c.shrink-at.result next c.shrink-at.ensures.bytes c.requires.whole)))))

pub decode_pairs-requires-clause-small : goal.decode_pairs-requires-clause-small
decode_pairs-requires-clause-small t c =
    let limits = c.args.limits.now in
    let next : IsNext limits c.shrink-at.new.next c.next_count-count.result = record { several = omega arith; half = c.next_count-count.ensures; front = c.shrink-at.ensures.next } in
    decoded-small _ limits _ c.requires.limits (decoded-next c.args.bytes.now limits c.shrink-at.new.next c.decode_into.new.out c.next_count-count.result c.shrink-at.result next c.shrink-at.ensures.bytes c.decode_into.ensures)

pub decode_pairs-requires-clause-within : goal.decode_pairs-requires-clause-within
decode_pairs-requires-clause-within t c =
    let size = encoded_length-level c.args.limits.now (omega arith) in
    omega arith

pub returns : goal.returns
returns t c =
    let limits = c.args.limits.now in
    let next : IsNext limits c.shrink-at.new.next c.next_count-count.result = record { several = omega arith; half = c.next_count-count.ensures; front = c.shrink-at.ensures.next } in
    decoded-whole c.args.bytes.now limits _ c.decode_pairs.new.out (omega arith) (decoded-next c.args.bytes.now limits c.shrink-at.new.next c.decode_into.new.out c.next_count-count.result c.shrink-at.result next c.shrink-at.ensures.bytes c.decode_into.ensures) c.decode_pairs.ensures
