use Rattle.std.proofs.Common.{◌≡◌, ◌+◌, ◌<◌, ◌≤◌, length, take, drop, arith, rules, ap}
use Rattle.ntru_codec.proofs.Steps.{encoded_length-level, encoded_length-one}
use Rattle.ntru_codec.proofs.Recursion.{IsNext, next-All, next-is, next-length, next-below, next-room, encoded-whole, encoded-single}
use Rattle.ntru_codec.specs.Coding.{encoded_length}
use Rattle.std.proofs.lemmas.List.Elements.{length_all_zip}
use Rattle.std.proofs.lemmas.List.{drop_all, length-drop}
use Rattle.ntru_codec.proofs.encoder.+encode.Goals as goal

pub put_low_bytes-requires-clause-room : goal.put_low_bytes-requires-clause-room
put_low_bytes-requires-clause-room t c =
    let size = encoded_length-one c.args.limits.now c.if-limits-eq1.true in
    omega arith

pub returns-then-limits-eq1-clause-bytes : goal.returns-then-limits-eq1-clause-bytes
returns-then-limits-eq1-clause-bytes t c =
    encoded-single c.args.values.now c.args.limits.now c.put_low_bytes.new.out c.args.out.now c.last_bytes-count.result _ c.if-limits-eq1.true c.last_bytes-count.ensures.bytes c.from.ensures c.put_low_bytes.ensures

pub returns-then-limits-eq1-clause-count : goal.returns-then-limits-eq1-clause-count
returns-then-limits-eq1-clause-count t c =
    let size = encoded_length-one c.args.limits.now c.if-limits-eq1.true in
    cc

pub encode_pairs-requires-clause-room : goal.encode_pairs-requires-clause-room
encode_pairs-requires-clause-room t c =
    let size = encoded_length-level c.args.limits.now (omega arith) in
    omega arith

pub slice_bounds-encode-count : goal.slice_bounds-encode-count
slice_bounds-encode-count t c =
    let size = encoded_length-level c.args.limits.now (omega arith) in
    omega arith

pub slice_bounds-encode-start : goal.slice_bounds-encode-start
slice_bounds-encode-start t c =
    let size = encoded_length-level c.args.limits.now (omega arith) in
    let within : c.shrink-at.result ≤ length c.args.out.now = omega arith in
    search rules

pub encode-requires : goal.encode-requires
encode-requires t c =
    let values = c.args.values.now in
    let limits = c.args.limits.now in
    let front = c.shrink-at.new.next in
    let array = c.encode_pairs.new.next in
    let count = c.next_count-count.result in
    let next : IsNext limits front count = record { several = omega arith; half = c.next_count-count.ensures; front = c.shrink-at.ensures.next } in
    let long : length (take count front) ≡ count = next-length limits front count next in
    let below = next-below values limits front array count next c.encode_pairs.ensures.next c.requires.below in
    let kept : length c.encode_pairs.new.out ≡ length c.args.out.now = c.encode_pairs.auto.out in
    (omega arith, (length_all_zip ◌<◌ _ _ below, (below, (next-All limits front count next c.requires.limits, (omega arith, (omega arith, next-room limits front c.encode_pairs.new.out count c.shrink-at.result next c.shrink-at.ensures.bytes (omega arith)))))))

pub overflow_add-result : goal.overflow_add-result
overflow_add-result t c =
    let limits = c.args.limits.now in
    let level = encoded_length-level limits (omega arith) in
    let next : IsNext limits c.shrink-at.new.next c.next_count-count.result = record { several = omega arith; half = c.next_count-count.ensures; front = c.shrink-at.ensures.next } in
    let same = ap encoded_length (next-is limits _ _ next) in
    let rest = c.encode.ensures.count in
    let sum : c.shrink-at.result + c.encode.result ≡ encoded_length limits = omega arith in
    let few : c.shrink-at.result + c.encode.result ≤ length c.args.out.now = omega arith in
    search rules

pub returns-clause-bytes : goal.returns-clause-bytes
returns-clause-bytes t c =
    let values = c.args.values.now in
    let limits = c.args.limits.now in
    let front = c.shrink-at.new.next in
    let array = c.encode_pairs.new.next in
    let count = c.next_count-count.result in
    let next : IsNext limits front count = record { several = omega arith; half = c.next_count-count.ensures; front = c.shrink-at.ensures.next } in
    encoded-whole values limits front array c.encode_pairs.new.out c.encode.new.out _ c.args.out.now count c.shrink-at.result c.encode.result next c.shrink-at.ensures.bytes c.encode_pairs.ensures.next c.requires.below c.encode_pairs.ensures.bytes c.encode.ensures.bytes (drop_all _ (drop c.shrink-at.result c.encode_pairs.new.out) (rw length-drop (omega arith)))

pub returns-clause-count : goal.returns-clause-count
returns-clause-count t c =
    let limits = c.args.limits.now in
    let level = encoded_length-level limits (omega arith) in
    let next : IsNext limits c.shrink-at.new.next c.next_count-count.result = record { several = omega arith; half = c.next_count-count.ensures; front = c.shrink-at.ensures.next } in
    let same = ap encoded_length (next-is limits _ _ next) in
    let rest = c.encode.ensures.count in
    omega arith
