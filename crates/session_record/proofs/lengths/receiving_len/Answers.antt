use Rattle.std.proofs.Common.{◌≡◌, arith, length, length-append}
use Rattle.std.specs.Int.{to_be_bytes, w32}
use Rattle.session_model.specs.Seen.{reception_seen}
use Rattle.session_record.specs.Fields.{reception_text}
use Rattle.session_record.proofs.lengths.receiving_len.Goals as goal

pub returns-in-Some-clause-len : goal.returns-in-Some-clause-len
returns-in-Some-clause-len c =
    let r = reception_seen c.in-Some.reception in
    let long : 36 ≡ length (reception_text r) = omega (arith, c.is_long.ensures, length-append r.chain (to_be_bytes w32 r.reach)) in
    rw c.in-Some.is long
