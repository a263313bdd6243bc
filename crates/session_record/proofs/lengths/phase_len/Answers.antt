use Rattle.std.proofs.Common.{◌≡◌, ◌+◌, ◌++◌, arith, length, length-append}
use Rattle.std.specs.Int.{to_be_bytes, w32}
use Rattle.session_model.specs.Seen.{own_seen}
use Rattle.session_record.specs.Fields.{own_text}
use Rattle.session_record.proofs.lengths.phase_len.Goals as goal

pub returns-in-Own-clause-len : goal.returns-in-Own-clause-len
returns-in-Own-clause-len c =
    let own = own_seen c.in-Own.own in
    let sent = to_be_bytes w32 own.sent in
    let long : c.len.result + c.len-in-Own.result + 36 ≡ length (own_text own) = omega (
      arith,
      c.len.ensures.value,
      c.len-in-Own.ensures.value,
      c.is_long.ensures,
      length-append own.secret (own.agreement ++ (own.chain ++ sent)),
      length-append own.agreement (own.chain ++ sent),
      length-append own.chain sent,
    ) in
    rw c.in-Own.is long
