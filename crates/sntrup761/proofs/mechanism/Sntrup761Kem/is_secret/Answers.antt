use Rattle.std.proofs.Common.{arith}
use Rattle.sntrup761.proofs.Secrets.{bad-below}
use Rattle.sntrup761.proofs.mechanism.Sntrup761Kem.is_secret.Goals as goal

pub overflow_add-result : goal.overflow_add-result
overflow_add-result c =
    let below = bad-below c.array_at-2.result c.in-Err-small_decode.bad.at c.in-Err-small_decode.ensures.bad in
    omega arith
