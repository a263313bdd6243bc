use Rattle.sntrup761.proofs.Decapsulation.{confirmed, refused}
use Rattle.sntrup761.proofs.mechanism.Sntrup761Kem.decap.Goals as goal

pub returns-then-is_same : goal.returns-then-is_same
returns-then-is_same c =
    confirmed c.args.secret.now c.args.ciphertext.now c.open-r.result.coefficients c.array_at.result c.array_at-2.result
    c.hide.new.ciphertext c.is_same.result c.small_encode.result c.session-bytes.result
    (record {
      r_is = c.open-r.ensures;
      public_is = c.array_at.ensures;
      hash_is = c.array_at-2.ensures;
      again_is = c.hide.ensures;
      same_is = c.is_same.ensures;
    }) c.if-is_same.true c.small_encode.ensures c.session-bytes.ensures

pub returns-else-is_same : goal.returns-else-is_same
returns-else-is_same c =
    refused c.args.secret.now c.args.ciphertext.now c.open-r.result.coefficients c.array_at.result c.array_at-2.result
    c.hide.new.ciphertext c.is_same.result c.array_at-else-is_same.result c.session-bytes-else-is_same.result
    (record {
      r_is = c.open-r.ensures;
      public_is = c.array_at.ensures;
      hash_is = c.array_at-2.ensures;
      again_is = c.hide.ensures;
      same_is = c.is_same.ensures;
    }) c.if-is_same.false c.array_at-else-is_same.ensures c.session-bytes-else-is_same.ensures
