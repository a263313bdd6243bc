use Rattle.std.proofs.Common.{◌-◌, refl, sym, ◌∙◌, arith}
use Rattle.std.proofs.Math.Nat.{sub_self}
use Rattle.dr_chacha20.proofs.Xor.{xor_at-none, xor_at-step, xor_at-take}
use Rattle.dr_chacha20.proofs.cipher.xor_rest.Goals as goal

pub rest-init : goal.rest-init
rest-init c =
    rw sub_self (sym (xor_at-none c.args.at c.args.bytes.now))

pub rest-preserved : goal.rest-preserved
rest-preserved c =
    xor_at-step c.args.at c.rest.i _ _ c.args.bytes.now c.rest.bytes c.args.stream.now
    (omega arith) (omega arith) (omega arith) c.rest.invariant refl refl

pub returns : goal.returns
returns c =
    c.rest.invariant ∙ xor_at-take c.args.at (c.rest.i - c.args.at) c.args.bytes.now c.args.stream.now (omega arith)
