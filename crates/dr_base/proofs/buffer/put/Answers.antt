use Rattle.std.proofs.Common.{◌≡◌, ◌+◌, ◌≤◌, length, ◌-◌, arith, ◌∙◌, ap, refl, take, ◌++◌}
use Rattle.std.proofs.lemmas.Slice.{take-put_mid, drop-put_mid}
use Rattle.dr_base.proofs.buffer.put.Goals as goal

pub returns : goal.returns
returns c =
    let ys = c.copy_from_slice.new.self in
    let n = length c.args.bytes.now in
    let k = c.args.at + n - c.args.at in
    let same : ys ≡ c.args.bytes.now = c.copy_from_slice.ensures.after in
    let fits : c.args.at ≤ length c.args.out.now = omega (arith, c.requires) in
    let width : length ys ≡ k = ap length same ∙ omega arith in
    let end : c.args.at + n ≡ c.args.at + length ys = omega (arith, ap length same) in
    record {
      next_is = refl;
      front = take-put_mid c.args.at k c.args.out.now ys (c.args.at + n) end fits ∙ ap (λ b. take c.args.at c.args.out.now ++ b) same;
      rest = drop-put_mid c.args.at k c.args.out.now ys (c.args.at + n) (omega arith) fits width;
    }
