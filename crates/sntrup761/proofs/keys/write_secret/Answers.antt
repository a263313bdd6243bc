use Rattle.std.proofs.Common.{◌∙◌, arith}
use Rattle.sntrup761.specs.Mechanism.{secret_of}
use Rattle.sntrup761.proofs.Writes.{put_first, put_more, put_last, five}
use Rattle.sntrup761.proofs.keys.write_secret.Goals as goal

pub returns : goal.returns
unfolding secret_of
returns c =
    let one = put_first _ c.put-at.new.out c.small_encode.result c.put-at.result c.put-at.ensures in
    let two = put_more c.put-at.new.out c.put-at-2.new.out c.small_encode.result c.small_encode-2.result
    c.put-at.result c.put-at-2.result one c.put-at-2.ensures in
    let three = put_more c.put-at-2.new.out c.put-at-3.new.out _ c.args.public.now c.put-at-2.result c.put-at-3.result
    two c.put-at-3.ensures in
    let four = put_more c.put-at-3.new.out c.put-at-4.new.out _ c.draw_rho.result c.put-at-3.result c.put-at-4.result
    three c.put-at-4.ensures in
    let all = put_more c.put-at-4.new.out c.put.new.out _ c.hash.result c.put-at-4.result c.put.result four c.put.ensures in
    put_last c.put.new.out _ c.put.result all (omega arith)
    ∙ five _ _ _ _ _ _ _ _ c.args.public.now c.small_encode.ensures c.small_encode-2.ensures c.draw_rho.ensures
    c.hash.ensures
