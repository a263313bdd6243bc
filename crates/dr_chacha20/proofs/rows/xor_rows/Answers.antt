use Rattle.std.proofs.Common.{refl}
use Rattle.dr_chacha20.specs.Block.{bytes_of}
use Rattle.dr_chacha20.specs.Rows.{row_of}
use Rattle.dr_chacha20.proofs.Xor.{four_xored}
use Rattle.dr_chacha20.proofs.rows.xor_rows.Goals as goal

pub returns : goal.returns
unfolding bytes_of
returns c =
    let x = c.args.x in
    four_xored c.args.at _ _ _ _ _ (bytes_of (row_of x.a)) (bytes_of (row_of x.b)) (bytes_of (row_of x.c)) (bytes_of (row_of x.d))
    refl refl refl c.xor_row.ensures c.xor_row-2.ensures c.xor_row-3.ensures c.xor_row-4.ensures
