use Rattle.std.proofs.Common.{bit_xor, drop, take, ap, ◌∙◌, w32}
use Rattle.std.proofs.lemmas.Simd.{below_from_Fits}
use Rattle.std.specs.Simd.Lanes.{zip2, put_chunk}
use Rattle.dr_chacha20.specs.Block.{bytes_of}
use Rattle.dr_chacha20.specs.Rows.{row_of}
use Rattle.dr_chacha20.proofs.Lanes.{row_bytes}
use Rattle.dr_chacha20.proofs.Xor.{chunk_xored_at}
use Rattle.dr_chacha20.proofs.rows.xor_row.Goals as goal

pub returns : goal.returns
unfolding bytes_of
returns c =
    let at = c.args.at in
    let text = c.args.bytes.now in
    let bytes = row_bytes c.args.row (below_from_Fits w32 c.args.row c.fits-row.1) in
    ap (λ s. put_chunk at text (zip2 bit_xor (take 16 (drop at text)) s)) bytes
    ∙ chunk_xored_at at text (bytes_of (row_of c.args.row)) c.requires
