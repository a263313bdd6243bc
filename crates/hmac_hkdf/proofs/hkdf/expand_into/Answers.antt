-- Each block comes from the one before it, and the output so far is the blocks so far, as far as it
-- reaches.
use Rattle.std.proofs.Common.{◌≡◌, ◌+◌, ◌*◌, ◌∙◌, length, take, arith, ap, sym, refl}
use Rattle.std.proofs.lemmas.List.{take_all}
use Rattle.hmac_hkdf.specs.Hkdf.{expand_block}
use Rattle.hmac_hkdf.proofs.Lengths.{length-hmac_of}
use Rattle.hmac_hkdf.proofs.Blocks.{take-expand_blocks_none, expand_block_next, expand_block-zero, expand_of_written, take-expand_blocks_more}
use Rattle.hmac_hkdf.proofs.hkdf.expand_into.Goals as goal
use Rattle.hmac_hkdf.proofs.hkdf.expand_into.Goals.{then-i-eq0, else-i-eq0}

pub output-init : goal.output-init
output-init c = record {
  len = refl;
  previous = λ h. absurd (omega arith);
  written = sym (take-expand_blocks_none c.args.prk.now c.args.info.now (length c.args.out.now));
}

pub output-preserved : goal.output-preserved
output-preserved c =
    let prk = c.args.prk.now in
    let info = c.args.info.now in
    let i = c.output.i in
    let before : take c.if-i-eq0.previous_len c.output.block ≡ expand_block prk info i =
    elim c.if-i-eq0.branch [
      | then-i-eq0 w ↦ rw (w.previous_len-is, w.if-i-eq0.true) (expand_block-zero prk info)
      | else-i-eq0 w ↦ rw w.previous_len-is (take_all 32 c.output.block (omega arith) ∙ c.output.invariant.previous (omega arith))
    ] in
    let made = c.next_block-block.ensures prk c.new-keyed.ensures in
    let block : c.next_block-block.result ≡ expand_block prk info (i + 1) = made ∙ expand_block_next prk info _ i before in
    let len : length c.put_block.new.out ≡ length c.output.out = c.put_block.auto.out in
    let end : 32 * (i + 1) ≡ 32 * i + 32 = omega arith in
    let more = take-expand_blocks_more prk info (take (32 * i) c.output.out) (length c.output.out) i c.output.invariant.written (omega arith) in
    record {
      len = ap length made ∙ length-hmac_of prk _;
      previous = λ _. block;
      written = rw (end, len, ← more, ← block) c.put_block.ensures;
    }

pub returns : goal.returns
returns c =
    let done : c.output.i ≡ c.div_ceil-count.result = omega arith in
    expand_of_written c.args.prk.now c.args.info.now c.output.out (length c.args.out.now) c.output.i c.output.invariant.written c.output.auto.out (done ∙ c.div_ceil-count.ensures)
