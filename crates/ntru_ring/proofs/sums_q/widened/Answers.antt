use Rattle.std.proofs.Common.{rules, arith, sym}
use Rattle.ntru_ring.specs.Ring.{coefficient}
use Rattle.ntru_ring.proofs.Rings.Kernels.{IsFilling-none, IsFilling-more, IsFilling-all}
use Rattle.ntru_ring.proofs.Vectors.LanesQ.{widened_word}
use mir.Syntax.{w16}
use mir.Val.{SFits}
use Rattle.ntru_ring.proofs.sums_q.widened.Goals as goal

pub loop-k-init : goal.loop-k-init
loop-k-init c = IsFilling-none c.args.c.now _ (sym c.told-c)

pub loop-k-preserved : goal.loop-k-preserved
loop-k-preserved c =
    let f : SFits w16 (coefficient c.args.c.now c.loop-k.k) = search rules in
    IsFilling-more c.args.c.now c.loop-k.wide c.loop-k.k _ (omega (arith, c.told-c)) (widened_word (coefficient c.args.c.now c.loop-k.k) c.from.result f c.from.ensures) c.loop-k.invariant

pub returns : goal.returns
returns c = IsFilling-all c.args.c.now c.loop-k.wide c.loop-k.k (omega (arith, c.told-c)) c.loop-k.invariant
