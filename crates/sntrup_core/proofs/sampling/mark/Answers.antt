use Rattle.std.proofs.Common.{◌≡◌, get_or, sym, ◌∙◌, arith, length-set}
use Rattle.std.proofs.lemmas.Bool.{cond_below, cond_above}
use Rattle.std.proofs.lemmas.List.{ext_get_or}
use Rattle.sntrup_core.specs.Sampling.{nonzero_word, zero_word, marked}
use Rattle.sntrup_core.proofs.Shorts.{marked-at, length-marked, marked-more}
use Rattle.sntrup_core.proofs.sampling.mark.Goals as goal
use Rattle.sntrup_core.proofs.sampling.mark.Goals.{then-k-lt-WEIGHT, else-k-lt-WEIGHT}

pub loop-k-preserved : goal.loop-k-preserved
loop-k-preserved c =
    let words = c.args.words.now in
    let k = c.loop-k.k in
    let at = marked-at words k c.told-words (omega arith) in
    let is : c.if-k-lt-WEIGHT.marked ≡ get_or (marked words) k 0 = elim c.if-k-lt-WEIGHT.branch [
      | then-k-lt-WEIGHT w ↦ w.marked-is ∙ omega arith
          ∙ cond_below k 286 (nonzero_word (get_or words k 0)) (zero_word (get_or words k 0)) (omega arith) ∙ sym at
      | else-k-lt-WEIGHT w ↦ cond_above k 286 (nonzero_word (get_or words k 0))
          (zero_word (get_or words k 0)) c.if-k-lt-WEIGHT.marked (omega arith) (omega arith) ∙ sym at
    ] in
    record {
      whole = length-set c.loop-k.marked k c.if-k-lt-WEIGHT.marked ∙ c.loop-k.invariant.whole;
      written = marked-more words c.loop-k.marked k c.if-k-lt-WEIGHT.marked (omega arith) is c.loop-k.invariant.written;
    }

pub returns : goal.returns
returns c =
    ext_get_or 0 c.loop-k.marked (marked c.args.words.now)
    (c.loop-k.invariant.whole ∙ sym (length-marked c.args.words.now c.told-words))
    (λ i h. c.loop-k.invariant.written i (omega arith))
