use Rattle.std.proofs.Common.{ap, map, ◌∙◌, arith}
use Rattle.std.specs.List.{range_with_len}
use Rattle.std.proofs.lemmas.List.FromFn.{fill_by_all}
use Rattle.sntrup761.specs.Draws.{word_at, words_of}
use Rattle.sntrup761.proofs.draws.words_of.Goals as goal

pub returns : goal.returns
unfolding words_of
returns c =
    fill_by_all (word_at c.word_bytes-bytes.result) c.loop-k.words 761 0 c.loop-k.invariant.whole
    (λ j h. c.loop-k.invariant.written j (omega arith))
    ∙ ap (λ bytes. map (word_at bytes) (range_with_len 0 761)) c.word_bytes-bytes.ensures
