use Rattle.std.proofs.Common.{ℕ, ◌*◌, ◌-◌, take, drop, ◌∙◌, ap}
use Rattle.boxes.specs.declared.limits.TheConstants.{PART_LIMIT}
use Rattle.long_text.proofs.Cuts.{cut_short}
use Rattle.long_text.proofs.cutting.bytes_cut.Goals as goal

pub returns-clause-value : goal.returns-clause-value
returns-clause-value c =
    let text = c.args.text.now in
    cut_short text (PART_LIMIT * (c.from.result - 1)) PART_LIMIT c.min.result c.min.ensures
    ∙ ap (λ (n : ℕ). take PART_LIMIT (drop (PART_LIMIT * (n - 1)) text)) c.from.ensures
