use Rattle.std.proofs.Common.{ap, sym, ◌∙◌, append_assoc, ◌++◌, codes, decimal}
use Rattle.answer_lines.specs.Answers.{refusal_text}
use Rattle.answer_lines.proofs.answers.put_refusal.Goals as goal

pub returns-in-TextTooLong-clause-bytes : goal.returns-in-TextTooLong-clause-bytes
unfolding refusal_text
returns-in-TextTooLong-clause-bytes c =
    c.put_named.ensures.bytes
    ∙ append_assoc c.args.line.now (codes "TextTooLong ") (decimal c.in-TextTooLong.len)
    ∙ ap (λ r. c.args.line.now ++ refusal_text r) (sym c.in-TextTooLong.is)

pub returns-in-OtherSession-clause-bytes : goal.returns-in-OtherSession-clause-bytes
unfolding refusal_text
returns-in-OtherSession-clause-bytes c =
    c.text-in-OtherSession.ensures.bytes ∙ ap (λ r. c.args.line.now ++ refusal_text r) (sym c.in-OtherSession.is)
