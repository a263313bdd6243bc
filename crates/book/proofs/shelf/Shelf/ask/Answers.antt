use Rattle.std.proofs.Common.{None, Ok, Some, ap, arith, refl, sym, ◌∙◌}
use Rattle.session_model.specs.Clients.{Client, say_check}
use Rattle.session_model.specs.Contents.{text_content}
use Rattle.book.specs.RowKeepings.{row_keeping}
use Rattle.book.specs.Stepping.{was_none, was_seed}
use Rattle.book.proofs.Fanning.Asked.{answers_asked}
use Rattle.book.proofs.shelf.Shelf.ask.Goals as goal

pub returns-in-Ok-clause-asks : goal.returns-in-Ok-clause-asks
returns-in-Ok-clause-asks g c =
    answers_asked g.W.Draws.at g.K.Kem.mechanism c.args.text.now (row_keeping.kept c.args.self.now) c.args.draws.now _
    (Some c.in-Ok.seed) c.try_seed.result
    (ap (λ (n : Client). say_check n (text_content c.args.text.now)) (sym c.core.ensures) ∙ sym c.say_check.ensures ∙ c.in-Ok-true.is
    ∙ ap Ok c.in-Ok-true.field-0-test)
    (was_seed c.in-Ok.seed.bytes (omega arith) c.in-Ok.ensures.seed c.in-Ok.ensures.cause.passed) c.try_seed.ensures.answers

pub returns-in-Ok-false-clause-asks : goal.returns-in-Ok-false-clause-asks
returns-in-Ok-false-clause-asks g c =
    answers_asked g.W.Draws.at g.K.Kem.mechanism c.args.text.now (row_keeping.kept c.args.self.now) c.args.draws.now _
    None c.try_seed-in-Ok-false.result
    (ap (λ (n : Client). say_check n (text_content c.args.text.now)) (sym c.core.ensures) ∙ sym c.say_check.ensures ∙ c.in-Ok-false.is
    ∙ ap Ok c.in-Ok-false.field-0-test)
    (was_none refl) c.try_seed-in-Ok-false.ensures.answers
