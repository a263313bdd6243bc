use Rattle.std.proofs.Common.{ap, sym, ℕ, false, true, ◌∙◌}
use Rattle.sync_model.specs.Tokens.{next_counter, with_counter}
use Rattle.client.proofs.syncing.tokens.Tokens.reads.Goals as goal

pub returns-in-Some-clause-again : goal.returns-in-Some-clause-again
returns-in-Some-clause-again c = sym c.in-Some.ensures.some.0

pub returns-in-Some-clause-counts : goal.returns-in-Some-clause-counts
returns-in-Some-clause-counts c = c.set.ensures ∙ ap (λ (n : ℕ). with_counter c.args.self.now c.args.role n true) c.in-Some.ensures.some.1

pub returns-in-None-clause-again : goal.returns-in-None-clause-again
returns-in-None-clause-again c = sym c.in-None.ensures.none

pub returns-in-None-clause-counts : goal.returns-in-None-clause-counts
returns-in-None-clause-counts c =
    c.set-in-None.ensures ∙ ap (λ (n : ℕ). with_counter c.args.self.now c.args.role n false) (c.next-counter.ensures ∙ ap next_counter c.counter.ensures)
