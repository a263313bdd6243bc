use Rattle.std.proofs.Common.{false, inl, inr, true, ◌≡◌}
use Rattle.command_tests.proofs.Pieces.{takes_in}
use Rattle.command_tests.proofs.whole_talks.takes.Goals as goal

pub returns-in-0 : goal.returns-in-0
returns-in-0 g c =
    takes_in g.K.Kem.mechanism _ c.args.digits.now c.in_ok-source.ensures _ c.args.disk.now c.take-status.new.disk _ _ _ _
    true c.take-status.ensures.runs (inl c.in-0.is) (λ d. c.in-0.is)

pub returns-in-6 : goal.returns-in-6
returns-in-6 g c =
    takes_in g.K.Kem.mechanism _ c.args.digits.now c.in_ok-source.ensures _ c.args.disk.now c.take-status.new.disk _ _ _ _
    false c.take-status.ensures.runs (inr c.in-6.is) (λ d. absurd (let e : false ≡ true = d in cc))
