use Rattle.std.proofs.Common.{ap, sym}
use Rattle.relay_guard.specs.Guards.{with_last}
use Rattle.relay_guard.specs.declared.guard.Role.{Role}
use Rattle.relay_guard.proofs.guard.Guard.set_last.Goals as goal

pub returns-in-Owner : goal.returns-in-Owner
returns-in-Owner c = ap (λ (r : Role). with_last c.args.self.now r c.args.counter) (sym c.in-Owner.is)

pub returns-in-Poster : goal.returns-in-Poster
returns-in-Poster c = ap (λ (r : Role). with_last c.args.self.now r c.args.counter) (sym c.in-Poster.is)
