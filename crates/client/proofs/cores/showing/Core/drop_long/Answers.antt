use Rattle.std.proofs.Common.{arith, subst, sym, ◌≡◌}
use Rattle.std.proofs.lemmas.Grind.{common_steps}
use Rattle.session_model.specs.Leaving.{left_in_inbox}
use Rattle.session_model.specs.declared.answer.Which.TheVariants.{OfId}
use Rattle.session_record.specs.Lawful.{IsLawfulClient}
use Rattle.session_record.specs.Record.{client_of}
use Rattle.client.proofs.Lawful.Acts.{dropped_lawful}
use Rattle.client.proofs.cores.showing.Core.drop_long.Goals as goal

pub invariant_of-self : goal.invariant_of-self
invariant_of-self c = λ d.
    let left : d.drop_long.new.self ≡ left_in_inbox (OfId d.args.id) d.self.inside.inbox = grind (arith, common_steps) in
    subst (λ l. IsLawfulClient c.K.Kem.mechanism (client_of d.self.inside.session l d.self.inside.outbox d.self.inside.keys)) (sym left)
    (dropped_lawful c.K.Kem.mechanism (client_of d.self.inside.session d.self.inside.inbox d.self.inside.outbox d.self.inside.keys) (OfId d.args.id) d.self.invariant)
