use Rattle.std.proofs.Common.{arith, drop, subst, sym, ◌≡◌}
use Rattle.std.proofs.lemmas.Grind.{common_steps}
use Rattle.session_model.specs.declared.answer.Items.TheVariants.{Packets, Texts}
use Rattle.session_model.specs.declared.answer.Which.TheVariants.{Oldest}
use Rattle.session_record.specs.Lawful.{IsLawfulClient}
use Rattle.session_record.specs.Record.{client_of}
use Rattle.client.proofs.Lawful.Acts.{dropped_lawful}
use Rattle.client.proofs.cores.showing.Core.drop_first.Goals as goal

pub invariant_of-self : goal.invariant_of-self
invariant_of-self c = λ d.
    let left : d.drop_first.new.self ≡ drop d.args.n d.self.inside.inbox = grind (arith, common_steps) in
    subst (λ l. IsLawfulClient c.K.Kem.mechanism (client_of d.self.inside.session l d.self.inside.outbox d.self.inside.keys)) (sym left)
    (dropped_lawful c.K.Kem.mechanism (client_of d.self.inside.session d.self.inside.inbox d.self.inside.outbox d.self.inside.keys) (Oldest Texts d.args.n) d.self.invariant)

pub invariant_of-self-in-Packets : goal.invariant_of-self-in-Packets
invariant_of-self-in-Packets c = λ d.
    let left : d.drop_first-in-Packets.new.self ≡ drop d.args.n d.self.inside.outbox = grind (arith, common_steps) in
    subst (λ l. IsLawfulClient c.K.Kem.mechanism (client_of d.self.inside.session d.self.inside.inbox l d.self.inside.keys)) (sym left)
    (dropped_lawful c.K.Kem.mechanism (client_of d.self.inside.session d.self.inside.inbox d.self.inside.outbox d.self.inside.keys) (Oldest Packets d.args.n) d.self.invariant)
