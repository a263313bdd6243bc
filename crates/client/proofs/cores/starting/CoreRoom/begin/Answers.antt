use Rattle.std.proofs.Common.{Some, arith, subst, sym, []}
use Rattle.std.proofs.lemmas.Grind.{common_steps}
use Rattle.session_record.specs.Lawful.{IsLawfulClient}
use Rattle.session_record.specs.Record.{client_of}
use Rattle.client.proofs.cores.starting.CoreRoom.begin.Goals as goal

pub invariant_of-result : goal.invariant_of-result
invariant_of-result c = λ d.
    let lawful : IsLawfulClient c.K.Kem.mechanism (client_of d.in-Ok.session [] [] (Some d.of-keys.result)) = grind (arith, common_steps) in
    subst (λ i. IsLawfulClient c.K.Kem.mechanism (client_of d.in-Ok.session i d.args.self.outbox (Some d.of-keys.result))) (sym d.requires.inbox)
    (subst (λ o. IsLawfulClient c.K.Kem.mechanism (client_of d.in-Ok.session [] o (Some d.of-keys.result))) (sym d.requires.outbox) lawful)
