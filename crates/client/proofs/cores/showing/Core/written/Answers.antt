use Rattle.std.proofs.Common.{subst, sym}
use Rattle.session_model.specs.Clients.{Client}
use Rattle.session_record.specs.Record.{client_of}
use Rattle.session_record.specs.declared.change.Change.TheVariants.{Received as TakesText, Said as SaysPacket}
use Rattle.client.specs.Drafting.{IsDraftOf, IsWrittenFrom, drafted_client}
use Rattle.client.proofs.SameRecord.{drafted_record, received_record}
use Rattle.client.proofs.cores.showing.Core.written.Goals as goal

pub returns-in-Said : goal.returns-in-Said
returns-in-Said g c =
    let k = g.K.Kem.mechanism in
    let kept = client_of c.self.inside.session c.self.inside.inbox c.self.inside.outbox c.self.inside.keys in
    let of =
    subst (IsDraftOf k kept) c.in-Said.is
    (subst (λ (n : Client). IsDraftOf k n c.args.draft.now) (sym c.self.view_is) c.requires) in
    subst (λ (n : Client). IsWrittenFrom k n (drafted_client n c.args.draft.now) c.part.result (SaysPacket c.packet.result)) c.self.view_is
    (subst (λ d. IsWrittenFrom k kept (drafted_client kept d) c.part.result (SaysPacket c.packet.result)) (sym c.in-Said.is) (record {
      inbox = tt;
      outbox = (of.room, c.packet.ensures.fits);
      same =
          drafted_record k kept c.in-Said.said c.part.result c.packet.result.now c.part.ensures
          c.packet.ensures.value;
    }))

pub returns-in-Received : goal.returns-in-Received
returns-in-Received g c =
    let k = g.K.Kem.mechanism in
    let kept = client_of c.self.inside.session c.self.inside.inbox c.self.inside.outbox c.self.inside.keys in
    let part = c.part-in-Received.result in
    let change = TakesText c.position.result c.kind.result c.text.result in
    let of =
    subst (IsDraftOf k kept) c.in-Received.is
    (subst (λ (n : Client). IsDraftOf k n c.args.draft.now) (sym c.self.view_is) c.requires) in
    subst (λ (n : Client). IsWrittenFrom k n (drafted_client n c.args.draft.now) part change) c.self.view_is
    (subst (λ d. IsWrittenFrom k kept (drafted_client kept d) part change) (sym c.in-Received.is) (record {
      inbox = (of.room, c.text.ensures.fits);
      outbox = tt;
      same =
          received_record kept c.in-Received.received part c.position.result c.kind.result c.text.result.now
          c.part-in-Received.ensures c.position.ensures c.kind.ensures c.text.ensures.value;
    }))
