use Rattle.std.proofs.Common.{ap, refl, subst, sym, ◌+◌, ◌∙◌}
use Rattle.sync_model.specs.Moves.{acking, acknowledged}
use Rattle.client.specs.Clients.{ClientNow}
use Rattle.client.specs.Syncing.InOrder.{InOrder, spot}
use Rattle.client.specs.Syncing.Parties.{party_at, waiting}
use Rattle.client.specs.Syncing.Rounds.{goes_on, stops}
use Rattle.client.specs.Syncing.SoFar.{collecting}
use Rattle.client.proofs.Syncs.Looping.{one_more}
use Rattle.client.proofs.Syncs.Requests.{leaves_again, leaves_all}
use Rattle.client.proofs.Syncs.Rounds.{ack_goes}
use Rattle.client.proofs.client.Client.acknowledge_through.Goals as goal

pub again-init : goal.again-init
again-init g c = record {
  along = λ prefix n first before disk earlier empty out along. along;
  same = refl;
  link = leaves_all g.L.Pipe.port g.L.Pipe.behind c.args.link.now;
}

pub again-preserved : goal.again-preserved
again-preserved g c = record {
  along = λ prefix n first before disk earlier empty out along.
      ack_goes g.D.Disk.state g.L.Pipe.port g.O.Sink.at (party_at g.K.Kem.mechanism prefix c.args.boxes.now) (spot first before earlier empty) (spot c.again.self disk c.again.link out) c.again.tokens c.acknowledge.new.tokens c.acknowledge.new.self c.acknowledge.new.link n c.args.number (goes_on (acking n c.args.number))
      c.acknowledge.ensures.same (c.again.invariant.along prefix n first before disk earlier empty out along) ((rw c.in-Ok-Again.field-0-is at c.in-Ok-Again.ensures.round) (party_at g.K.Kem.mechanism prefix c.args.boxes.now) c.again.self.kept n);
  same = c.acknowledge.ensures.same ∙ c.again.invariant.same;
  link = leaves_again g.L.Pipe.port g.L.Pipe.behind _ _ _ c.again.invariant.link c.acknowledge.ensures.link;
}

pub again-smaller : goal.again-smaller
again-smaller g c = rw c.in-Ok-Again.field-0-is at c.in-Ok-Again.ensures.once

pub returns-in-Err-clause-goes : goal.returns-in-Err-clause-goes
returns-in-Err-clause-goes g c = λ prefix n first before disk earlier empty out along.
    ack_goes g.D.Disk.state g.L.Pipe.port g.O.Sink.at (party_at g.K.Kem.mechanism prefix c.args.boxes.now) (spot first before earlier empty) (spot c.again.self disk c.again.link out) c.again.tokens c.acknowledge.new.tokens c.acknowledge.new.self c.acknowledge.new.link n c.args.number (stops c.in-Err.fault)
    c.acknowledge.ensures.same (c.again.invariant.along prefix n first before disk earlier empty out along) (c.in-Err.ensures.round (party_at g.K.Kem.mechanism prefix c.args.boxes.now) c.again.self.kept n)

pub returns-in-Ok-Done-clause-goes : goal.returns-in-Ok-Done-clause-goes
returns-in-Ok-Done-clause-goes g c = λ prefix n first before disk earlier empty out along.
    subst (λ wait. InOrder g.D.Disk.state g.L.Pipe.port g.O.Sink.at (party_at g.K.Kem.mechanism prefix c.args.boxes.now) (spot first before earlier empty) (spot c.acknowledge.new.self disk c.acknowledge.new.link out) wait c.acknowledge.new.tokens)
    (one_more (party_at g.K.Kem.mechanism prefix c.args.boxes.now) c.again.self.kept n ∙ ap (λ (x : ClientNow). collecting (waiting x.kept) (n + 1)) (sym c.acknowledge.ensures.same))
    (ack_goes g.D.Disk.state g.L.Pipe.port g.O.Sink.at (party_at g.K.Kem.mechanism prefix c.args.boxes.now) (spot first before earlier empty) (spot c.again.self disk c.again.link out) c.again.tokens c.acknowledge.new.tokens c.acknowledge.new.self c.acknowledge.new.link n c.args.number (goes_on (acknowledged (party_at g.K.Kem.mechanism prefix c.args.boxes.now) c.again.self.kept n).wait)
    c.acknowledge.ensures.same (c.again.invariant.along prefix n first before disk earlier empty out along) ((rw c.in-Ok-Done.field-0-is at c.in-Ok-Done.ensures.round) (party_at g.K.Kem.mechanism prefix c.args.boxes.now) c.again.self.kept n))

pub returns-in-Err-clause-same : goal.returns-in-Err-clause-same
returns-in-Err-clause-same g c = c.acknowledge.ensures.same ∙ c.again.invariant.same

pub returns-in-Ok-Done-clause-same : goal.returns-in-Ok-Done-clause-same
returns-in-Ok-Done-clause-same g c = c.acknowledge.ensures.same ∙ c.again.invariant.same

pub returns-in-Err-clause-link : goal.returns-in-Err-clause-link
returns-in-Err-clause-link g c = leaves_again g.L.Pipe.port g.L.Pipe.behind _ _ _ c.again.invariant.link c.acknowledge.ensures.link

pub returns-in-Ok-Done-clause-link : goal.returns-in-Ok-Done-clause-link
returns-in-Ok-Done-clause-link g c = leaves_again g.L.Pipe.port g.L.Pipe.behind _ _ _ c.again.invariant.link c.acknowledge.ensures.link
