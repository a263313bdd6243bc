use Rattle.std.proofs.Common.{arith}
use Rattle.relay_wire.specs.Requests.{bare_request, fetches}
use Rattle.sync_model.specs.Moves.{acking, fetching, waits_by}
use Rattle.sync_model.specs.declared.more.More.TheVariants.{End}
use Rattle.client.specs.Syncing.InOrder.{spot}
use Rattle.client.specs.Syncing.Moments.{moment}
use Rattle.client.specs.Syncing.Parties.{party_at, waiting}
use Rattle.client.specs.Syncing.Rounds.{goes_on, stops}
use Rattle.client.proofs.Syncs.Looping.{goes_ready}
use Rattle.client.proofs.Syncs.Requests.{leaves_again, leaves_all}
use Rattle.client.proofs.Syncs.Rounds.{fetch_goes}
use Rattle.client.proofs.client.Client.fetch_through.Goals as goal

pub again-init : goal.again-init
again-init g c = record {
  along = λ n first before earlier empty along. along;
  ready = c.requires;
  later = omega arith;
  link = leaves_all g.L.Pipe.port g.L.Pipe.behind c.args.link.now;
}

pub again-preserved : goal.again-preserved
again-preserved g c = record {
  along = λ n first before earlier empty along.
      fetch_goes g.D.Disk.state g.L.Pipe.port g.O.Sink.at (party_at g.K.Kem.mechanism c.args.prefix.now c.args.boxes.now) (spot first before earlier empty) (spot c.again.self c.again.disk c.again.link c.again.out) c.again.tokens c.fetch.new.tokens (spot c.fetch.new.self c.fetch.new.disk c.fetch.new.link c.fetch.new.out) n (goes_on (fetching n))
      (c.again.invariant.along n first before earlier empty along) ((rw c.in-Ok-Again.field-0-is at c.in-Ok-Again.ensures.round) n);
  ready = goes_ready (party_at g.K.Kem.mechanism c.args.prefix.now c.args.boxes.now) (fetching 0) (fetching 0) (bare_request c.args.boxes.now.names.own fetches) c.again.tokens c.fetch.new.tokens
      (moment c.again.self (g.D.Disk.state c.again.disk) (g.O.Sink.at c.again.out))
      (moment c.fetch.new.self (g.D.Disk.state c.fetch.new.disk) (g.O.Sink.at c.fetch.new.out))
      (g.L.Pipe.port c.again.link) (g.L.Pipe.port c.fetch.new.link) ((rw c.in-Ok-Again.field-0-is at c.in-Ok-Again.ensures.round) 0);
  later = omega (arith, c.again.invariant.later, c.fetch.ensures.later);
  link = leaves_again g.L.Pipe.port g.L.Pipe.behind _ _ _ c.again.invariant.link c.fetch.ensures.link;
}

pub again-smaller : goal.again-smaller
again-smaller g c = rw c.in-Ok-Again.field-0-is at c.in-Ok-Again.ensures.once

pub returns-in-Err-clause-goes : goal.returns-in-Err-clause-goes
returns-in-Err-clause-goes g c = λ n first before earlier empty along.
    fetch_goes g.D.Disk.state g.L.Pipe.port g.O.Sink.at (party_at g.K.Kem.mechanism c.args.prefix.now c.args.boxes.now) (spot first before earlier empty) (spot c.again.self c.again.disk c.again.link c.again.out) c.again.tokens c.fetch.new.tokens (spot c.fetch.new.self c.fetch.new.disk c.fetch.new.link c.fetch.new.out) n (stops c.in-Err.fault)
    (c.again.invariant.along n first before earlier empty along) (c.in-Err.ensures.round n)

pub returns-in-Ok-Empty-clause-goes : goal.returns-in-Ok-Empty-clause-goes
returns-in-Ok-Empty-clause-goes g c = λ n first before earlier empty along.
    fetch_goes g.D.Disk.state g.L.Pipe.port g.O.Sink.at (party_at g.K.Kem.mechanism c.args.prefix.now c.args.boxes.now) (spot first before earlier empty) (spot c.again.self c.again.disk c.again.link c.again.out) c.again.tokens c.fetch.new.tokens (spot c.fetch.new.self c.fetch.new.disk c.fetch.new.link c.fetch.new.out) n (goes_on (waits_by (waiting c.fetch.new.self.kept) End))
    (c.again.invariant.along n first before earlier empty along) ((rw c.in-Ok-Empty.field-0-is at c.in-Ok-Empty.ensures.round) n)

pub returns-in-Ok-Item-clause-goes : goal.returns-in-Ok-Item-clause-goes
returns-in-Ok-Item-clause-goes g c = λ n first before earlier empty along.
    fetch_goes g.D.Disk.state g.L.Pipe.port g.O.Sink.at (party_at g.K.Kem.mechanism c.args.prefix.now c.args.boxes.now) (spot first before earlier empty) (spot c.again.self c.again.disk c.again.link c.again.out) c.again.tokens c.fetch.new.tokens (spot c.fetch.new.self c.fetch.new.disk c.fetch.new.link c.fetch.new.out) n (goes_on (acking n c.in-Ok-Item.number))
    (c.again.invariant.along n first before earlier empty along) ((rw c.in-Ok-Item.field-0-is at c.in-Ok-Item.ensures.round) n)

pub returns-in-Err-clause-link : goal.returns-in-Err-clause-link
returns-in-Err-clause-link g c = leaves_again g.L.Pipe.port g.L.Pipe.behind _ _ _ c.again.invariant.link c.fetch.ensures.link

pub returns-in-Ok-Empty-clause-link : goal.returns-in-Ok-Empty-clause-link
returns-in-Ok-Empty-clause-link g c = leaves_again g.L.Pipe.port g.L.Pipe.behind _ _ _ c.again.invariant.link c.fetch.ensures.link

pub returns-in-Ok-Item-clause-link : goal.returns-in-Ok-Item-clause-link
returns-in-Ok-Item-clause-link g c = leaves_again g.L.Pipe.port g.L.Pipe.behind _ _ _ c.again.invariant.link c.fetch.ensures.link
