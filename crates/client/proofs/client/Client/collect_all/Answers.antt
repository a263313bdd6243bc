use Rattle.std.proofs.Common.{arith, subst, sym}
use Rattle.sync_model.specs.Moves.{fetching}
use Rattle.client.specs.Syncing.InOrder.{InOrder, spot}
use Rattle.client.specs.Syncing.Parties.{party_at, waiting}
use Rattle.client.proofs.Syncs.InOrder.{begins_in_order}
use Rattle.client.proofs.Syncs.Looping.{all_taken, fetches_now}
use Rattle.client.proofs.Syncs.Requests.{leaves_again, leaves_all}
use Rattle.client.proofs.client.Client.collect_all.Goals as goal

pub items-init : goal.items-init
items-init g c = record {
  along = subst (λ tokens. InOrder g.D.Disk.state g.L.Pipe.port g.O.Sink.at (party_at g.K.Kem.mechanism c.args.prefix.now c.args.boxes.now) (spot c.args.self.now c.args.disk.now c.args.link.now c.args.out.now) (spot c.args.self.now c.args.disk.now c.args.link.now c.args.out.now) (fetching 0) tokens) (sym c.requires.first)
      (begins_in_order g.D.Disk.state g.L.Pipe.port g.O.Sink.at (party_at g.K.Kem.mechanism c.args.prefix.now c.args.boxes.now) (spot c.args.self.now c.args.disk.now c.args.link.now c.args.out.now) c.requires.open.0 c.requires.open.1);
  within = omega arith;
  later = omega arith;
  link = leaves_all g.L.Pipe.port g.L.Pipe.behind c.args.link.now;
}

pub returns-in-Err-clause-collects : goal.returns-in-Err-clause-collects
returns-in-Err-clause-collects g c =
    c.in-Err.ensures.goes c.items.count c.args.self.now c.args.disk.now c.args.link.now c.args.out.now
    (subst (λ wait. InOrder g.D.Disk.state g.L.Pipe.port g.O.Sink.at (party_at g.K.Kem.mechanism c.args.prefix.now c.args.boxes.now) (spot c.args.self.now c.args.disk.now c.args.link.now c.args.out.now) (spot c.items.self c.items.disk c.items.link c.items.out) wait c.items.tokens) (fetches_now (waiting c.items.self.kept) c.items.count c.items-test.true) c.items.invariant.along)

pub returns-in-Ok-None-clause-collects : goal.returns-in-Ok-None-clause-collects
returns-in-Ok-None-clause-collects g c =
    (rw c.in-Ok-None.field-0-is at c.in-Ok-None.ensures.goes) c.items.count c.args.self.now c.args.disk.now c.args.link.now c.args.out.now
    (subst (λ wait. InOrder g.D.Disk.state g.L.Pipe.port g.O.Sink.at (party_at g.K.Kem.mechanism c.args.prefix.now c.args.boxes.now) (spot c.args.self.now c.args.disk.now c.args.link.now c.args.out.now) (spot c.items.self c.items.disk c.items.link c.items.out) wait c.items.tokens) (fetches_now (waiting c.items.self.kept) c.items.count c.items-test.true) c.items.invariant.along)

pub returns-in-Err-acknowledge_through-clause-collects : goal.returns-in-Err-acknowledge_through-clause-collects
returns-in-Err-acknowledge_through-clause-collects g c =
    c.in-Err-acknowledge_through.ensures.goes c.args.prefix.now c.items.count c.args.self.now c.args.disk.now c.fetch_through.new.disk c.args.link.now c.args.out.now c.fetch_through.new.out
    ((rw c.in-Ok-Some.field-0-is at c.in-Ok-Some.ensures.goes) c.items.count c.args.self.now c.args.disk.now c.args.link.now c.args.out.now
    (subst (λ wait. InOrder g.D.Disk.state g.L.Pipe.port g.O.Sink.at (party_at g.K.Kem.mechanism c.args.prefix.now c.args.boxes.now) (spot c.args.self.now c.args.disk.now c.args.link.now c.args.out.now) (spot c.items.self c.items.disk c.items.link c.items.out) wait c.items.tokens) (fetches_now (waiting c.items.self.kept) c.items.count c.items-test.true) c.items.invariant.along))

pub items-preserved : goal.items-preserved
items-preserved g c = record {
  along =
      c.in-Ok.ensures.goes c.args.prefix.now c.items.count c.args.self.now c.args.disk.now c.fetch_through.new.disk c.args.link.now c.args.out.now c.fetch_through.new.out
      ((rw c.in-Ok-Some.field-0-is at c.in-Ok-Some.ensures.goes) c.items.count c.args.self.now c.args.disk.now c.args.link.now c.args.out.now
      (subst (λ wait. InOrder g.D.Disk.state g.L.Pipe.port g.O.Sink.at (party_at g.K.Kem.mechanism c.args.prefix.now c.args.boxes.now) (spot c.args.self.now c.args.disk.now c.args.link.now c.args.out.now) (spot c.items.self c.items.disk c.items.link c.items.out) wait c.items.tokens) (fetches_now (waiting c.items.self.kept) c.items.count c.items-test.true) c.items.invariant.along));
  within = omega (arith, c.items-test.true);
  later = omega (arith, c.items.invariant.later, c.fetch_through.ensures.later);
  link =
      leaves_again g.L.Pipe.port g.L.Pipe.behind _ _ _
      (leaves_again g.L.Pipe.port g.L.Pipe.behind _ _ _ c.items.invariant.link c.fetch_through.ensures.link) c.acknowledge_through.ensures.link;
}

pub returns-in-Err-clause-link : goal.returns-in-Err-clause-link
returns-in-Err-clause-link g c = leaves_again g.L.Pipe.port g.L.Pipe.behind _ _ _ c.items.invariant.link c.fetch_through.ensures.link

pub returns-in-Ok-None-clause-link : goal.returns-in-Ok-None-clause-link
returns-in-Ok-None-clause-link g c = leaves_again g.L.Pipe.port g.L.Pipe.behind _ _ _ c.items.invariant.link c.fetch_through.ensures.link

pub returns-in-Err-acknowledge_through-clause-link : goal.returns-in-Err-acknowledge_through-clause-link
returns-in-Err-acknowledge_through-clause-link g c =
    leaves_again g.L.Pipe.port g.L.Pipe.behind _ _ _
    (leaves_again g.L.Pipe.port g.L.Pipe.behind _ _ _ c.items.invariant.link c.fetch_through.ensures.link) c.acknowledge_through.ensures.link

pub returns-clause-collects : goal.returns-clause-collects
returns-clause-collects g c =
    subst (λ wait. InOrder g.D.Disk.state g.L.Pipe.port g.O.Sink.at (party_at g.K.Kem.mechanism c.args.prefix.now c.args.boxes.now) (spot c.args.self.now c.args.disk.now c.args.link.now c.args.out.now) (spot c.items.self c.items.disk c.items.link c.items.out) wait c.items.tokens)
    (all_taken (waiting c.items.self.kept) c.items.count (omega (arith, c.items.invariant.within, c.items-test.false))) c.items.invariant.along
