use Rattle.sync_model.specs.Moves.{ended, over}
use Rattle.client.specs.Syncing.InOrder.{InOrder, spot}
use Rattle.client.specs.Syncing.Parties.{party_at}
use Rattle.client.proofs.Syncs.InOrder.{ends_unwritten_in_order, ends_well_in_order}
use Rattle.client.proofs.Syncs.Moving.{none_passed, still}
use Rattle.client.proofs.Syncs.Requests.{leaves_again}
use Rattle.client.proofs.client.Client.sync_open.Goals as goal

pub returns-in-Err-write_end-clause-exact : goal.returns-in-Err-write_end-clause-exact
returns-in-Err-write_end-clause-exact g c =
    let along : InOrder g.D.Disk.state g.L.Pipe.port g.O.Sink.at (party_at g.K.Kem.mechanism c.args.prefix.now c.args.boxes.now)
    (spot c.args.self.now c.args.disk.now c.args.link.now c.args.out.now)
    (spot c.post_all.new.self c.post_all.new.disk c.post_all.new.link c.post_all.new.out) (over (ended c.in-Ok.more)) c.post_all.new.tokens =
    c.in-Ok-post_all.ensures.posts c.in-Ok.more c.args.self.now c.args.disk.now c.args.link.now c.args.out.now c.in-Ok.ensures.collects in
    ends_unwritten_in_order g.D.Disk.state g.L.Pipe.port g.O.Sink.at (party_at g.K.Kem.mechanism c.args.prefix.now c.args.boxes.now)
    (spot c.args.self.now c.args.disk.now c.args.link.now c.args.out.now)
    (spot c.post_all.new.self c.post_all.new.disk c.post_all.new.link c.post_all.new.out) c.in-Ok.more c.post_all.new.tokens along
    c.post_all.new.self c.post_all.new.disk c.write_end.new.out
    (still c.post_all.new.self (g.D.Disk.state c.post_all.new.disk) along.far.stands.is_open along.far.stands.ready)
    (none_passed (g.D.Disk.state c.post_all.new.disk))
    (record { beginning = c.in-Err-write_end.ensures.part; rose = c.in-Err-write_end.ensures.cause.failed })

pub returns-in-Ok-write_end-clause-exact : goal.returns-in-Ok-write_end-clause-exact
returns-in-Ok-write_end-clause-exact g c =
    let along : InOrder g.D.Disk.state g.L.Pipe.port g.O.Sink.at (party_at g.K.Kem.mechanism c.args.prefix.now c.args.boxes.now)
    (spot c.args.self.now c.args.disk.now c.args.link.now c.args.out.now)
    (spot c.post_all.new.self c.post_all.new.disk c.post_all.new.link c.post_all.new.out) (over (ended c.in-Ok.more)) c.post_all.new.tokens =
    c.in-Ok-post_all.ensures.posts c.in-Ok.more c.args.self.now c.args.disk.now c.args.link.now c.args.out.now c.in-Ok.ensures.collects in
    ends_well_in_order g.D.Disk.state g.L.Pipe.port g.O.Sink.at (party_at g.K.Kem.mechanism c.args.prefix.now c.args.boxes.now)
    (spot c.args.self.now c.args.disk.now c.args.link.now c.args.out.now)
    (spot c.post_all.new.self c.post_all.new.disk c.post_all.new.link c.post_all.new.out) c.in-Ok.more c.post_all.new.tokens along
    c.post_all.new.self c.post_all.new.disk c.write_end.new.out
    (still c.post_all.new.self (g.D.Disk.state c.post_all.new.disk) along.far.stands.is_open along.far.stands.ready)
    (none_passed (g.D.Disk.state c.post_all.new.disk))
    (record { bytes_are = c.in-Ok-write_end.ensures.whole; unfailing = c.in-Ok-write_end.ensures.cause.passed })

pub returns-in-Err-post_all-clause-exact : goal.returns-in-Err-post_all-clause-exact
returns-in-Err-post_all-clause-exact g c =
    c.in-Err-post_all.ensures.posts c.in-Ok.more c.args.self.now c.args.disk.now c.args.link.now c.args.out.now c.in-Ok.ensures.collects

pub returns-in-Err-post_all-clause-link : goal.returns-in-Err-post_all-clause-link
returns-in-Err-post_all-clause-link g c =
    leaves_again g.L.Pipe.port g.L.Pipe.behind _ _ _ c.collect_all.ensures.link c.post_all.ensures.link

pub returns-in-Err-write_end-clause-link : goal.returns-in-Err-write_end-clause-link
returns-in-Err-write_end-clause-link g c =
    leaves_again g.L.Pipe.port g.L.Pipe.behind _ _ _ c.collect_all.ensures.link c.post_all.ensures.link

pub returns-in-Ok-write_end-clause-link : goal.returns-in-Ok-write_end-clause-link
returns-in-Ok-write_end-clause-link g c =
    leaves_again g.L.Pipe.port g.L.Pipe.behind _ _ _ c.collect_all.ensures.link c.post_all.ensures.link
