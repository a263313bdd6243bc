use Rattle.std.proofs.Common.{ap, refl, sym}
use Rattle.session_model.specs.Clients.{Client}
use Rattle.relay_wire.specs.Replies.{stored}
use Rattle.sync_model.specs.Moves.{move, posting, waits_by}
use Rattle.client.specs.Syncing.Lines.{stored_line}
use Rattle.client.specs.Syncing.Moments.{moment}
use Rattle.client.specs.Syncing.Parties.{party_of, sent_step, waiting}
use Rattle.client.proofs.Syncs.Moving.{wrote_nothing}
use Rattle.client.proofs.Syncs.Turning.{turns_on, turns_unstored, turns_unwritten}
use Rattle.client.proofs.client.Client.delivered.Goals as goal

pub returns-in-Err-clause-turns : goal.returns-in-Err-clause-turns
returns-in-Err-clause-turns g c = λ own peers keys which.
    turns_unstored (move (party_of g.K.Kem.mechanism c.args.prefix.now own peers keys) c.args.self.now.kept (posting which) (stored c.args.number))
    (sent_step g.K.Kem.mechanism c.args.self.now.kept).next refl
    (moment c.args.self.now (g.D.Disk.state c.args.disk.now) (g.O.Sink.at c.args.out.now))
    (moment c.drop_oldest.new.self (g.D.Disk.state c.drop_oldest.new.disk) (g.O.Sink.at c.args.out.now))
    c.in-Err.call c.in-Err.ensures.gone (wrote_nothing _ _ refl refl)

pub returns-in-Err-write_stored-clause-turns : goal.returns-in-Err-write_stored-clause-turns
returns-in-Err-write_stored-clause-turns g c = λ own peers keys which.
    turns_unwritten (move (party_of g.K.Kem.mechanism c.args.prefix.now own peers keys) c.args.self.now.kept (posting which) (stored c.args.number))
    (sent_step g.K.Kem.mechanism c.args.self.now.kept).next refl
    (moment c.args.self.now (g.D.Disk.state c.args.disk.now) (g.O.Sink.at c.args.out.now))
    (moment c.drop_oldest.new.self (g.D.Disk.state c.drop_oldest.new.disk) (g.O.Sink.at c.write_stored.new.out))
    (stored_line c.args.prefix.now c.args.number) refl c.in-Ok.ensures.gone
    (record { beginning = c.in-Err-write_stored.ensures.part; rose = c.in-Err-write_stored.ensures.cause.failed })

pub returns-in-Ok-write_stored-clause-turns : goal.returns-in-Ok-write_stored-clause-turns
returns-in-Ok-write_stored-clause-turns g c = λ own peers keys which.
    turns_on (move (party_of g.K.Kem.mechanism c.args.prefix.now own peers keys) c.args.self.now.kept (posting which) (stored c.args.number))
    (sent_step g.K.Kem.mechanism c.args.self.now.kept).next refl
    (moment c.args.self.now (g.D.Disk.state c.args.disk.now) (g.O.Sink.at c.args.out.now))
    (moment c.drop_oldest.new.self (g.D.Disk.state c.drop_oldest.new.disk) (g.O.Sink.at c.write_stored.new.out))
    (stored_line c.args.prefix.now c.args.number) (waits_by (waiting c.drop_oldest.new.self.kept) which) refl
    (ap (λ (kept : Client). waits_by (waiting kept) which) (sym c.in-Ok.ensures.gone.keeps)) c.in-Ok.ensures.gone
    (record { bytes_are = c.in-Ok-write_stored.ensures.whole; unfailing = c.in-Ok-write_stored.ensures.cause.passed })
