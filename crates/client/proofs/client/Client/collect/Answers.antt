use Rattle.std.proofs.Common.{Err, Ok, Result, refl, subst, sym}
use Rattle.dr_model.specs.Machines.Acts.{taken_by}
use Rattle.dr_model.specs.Machines.Steps.{settled}
use Rattle.session_model.specs.Clients.{TakenPacket}
use Rattle.session_model.specs.declared.answer.Refusal.{Refusal}
use Rattle.client.specs.Syncing.Moments.{IsTaken, moment}
use Rattle.client.proofs.Syncs.Collecting.{collected, collected_unstored}
use Rattle.client.proofs.client.Client.collect.Goals as goal

pub returns-in-Err-clause-turns : goal.returns-in-Err-clause-turns
returns-in-Err-clause-turns g c = λ own peers keys n packet drafts.
    let kept = c.args.self.now.kept in
    let taken = subst (λ (r : Result TakenPacket Refusal). IsTaken (settled kept (taken_by r)) c.args.self.now c.take_packet.new.self
    (g.D.Disk.state c.args.disk.now) (g.D.Disk.state c.take_packet.new.disk) (Err c.in-Err.call)) (sym drafts) c.in-Err.ensures in
    collected_unstored g.K.Kem.mechanism c.args.prefix.now own peers keys kept n c.args.number packet
    (moment c.args.self.now (g.D.Disk.state c.args.disk.now) (g.O.Sink.at c.args.out.now))
    (moment c.take_packet.new.self (g.D.Disk.state c.take_packet.new.disk) (g.O.Sink.at c.args.out.now))
    c.in-Err.call taken refl refl

pub returns-in-Ok-clause-turns : goal.returns-in-Ok-clause-turns
returns-in-Ok-clause-turns g c = λ own peers keys n packet drafts.
    let kept = c.args.self.now.kept in
    let taken = subst (λ (r : Result TakenPacket Refusal). IsTaken (settled kept (taken_by r)) c.args.self.now c.take_packet.new.self
    (g.D.Disk.state c.args.disk.now) (g.D.Disk.state c.take_packet.new.disk) (Ok c.in-Ok.answer)) (sym drafts) c.in-Ok.ensures in
    collected g.K.Kem.mechanism c.args.prefix.now own peers keys kept n c.args.number packet
    (moment c.args.self.now (g.D.Disk.state c.args.disk.now) (g.O.Sink.at c.args.out.now))
    (moment c.take_packet.new.self (g.D.Disk.state c.take_packet.new.disk) (g.O.Sink.at c.answered.new.out))
    c.in-Ok.answer taken.0 taken.1 c.answered.result c.answered.ensures.answers
