use Rattle.std.proofs.Common.{ap, length, ◌∙◌}
use Rattle.session_model.specs.Clients.{Client}
use Rattle.session_model.specs.declared.answer.Summary.{Summary}
use Rattle.duet.specs.Shuts.{shut_of}
use Rattle.duet.proofs.FailsSides.{opens_after, opens_roomy}
use Rattle.duet.proofs.sides.Duet.reopen.Goals as goal

pub gather_newest-requires : goal.gather_newest-requires
gather_newest-requires g c = record {
  room = opens_roomy c.args.self c.in-Ok.duet c.args.side (shut_of c.args.self.shuts c.args.side) c.requires.closed c.in-Ok.ensures
      c.requires.room;
}

pub returns-in-Ok : goal.returns-in-Ok
returns-in-Ok g c =
    let held = ap (λ (m : Summary). m.outbox) c.summary-held.ensures ∙ ap (λ (x : Client). length x.outbox) c.party.ensures.kept in
    opens_after c.args.self c.in-Ok.duet _ c.args.side _ (shut_of c.args.self.shuts c.args.side) c.requires.closed c.in-Ok.ensures held
    c.gather_newest.ensures
