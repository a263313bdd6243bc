use Rattle.std.proofs.Common.{◌+◌, length, arith, ap, refl, ◌∙◌, []}
use Rattle.relay_server.proofs.Serve.{nothing_so_far}
use Rattle.relay_server.proofs.Exits.{goes_on}
use Rattle.relay_server.proofs.FrameByFrame.{answered_on, nothing_answered, order_end, order_fault, order_full, order_last}
use Rattle.relay_server.proofs.Rounds.{no_call}
use Rattle.relay_core.specs.declared.limits.TheConstants.{EXCHANGE_LIMIT}
use Rattle.relay_wire.specs.Frames.{Held}
use Rattle.relay_server.specs.Serving.{ReachedIn}
use Rattle.relay_server.proofs.durable.DurableBoxes.serve.Goals as goal
use Rattle.relay_server.specs.Places.{IsSameBehind}

pub rounds-init : goal.rounds-init
rounds-init g c = record {
  so = nothing_so_far EXCHANGE_LIMIT c.args.self.now (g.P.Pipe.port c.args.pipe.now) (g.D.Disk.state c.args.disk.now) (no_call (g.D.Disk.state c.args.disk.now) (λ image. ReachedIn EXCHANGE_LIMIT c.args.self.now.boxes [] image × IsSameBehind (length c.args.self.now.boxes) (g.D.Disk.state c.args.disk.now) image));
  answered = nothing_answered g.D.Disk.state g.P.Pipe.port c.args.self.now c.args.disk.now c.args.pipe.now c.requires.ready;
  ready = c.requires.ready;
  fresh = ap (λ (h : Held). h.bytes) c.clear.ensures;
  places = omega (arith, ap (λ (h : Held). h.place) c.clear.ensures);
  room = c.requires.room;
  flow = refl;
  gate = refl;
  quiet = λ call. refl;
}

pub returns-in-Err : goal.returns-in-Err
returns-in-Err g c =
    order_fault g.D.Disk.state g.P.Pipe.port c.args.self.now c.rounds.self c.round.new.self c.args.pipe.now c.rounds.pipe c.round.new.pipe
    c.args.disk.now c.rounds.disk c.round.new.disk c.rounds.answered c.rounds.invariant.so c.rounds-test.true c.rounds.invariant.answered c.in-Err.fault c.rounds.invariant.quiet
    (record {
      later = omega (arith, c.in-Err.ensures.counts.later, c.rounds.invariant.flow);
      flow = tt;
      gate = c.in-Err.ensures.counts.gate ∙ c.rounds.invariant.gate;
      quiet = tt;
    }) c.in-Err.ensures.rounds

pub returns-in-Ok-AtEnd : goal.returns-in-Ok-AtEnd
returns-in-Ok-AtEnd g c =
    order_end g.D.Disk.state g.P.Pipe.port c.args.self.now c.rounds.self c.round.new.self c.args.pipe.now c.rounds.pipe c.round.new.pipe
    c.args.disk.now c.rounds.disk c.round.new.disk c.rounds.answered c.rounds.invariant.so c.rounds-test.true c.rounds.invariant.answered (record { answered = c.rounds.answered }) refl
    (record {
      later = omega (arith, c.in-Ok-AtEnd.ensures.counts.later, c.rounds.invariant.flow);
      flow = c.in-Ok-AtEnd.ensures.counts.flow ∙ c.rounds.invariant.flow;
      gate = c.in-Ok-AtEnd.ensures.counts.gate ∙ c.rounds.invariant.gate;
      quiet = λ call. c.in-Ok-AtEnd.ensures.counts.quiet call ∙ c.rounds.invariant.quiet call;
    }) (rw c.in-Ok-AtEnd.field-0-is at c.in-Ok-AtEnd.ensures.rounds)

pub returns-then-last : goal.returns-then-last
returns-then-last g c =
    order_last g.D.Disk.state g.P.Pipe.port c.args.self.now c.rounds.self c.round.new.self c.args.pipe.now c.rounds.pipe c.round.new.pipe
    c.args.disk.now c.rounds.disk c.round.new.disk c.rounds.answered c.rounds.invariant.so c.rounds-test.true c.rounds.invariant.answered (record { answered = c.rounds.answered + 1 }) c.in-Ok-Answered.last refl c.if-last.true
    (record {
      later = omega (arith, c.in-Ok-Answered.ensures.counts.later, c.rounds.invariant.flow);
      flow = c.in-Ok-Answered.ensures.counts.flow ∙ c.rounds.invariant.flow;
      gate = c.in-Ok-Answered.ensures.counts.gate ∙ c.rounds.invariant.gate;
      quiet = λ call. c.in-Ok-Answered.ensures.counts.quiet call ∙ c.rounds.invariant.quiet call;
    }) (rw c.in-Ok-Answered.field-0-is at c.in-Ok-Answered.ensures.rounds)

pub rounds-preserved : goal.rounds-preserved
rounds-preserved g c = let rounds = rw c.in-Ok-Answered.field-0-is at c.in-Ok-Answered.ensures.rounds in record {
  so = goes_on c.args.self.now c.rounds.self c.round.new.self (g.P.Pipe.port c.args.pipe.now) (g.P.Pipe.port c.rounds.pipe) (g.P.Pipe.port c.round.new.pipe)
      (g.D.Disk.state c.args.disk.now) (g.D.Disk.state c.rounds.disk) (g.D.Disk.state c.round.new.disk) c.rounds.answered c.rounds.invariant.so c.rounds-test.true c.in-Ok-Answered.last c.if-last.false c.in-Ok-Answered.ensures.counts.later rounds;
  answered = answered_on g.D.Disk.state g.P.Pipe.port c.args.self.now c.rounds.self c.round.new.self c.args.pipe.now c.rounds.pipe c.round.new.pipe
      c.args.disk.now c.rounds.disk c.round.new.disk c.rounds.answered c.rounds.invariant.so c.rounds-test.true c.rounds.invariant.answered c.in-Ok-Answered.last rounds;
  ready = rounds.3;
  fresh = c.in-Ok-Answered.ensures.fresh c.in-Ok-Answered.last c.in-Ok-Answered.field-0-is;
  places = omega (arith, c.in-Ok-Answered.ensures.place, c.rounds.invariant.places);
  room = omega (arith, c.round.auto.out, c.rounds.invariant.room);
  flow = c.in-Ok-Answered.ensures.counts.flow ∙ c.rounds.invariant.flow;
  gate = c.in-Ok-Answered.ensures.counts.gate ∙ c.rounds.invariant.gate;
  quiet = λ call. c.in-Ok-Answered.ensures.counts.quiet call ∙ c.rounds.invariant.quiet call;
}

pub returns : goal.returns
returns g c =
    order_full g.D.Disk.state g.P.Pipe.port c.args.self.now c.rounds.self c.args.pipe.now c.rounds.pipe c.args.disk.now c.rounds.disk
    c.rounds.answered c.rounds.invariant.so c.rounds.invariant.answered (omega (arith, c.rounds-test.false, c.rounds.auto.answered-end)) c.rounds.invariant.ready (record { answered = EXCHANGE_LIMIT })
    (record {
      later = omega (arith, c.rounds.invariant.flow);
      flow = c.rounds.invariant.flow;
      gate = c.rounds.invariant.gate;
      quiet = c.rounds.invariant.quiet;
    }) refl
