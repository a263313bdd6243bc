use Rattle.std.proofs.Common.{◌≡◌, ℕ, arith, length, subst}
use Rattle.dr_base.specs.Causes.{Rose}
use Rattle.dr_disk.proofs.Steps.{quiet_twice}
use Rattle.relay_server.specs.Filling.{AreFilled}
use Rattle.relay_server.proofs.FilledAreas.{filling_on}
use Rattle.relay_server.proofs.filling.fill_areas.Goals as goal

pub returns-in-Err-clause-fills : goal.returns-in-Err-clause-fills
returns-in-Err-clause-fills g c =
    let now = g.D.Disk.state c.fill_area.new.disk in
    record {
      filled = tt;
      any_moment = filling_on c.args.relay.now (g.D.Disk.state c.args.disk.now) (g.D.Disk.state c.boxes.disk) now c.boxes.invariant.during c.fill_area.ensures.fills.any_moment;
      fault = subst (λ (n : ℕ). Rose n (now.faults c.in-Err.call)) (c.boxes.invariant.quiet c.in-Err.call) c.in-Err.ensures.fills.fault;
      quiet = tt;
    }

pub boxes-preserved : goal.boxes-preserved
boxes-preserved g c = record {
  filled = c.in-Ok.ensures.fills.filled;
  during = filling_on c.args.relay.now (g.D.Disk.state c.args.disk.now) (g.D.Disk.state c.boxes.disk) (g.D.Disk.state c.fill_area.new.disk) c.boxes.invariant.during c.fill_area.ensures.fills.any_moment;
  quiet = quiet_twice (g.D.Disk.state c.args.disk.now) (g.D.Disk.state c.boxes.disk) (g.D.Disk.state c.fill_area.new.disk) c.boxes.invariant.quiet c.in-Ok.ensures.fills.quiet;
  room = c.fill_area.ensures.room;
}

pub returns-clause-fills : goal.returns-clause-fills
returns-clause-fills g c =
    let all : c.boxes.place ≡ length c.args.relay.now =
    omega (arith, c.boxes-test.false, c.boxes.auto.place-end, c.boxes.auto.stores, c.boxes.invariant.filled.count) in
    record {
      filled = subst (λ (n : ℕ). AreFilled n c.args.relay.now c.boxes.stores (g.D.Disk.state c.boxes.disk)) all c.boxes.invariant.filled;
      any_moment = c.boxes.invariant.during;
      fault = tt;
      quiet = c.boxes.invariant.quiet;
    }
