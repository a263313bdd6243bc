use Rattle.std.proofs.Common.{ℕ, ◌-◌, List, ap, arith, refl, take}
use Rattle.dr_base.specs.declared.limits.TheConstants.{PAGE}
use Rattle.dr_disk.proofs.Calling.{none_made}
use Rattle.slot_store.specs.Putting.{call_of}
use Rattle.slot_store.proofs.Puts.Retiring.{alone}
use Rattle.slot_store.proofs.Puts.RetireCalls.{came_retired, done_here, failed_here, free_here, newest_here, no_calls, passed_here, reads_here, whole_here, zeros_here}
use Rattle.slot_store.proofs.pager.Pager.retire.Goals as goal

pub returns-then-not-self-clause-at_rest : goal.returns-then-not-self-clause-at_rest
returns-then-not-self-clause-at_rest g c = alone c.args.self.now
    (g.D.Disk.state c.args.disk.now) c.requires.awaits c.if-not-self.true

pub returns-then-not-self-clause-calls : goal.returns-then-not-self-clause-calls
returns-then-not-self-clause-calls g c = record {
  passed = no_calls c.args.self.now (g.D.Disk.state c.args.disk.now) c.if-not-self.true;
  few = tt;
  went = none_made call_of _ (g.D.Disk.state c.args.disk.now);
}

pub retire-requires-clause-free : goal.retire-requires-clause-free
retire-requires-clause-free g c = free_here c.args.self.now (g.D.Disk.state c.args.disk.now)
    c.requires.awaits c.layout.result c.deref.result.now c.layout.ensures.layout
    c.deref.ensures.value (omega (arith, c.size-size.ensures, c.size-size.type_inv))
    c.requires.within

pub retire-requires-clause-newest : goal.retire-requires-clause-newest
retire-requires-clause-newest g c = newest_here c.args.self.now (g.D.Disk.state c.args.disk.now)
    c.requires.awaits c.layout.result c.deref.result.now c.layout.ensures.layout
    c.deref.ensures.value

pub retire-requires-clause-zeros : goal.retire-requires-clause-zeros
retire-requires-clause-zeros g c = zeros_here c.args.self.now c.layout.result
    c.deref-2.result.now (take (PAGE - 1) c.deref-3.result.now) c.layout.ensures.layout
    c.deref-2.ensures.value (ap (λ (z : List ℕ). take (PAGE - 1) z) c.deref-3.ensures.value)

pub returns-in-Ok-clause-any_moment : goal.returns-in-Ok-clause-any_moment
returns-in-Ok-clause-any_moment g c = whole_here c.args.self.now (g.D.Disk.state c.args.disk.now)
    c.requires.awaits c.layout.result c.deref.result.now c.layout.ensures.layout
    c.deref.ensures.value (g.D.Disk.state c.retire.new.disk) _ c.in-Ok.ensures.runs
    c.in-Ok.ensures.retires

pub returns-in-Ok-clause-reads : goal.returns-in-Ok-clause-reads
returns-in-Ok-clause-reads g c = reads_here c.args.self.now (g.D.Disk.state c.args.disk.now)
    c.requires.awaits c.layout.result c.deref.result.now c.layout.ensures.layout
    c.deref.ensures.value (g.D.Disk.state c.retire.new.disk) _ c.in-Ok.ensures.runs
    c.in-Ok.ensures.retires

pub returns-in-Err-clause-any_moment : goal.returns-in-Err-clause-any_moment
returns-in-Err-clause-any_moment g c = whole_here c.args.self.now (g.D.Disk.state c.args.disk.now)
    c.requires.awaits c.layout.result c.deref.result.now c.layout.ensures.layout
    c.deref.ensures.value (g.D.Disk.state c.retire.new.disk) _ c.in-Err.ensures.runs
    c.in-Err.ensures.retires

pub returns-in-Err-clause-reads : goal.returns-in-Err-clause-reads
returns-in-Err-clause-reads g c = reads_here c.args.self.now (g.D.Disk.state c.args.disk.now)
    c.requires.awaits c.layout.result c.deref.result.now c.layout.ensures.layout
    c.deref.ensures.value (g.D.Disk.state c.retire.new.disk) _ c.in-Err.ensures.runs
    c.in-Err.ensures.retires

pub returns-in-Ok-clause-at_rest : goal.returns-in-Ok-clause-at_rest
returns-in-Ok-clause-at_rest g c = done_here c.args.self.now (g.D.Disk.state c.args.disk.now)
    c.requires.awaits c.layout.result c.deref.result.now c.layout.ensures.layout
    c.deref.ensures.value (g.D.Disk.state c.retire.new.disk) _ c.in-Ok.ensures.runs
    c.in-Ok.ensures.retires (g.met.D.Disk.lawful c.args.disk.now)

pub returns-in-Ok-clause-calls : goal.returns-in-Ok-clause-calls
returns-in-Ok-clause-calls g c = passed_here c.args.self.now (g.D.Disk.state c.args.disk.now)
    c.requires.awaits c.layout.result c.deref.result.now c.layout.ensures.layout
    c.deref.ensures.value (g.D.Disk.state c.retire.new.disk) _ _ c.in-Ok.ensures.runs
    c.if-not-self.false

pub returns-in-Err-clause-calls : goal.returns-in-Err-clause-calls
returns-in-Err-clause-calls g c = failed_here c.args.self.now
    (g.D.Disk.state c.args.disk.now) c.requires.awaits c.layout.result c.deref.result.now
    c.layout.ensures.layout c.deref.ensures.value {T = Unit} {U = Unit}
    (g.D.Disk.state c.retire.new.disk) c.in-Err.call _ c.in-Err.ensures.runs refl c.if-not-self.false

pub returns-in-Err-clause-kind : goal.returns-in-Err-clause-kind
returns-in-Err-clause-kind g c = came_retired c.args.self.now c.deref.result.now
    (g.D.Disk.state c.args.disk.now) (g.D.Disk.state c.retire.new.disk) c.in-Err.call
    c.deref.ensures.value c.in-Err.ensures.kind
