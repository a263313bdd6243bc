use Rattle.std.proofs.Common.{length, refl, ap, arith}
use Rattle.dr_disk.proofs.Metering.{badly, failing, passing, well}
use Rattle.dr_disk.proofs.Passing.{counts_grow}
use Rattle.dr_disk.proofs.Tears.{settled_seen}
use Rattle.dr_disk.proofs.memory.MemoryDiskDisk.sync.Goals as goal

pub returns-clause-settled : goal.returns-clause-settled
returns-clause-settled c = settled_seen _ _ _ _ _ c.settle.ensures.bytes c.settle.ensures.durable c.settle.ensures.marks

pub returns-then-not-passes-clause-passes : goal.returns-then-not-passes-clause-passes
returns-then-not-passes-clause-passes c =
    let meter = c.passes.ensures in
    let fails = c.if-not-passes.true in
    let was = c.args.self.now in
    failing _ _ _ _ _ _ _ _ _ _ _ _ _ _ meter.fate meter.counted _
    meter.told fails (meter.stays fails)
    refl
    (counts_grow (record { reads = was.reads; writes = was.writes; syncs = was.syncs; tried = was.tried })
    (record { reads = was.reads; writes = was.writes; syncs = c.count_fault.new.count; tried = was.tried })
    (omega arith) (omega arith) c.count_fault.ensures.no_less)

pub returns-clause-passes : goal.returns-clause-passes
returns-clause-passes c =
    let meter = c.passes.ensures in
    let passes = c.if-not-passes.false in
    passing _ _ _ _ _ _ _ _ _ _ _ _ _ _ meter.fate meter.counted _
    meter.told passes (meter.one passes)
    (ap length c.settle.ensures.bytes) (λ call. omega arith) meter.no_less

pub returns-then-not-passes-clause-told : goal.returns-then-not-passes-clause-told
returns-then-not-passes-clause-told c =
    let meter = c.passes.ensures in
    let fails = c.if-not-passes.true in
    badly _ _ _ _ _ _ _ _ _ _ _ _ _ _ meter.fate meter.counted _
    meter.told fails (meter.stays fails) _

pub returns-clause-told : goal.returns-clause-told
returns-clause-told c =
    let meter = c.passes.ensures in
    let passes = c.if-not-passes.false in
    well _ _ _ _ _ _ _ _ _ _ _ _ _ _ meter.fate meter.counted _
    meter.told passes (meter.one passes) _
