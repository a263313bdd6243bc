use Rattle.std.proofs.Common.{length, refl, ◌∙◌, ap, arith}
use Rattle.dr_disk.proofs.Filled.{left_written}
use Rattle.dr_disk.proofs.Metering.{badly, failing, passing, well}
use Rattle.dr_disk.proofs.Overwrites.{length-overwritten}
use Rattle.dr_disk.proofs.Passing.{counts_grow}
use Rattle.dr_disk.proofs.Tears.{within_failed, within_written}
use Rattle.dr_disk.proofs.memory.MemoryDiskDisk.write_at.Goals as goal

pub returns-then-not-passes-clause-within : goal.returns-then-not-passes-clause-within
returns-then-not-passes-clause-within c =
    let platter = c.args.self.now.platter in
    within_failed _ _ _ _ _ _ _ _ _ _ _ _ _ _ _ platter.one_mark_each c.ask.ensures.marks c.ask.ensures.durable _ c.ask.ensures.bytes (omega (arith, platter.agrees.size))

pub returns-clause-within : goal.returns-clause-within
returns-clause-within c =
    let platter = c.args.self.now.platter in
    within_written _ _ _ _ _ _ _ _ _ _ _ _ _ _ _ platter.one_mark_each c.write.ensures.marks c.write.ensures.durable c.args.bytes.now _ refl c.requires platter.agrees.size c.write.ensures.bytes

pub returns-then-not-passes-clause-leaves : goal.returns-then-not-passes-clause-leaves
returns-then-not-passes-clause-leaves c =
    let platter = c.args.self.now.platter in
    left_written _ _ _ _ _ _ c.args.at c.args.bytes.now (omega (arith, platter.agrees.size)) platter.one_mark_each c.ask.ensures.durable c.ask.ensures.asked c.ask.ensures.marks

pub returns-clause-leaves : goal.returns-clause-leaves
returns-clause-leaves c =
    let platter = c.args.self.now.platter in
    left_written _ _ _ _ _ _ c.args.at c.args.bytes.now (omega (arith, platter.agrees.size)) platter.one_mark_each c.write.ensures.durable c.write.ensures.asked c.write.ensures.marks

pub returns-then-not-passes-clause-passes : goal.returns-then-not-passes-clause-passes
returns-then-not-passes-clause-passes c =
    let meter = c.passes.ensures in
    let fails = c.if-not-passes.true in
    let was = c.args.self.now in
    failing _ _ _ _ _ _ _ _ _ _ _ _ _ _ meter.fate meter.counted _
    meter.told fails (meter.stays fails)
    (ap length c.ask.ensures.bytes)
    (counts_grow (record { reads = was.reads; writes = was.writes; syncs = was.syncs; tried = was.tried })
    (record { reads = was.reads; writes = c.count_fault.new.count; syncs = was.syncs; tried = was.tried })
    (omega arith) c.count_fault.ensures.no_less (omega arith))

pub returns-clause-passes : goal.returns-clause-passes
returns-clause-passes c =
    let meter = c.passes.ensures in
    let bytes = c.args.self.now.platter.bytes.items in
    let passes = c.if-not-passes.false in
    passing _ _ _ _ _ _ _ _ _ _ _ _ _ _ meter.fate meter.counted _
    meter.told passes (meter.one passes)
    (ap length c.write.ensures.bytes
    ∙ length-overwritten bytes c.args.at c.args.bytes.now c.requires)
    (λ call. omega arith) meter.no_less

pub returns-then-not-passes-clause-told : goal.returns-then-not-passes-clause-told
returns-then-not-passes-clause-told c =
    let meter = c.passes.ensures in
    let fails = c.if-not-passes.true in
    badly _ _ _ _ _ _ _ _ _ _ _ _ _ _ meter.fate meter.counted _
    meter.told fails (meter.stays fails) _

pub returns-clause-told : goal.returns-clause-told
returns-clause-told c =
    let meter = c.passes.ensures in
    let passes = c.if-not-passes.false in
    well _ _ _ _ _ _ _ _ _ _ _ _ _ _ meter.fate meter.counted _
    meter.told passes (meter.one passes) _
