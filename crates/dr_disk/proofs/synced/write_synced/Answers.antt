use Rattle.std.proofs.Common.{refl}
use Rattle.dr_disk.specs.Called.{itself}
use Rattle.dr_disk.specs.declared.call.Call.TheVariants.{Write, Sync}
use Rattle.dr_disk.proofs.Calling.{failed_at_first, failed_later, once_failed, once_passed, passed_both}
use Rattle.dr_disk.proofs.WrittenAndSynced.{cut_at_sync, cut_at_write, synced_over, synced_reads, wrote, wrote_and_synced}
use Rattle.dr_disk.proofs.synced.write_synced.Goals as goal

pub returns-in_default-clause-calls : goal.returns-in_default-clause-calls
returns-in_default-clause-calls g c =
    failed_at_first 1 1 itself itself Write Write _ _ refl (once_failed Write _ _ _ c.in_default.ensures.told c.in_default.ensures.cause)

pub returns-in_default-settle-clause-calls : goal.returns-in_default-settle-clause-calls
returns-in_default-settle-clause-calls g c =
    failed_later 1 1 itself itself itself _ Sync Sync _ _ _ _ _ refl c.write_at.ensures.passes (once_passed Write _ _ _ c.in-Ok.ensures.told c.in-Ok.ensures.cause)
    c.settle.ensures.passes (once_failed Sync _ _ _ c.in_default-settle.ensures.told c.in_default-settle.ensures.cause)

pub returns-clause-calls : goal.returns-clause-calls
returns-clause-calls g c =
    passed_both 1 1 itself itself itself _ _ _ _ _ _ (once_passed Write _ _ _ c.in-Ok.ensures.told c.in-Ok.ensures.cause)
    (once_passed Sync _ _ _ c.in-Ok-settle.ensures.told c.in-Ok-settle.ensures.cause)

pub returns-in_default-settle-clause-any_moment : goal.returns-in_default-settle-clause-any_moment
returns-in_default-settle-clause-any_moment g c =
    wrote_and_synced _ _ _ _ c.write_at.ensures.passes c.write_at.ensures.within _ c.settle.ensures.passes c.settle.ensures.unwritten

pub returns-clause-any_moment : goal.returns-clause-any_moment
returns-clause-any_moment g c =
    wrote_and_synced _ _ _ _ c.write_at.ensures.passes c.write_at.ensures.within _ c.settle.ensures.passes c.settle.ensures.unwritten

pub returns-in_default-settle-clause-stopped : goal.returns-in_default-settle-clause-stopped
returns-in_default-settle-clause-stopped g c =
    cut_at_sync _ _ _ _ _ c.write_at.ensures.leaves c.in-Ok.ensures.told.passed
    c.in-Ok.ensures.written c.in_default-settle.ensures.leaves c.settle.ensures.unwritten
    c.in_default-settle.ensures.told.failed

pub returns-in_default-clause-any_moment : goal.returns-in_default-clause-any_moment
returns-in_default-clause-any_moment g c =
    wrote _ _ _ _ c.write_at.ensures.passes c.write_at.ensures.within

pub returns-in_default-clause-stopped : goal.returns-in_default-clause-stopped
returns-in_default-clause-stopped g c =
    cut_at_write _ _ _ _ c.write_at.ensures.leaves c.in_default.ensures.told.failed
    c.in_default.ensures.keeps

pub returns-in_default-clause-reads : goal.returns-in_default-clause-reads
returns-in_default-clause-reads g c = c.write_at.ensures.within.seen

pub returns-in_default-settle-clause-reads : goal.returns-in_default-settle-clause-reads
returns-in_default-settle-clause-reads g c =
    synced_reads _ _ _ _ _ c.write_at.ensures.within c.settle.ensures.unwritten

pub returns-clause-reads : goal.returns-clause-reads
returns-clause-reads g c =
    synced_reads _ _ _ _ _ c.write_at.ensures.within c.settle.ensures.unwritten

pub returns-clause-done : goal.returns-clause-done
returns-clause-done g c =
    synced_over (g.D.Disk.state c.args.disk.now) (g.D.Disk.state c.write_at.new.self)
    (g.D.Disk.state c.settle.new.disk) _ _ c.in-Ok.ensures.written c.settle.ensures.unwritten
    c.in-Ok-settle.ensures.settled
