use Rattle.std.proofs.Common.{refl, arith}
use Rattle.dr_disk.specs.Called.{itself}
use Rattle.dr_disk.specs.declared.call.Call.TheVariants.{Sync}
use Rattle.dr_disk.proofs.Calling.{fails, goes_well, then_any}
use Rattle.dr_disk.proofs.Steps.{spans, widen}
use Rattle.pages.proofs.Counting.{few_looked, few_missed, few_passed, few_then}
use Rattle.pages.proofs.Looking.{reads_by, reads_none}
use Rattle.book_store.proofs.Openings.TablesRead.{tables_later}
use Rattle.book_store.proofs.reading.settle_and_read.Goals as goal

pub returns-in_default-clause-calls : goal.returns-in_default-clause-calls
returns-in_default-clause-calls g c = fails itself Sync _ _ _ c.in_default.ensures.told c.in_default.ensures.cause

pub returns-in-Err-clause-any_moment : goal.returns-in-Err-clause-any_moment
returns-in-Err-clause-any_moment g c =
    let start = g.D.Disk.state c.args.disk.now in
    let a = g.D.Disk.state c.settle_first.new.disk in
    let b = g.D.Disk.state c.read_tables.new.disk in
    spans start a b start.image (widen start a a.image start.image c.settle_first.ensures.unwritten.images c.settle_first.ensures.passes)
    (widen a b a.image start.image c.settle_first.ensures.unwritten.images c.read_tables.ensures.looks.during)

pub returns-in-Ok-read_tables-clause-any_moment : goal.returns-in-Ok-read_tables-clause-any_moment
returns-in-Ok-read_tables-clause-any_moment g c =
    let start = g.D.Disk.state c.args.disk.now in
    let a = g.D.Disk.state c.settle_first.new.disk in
    let b = g.D.Disk.state c.read_tables.new.disk in
    spans start a b start.image (widen start a a.image start.image c.settle_first.ensures.unwritten.images c.settle_first.ensures.passes)
    (widen a b a.image start.image c.settle_first.ensures.unwritten.images c.read_tables.ensures.looks.during)

pub returns-in-Err-clause-calls : goal.returns-in-Err-clause-calls
returns-in-Err-clause-calls g c =
    then_any (tt {0}) _ _ _ _ _ c.settle_first.ensures.passes
    (goes_well itself Sync (tt {0}) _ _ _ c.in-Ok.ensures.told c.in-Ok.ensures.cause) c.in-Err.ensures.looks.calls

pub returns-in-Ok-read_tables-clause-calls : goal.returns-in-Ok-read_tables-clause-calls
returns-in-Ok-read_tables-clause-calls g c =
    then_any (tt {0}) _ _ _ _ _ c.settle_first.ensures.passes
    (goes_well itself Sync (tt {0}) _ _ _ c.in-Ok.ensures.told c.in-Ok.ensures.cause) c.in-Ok-read_tables.ensures.looks.calls

pub returns-in-Ok-read_tables-clause-tables : goal.returns-in-Ok-read_tables-clause-tables
returns-in-Ok-read_tables-clause-tables g c =
    let looks = c.in-Ok-read_tables.ensures.looks in
    tables_later _ _ _ _ _ _ c.in-Ok-read_tables.ensures.found looks.during.size looks.untouched.unwritten.seen

pub returns-in_default-clause-few : goal.returns-in_default-clause-few
returns-in_default-clause-few g c = few_missed Sync _ _ c.in_default.ensures.told.failed

pub returns-in-Err-clause-few : goal.returns-in-Err-clause-few
returns-in-Err-clause-few g c =
    few_then 1 0 1 (tt {0}) _ _ _ _ (omega arith) (few_passed (tt {0}) _ _ c.in-Ok.ensures.told.passed)
    (few_looked 0 _ _ _ c.in-Err.ensures.looks)

pub returns-in-Ok-read_tables-clause-few : goal.returns-in-Ok-read_tables-clause-few
returns-in-Ok-read_tables-clause-few g c =
    few_then 1 0 1 (tt {0}) _ _ _ _ (omega arith) (few_passed (tt {0}) _ _ c.in-Ok.ensures.told.passed)
    (few_looked 0 _ _ _ c.in-Ok-read_tables.ensures.looks)

pub returns-in_default-clause-reads : goal.returns-in_default-clause-reads
returns-in_default-clause-reads g c = reads_by 4 _ (g.D.Disk.state c.args.disk.now) _ _ refl (reads_none 4 _) c.settle_first.ensures.unread

pub returns-in-Err-clause-reads : goal.returns-in-Err-clause-reads
returns-in-Err-clause-reads g c = reads_by 4 _ _ _ _ c.settle_first.ensures.unread c.in-Err.ensures.looks.few refl

pub returns-in-Ok-read_tables-clause-reads : goal.returns-in-Ok-read_tables-clause-reads
returns-in-Ok-read_tables-clause-reads g c = reads_by 4 _ _ _ _ c.settle_first.ensures.unread c.in-Ok-read_tables.ensures.looks.few refl
