use Rattle.std.proofs.Common.{arith}
use Rattle.file_disk.proofs.UntoldCalls.{counted, untold_goes, untold_reads_badly, untold_reads_well}
use Rattle.file_disk.proofs.file.FileDiskDisk.end.Goals as goal

pub returns-in-Ok-clause-passes : goal.returns-in-Ok-clause-passes
returns-in-Ok-clause-passes g c =
    let was = c.self.inside in
    untold_goes _ was.size was.reads was.writes was.syncs was.reads was.writes was.syncs
    c.self.view_is (omega arith) (omega arith) (omega arith)

pub returns-in-Err-clause-passes : goal.returns-in-Err-clause-passes
returns-in-Err-clause-passes g c =
    let was = c.self.inside in
    untold_goes _ was.size was.reads was.writes was.syncs c.count_fault.new.count was.writes was.syncs
    c.self.view_is c.count_fault.ensures.no_less (omega arith) (omega arith)

pub returns-in-Ok-clause-told : goal.returns-in-Ok-clause-told
returns-in-Ok-clause-told g c =
    let was = c.self.inside in
    untold_reads_well c.args.self.now (counted was.size was.reads was.writes was.syncs) _

pub returns-in-Err-clause-told : goal.returns-in-Err-clause-told
returns-in-Err-clause-told g c =
    let was = c.self.inside in
    untold_reads_badly c.args.self.now
    (counted was.size c.count_fault.new.count was.writes was.syncs) _
