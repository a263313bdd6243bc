use Rattle.std.proofs.Common.{◌∙◌, arith}
use Rattle.pages.proofs.Looking.{looks_twice, reads_more, reads_none}
use Rattle.slot_store.specs.Limits.{inspections}
use Rattle.slot_store.proofs.inspecting.inspect.Goals as goal

pub returns-in-Ok-report_read-clause-any_moment : goal.returns-in-Ok-report_read-clause-any_moment
returns-in-Ok-report_read-clause-any_moment g c =
    (looks_twice {total = inspections c.args.area} _ _ _ _ _ (omega arith) c.in-Ok-read_tables.ensures.looks c.in-Ok-report_read.ensures.looks).during

pub returns-clause-any_moment : goal.returns-clause-any_moment
returns-clause-any_moment g c =
    (looks_twice {total = inspections c.args.area} _ _ _ _ _ (omega arith) c.in-Ok-read_tables.ensures.looks c.in-Err-report_read.ensures.looks).during

pub returns-in-Ok-report_read-clause-report : goal.returns-in-Ok-report_read-clause-report
returns-in-Ok-report_read-clause-report g c =
    λ s told. c.in-Ok-report_read.ensures.found s
    (c.in-Ok-read_tables.ensures.looks.untouched.unwritten.seen ∙ told)

pub returns-in-Ok-report_read-clause-unwritten : goal.returns-in-Ok-report_read-clause-unwritten
returns-in-Ok-report_read-clause-unwritten g c =
    (looks_twice {total = inspections c.args.area} _ _ _ _ _ (omega arith) c.in-Ok-read_tables.ensures.looks c.in-Ok-report_read.ensures.looks).untouched.unwritten

pub returns-clause-unwritten : goal.returns-clause-unwritten
returns-clause-unwritten g c =
    (looks_twice {total = inspections c.args.area} _ _ _ _ _ (omega arith) c.in-Ok-read_tables.ensures.looks c.in-Err-report_read.ensures.looks).untouched.unwritten

pub returns-in-Ok-report_read-clause-reads : goal.returns-in-Ok-report_read-clause-reads
returns-in-Ok-report_read-clause-reads g c =
    (looks_twice {total = inspections c.args.area} _ _ _ _ _ (omega arith) c.in-Ok-read_tables.ensures.looks c.in-Ok-report_read.ensures.looks).few

pub returns-clause-reads : goal.returns-clause-reads
returns-clause-reads g c =
    (looks_twice {total = inspections c.args.area} _ _ _ _ _ (omega arith) c.in-Ok-read_tables.ensures.looks c.in-Err-report_read.ensures.looks).few

pub returns-in-Err-clause-reads : goal.returns-in-Err-clause-reads
returns-in-Err-clause-reads g c = reads_more 4 (inspections c.args.area) _ _ (omega arith) c.in-Err.ensures.looks.few

pub returns-in_default-clause-reads : goal.returns-in_default-clause-reads
returns-in_default-clause-reads g c = reads_none (inspections c.args.area) _
