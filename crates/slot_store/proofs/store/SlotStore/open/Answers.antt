use Rattle.std.proofs.Common.{◌≡◌, ◌≢◌, ℕ, OnOk, sym, subst, arith}
use Rattle.std.specs.Prelude.{IfErr, IfOk}
use Rattle.dr_disk.specs.declared.call.Call.{Call}
use Rattle.dr_disk.specs.State.{all_pass}
use Rattle.dr_disk.specs.Spans.{FailsLater, IsQuiet}
use Rattle.pages.specs.Counted.{MakesAtMost}
use Rattle.pages.proofs.Looking.{reads_more, reads_none}
use Rattle.slot_store.specs.Limits.{faulted, opening_reads, openings}
use Rattle.slot_store.specs.declared.errors.OpenError.TheVariants.{Memory, StoreFault}
use Rattle.slot_store.specs.AtRest.{IsLeft}
use Rattle.slot_store.specs.Found.{HasReadContent}
use Rattle.slot_store.specs.Opened.{IsOpened, IsRefused}
use Rattle.slot_store.specs.Store.{content}
use Rattle.slot_store.proofs.Openings.Answered.{answered_ahead, answered_fate, answered_few, answered_memory, answered_moment, answered_opened, answered_quiet, answered_read, answered_reads, answered_reads_few, answered_refused, answered_still, faulted_few, memory_few, refused_by}
use Rattle.slot_store.proofs.store.SlotStore.open.Goals as goal

pub returns-in-Err-clause-refused : goal.returns-in-Err-clause-refused
returns-in-Err-clause-refused g c = refused_by _ _ _ _ _ c.in-Err.ensures.calls

pub returns-clause-opened : goal.returns-clause-opened
returns-clause-opened g c =
    subst (λ r. IfOk r (λ both. IsOpened g.G.Grammar.fault_at c.args.area (g.D.Disk.state c.args.disk.now)
    (g.D.Disk.state c.open_read.new.disk) both.0 both.1)) (sym c.answer.ensures)
    (answered_opened g.G.Grammar.fault_at c.args.area (g.D.Disk.state c.args.disk.now) (g.D.Disk.state c.settle_and_read.new.disk)
    (g.D.Disk.state c.open_read.new.disk) c.in-Ok-settle_and_read.gates c.open_read.result c.settle_and_read.ensures.any_moment
    c.settle_and_read.ensures.unwritten c.in-Ok-settle_and_read.ensures.settled c.in-Ok-settle_and_read.ensures.passed
    c.in-Ok-settle_and_read.ensures.calls c.open_read.ensures.opens)

pub returns-clause-any_moment : goal.returns-clause-any_moment
returns-clause-any_moment g c =
    answered_moment g.G.Grammar.fault_at c.args.area (g.D.Disk.state c.args.disk.now) (g.D.Disk.state c.settle_and_read.new.disk)
    (g.D.Disk.state c.open_read.new.disk) c.in-Ok-settle_and_read.gates c.open_read.result c.settle_and_read.ensures.any_moment
    c.settle_and_read.ensures.unwritten c.in-Ok-settle_and_read.ensures.settled c.in-Ok-settle_and_read.ensures.passed
    c.in-Ok-settle_and_read.ensures.calls c.open_read.ensures.opens

pub returns-clause-reads : goal.returns-clause-reads
returns-clause-reads g c =
    answered_reads g.G.Grammar.fault_at c.args.area (g.D.Disk.state c.args.disk.now) (g.D.Disk.state c.settle_and_read.new.disk)
    (g.D.Disk.state c.open_read.new.disk) c.in-Ok-settle_and_read.gates c.open_read.result c.settle_and_read.ensures.any_moment
    c.settle_and_read.ensures.unwritten c.in-Ok-settle_and_read.ensures.settled c.in-Ok-settle_and_read.ensures.passed
    c.in-Ok-settle_and_read.ensures.calls c.open_read.ensures.opens
    (g.met.D.Disk.lawful c.open_read.new.disk)

pub returns-clause-still : goal.returns-clause-still
returns-clause-still g c = λ was.
    subst (λ r. IsLeft (g.D.Disk.state c.args.disk.now) (g.D.Disk.state c.open_read.new.disk) r) (sym c.answer.ensures)
    (answered_still g.G.Grammar.fault_at c.args.area (g.D.Disk.state c.args.disk.now) (g.D.Disk.state c.settle_and_read.new.disk)
    (g.D.Disk.state c.open_read.new.disk) c.in-Ok-settle_and_read.gates c.open_read.result c.settle_and_read.ensures.any_moment
    c.settle_and_read.ensures.unwritten c.in-Ok-settle_and_read.ensures.settled c.in-Ok-settle_and_read.ensures.passed
    c.in-Ok-settle_and_read.ensures.calls c.open_read.ensures.opens was)

pub returns-clause-refused : goal.returns-clause-refused
returns-clause-refused g c =
    subst (λ r. IfErr r (IsRefused g.G.Grammar.fault_at c.args.area (g.D.Disk.state c.args.disk.now)
    (g.D.Disk.state c.open_read.new.disk))) (sym c.answer.ensures)
    (answered_refused g.G.Grammar.fault_at c.args.area (g.D.Disk.state c.args.disk.now) (g.D.Disk.state c.settle_and_read.new.disk)
    (g.D.Disk.state c.open_read.new.disk) c.in-Ok-settle_and_read.gates c.open_read.result c.settle_and_read.ensures.any_moment
    c.settle_and_read.ensures.unwritten c.in-Ok-settle_and_read.ensures.settled c.in-Ok-settle_and_read.ensures.passed
    c.in-Ok-settle_and_read.ensures.calls c.open_read.ensures.opens)

pub returns-clause-memory : goal.returns-clause-memory
returns-clause-memory g c =
    subst (λ r. IfErr r (λ e. e ≡ Memory → c.open_read.new.disk ≡ c.args.disk.now)) (sym c.answer.ensures)
    (answered_memory g.G.Grammar.fault_at c.args.area (g.D.Disk.state c.args.disk.now) (g.D.Disk.state c.settle_and_read.new.disk)
    (g.D.Disk.state c.open_read.new.disk) c.in-Ok-settle_and_read.gates c.open_read.result c.settle_and_read.ensures.any_moment
    c.settle_and_read.ensures.unwritten c.in-Ok-settle_and_read.ensures.settled c.in-Ok-settle_and_read.ensures.passed
    c.in-Ok-settle_and_read.ensures.calls c.open_read.ensures.opens _)

pub returns-clause-quiet : goal.returns-clause-quiet
returns-clause-quiet g c =
    subst (λ r. OnOk r (IsQuiet (g.D.Disk.state c.args.disk.now) (g.D.Disk.state c.open_read.new.disk))) (sym c.answer.ensures)
    (answered_quiet g.G.Grammar.fault_at c.args.area (g.D.Disk.state c.args.disk.now) (g.D.Disk.state c.settle_and_read.new.disk)
    (g.D.Disk.state c.open_read.new.disk) c.in-Ok-settle_and_read.gates c.open_read.result c.settle_and_read.ensures.any_moment
    c.settle_and_read.ensures.unwritten c.in-Ok-settle_and_read.ensures.settled c.in-Ok-settle_and_read.ensures.passed
    c.in-Ok-settle_and_read.ensures.calls c.open_read.ensures.opens)

pub returns-clause-ahead : goal.returns-clause-ahead
returns-clause-ahead g c =
    subst (λ r. OnOk r (FailsLater (g.D.Disk.state c.args.disk.now) (g.D.Disk.state c.open_read.new.disk))) (sym c.answer.ensures)
    (answered_ahead g.G.Grammar.fault_at c.args.area (g.D.Disk.state c.args.disk.now) (g.D.Disk.state c.settle_and_read.new.disk)
    (g.D.Disk.state c.open_read.new.disk) c.in-Ok-settle_and_read.gates c.open_read.result c.settle_and_read.ensures.any_moment
    c.settle_and_read.ensures.unwritten c.in-Ok-settle_and_read.ensures.settled c.in-Ok-settle_and_read.ensures.passed
    c.in-Ok-settle_and_read.ensures.calls c.open_read.ensures.opens)

pub returns-clause-fate : goal.returns-clause-fate
returns-clause-fate g c =
    subst (λ r. (g.D.Disk.state c.args.disk.now).fate ≡ all_pass
    → IfErr r (λ e. (call : Call) → e ≢ StoreFault call) × ((g.D.Disk.state c.open_read.new.disk).fate ≡ all_pass)) (sym c.answer.ensures)
    (answered_fate g.G.Grammar.fault_at c.args.area (g.D.Disk.state c.args.disk.now) (g.D.Disk.state c.settle_and_read.new.disk)
    (g.D.Disk.state c.open_read.new.disk) c.in-Ok-settle_and_read.gates c.open_read.result c.settle_and_read.ensures.any_moment
    c.settle_and_read.ensures.unwritten c.in-Ok-settle_and_read.ensures.settled c.in-Ok-settle_and_read.ensures.passed
    c.in-Ok-settle_and_read.ensures.calls c.open_read.ensures.opens)

pub returns-clause-read : goal.returns-clause-read
returns-clause-read g c =
    subst (λ r. IfOk r (λ both. HasReadContent g.G.Grammar.has_read c.args.reader.now c.open_read.new.reader (content both.0)))
    (sym c.answer.ensures)
    (answered_read g.G.Grammar.has_read c.args.reader.now c.open_read.new.reader c.open_read.result c.open_read.ensures.read)

pub returns-clause-few : goal.returns-clause-few
returns-clause-few g c =
    subst (λ r. MakesAtMost (openings c.args.area) faulted (g.D.Disk.state c.args.disk.now) (g.D.Disk.state c.open_read.new.disk) r)
    (sym c.answer.ensures)
    (answered_few g.G.Grammar.fault_at c.args.area (g.D.Disk.state c.args.disk.now) (g.D.Disk.state c.settle_and_read.new.disk)
    (g.D.Disk.state c.open_read.new.disk) c.in-Ok-settle_and_read.gates c.open_read.result c.settle_and_read.ensures.any_moment
    c.settle_and_read.ensures.unwritten c.in-Ok-settle_and_read.ensures.settled c.in-Ok-settle_and_read.ensures.passed
    c.in-Ok-settle_and_read.ensures.calls c.open_read.ensures.opens c.in-Ok-settle_and_read.ensures.few)

pub returns-in-Err-clause-few : goal.returns-in-Err-clause-few
returns-in-Err-clause-few g c = faulted_few {U = ℕ × ℕ} c.args.area _ _ _ c.in-Err.ensures.few

pub returns-in_default-clause-few : goal.returns-in_default-clause-few
returns-in_default-clause-few g c = memory_few c.args.area _

pub returns-clause-looked : goal.returns-clause-looked
returns-clause-looked g c =
    answered_reads_few g.G.Grammar.fault_at c.args.area (g.D.Disk.state c.args.disk.now) (g.D.Disk.state c.settle_and_read.new.disk)
    (g.D.Disk.state c.open_read.new.disk) c.in-Ok-settle_and_read.gates c.open_read.result c.settle_and_read.ensures.any_moment
    c.settle_and_read.ensures.unwritten c.in-Ok-settle_and_read.ensures.settled c.in-Ok-settle_and_read.ensures.passed
    c.in-Ok-settle_and_read.ensures.calls c.open_read.ensures.opens c.settle_and_read.ensures.reads

pub returns-in-Err-clause-looked : goal.returns-in-Err-clause-looked
returns-in-Err-clause-looked g c = reads_more 4 (opening_reads c.args.area) _ _ (omega arith) c.settle_and_read.ensures.reads

pub returns-in_default-clause-looked : goal.returns-in_default-clause-looked
returns-in_default-clause-looked g c = reads_none (opening_reads c.args.area) _
