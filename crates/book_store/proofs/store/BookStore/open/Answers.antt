use Rattle.std.proofs.Common.{◌≡◌, ◌≢◌, ℕ, OnOk, sym, ◌∙◌, subst, arith}
use Rattle.std.specs.Prelude.{IfErr, IfOk}
use Rattle.dr_disk.specs.declared.call.Call.{Call}
use Rattle.dr_disk.specs.State.{all_pass}
use Rattle.dr_disk.specs.Spans.{FailsLater, IsQuiet}
use Rattle.pages.specs.Counted.{MakesAtMost}
use Rattle.pages.proofs.Looking.{reads_more, reads_none}
use Rattle.book_store.specs.Counts.{faulted, opening_reads, openings}
use Rattle.book_store.specs.declared.errors.BookOpenError.TheVariants.{Memory, StoreFault}
use Rattle.book_store.specs.Opened.{IsBookLeft, IsBookOpened, IsBookRefused, IsLookedAt}
use Rattle.book_store.specs.Readers.{HaveReadRows}
use Rattle.book_store.proofs.Openings.Answered.{answered_ahead, answered_few, answered_fate, answered_looked, answered_memory, answered_moment, answered_opened, answered_quiet, answered_read, answered_reads, answered_refused, answered_still, outcome_whole}
use Rattle.book_store.proofs.Openings.Refusals.{faulted_few, memory_few, refused_by}
use Rattle.book_store.proofs.store.BookStore.open.Goals as goal

pub returns-clause-opened : goal.returns-clause-opened
returns-clause-opened g c =
    subst (λ r. IfOk r (λ both. IsBookOpened g.G.Grammar.fault_at c.args.rows (g.D.Disk.state c.args.disk.now) (g.D.Disk.state c.open_read-outcome.new.disk) both.0)) (sym c.answer.ensures)
    (answered_opened g.G.Grammar.fault_at g.G.Grammar.has_read c.args.rows c.open_read-outcome.new.readers (g.D.Disk.state c.args.disk.now)
    (g.D.Disk.state c.settle_and_read.new.disk) (g.D.Disk.state c.open_read-outcome.new.disk) c.in-Ok-settle_and_read.gates c.open_read-outcome.result
    c.settle_and_read.ensures.any_moment c.settle_and_read.ensures.unwritten c.in-Ok-settle_and_read.ensures.settled c.in-Ok-settle_and_read.ensures.passed
    c.in-Ok-settle_and_read.ensures.calls c.open_read-outcome.ensures)

pub returns-clause-read : goal.returns-clause-read
returns-clause-read g c =
    subst (λ r. IfOk r (λ both. HaveReadRows g.G.Grammar.has_read both.1.items both.0.held)) (sym c.answer.ensures)
    (answered_read g.G.Grammar.fault_at g.G.Grammar.has_read c.args.rows c.open_read-outcome.new.readers (g.D.Disk.state c.args.disk.now)
    (g.D.Disk.state c.settle_and_read.new.disk) (g.D.Disk.state c.open_read-outcome.new.disk) c.in-Ok-settle_and_read.gates c.open_read-outcome.result
    c.settle_and_read.ensures.any_moment c.settle_and_read.ensures.unwritten c.in-Ok-settle_and_read.ensures.settled c.in-Ok-settle_and_read.ensures.passed
    c.in-Ok-settle_and_read.ensures.calls c.open_read-outcome.ensures)

pub returns-clause-any_moment : goal.returns-clause-any_moment
returns-clause-any_moment g c =
    answered_moment g.G.Grammar.fault_at g.G.Grammar.has_read c.args.rows c.open_read-outcome.new.readers (g.D.Disk.state c.args.disk.now)
    (g.D.Disk.state c.settle_and_read.new.disk) (g.D.Disk.state c.open_read-outcome.new.disk) c.in-Ok-settle_and_read.gates c.open_read-outcome.result
    c.settle_and_read.ensures.any_moment c.settle_and_read.ensures.unwritten c.in-Ok-settle_and_read.ensures.settled c.in-Ok-settle_and_read.ensures.passed
    c.in-Ok-settle_and_read.ensures.calls c.open_read-outcome.ensures

pub returns-clause-reads : goal.returns-clause-reads
returns-clause-reads g c =
    answered_reads g.G.Grammar.fault_at g.G.Grammar.has_read c.args.rows c.open_read-outcome.new.readers (g.D.Disk.state c.args.disk.now)
    (g.D.Disk.state c.settle_and_read.new.disk) (g.D.Disk.state c.open_read-outcome.new.disk) c.in-Ok-settle_and_read.gates c.open_read-outcome.result
    c.settle_and_read.ensures.any_moment c.settle_and_read.ensures.unwritten c.in-Ok-settle_and_read.ensures.settled c.in-Ok-settle_and_read.ensures.passed
    c.in-Ok-settle_and_read.ensures.calls c.open_read-outcome.ensures
    (g.met.D.Disk.lawful c.open_read-outcome.new.disk)

pub returns-clause-still : goal.returns-clause-still
returns-clause-still g c = λ was.
    subst (λ r. IsBookLeft (g.D.Disk.state c.args.disk.now) (g.D.Disk.state c.open_read-outcome.new.disk) r) (sym c.answer.ensures)
    (answered_still g.G.Grammar.fault_at g.G.Grammar.has_read c.args.rows c.open_read-outcome.new.readers (g.D.Disk.state c.args.disk.now)
    (g.D.Disk.state c.settle_and_read.new.disk) (g.D.Disk.state c.open_read-outcome.new.disk) c.in-Ok-settle_and_read.gates c.open_read-outcome.result
    c.settle_and_read.ensures.any_moment c.settle_and_read.ensures.unwritten c.in-Ok-settle_and_read.ensures.settled c.in-Ok-settle_and_read.ensures.passed
    c.in-Ok-settle_and_read.ensures.calls c.open_read-outcome.ensures was)

pub returns-clause-looked : goal.returns-clause-looked
returns-clause-looked g c =
    answered_looked g.G.Grammar.fault_at g.G.Grammar.has_read c.args.rows c.open_read-outcome.new.readers (g.D.Disk.state c.args.disk.now)
    (g.D.Disk.state c.settle_and_read.new.disk) (g.D.Disk.state c.open_read-outcome.new.disk) c.in-Ok-settle_and_read.gates c.open_read-outcome.result
    c.settle_and_read.ensures.any_moment c.settle_and_read.ensures.unwritten c.in-Ok-settle_and_read.ensures.settled c.in-Ok-settle_and_read.ensures.passed
    c.in-Ok-settle_and_read.ensures.calls c.open_read-outcome.ensures c.settle_and_read.ensures.reads

pub returns-clause-few : goal.returns-clause-few
returns-clause-few g c =
    subst (λ r. MakesAtMost (openings c.args.rows) faulted (g.D.Disk.state c.args.disk.now) (g.D.Disk.state c.open_read-outcome.new.disk) r) (sym c.answer.ensures)
    (answered_few g.G.Grammar.fault_at g.G.Grammar.has_read c.args.rows c.open_read-outcome.new.readers (g.D.Disk.state c.args.disk.now)
    (g.D.Disk.state c.settle_and_read.new.disk) (g.D.Disk.state c.open_read-outcome.new.disk) c.in-Ok-settle_and_read.gates c.open_read-outcome.result
    c.settle_and_read.ensures.any_moment c.settle_and_read.ensures.unwritten c.in-Ok-settle_and_read.ensures.settled c.in-Ok-settle_and_read.ensures.passed
    c.in-Ok-settle_and_read.ensures.calls c.open_read-outcome.ensures c.in-Ok-settle_and_read.ensures.few)

pub returns-clause-refused : goal.returns-clause-refused
returns-clause-refused g c =
    subst (λ r. IfErr r (IsBookRefused g.G.Grammar.fault_at c.args.rows (g.D.Disk.state c.args.disk.now) (g.D.Disk.state c.open_read-outcome.new.disk))) (sym c.answer.ensures)
    (answered_refused g.G.Grammar.fault_at g.G.Grammar.has_read c.args.rows c.open_read-outcome.new.readers (g.D.Disk.state c.args.disk.now)
    (g.D.Disk.state c.settle_and_read.new.disk) (g.D.Disk.state c.open_read-outcome.new.disk) c.in-Ok-settle_and_read.gates c.open_read-outcome.result
    c.settle_and_read.ensures.any_moment c.settle_and_read.ensures.unwritten c.in-Ok-settle_and_read.ensures.settled c.in-Ok-settle_and_read.ensures.passed
    c.in-Ok-settle_and_read.ensures.calls c.open_read-outcome.ensures)

pub returns-clause-memory : goal.returns-clause-memory
returns-clause-memory g c =
    subst (λ r. IfErr r (λ e. e ≡ Memory → IsLookedAt (g.D.Disk.state c.args.disk.now) (g.D.Disk.state c.open_read-outcome.new.disk))) (sym c.answer.ensures)
    (answered_memory g.G.Grammar.fault_at g.G.Grammar.has_read c.args.rows c.open_read-outcome.new.readers (g.D.Disk.state c.args.disk.now)
    (g.D.Disk.state c.settle_and_read.new.disk) (g.D.Disk.state c.open_read-outcome.new.disk) c.in-Ok-settle_and_read.gates c.open_read-outcome.result
    c.settle_and_read.ensures.any_moment c.settle_and_read.ensures.unwritten c.in-Ok-settle_and_read.ensures.settled c.in-Ok-settle_and_read.ensures.passed
    c.in-Ok-settle_and_read.ensures.calls c.open_read-outcome.ensures)

pub returns-clause-quiet : goal.returns-clause-quiet
returns-clause-quiet g c =
    subst (λ r. OnOk r (IsQuiet (g.D.Disk.state c.args.disk.now) (g.D.Disk.state c.open_read-outcome.new.disk))) (sym c.answer.ensures)
    (answered_quiet g.G.Grammar.fault_at g.G.Grammar.has_read c.args.rows c.open_read-outcome.new.readers (g.D.Disk.state c.args.disk.now)
    (g.D.Disk.state c.settle_and_read.new.disk) (g.D.Disk.state c.open_read-outcome.new.disk) c.in-Ok-settle_and_read.gates c.open_read-outcome.result
    c.settle_and_read.ensures.any_moment c.settle_and_read.ensures.unwritten c.in-Ok-settle_and_read.ensures.settled c.in-Ok-settle_and_read.ensures.passed
    c.in-Ok-settle_and_read.ensures.calls c.open_read-outcome.ensures)

pub returns-clause-ahead : goal.returns-clause-ahead
returns-clause-ahead g c =
    subst (λ r. OnOk r (FailsLater (g.D.Disk.state c.args.disk.now) (g.D.Disk.state c.open_read-outcome.new.disk))) (sym c.answer.ensures)
    (answered_ahead g.G.Grammar.fault_at g.G.Grammar.has_read c.args.rows c.open_read-outcome.new.readers (g.D.Disk.state c.args.disk.now)
    (g.D.Disk.state c.settle_and_read.new.disk) (g.D.Disk.state c.open_read-outcome.new.disk) c.in-Ok-settle_and_read.gates c.open_read-outcome.result
    c.settle_and_read.ensures.any_moment c.settle_and_read.ensures.unwritten c.in-Ok-settle_and_read.ensures.settled c.in-Ok-settle_and_read.ensures.passed
    c.in-Ok-settle_and_read.ensures.calls c.open_read-outcome.ensures)

pub returns-clause-fate : goal.returns-clause-fate
returns-clause-fate g c =
    subst (λ r. (g.D.Disk.state c.args.disk.now).fate ≡ all_pass
    → IfErr r (λ e. (call : Call) → e ≢ StoreFault call) × ((g.D.Disk.state c.open_read-outcome.new.disk).fate ≡ all_pass)) (sym c.answer.ensures)
    (answered_fate g.G.Grammar.fault_at g.G.Grammar.has_read c.args.rows c.open_read-outcome.new.readers (g.D.Disk.state c.args.disk.now)
    (g.D.Disk.state c.settle_and_read.new.disk) (g.D.Disk.state c.open_read-outcome.new.disk) c.in-Ok-settle_and_read.gates c.open_read-outcome.result
    c.settle_and_read.ensures.any_moment c.settle_and_read.ensures.unwritten c.in-Ok-settle_and_read.ensures.settled c.in-Ok-settle_and_read.ensures.passed
    c.in-Ok-settle_and_read.ensures.calls c.open_read-outcome.ensures)

pub answer-requires : goal.answer-requires
answer-requires g c =
    outcome_whole g.G.Grammar.fault_at g.G.Grammar.has_read c.args.rows c.open_read-outcome.new.readers.items
    (g.D.Disk.state c.settle_and_read.new.disk) (g.D.Disk.state c.open_read-outcome.new.disk) c.open_read-outcome.result
    c.open_read-outcome.ensures.found

pub returns-in-Err-clause-refused : goal.returns-in-Err-clause-refused
returns-in-Err-clause-refused g c = refused_by _ _ _ _ _ c.in-Err.ensures.calls

pub returns-in-Err-clause-few : goal.returns-in-Err-clause-few
returns-in-Err-clause-few g c = faulted_few {U = ℕ × ℕ} c.args.rows _ _ _ c.in-Err.ensures.few

pub returns-in-Err-clause-looked : goal.returns-in-Err-clause-looked
returns-in-Err-clause-looked g c = reads_more 4 (opening_reads c.args.rows) _ _ (omega arith) c.settle_and_read.ensures.reads

pub returns-in_default-clause-few : goal.returns-in_default-clause-few
returns-in_default-clause-few g c = memory_few c.args.rows _

pub returns-in_default-clause-looked : goal.returns-in_default-clause-looked
returns-in_default-clause-looked g c = reads_none (opening_reads c.args.rows) _

pub open_read-outcome-requires-clause-zero : goal.open_read-outcome-requires-clause-zero
open_read-outcome-requires-clause-zero g c = c.deref.ensures.value ∙ c.in-Ok.rooms.zero
