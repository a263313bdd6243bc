use Rattle.std.proofs.Common.{Ok, Err, ap, arith, length, subst, sym, ◌∙◌}
use Rattle.dr_disk.specs.Called.{Called}
use Rattle.dr_disk.specs.Spans.{Span}
use Rattle.pages.specs.Runs.{CameNext}
use Rattle.pages.specs.Stops.{retire_call}
use Rattle.book_store.specs.AtRest.{IsBookMarked}
use Rattle.book_store.specs.Committing.{CommitsRows, KeepsRows, ReadsOutsideBook, call_of}
use Rattle.book_store.specs.Layout.{HasBook}
use Rattle.book_store.specs.Store.{BookStore, all_drops, retire_calls, retired}
use Rattle.book_store.specs.declared.errors.StoreFault.{StoreFault}
use Rattle.book.proofs.Committed.{commit_failed, retire_failed, settled}
use Rattle.book.proofs.storing.settle.Goals as goal

pub returns-in-Err : goal.returns-in-Err
returns-in-Err g c = λ standing over.
    commit_failed c.args.store.now standing (g.D.Disk.state c.args.disk.now) (g.D.Disk.state c.commit.new.disk) c.in-Err.fault
    c.commit.new.self c.commit.ensures.next (c.in-Err.ensures.commits standing over) c.commit.ensures.reads c.in-Err.ensures.calls
    c.in-Err.ensures.kind

pub retire-requires-clause-within : goal.retire-requires-clause-within
retire-requires-clause-within g c =
    let mid = g.D.Disk.state c.commit.new.disk in
    let commits = c.in-Ok.ensures.commits c.requires.may.standing c.requires.may.over in
    subst (λ (s : BookStore). HasBook s.rows mid) (sym c.commit.ensures.next)
    (omega (arith, c.requires.may.within, commits.any_moment.size))

pub retire-requires-clause-awaits : goal.retire-requires-clause-awaits
retire-requires-clause-awaits g c = λ d left.
    let commits = c.in-Ok.ensures.commits c.requires.may.standing c.requires.may.over in
    (commits.done d left).0

pub returns-in-Err-retire : goal.returns-in-Err-retire
returns-in-Err-retire g c = λ standing over.
    let start = g.D.Disk.state c.args.disk.now in
    let mid = g.D.Disk.state c.commit.new.disk in
    let end = g.D.Disk.state c.retire.new.disk in
    let next = c.commit.ensures.next in
    let commits = subst (λ (s : BookStore). CommitsRows {T = Unit} {E = StoreFault} s standing start mid (Ok tt)) next
    (c.in-Ok.ensures.commits standing over) in
    retire_failed c.args.store.now standing start mid (λ d left. (commits.done d left).1) commits.any_moment end
    (subst (λ (s : BookStore). Span mid end (KeepsRows s.rows s.held mid)) next c.retire.ensures.any_moment)
    c.in-Err-retire.fault c.retire.new.self (g.met.D.Disk.lawful c.retire.new.disk)
    (ap (λ (s : BookStore). s.rows) c.retire.ensures.next ∙ ap (λ (s : BookStore). s.rows) next)
    c.in-Ok.ensures.calls c.commit.ensures.reads
    (subst (λ (s : BookStore). Called {T = Unit} (retire_calls s) call_of mid end (Err c.in-Err-retire.fault)) next
    c.in-Err-retire.ensures.calls)
    (subst (λ (s : BookStore). ReadsOutsideBook s.rows mid end) next c.retire.ensures.reads)
    (subst (λ (s : BookStore). CameNext (retire_call (length (all_drops s))) mid end c.in-Err-retire.fault.call) next
    c.in-Err-retire.ensures.kind)

pub returns : goal.returns
returns g c = λ standing over.
    let start = g.D.Disk.state c.args.disk.now in
    let mid = g.D.Disk.state c.commit.new.disk in
    let end = g.D.Disk.state c.retire.new.disk in
    let next = c.commit.ensures.next in
    let commits = subst (λ (s : BookStore). CommitsRows {T = Unit} {E = StoreFault} s standing start mid (Ok tt)) next
    (c.in-Ok.ensures.commits standing over) in
    settled c.args.store.now standing start mid (λ d left. (commits.done d left).1) commits.any_moment end
    (subst (λ (s : BookStore). Span mid end (KeepsRows s.rows s.held mid)) next c.retire.ensures.any_moment)
    c.retire.new.self (c.retire.ensures.next ∙ ap retired next) c.requires.few c.requires.may.within
    (subst (λ (s : BookStore). IsBookMarked s.rows s.mark s.held) next c.commit.ensures.marked)
    c.in-Ok-retire.ensures.at_rest c.in-Ok.ensures.calls c.commit.ensures.reads
    (subst (λ (s : BookStore). Called {T = Unit} (retire_calls s) call_of mid end (Ok tt)) next c.in-Ok-retire.ensures.calls)
    (subst (λ (s : BookStore). ReadsOutsideBook s.rows mid end) next c.retire.ensures.reads)
