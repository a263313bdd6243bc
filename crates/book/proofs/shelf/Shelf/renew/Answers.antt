use Rattle.std.proofs.Common.{Err, List, Ok, Option, ap, arith, false, length, refl, subst, sym, true, ◌*◌, ◌+◌, ◌∙◌, ◌≡◌}
use Rattle.dr_disk.specs.Spans.{Span}
use Rattle.dr_disk.proofs.Calling.{then_failed, then_passed}
use Rattle.pages.proofs.Around.{reads_both}
use Rattle.book_model.specs.Rows.{Rows}
use Rattle.book_store.specs.Committing.{IsOldOrNewBook, KeepsRows, ReadsOutsideBook, call_of}
use Rattle.book_store.specs.Layout.{book_layout}
use Rattle.book_store.specs.Shown.{BookRow}
use Rattle.book_store.specs.Store.{BookStore}
use Rattle.session_model.specs.Clients.{Client}
use Rattle.book.specs.Books.{IsStoreReady}
use Rattle.book.specs.Opening.{AreNewest, AreRowsRead}
use Rattle.book.specs.RowKeepings.{RowNow}
use Rattle.book.specs.Renewing.{Renews, missed_by, renewings}
use Rattle.book_store.specs.Store.{committed, retire_calls}
use Rattle.book_store.specs.declared.errors.StoreFault.{StoreFault}
use Rattle.book_store.specs.declared.layout.TheConstants.{ROW_MOST}
use Rattle.pages.specs.Counted.{MakesAtMost}
use Rattle.pages.specs.Stops.{puts, retires}
use Rattle.book.proofs.Few.{few_as, few_of, few_then, settling_few}
use Rattle.book.specs.Rows.{stored}
use Rattle.book.proofs.Renewed.{all_newest, all_renewed, kept_span, renewed_span}
use Rattle.book.proofs.shelf.Shelf.renew.Goals as goal

pub returns-then-are_newest-clause-ready : goal.returns-then-are_newest-clause-ready
returns-then-are_newest-clause-ready g c =
    let k = g.K.Kem.mechanism in
    let start = g.D.Disk.state c.args.disk.now in
    let s = c.self.inside in
    let ready = subst (λ (n : RowNow). IsStoreReady n.book.store start) (sym c.self.view_is) c.requires.ready in
    let read = subst (λ (n : RowNow). AreRowsRead k n.book.store.held n.book.rows) (sym c.self.view_is) c.requires.read in
    record {
      rests = c.requires.ready;
      holds = subst (λ (n : RowNow). n.book.store.held ≡ stored n.book.rows) c.self.view_is
          (all_newest k s.rows.items s.store start ready (c.record_law.ensures.newest k) read c.self.invariant.2
          (λ r row lt is. c.are_newest.ensures.all c.if-are_newest.true r row (omega (arith, lt, c.len.ensures, s.rows.ok.0)) is));
    }

pub returns-then-are_newest-clause-few : goal.returns-then-are_newest-clause-few
returns-then-are_newest-clause-few g c = record { told = λ m is. (m, is, omega arith) }

pub renew_rows-requires-clause-read : goal.renew_rows-requires-clause-read
renew_rows-requires-clause-read g c =
    let k = g.K.Kem.mechanism in
    subst (λ (l : Rows Client). AreRowsRead k c.self.inside.store.held l) (sym c.deref.ensures.value)
    (subst (λ (n : RowNow). AreRowsRead k n.book.store.held n.book.rows) (sym c.self.view_is) c.requires.read)

pub invariant_of-self : goal.invariant_of-self
invariant_of-self c = λ c'.
    (c'.renew_rows.ensures.room, c'.self.invariant.1 ∙ sym c'.renew_rows.ensures.count, c'.self.invariant.2)

pub returns-in-Err-clause-any_moment : goal.returns-in-Err-clause-any_moment
returns-in-Err-clause-any_moment g c =
    let start = g.D.Disk.state c.args.disk.now in
    let end = g.D.Disk.state c.renew_rows.new.disk in
    let s = c.self.inside in
    subst (λ (n : RowNow). Span start end (IsOldOrNewBook n.book.store.rows n.book.store.held (stored n.book.rows) start)) c.self.view_is
    (kept_span s.store.rows s.store.held (stored s.rows.items) start end c.renew_rows.ensures.any_moment)

pub returns-in-Err-clause-still : goal.returns-in-Err-clause-still
returns-in-Err-clause-still g c = λ newest.
    let here = subst (λ (n : RowNow). AreNewest n.book.store.held) (sym c.self.view_is) newest in
    absurd (let e : false ≡ true = sym c.if-are_newest.false ∙ c.are_newest.ensures.some here in cc)

pub returns-in-Err-clause-reads : goal.returns-in-Err-clause-reads
returns-in-Err-clause-reads g c =
    let start = g.D.Disk.state c.args.disk.now in
    let end = g.D.Disk.state c.renew_rows.new.disk in
    subst (λ (n : RowNow). ReadsOutsideBook n.book.store.rows start end) c.self.view_is c.renew_rows.ensures.reads

pub returns-in-Err-clause-few : goal.returns-in-Err-clause-few
returns-in-Err-clause-few g c =
    let start = g.D.Disk.state c.args.disk.now in
    let end = g.D.Disk.state c.renew_rows.new.disk in
    let s = c.self.inside in
    subst (λ (n : RowNow). MakesAtMost {T = Unit} (renewings (length n.book.rows)) missed_by start end (Err c.in-Err.fault))
    c.self.view_is
    (few_as {T = Unit} {U = Unit} (ROW_MOST * length s.rows.items) (renewings (length s.rows.items)) missed_by missed_by start end
    (Err c.in-Err.fault) (Err c.in-Err.fault) refl (omega arith)
    (subst (λ (l : Rows Client). MakesAtMost {T = Unit} (ROW_MOST * length l) missed_by start end (Err c.in-Err.fault))
    c.deref.ensures.value c.in-Err.ensures.few))

pub invariant_of-self-in-Ok-settle : goal.invariant_of-self-in-Ok-settle
invariant_of-self-in-Ok-settle c = λ c'.
    let so = c'.in-Ok.ensures.renews in
    let takes = c'.settle.ensures c'.self.inside.store.held so.over in
    (c'.renew_rows.ensures.room, c'.self.invariant.1 ∙ sym (takes.rows ∙ so.rows_are), c'.self.invariant.2)

pub returns-in-Ok-settle-clause-count : goal.returns-in-Ok-settle-clause-count
returns-in-Ok-settle-clause-count g c =
    let so = c.in-Ok.ensures.renews in
    let takes = c.settle.ensures c.self.inside.store.held so.over in
    takes.rows ∙ so.rows_are ∙ ap (λ (n : RowNow). n.book.store.rows) c.self.view_is

pub returns-in-Ok-settle-clause-ready : goal.returns-in-Ok-settle-clause-ready
returns-in-Ok-settle-clause-ready g c =
    let k = g.K.Kem.mechanism in
    let start = g.D.Disk.state c.args.disk.now in
    let mid = g.D.Disk.state c.renew_rows.new.disk in
    let end = g.D.Disk.state c.settle.new.disk in
    let s = c.self.inside in
    let so = c.in-Ok.ensures.renews in
    let ready = subst (λ (n : RowNow). IsStoreReady n.book.store start) (sym c.self.view_is) c.requires.ready in
    let read = subst (λ (n : RowNow). AreRowsRead k n.book.store.held n.book.rows) (sym c.self.view_is) c.requires.read in
    let held = all_renewed k s.rows.items s.store start ready c.renew_rows.new.store mid
    (subst (λ (l : Rows Client). Renews l s.store c.renew_rows.new.store start mid (length l)) c.deref.ensures.value so)
    read c.self.invariant.2 in
    let takes = c.in-Ok-settle.ensures s.store.held so.over in
    record {
      rests = takes.ready;
      holds = ap (λ (b : BookStore). b.held) takes.next ∙ held;
    }

pub returns-in-Ok-settle-clause-any_moment : goal.returns-in-Ok-settle-clause-any_moment
returns-in-Ok-settle-clause-any_moment g c =
    let k = g.K.Kem.mechanism in
    let start = g.D.Disk.state c.args.disk.now in
    let mid = g.D.Disk.state c.renew_rows.new.disk in
    let end = g.D.Disk.state c.settle.new.disk in
    let s = c.self.inside in
    let so = c.in-Ok.ensures.renews in
    let ready = subst (λ (n : RowNow). IsStoreReady n.book.store start) (sym c.self.view_is) c.requires.ready in
    let read = subst (λ (n : RowNow). AreRowsRead k n.book.store.held n.book.rows) (sym c.self.view_is) c.requires.read in
    let held = all_renewed k s.rows.items s.store start ready c.renew_rows.new.store mid
    (subst (λ (l : Rows Client). Renews l s.store c.renew_rows.new.store start mid (length l)) c.deref.ensures.value so)
    read c.self.invariant.2 in
    let takes = c.settle.ensures s.store.held so.over in
    subst (λ (n : RowNow). Span start end (IsOldOrNewBook n.book.store.rows n.book.store.held (stored n.book.rows) start)) c.self.view_is
    (renewed_span s.store.rows s.store.held (stored s.rows.items) start mid end so.still so.any_moment
    (subst (λ n. Span mid end (IsOldOrNewBook n s.store.held (stored s.rows.items) mid)) so.rows_are
    (subst (λ (h : List (Option BookRow)). Span mid end (IsOldOrNewBook c.renew_rows.new.store.rows s.store.held h mid)) held
    takes.any_moment)))

pub returns-in-Ok-settle-clause-still : goal.returns-in-Ok-settle-clause-still
returns-in-Ok-settle-clause-still g c = λ newest.
    let here = subst (λ (n : RowNow). AreNewest n.book.store.held) (sym c.self.view_is) newest in
    absurd (let e : false ≡ true = sym c.if-are_newest.false ∙ c.are_newest.ensures.some here in cc)

pub returns-in-Ok-settle-clause-reads : goal.returns-in-Ok-settle-clause-reads
returns-in-Ok-settle-clause-reads g c =
    let k = g.K.Kem.mechanism in
    let start = g.D.Disk.state c.args.disk.now in
    let mid = g.D.Disk.state c.renew_rows.new.disk in
    let end = g.D.Disk.state c.settle.new.disk in
    let s = c.self.inside in
    let so = c.in-Ok.ensures.renews in
    let takes = c.settle.ensures s.store.held so.over in
    subst (λ (n : RowNow). ReadsOutsideBook n.book.store.rows start end) c.self.view_is
    (reads_both (book_layout s.store.rows) start mid end so.reads
    (subst (λ n. ReadsOutsideBook n mid end) so.rows_are takes.reads))

pub returns-in-Ok-settle-clause-went : goal.returns-in-Ok-settle-clause-went
returns-in-Ok-settle-clause-went g c =
    let k = g.K.Kem.mechanism in
    let start = g.D.Disk.state c.args.disk.now in
    let mid = g.D.Disk.state c.renew_rows.new.disk in
    let end = g.D.Disk.state c.settle.new.disk in
    let s = c.self.inside in
    let so = c.in-Ok.ensures.renews in
    let takes = c.in-Ok-settle.ensures s.store.held so.over in
    then_passed {T = Unit} {U = Unit} {V = Unit} call_of call_of call_of tt tt tt start mid end so.went takes.went.calls.went

pub returns-in-Ok-settle-clause-few : goal.returns-in-Ok-settle-clause-few
returns-in-Ok-settle-clause-few g c =
    let start = g.D.Disk.state c.args.disk.now in
    let mid = g.D.Disk.state c.renew_rows.new.disk in
    let end = g.D.Disk.state c.settle.new.disk in
    let s = c.self.inside in
    let so = c.in-Ok.ensures.renews in
    let staged = c.renew_rows.new.store in
    let takes = c.in-Ok-settle.ensures s.store.held so.over in
    let first = subst (λ (l : Rows Client). MakesAtMost {T = Unit} {E = StoreFault} (ROW_MOST * length l) missed_by start mid (Ok tt))
    c.deref.ensures.value c.in-Ok.ensures.few in
    let next = subst (λ n. MakesAtMost {T = Unit} {E = StoreFault} (puts 0 + retires (ROW_MOST * n)) missed_by mid end (Ok tt))
    (so.rows_are ∙ sym c.self.invariant.1)
    (few_of {T = Unit} (puts 0 + retire_calls (committed staged)) (puts 0 + retires (ROW_MOST * staged.rows)) mid end (Ok tt)
    (settling_few staged c.in-Ok.ensures.drops) takes.any_moment.passes takes.went.calls) in
    subst (λ (n : RowNow). MakesAtMost {T = Unit} (renewings (length n.book.rows)) missed_by start end (Ok tt)) c.self.view_is
    (few_then {T = Unit} {U = Unit} {V = Unit} (ROW_MOST * length s.rows.items) (puts 0 + retires (ROW_MOST * length s.rows.items))
    (renewings (length s.rows.items)) missed_by missed_by missed_by tt start mid end (Ok tt) (Ok tt) refl (omega arith) first next)

pub invariant_of-self-in-Err-settle : goal.invariant_of-self-in-Err-settle
invariant_of-self-in-Err-settle c = λ c'.
    let so = c'.in-Ok.ensures.renews in
    let takes = c'.settle.ensures c'.self.inside.store.held so.over in
    (c'.renew_rows.ensures.room, c'.self.invariant.1 ∙ sym (takes.rows ∙ so.rows_are), c'.self.invariant.2)

pub returns-in-Err-settle-clause-any_moment : goal.returns-in-Err-settle-clause-any_moment
returns-in-Err-settle-clause-any_moment g c =
    let k = g.K.Kem.mechanism in
    let start = g.D.Disk.state c.args.disk.now in
    let mid = g.D.Disk.state c.renew_rows.new.disk in
    let end = g.D.Disk.state c.settle.new.disk in
    let s = c.self.inside in
    let so = c.in-Ok.ensures.renews in
    let ready = subst (λ (n : RowNow). IsStoreReady n.book.store start) (sym c.self.view_is) c.requires.ready in
    let read = subst (λ (n : RowNow). AreRowsRead k n.book.store.held n.book.rows) (sym c.self.view_is) c.requires.read in
    let held = all_renewed k s.rows.items s.store start ready c.renew_rows.new.store mid
    (subst (λ (l : Rows Client). Renews l s.store c.renew_rows.new.store start mid (length l)) c.deref.ensures.value so)
    read c.self.invariant.2 in
    let takes = c.settle.ensures s.store.held so.over in
    subst (λ (n : RowNow). Span start end (IsOldOrNewBook n.book.store.rows n.book.store.held (stored n.book.rows) start)) c.self.view_is
    (renewed_span s.store.rows s.store.held (stored s.rows.items) start mid end so.still so.any_moment
    (subst (λ n. Span mid end (IsOldOrNewBook n s.store.held (stored s.rows.items) mid)) so.rows_are
    (subst (λ (h : List (Option BookRow)). Span mid end (IsOldOrNewBook c.renew_rows.new.store.rows s.store.held h mid)) held
    takes.any_moment)))

pub returns-in-Err-settle-clause-still : goal.returns-in-Err-settle-clause-still
returns-in-Err-settle-clause-still g c = λ newest.
    let here = subst (λ (n : RowNow). AreNewest n.book.store.held) (sym c.self.view_is) newest in
    absurd (let e : false ≡ true = sym c.if-are_newest.false ∙ c.are_newest.ensures.some here in cc)

pub returns-in-Err-settle-clause-reads : goal.returns-in-Err-settle-clause-reads
returns-in-Err-settle-clause-reads g c =
    let k = g.K.Kem.mechanism in
    let start = g.D.Disk.state c.args.disk.now in
    let mid = g.D.Disk.state c.renew_rows.new.disk in
    let end = g.D.Disk.state c.settle.new.disk in
    let s = c.self.inside in
    let so = c.in-Ok.ensures.renews in
    let takes = c.settle.ensures s.store.held so.over in
    subst (λ (n : RowNow). ReadsOutsideBook n.book.store.rows start end) c.self.view_is
    (reads_both (book_layout s.store.rows) start mid end so.reads
    (subst (λ n. ReadsOutsideBook n mid end) so.rows_are takes.reads))

pub returns-in-Err-settle-clause-went : goal.returns-in-Err-settle-clause-went
returns-in-Err-settle-clause-went g c =
    let k = g.K.Kem.mechanism in
    let start = g.D.Disk.state c.args.disk.now in
    let mid = g.D.Disk.state c.renew_rows.new.disk in
    let end = g.D.Disk.state c.settle.new.disk in
    let s = c.self.inside in
    let so = c.in-Ok.ensures.renews in
    let takes = c.in-Err-settle.ensures s.store.held so.over in
    then_failed {T = Unit} {U = Unit} {V = Unit} call_of call_of call_of tt c.in-Err-settle.fault c.in-Err-settle.fault start mid end
    (KeepsRows s.store.rows s.store.held start) refl so.any_moment so.went takes.went.calls.went

pub returns-in-Err-settle-clause-few : goal.returns-in-Err-settle-clause-few
returns-in-Err-settle-clause-few g c =
    let start = g.D.Disk.state c.args.disk.now in
    let mid = g.D.Disk.state c.renew_rows.new.disk in
    let end = g.D.Disk.state c.settle.new.disk in
    let s = c.self.inside in
    let so = c.in-Ok.ensures.renews in
    let staged = c.renew_rows.new.store in
    let takes = c.in-Err-settle.ensures s.store.held so.over in
    let first = subst (λ (l : Rows Client). MakesAtMost {T = Unit} {E = StoreFault} (ROW_MOST * length l) missed_by start mid (Ok tt))
    c.deref.ensures.value c.in-Ok.ensures.few in
    let next = subst (λ n. MakesAtMost {T = Unit} {E = StoreFault} (puts 0 + retires (ROW_MOST * n)) missed_by mid end
    (Err c.in-Err-settle.fault))
    (so.rows_are ∙ sym c.self.invariant.1)
    (few_of {T = Unit} (puts 0 + retire_calls (committed staged)) (puts 0 + retires (ROW_MOST * staged.rows)) mid end
    (Err c.in-Err-settle.fault)
    (settling_few staged c.in-Ok.ensures.drops) takes.any_moment.passes takes.went.calls) in
    subst (λ (n : RowNow). MakesAtMost {T = Unit} (renewings (length n.book.rows)) missed_by start end
    (Err c.in-Err-settle.fault)) c.self.view_is
    (few_then {T = Unit} {U = Unit} {V = Unit} (ROW_MOST * length s.rows.items) (puts 0 + retires (ROW_MOST * length s.rows.items))
    (renewings (length s.rows.items)) missed_by missed_by missed_by tt start mid end (Err c.in-Err-settle.fault)
    (Err c.in-Err-settle.fault) refl (omega arith) first next)
