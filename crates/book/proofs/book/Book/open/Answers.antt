use Rattle.std.proofs.Common.{Err, Ok, Some, ap, arith, false, length, refl, subst, true, sym, ℕ, ◌+◌, ◌≤◌, ◌∙◌, ◌≡◌}
use Rattle.dr_disk.specs.Calls.{Unwritten}
use Rattle.dr_disk.specs.Spans.{HavePassed}
use Rattle.pages.specs.Counted.{MakesAtMost, ReadsAtMost}
use Rattle.book_store.specs.Counts.{faulted, opening_reads, openings}
use Rattle.book_store.specs.declared.errors.BookOpenError.TheVariants.{StoreFault as Faulted}
use Rattle.book_store.specs.declared.errors.StoreFault.{StoreFault}
use Rattle.book.specs.Renewing.{missed_by, renewings}
use Rattle.book.proofs.Few.{few_then}
use Rattle.book_model.specs.Rows.{Rows}
use Rattle.book_store.specs.Layout.{HasBook}
use Rattle.book_store.specs.LikeRead.{IsEntryOrLikeBook}
use Rattle.session_model.specs.Clients.{Client}
use Rattle.book.specs.Opening.{AreNewest, AreRowsRead}
use Rattle.book.proofs.Opened.{alike, below, held_as_read, named, only_read, opened_moment, opened_went, reads_alike, renewing_failed, renewing_fate, to_as_read}
use Rattle.book.proofs.Renewed.{read_all}
use Rattle.book.proofs.book.Book.open.Goals as goal

pub returns-in-Err-clause-any_moment : goal.returns-in-Err-clause-any_moment
returns-in-Err-clause-any_moment g c =
    only_read g.K.Kem.mechanism c.args.rows (g.D.Disk.state c.args.disk.now) (g.D.Disk.state c.open.new.disk) c.open.ensures.any_moment

pub fill_rows-requires-clause-names : goal.fill_rows-requires-clause-names
fill_rows-requires-clause-names g c = named c.in-Ok-open.both.0 c.in-Ok-open.ensures.opened.marked

pub renew-requires-clause-ready : goal.renew-requires-clause-ready
renew-requires-clause-ready g c =
    let mid = g.D.Disk.state c.open.new.disk in
    let is = c.in-Ok-open.ensures.opened in
    record {
      few = omega (arith, is.rows_are, c.requires.few);
      within = subst (λ n. HasBook n mid) (sym is.rows_are) (omega (arith, c.requires.within, c.open.ensures.any_moment.size));
      unstaged = is.opened.staged;
      dropped = is.opened.drops;
      marked = is.marked;
      rests = λ d left. (is.at_rest d left).0;
    }

pub renew-requires-clause-read : goal.renew-requires-clause-read
renew-requires-clause-read g c =
    let store = c.in-Ok-open.both.0 in
    let is = c.in-Ok-open.ensures.opened in
    let long = c.fill_rows.ensures.long in
    read_all g.K.Kem.mechanism c.fill_rows.new.rows.items store.held
    (λ r lt. c.fill_rows.ensures.read r (omega (arith, lt, long)))
    (λ r row here. omega (arith, below store is.marked r row here, long, is.rows_are))

pub returns-in-Ok-renew-clause-opened : goal.returns-in-Ok-renew-clause-opened
returns-in-Ok-renew-clause-opened g c =
    let k = g.K.Kem.mechanism in
    let store = c.in-Ok-open.both.0 in
    let is = c.in-Ok-open.ensures.opened in
    let long = c.fill_rows.ensures.long in
    let read = read_all k c.fill_rows.new.rows.items store.held
    (λ r lt. c.fill_rows.ensures.read r (omega (arith, lt, long)))
    (λ r row here. omega (arith, below store is.marked r row here, long, is.rows_are)) in
    record {
      is_open = c.renew.ensures.closed;
      places = ap (λ (l : Rows Client). length l) c.renew.ensures.rows ∙ long;
      count = c.in-Ok-renew.ensures.count ∙ is.rows_are;
      read = λ s told. (
        store.held,
        is.read s told,
        subst (λ (l : Rows Client). AreRowsRead k store.held l) (sym c.renew.ensures.rows) read,
      );
      ready = c.in-Ok-renew.ensures.ready;
      alike = alike c.resting_books.ensures k c.args.rows c.fill_rows.new.rows.items (g.D.Disk.state c.args.disk.now)
          (g.D.Disk.state c.open.new.disk) (g.D.Disk.state c.renew.new.disk) store is read c.renew.ensures.any_moment;
    }

pub returns-in-Err-clause-reads : goal.returns-in-Err-clause-reads
returns-in-Err-clause-reads g c = λ s told.
    to_as_read g.K.Kem.mechanism c.args.rows (g.D.Disk.state c.args.disk.now) s (c.open.ensures.reads s told)

pub returns-in-Ok-renew-clause-reads : goal.returns-in-Ok-renew-clause-reads
returns-in-Ok-renew-clause-reads g c =
    let k = g.K.Kem.mechanism in
    let store = c.in-Ok-open.both.0 in
    let is = c.in-Ok-open.ensures.opened in
    let long = c.fill_rows.ensures.long in
    let read = read_all k c.fill_rows.new.rows.items store.held
    (λ r lt. c.fill_rows.ensures.read r (omega (arith, lt, long)))
    (λ r row here. omega (arith, below store is.marked r row here, long, is.rows_are)) in
    reads_alike c.resting_books.ensures k c.args.rows c.fill_rows.new.rows.items (g.D.Disk.state c.args.disk.now)
    (g.D.Disk.state c.open.new.disk) (g.D.Disk.state c.renew.new.disk) store is read c.renew.ensures.any_moment
    (g.met.D.Disk.lawful c.renew.new.disk)

pub returns-in-Err-renew-clause-reads : goal.returns-in-Err-renew-clause-reads
returns-in-Err-renew-clause-reads g c =
    let k = g.K.Kem.mechanism in
    let store = c.in-Ok-open.both.0 in
    let is = c.in-Ok-open.ensures.opened in
    let long = c.fill_rows.ensures.long in
    let read = read_all k c.fill_rows.new.rows.items store.held
    (λ r lt. c.fill_rows.ensures.read r (omega (arith, lt, long)))
    (λ r row here. omega (arith, below store is.marked r row here, long, is.rows_are)) in
    reads_alike c.resting_books.ensures k c.args.rows c.fill_rows.new.rows.items (g.D.Disk.state c.args.disk.now)
    (g.D.Disk.state c.open.new.disk) (g.D.Disk.state c.renew.new.disk) store is read c.renew.ensures.any_moment
    (g.met.D.Disk.lawful c.renew.new.disk)

pub returns-in-Ok-renew-clause-any_moment : goal.returns-in-Ok-renew-clause-any_moment
returns-in-Ok-renew-clause-any_moment g c =
    let k = g.K.Kem.mechanism in
    let store = c.in-Ok-open.both.0 in
    let is = c.in-Ok-open.ensures.opened in
    let long = c.fill_rows.ensures.long in
    let read = read_all k c.fill_rows.new.rows.items store.held
    (λ r lt. c.fill_rows.ensures.read r (omega (arith, lt, long)))
    (λ r row here. omega (arith, below store is.marked r row here, long, is.rows_are)) in
    opened_moment c.resting_books.ensures k c.args.rows c.fill_rows.new.rows.items (g.D.Disk.state c.args.disk.now)
    (g.D.Disk.state c.open.new.disk) (g.D.Disk.state c.renew.new.disk) store is read c.open.ensures.any_moment c.renew.ensures.any_moment

pub returns-in-Err-renew-clause-any_moment : goal.returns-in-Err-renew-clause-any_moment
returns-in-Err-renew-clause-any_moment g c =
    let k = g.K.Kem.mechanism in
    let store = c.in-Ok-open.both.0 in
    let is = c.in-Ok-open.ensures.opened in
    let long = c.fill_rows.ensures.long in
    let read = read_all k c.fill_rows.new.rows.items store.held
    (λ r lt. c.fill_rows.ensures.read r (omega (arith, lt, long)))
    (λ r row here. omega (arith, below store is.marked r row here, long, is.rows_are)) in
    opened_moment c.resting_books.ensures k c.args.rows c.fill_rows.new.rows.items (g.D.Disk.state c.args.disk.now)
    (g.D.Disk.state c.open.new.disk) (g.D.Disk.state c.renew.new.disk) store is read c.open.ensures.any_moment c.renew.ensures.any_moment

pub returns-in-Err-clause-still : goal.returns-in-Err-clause-still
returns-in-Err-clause-still g c = λ was newest. record {
  unwritten = (c.in-Err.ensures.still was).unwritten;
  one_sync = tt;
}

pub returns-in-Err-clause-looked : goal.returns-in-Err-clause-looked
returns-in-Err-clause-looked g c = λ s told newest.
    (c.open.ensures.looked, record { told = c.in-Err.ensures.few.told })

pub returns-in-Ok-renew-clause-still : goal.returns-in-Ok-renew-clause-still
returns-in-Ok-renew-clause-still g c = λ was newest.
    let start = g.D.Disk.state c.args.disk.now in
    let mid = g.D.Disk.state c.open.new.disk in
    let store = c.in-Ok-open.both.0 in
    let is = c.in-Ok-open.ensures.opened in
    let held = held_as_read c.resting_books.ensures g.K.Kem.mechanism c.args.rows start mid store is
    (g.met.D.Disk.lawful c.open.new.disk) c.open.ensures.any_moment.told was.bytes was.told in
    let same = (c.in-Ok-renew.ensures.still (subst AreNewest (sym held) (newest was.bytes was.told))).1 in
    let left = c.in-Ok-open.ensures.still was in
    record {
      unwritten = subst (λ (d : g.row.D.Denot). Unwritten start (g.D.Disk.state d)) (sym same) left.unwritten;
      one_sync = subst (λ (d : g.row.D.Denot). HavePassed 1 start (g.D.Disk.state d)) (sym same) left.one_sync;
    }

pub returns-in-Ok-renew-clause-looked : goal.returns-in-Ok-renew-clause-looked
returns-in-Ok-renew-clause-looked g c = λ s told newest.
    let start = g.D.Disk.state c.args.disk.now in
    let mid = g.D.Disk.state c.open.new.disk in
    let store = c.in-Ok-open.both.0 in
    let is = c.in-Ok-open.ensures.opened in
    let held = held_as_read c.resting_books.ensures g.K.Kem.mechanism c.args.rows start mid store is
    (g.met.D.Disk.lawful c.open.new.disk) c.open.ensures.any_moment.told s told in
    let same = (c.in-Ok-renew.ensures.still (subst AreNewest (sym held) newest)).1 in (
      subst (λ (d : g.row.D.Denot). ReadsAtMost (opening_reads c.args.rows) start (g.D.Disk.state d)) (sym same) c.open.ensures.looked,
      record {
        told = subst (λ (d : g.row.D.Denot). (m : ℕ) → (g.D.Disk.state d).passed ≡ Some m
            → (l : ℕ) × (start.passed ≡ Some l) × (m + 0 ≤ l + openings c.args.rows)) (sym same) c.in-Ok-open.ensures.few.told;
      },
    )

pub returns-in-Err-renew-clause-still : goal.returns-in-Err-renew-clause-still
returns-in-Err-renew-clause-still g c = λ was newest.
    let start = g.D.Disk.state c.args.disk.now in
    let mid = g.D.Disk.state c.open.new.disk in
    let store = c.in-Ok-open.both.0 in
    let held = held_as_read c.resting_books.ensures g.K.Kem.mechanism c.args.rows start mid store c.in-Ok-open.ensures.opened
    (g.met.D.Disk.lawful c.open.new.disk) c.open.ensures.any_moment.told was.bytes was.told in
    absurd (let e : false ≡ true = (c.in-Err-renew.ensures.still (subst AreNewest (sym held) (newest was.bytes was.told))).0 in cc)

pub returns-in-Err-renew-clause-looked : goal.returns-in-Err-renew-clause-looked
returns-in-Err-renew-clause-looked g c = λ s told newest.
    let start = g.D.Disk.state c.args.disk.now in
    let mid = g.D.Disk.state c.open.new.disk in
    let store = c.in-Ok-open.both.0 in
    let held = held_as_read c.resting_books.ensures g.K.Kem.mechanism c.args.rows start mid store c.in-Ok-open.ensures.opened
    (g.met.D.Disk.lawful c.open.new.disk) c.open.ensures.any_moment.told s told in
    absurd (let e : false ≡ true = (c.in-Err-renew.ensures.still (subst AreNewest (sym held) newest)).0 in cc)

pub returns-in-Err-clause-few : goal.returns-in-Err-clause-few
returns-in-Err-clause-few g c = record {
  told = λ m is. let was = c.in-Err.ensures.few.told m is in (was.0, was.1, omega (arith, was.2));
}

pub returns-in-Ok-renew-clause-few : goal.returns-in-Ok-renew-clause-few
returns-in-Ok-renew-clause-few g c =
    let start = g.D.Disk.state c.args.disk.now in
    let mid = g.D.Disk.state c.open.new.disk in
    let now = g.D.Disk.state c.renew.new.disk in
    let n = c.args.rows in
    let next = subst (λ n. MakesAtMost {T = Unit} {E = StoreFault} (renewings n) missed_by mid now (Ok tt)) c.fill_rows.ensures.long
    c.in-Ok-renew.ensures.few in
    record {
      told = (few_then {U = Unit} {V = Unit} (openings n) (renewings n) (openings n + renewings n) faulted missed_by faulted
          c.in-Ok-open.both start mid now (Ok tt) (Ok tt) refl (omega arith) c.in-Ok-open.ensures.few next).told;
    }

pub returns-in-Err-renew-clause-few : goal.returns-in-Err-renew-clause-few
returns-in-Err-renew-clause-few g c =
    let start = g.D.Disk.state c.args.disk.now in
    let mid = g.D.Disk.state c.open.new.disk in
    let now = g.D.Disk.state c.renew.new.disk in
    let n = c.args.rows in
    let next = subst (λ n. MakesAtMost {T = Unit} {E = StoreFault} (renewings n) missed_by mid now (Err c.in-Err-renew.fault))
    c.fill_rows.ensures.long
    c.in-Err-renew.ensures.few in
    record {
      told = (few_then {U = Unit} {V = Unit} (openings n) (renewings n) (openings n + renewings n) faulted missed_by faulted
          c.in-Ok-open.both start mid now (Err c.in-Err-renew.fault) (Err (Faulted c.in-Err-renew.fault.call)) refl (omega arith)
          c.in-Ok-open.ensures.few next).told;
    }

pub returns-in-Err-renew-clause-refused : goal.returns-in-Err-renew-clause-refused
returns-in-Err-renew-clause-refused g c =
    let start = g.D.Disk.state c.args.disk.now in
    let mid = g.D.Disk.state c.open.new.disk in
    let now = g.D.Disk.state c.renew.new.disk in
    let opens = c.in-Ok-open.ensures in
    renewing_failed g.K.Kem.mechanism c.args.rows start mid now (IsEntryOrLikeBook c.args.rows start) c.in-Err-renew.fault
    opens.any_moment (opened_went start mid opens.quiet opens.ahead (λ all. (opens.fate all).1)) c.in-Err-renew.ensures.went

pub returns-in-Err-renew-clause-fate : goal.returns-in-Err-renew-clause-fate
returns-in-Err-renew-clause-fate g c = λ all.
    renewing_fate (g.D.Disk.state c.open.new.disk) (g.D.Disk.state c.renew.new.disk) c.in-Err-renew.fault _
    c.in-Err-renew.ensures.went ((c.in-Ok-open.ensures.fate all).1)
