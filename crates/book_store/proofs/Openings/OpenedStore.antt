-- A store that was opened over what was read.
use Rattle.std.proofs.Common.{◌≡◌, ◌≢◌, ◌+◌, ◌*◌, ℕ, List, Option, Some, Result, Ok, Err, OnOk, refl, sym, ◌∙◌, subst, arith}
use Rattle.dr_disk.specs.declared.call.Call.{Call}
use Rattle.dr_disk.specs.State.{Always, DiskState, IsSettled}
use Rattle.dr_disk.specs.Spans.{Span}
use Rattle.dr_disk.specs.Called.{Went, itself}
use Rattle.dr_disk.proofs.Calling.{failed_as, passed_as, then_any}
use Rattle.dr_disk.proofs.Steps.{spans, widen}
use Rattle.pages.specs.Runs.{IsUntouched, ReadsAlone}
use Rattle.pages.specs.Counted.{MakesAtMost, ReadsAtMost, lookings, one_of}
use Rattle.pages.proofs.Counting.{few_as, few_failed, few_looked, few_then}
use Rattle.pages.proofs.Looking.{reads_more, reads_twice, untouched_twice}
use Rattle.std.specs.Prelude.{Vec, length}
use Rattle.std.proofs.Common.{Global}
use Rattle.book_store.proofs.Books.Listed.{Book}
use Rattle.book_store.proofs.Openings.BookRead.{rows_reading}
use Rattle.book_store.proofs.Openings.Likes.{as_read, like_before}
use Rattle.book_store.proofs.Openings.SameRest.{is_same}
use Rattle.book_store.proofs.Openings.StoreRead.{clear_drops}
use Rattle.std.proofs.lemmas.Result.{on_ok_weaker}
use Rattle.book_store.specs.AtRest.{BookMark, IsBookAtRest}
use Rattle.book_store.specs.Counts.{settlings}
use Rattle.book_store.specs.Layout.{book_layout}
use Rattle.book_store.specs.LikeRead.{IsLikeReadBook}
use Rattle.book_store.specs.Locating.{HoldsBook, IsCause, store_with}
use Rattle.book_store.specs.Opened.{IsBookReadAtRest, IsSameMark}
use Rattle.book_store.specs.Outcome.{OpensBook}
use Rattle.book_store.specs.Settling.{RestsAsRead, Settles}
use Rattle.book_store.specs.declared.desk.Desk.{Desk}
use Rattle.book_store.specs.declared.errors.BookOpenError.{BookOpenError}
use Rattle.book_store.specs.declared.held.HeldRow.{HeldRow}
use Rattle.book_store.specs.declared.locating.Located.{Located}
use Rattle.book_store.specs.declared.locating.Located.TheVariants.{Held, Refused}
use Rattle.book_store.specs.declared.layout.TheConstants.{BOOK_ROWS, ROW_MOST}

-- reads alone leave what was read
looked_like : {T : Type 0} {k : ℕ} (rows : ℕ) (start b : DiskState) (r : Result T Call) → IsSettled start
    → ReadsAlone k start b r → Span start b (IsLikeReadBook rows start)
looked_like rows start b r settled looks =
    widen start b start.image (IsLikeReadBook rows start) (λ c left. as_read rows start c (settled c left)) looks.during

-- after reads alone, all else was wiped
module _ {R T U : Type 0} (fault_at : List ℕ → Option ℕ) (has_read : R → List ℕ → Type 0) (count : ℕ)
    (readers : List (Option R)) (desk : Desk) (rows : List HeldRow) (x : U) (start b now : DiskState) (r : Result T Call)
    (settled : IsSettled start) (looks : ReadsAlone (ROW_MOST * BOOK_ROWS) start b (Ok x))
    (holds : HoldsBook fault_at has_read count readers desk rows start) (settles : Settles (store_with desk rows) b now r) where
  same : b.seen ≡ start.seen
  same = looks.untouched.unwritten.seen

  opened_moment : Span start now (IsLikeReadBook desk.rows start)
  opened_moment = spans start b now (IsLikeReadBook desk.rows start) (looked_like desk.rows start b (Ok x) settled looks)
      (widen b now (IsLikeReadBook desk.rows b) (IsLikeReadBook desk.rows start) (like_before desk.rows start b same)
      settles.any_moment)

  opened_rests : OnOk r (Always (RestsAsRead start (store_with desk rows)) now)
  opened_rests = on_ok_weaker r
      (λ rests c left. let is = rests c left in (is.0, like_before desk.rows start b same c is.1))
      settles.done

  opened_calls : Went itself start now r
  opened_calls = then_any x start b now start.image r looks.during looks.calls settles.calls

  opened_still : IsBookReadAtRest desk.rows start → IsUntouched start now
  opened_still was = untouched_twice start b now looks.untouched (settles.still (
    was.bytes,
    same ∙ was.told,
    (is_same (store_with desk rows) holds.store.marked was.bytes (holds.shown was.bytes was.told) was.mark was.book was.rests).rests_too,
  ))

  opened_reads : ReadsAtMost (ROW_MOST * BOOK_ROWS + 2 * lookings (book_layout desk.rows)) start now
  opened_reads = reads_twice (ROW_MOST * BOOK_ROWS) (2 * lookings (book_layout desk.rows)) _ start b now (omega arith) looks.few settles.reads

  opened_few : MakesAtMost (settlings desk.rows) one_of start now r
  opened_few = few_then 0 (settlings desk.rows) (settlings desk.rows) x start b now r (omega arith)
      (few_looked 0 start b (Ok x) looks) settles.few

  -- one that was read at rest lies where it lay
  opened_mark : (s : List ℕ) (m : BookMark) (book : Book) → start.seen ≡ Some s → IsBookAtRest desk.rows m book s
      → m.turn ≢ 0 → IsSameMark (store_with desk rows).mark m (store_with desk rows).held
  opened_mark s m book told rests =
      (is_same (store_with desk rows) holds.store.marked s (holds.shown s told) m book rests).same_mark

-- ---- what opening comes to

module _ {R T U : Type 0} (fault_at : List ℕ → Option ℕ) (has_read : R → List ℕ → Type 0) (count : ℕ)
    (readers : List (Option R)) (desk : Desk) (rows : Vec HeldRow Global) (x : U) (start b now : DiskState)
    (settled : IsSettled start) (looks : ReadsAlone (ROW_MOST * BOOK_ROWS) start b (Ok x))
    (holds : HoldsBook fault_at has_read count readers desk rows.items start) (all : length rows.items ≡ BOOK_ROWS) where
  pub opens_stored : (y : T) → Settles (store_with desk rows.items) b now (Ok y) → (r : Located) → r ≡ Held desk rows
      → OpensBook fault_at has_read count readers start now (Ok r)
  opens_stored y settles r is = subst (λ n. OpensBook fault_at has_read n readers start now (Ok r)) holds.count_is
      (subst (λ l. OpensBook fault_at has_read desk.rows readers start now (Ok l)) (sym is) (record {
        found = record {
          store = holds.store;
          opened = record {
            rows_are = refl;
            read = λ s told. rows_reading fault_at (store_with desk rows.items) s holds.store.marked (holds.shown s told) holds.texts;
            texts = holds.texts;
            marked = holds.store.marked;
            at_rest = opened_rests fault_at has_read count readers desk rows.items x start b now (Ok y) settled looks holds settles;
            settled = settles.settled;
            opened = record { staged = refl; drops = clear_drops rows.items all; replaced = refl };
            first = holds.first;
            mark = opened_mark fault_at has_read count readers desk rows.items x start b now (Ok y) settled looks holds settles;
          };
          read = holds.read;
        };
        any_moment = opened_moment fault_at has_read count readers desk rows.items x start b now (Ok y) settled looks holds settles;
        still = opened_still fault_at has_read count readers desk rows.items x start b now (Ok y) settled looks holds settles;
        calls = passed_as itself itself (Held desk rows) y start now
            (opened_calls fault_at has_read count readers desk rows.items x start b now (Ok y) settled looks holds settles);
        few = few_as _ (Held desk rows) y start now
            (opened_few fault_at has_read count readers desk rows.items x start b now (Ok y) settled looks holds settles);
        reads = opened_reads fault_at has_read count readers desk rows.items x start b now (Ok y) settled looks holds settles;
      }))

  pub opens_failed : (call : Call) → Settles {T = T} (store_with desk rows.items) b now (Err call)
      → OpensBook fault_at has_read count readers start now (Err call)
  opens_failed call settles = subst (λ n. OpensBook fault_at has_read n readers start now (Err call)) holds.count_is (record {
    found = tt;
    any_moment = opened_moment {T = T} fault_at has_read count readers desk rows.items x start b now (Err call) settled looks holds settles;
    still = opened_still {T = T} fault_at has_read count readers desk rows.items x start b now (Err call) settled looks holds settles;
    calls = failed_as {T = Located} {U = T} itself itself call call start now refl
        (opened_calls {T = T} fault_at has_read count readers desk rows.items x start b now (Err call) settled looks holds settles);
    few = few_failed {T = Located} {U = T} _ (settlings desk.rows) call start now (omega arith)
        (opened_few {T = T} fault_at has_read count readers desk rows.items x start b now (Err call) settled looks holds settles);
    reads = opened_reads {T = T} fault_at has_read count readers desk rows.items x start b now (Err call) settled looks holds settles;
  })

-- what counts can't be held, or a read failed
module _ {R U : Type 0} (fault_at : List ℕ → Option ℕ) (has_read : R → List ℕ → Type 0) (count : ℕ)
    (readers : List (Option R)) (start now : DiskState) (settled : IsSettled start) where
  pub opens_refused : (error : BookOpenError) (x : U) → ReadsAlone (ROW_MOST * BOOK_ROWS) start now (Ok x)
      → IsCause fault_at count error start → (r : Located) → r ≡ Refused error
      → OpensBook fault_at has_read count readers start now (Ok r)
  opens_refused error x looks cause r is = subst (λ l. OpensBook fault_at has_read count readers start now (Ok l)) (sym is) (record {
    found = (looks.untouched, cause);
    any_moment = looked_like count start now (Ok x) settled looks;
    still = λ was. looks.untouched;
    calls = passed_as itself itself (Refused error) x start now looks.calls;
    few = few_as _ (Refused error) x start now (few_looked (settlings count) start now (Ok x) looks);
    reads = reads_more (ROW_MOST * BOOK_ROWS) (ROW_MOST * BOOK_ROWS + 2 * lookings (book_layout count)) start now (omega arith) looks.few;
  })

  pub opens_unread : (call : Call) → ReadsAlone {T = U} (ROW_MOST * BOOK_ROWS) start now (Err call)
      → OpensBook fault_at has_read count readers start now (Err call)
  opens_unread call looks = record {
    found = tt;
    any_moment = looked_like {T = U} count start now (Err call) settled looks;
    still = λ was. looks.untouched;
    calls = failed_as {T = Located} {U = U} itself itself call call start now refl looks.calls;
    few = few_failed {T = Located} {U = U} 0 (settlings count) call start now (omega arith)
        (few_looked {T = U} 0 start now (Err call) looks);
    reads = reads_more (ROW_MOST * BOOK_ROWS) (ROW_MOST * BOOK_ROWS + 2 * lookings (book_layout count)) start now (omega arith) looks.few;
  }
