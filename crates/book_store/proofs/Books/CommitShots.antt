-- All staged rows are committed: what stands then.
use Rattle.std.proofs.Common.{◌≡◌, ◌≢◌, inl, inr, ⊎_elim, ℕ, ◌+◌, ◌*◌, ◌-◌, ◌≤◌, Bool, true, false, List, [], Result, Ok, Err, sym, ◌∙◌, ap, subst, arith}
use Rattle.std.specs.Prelude.{◌==◌, ◌&&◌, if◌then◌else◌, nat_le, not}
use Rattle.std.proofs.lemmas.Bool.Decides.{nat_tests}
use Rattle.std.proofs.lemmas.List.Elements.{All-nil}
use Rattle.dr_disk.specs.State.{DiskState}
use Rattle.dr_disk.specs.Spans.{Span}
use Rattle.dr_disk.specs.declared.call.Call.{Call}
use Rattle.dr_disk.proofs.Steps.{widen}
use Rattle.pages.specs.declared.layout.Layout.{Layout}
use Rattle.pages.specs.Commits.{IsCommitted, IsOldOrNewShot, TakesPlace}
use Rattle.pages.specs.Snapshots.{Snapshot, kept_shot, no_shot, shot, snapshot}
use Rattle.pages.specs.Stops.{IsPutStopped, put_shows, put_took}
use Rattle.pages.specs.Tables.{Comes, Table, is_open, open_table, table_at, table_turn, turn_after, wiped}
use Rattle.pages.proofs.Newest.{not_not}
use Rattle.book_store.proofs.Books.Listed.{Book, pages_listed}
use Rattle.book_store.proofs.Books.Over.{mark_turn}
use Rattle.book_store.proofs.Books.Readings.{has}
use Rattle.book_store.proofs.Books.Spare.{blank_beside}
use Rattle.book_store.specs.AtRest.{BookMark, IsBookAtRest, IsBookMarked, all_pages, laid_book, laid_table, row_marks}
use Rattle.book_store.specs.Committing.{CommitsRows, HasCommitted, HasRows, IsBookStopped, IsOldOrNewBook}
use Rattle.book_store.specs.Desk.{book_shot}
use Rattle.book_store.specs.Layout.{book_layout}
use Rattle.book_store.specs.Marks.{book_body}
use Rattle.book_store.specs.Rows.{book_names, book_pages, pages_by}
use Rattle.book_store.specs.declared.errors.StoreFault.{StoreFault}
use Rattle.book_store.specs.Shown.{stored_rows}
use Rattle.book_store.specs.Staging.{AwaitsRetire, IsNoneIn, IsSpare, IsStagedOver}
use Rattle.book_store.specs.Store.{BookStore, IsLawfulStore, body_of, committed, drops_at, pages_at}
use Rattle.book_store.specs.declared.layout.TheConstants.{BOOK_TABLE, ROW_PAGES}

zero_test : (n : ℕ) → n ≡ 0 → (n == 0) ≡ true
zero_test n is = grind (arith, nat_tests)

-- ---- an open table

pub turn_low : (turn : ℕ) → turn ≤ 3 → 1 ≤ turn_after turn
turn_low turn high = grind (arith, nat_tests)

pub turn_high : (turn : ℕ) → turn ≤ 3 → turn_after turn ≤ 3
turn_high turn high = grind (arith, nat_tests)

module _ (rows : ℕ) (mark : BookMark) (book : Book) (low : 1 ≤ mark.turn) (is : IsBookMarked rows mark book) where
  abbrev body : List ℕ
  body = book_body mark.turn (row_marks book mark.numbers)

  pub open_laid : laid_table mark book ≡ open_table body
  open_laid = ap (λ b. if b then wiped BOOK_TABLE else open_table body)
      (let e : (mark.turn == 0) ≡ false = grind (arith, nat_tests) in e)

  turn_opens : (turn : ℕ) → 1 ≤ turn → turn ≤ 3 → (nat_le 1 turn && nat_le turn 3) ≡ true
  turn_opens turn low high = grind (arith, nat_tests)

  pub opened : is_open (laid_table mark book) ≡ true
  opened = ap is_open open_laid ∙ turn_opens mark.turn low is.high

-- ---- a commit

module _ (store : BookStore) (lawful : IsLawfulStore store) where
  abbrev pub l : Layout
  l = book_layout store.rows

  abbrev pub next : BookStore
  next = committed store

  abbrev pub new : Snapshot
  new = laid_book next.mark store.held

  low : 1 ≤ next.mark.turn
  low = turn_low store.mark.turn lawful.high

  pub marked : IsBookMarked store.rows next.mark store.held
  marked = record {
    high = turn_high store.mark.turn lawful.high;
    marks = lawful.marks;
    none = λ none. absurd (omega (arith, low, none));
  }

  new_kept : kept_shot new ≡ shot new
  new_kept = ap (λ o. if o then shot new else no_shot) (opened store.rows next.mark store.held low marked)

  pub new_has : (c : List ℕ) → snapshot book_names l c ≡ shot new → HasRows store.rows store.held c
  new_has c same = has store.rows next.mark store.held marked c (same ∙ sym new_kept)

  pages_are : book_pages (pages_at store.held) ≡ all_pages store.held
  pages_are = ap (λ k. pages_by k 0 (pages_at store.held)) (sym lawful.held_all)
      ∙ pages_listed store.held 0 (pages_at store.held) (λ s. ap (pages_at store.held) (let e : 0 + s ≡ s = omega arith in e))

  module _ (standing : Book) (start : DiskState) (over : IsStagedOver store standing start) where
    abbrev pub old : Snapshot
    old = laid_book over.mark standing

    pub shot_is : (table : List ℕ) → table ≡ body_of next → book_shot old table (pages_at store.held) ≡ new
    shot_is table is = λ i. record {
      second = ap not over.stands.place i;
      table = (ap open_table is ∙ sym (open_laid store.rows next.mark store.held low marked)) i;
      pages = pages_are i;
    }

    old_has : (c : List ℕ) → snapshot book_names l c ≡ kept_shot old → HasRows store.rows standing c
    old_has c same = has store.rows over.mark standing over.marked c same

    either : (c : List ℕ) → IsOldOrNewShot book_names l (kept_shot old) (shot new) start c
        → IsOldOrNewBook store.rows standing store.held start c
    either c is = record {
      either = ⊎_elim (λ was. inl (old_has c was)) (λ now. inr (new_has c now)) is.either;
      frame = is.around;
    }

    by_shot : (t : Bool) (c : List ℕ) → snapshot book_names l c ≡ (if t then shot new else kept_shot old)
        → stored_rows store.rows c ≡ (if t then store.held else standing)
    by_shot true c is = (new_has c is).are
    by_shot false c is = (old_has c is).are

    stopped : (end : DiskState) → IsPutStopped book_names l 0 (kept_shot old) (shot new) start end
        → IsBookStopped store.rows 0 standing store.held start end
    stopped end halted = record {
      crash = λ b m mode c was_b is told. by_shot (put_took 0 (m - b) mode) c (halted.crash b m mode c was_b is told);
      read = λ keeps b m s was_b is told. by_shot (put_shows 0 (m - b)) s (halted.read keeps b m s was_b is told);
    }

    -- ---- once it is done

    module _ (c : List ℕ) (is : IsCommitted book_names l [] old new start c) where
      spare : (r p : ℕ) → IsSpare next r p c
      spare r p lt inside none none_dropped =
          is.rest (ROW_PAGES * r + p) (omega arith, omega (arith, lt, inside)) (λ j in_j. absurd (omega (arith, in_j)))
          ∙ over.spare r p is.read is.told lt inside none none_dropped

      turn_is : table_turn old.table ≡ store.mark.turn
      turn_is = over.stands.turn_is

      comes : Comes (table_at l (not next.mark.second) c) new.table
      comes = subst (λ t. Comes t new.table)
          (sym (ap (λ k. table_at l k c) (ap not (ap not (sym over.stands.place)) ∙ not_not old.second) ∙ is.old))
          (record {
            opened = opened store.rows next.mark store.held low marked;
            next = λ least most. ap (λ t. table_turn t) (open_laid store.rows next.mark store.held low marked)
                ∙ sym (ap turn_after turn_is);
          })

      no_drops : store.mark.turn ≡ 0 → (r p : ℕ) → IsNoneIn p (drops_at next r)
      no_drops none r p = subst (IsNoneIn p) (sym (over.first none r)) (All-nil (λ n. n ≢ p))

      first_turn : next.replaced ≡ false → store.mark.turn ≡ 0
      first_turn is_first = grind (arith, nat_tests)

      old_table : store.mark.turn ≡ 0 → table_at l (not next.mark.second) c ≡ wiped BOOK_TABLE
      old_table none =
          ap (λ k. table_at l k c) (ap not (ap not (sym over.stands.place)) ∙ not_not old.second) ∙ is.old
          ∙ ap (λ b. if b then wiped BOOK_TABLE else open_table (book_body over.mark.turn (row_marks standing over.mark.numbers)))
          (let e : (over.mark.turn == 0) ≡ true = zero_test over.mark.turn (mark_turn store standing start over ∙ none) in e)

      alone : next.replaced ≡ false → IsBookAtRest store.rows next.mark store.held c
      alone is_first =
          let none = first_turn is_first in
          record {
            laid_out = record {
              still = record {
                current = is.current;
                pages = is.pages;
                shut = ap (λ (t : Table). t.gate) (old_table none);
              };
              other = old_table none;
              blank = λ m page beside. blank_beside next lawful.few marked c spare m page beside (λ r p lt same. no_drops none r p);
            };
            marked = marked;
          }

      pub has_committed : HasCommitted next start c
      unfolding AwaitsRetire
      has_committed = (
        record {
          current = is.current;
          pages = is.pages;
          comes = comes;
          spare = spare;
          marked = marked;
          alone = alone;
        },
        record { has = new_has c is.same; frame = is.around },
      )

    module _ {T : Type 0} (end : DiskState) (result : Result T Call) (body : List ℕ) (body_is : body ≡ body_of next)
        (takes : TakesPlace book_names l [] old (book_shot old body (pages_at store.held)) start end result) where
      takes_new : TakesPlace book_names l [] old new start end result
      takes_new = subst (λ s. TakesPlace book_names l [] old s start end result) (shot_is body body_is) takes

      pub committing : Span start end (IsOldOrNewBook store.rows standing store.held start)
      committing = widen start end (IsOldOrNewShot book_names l (kept_shot old) (shot new) start)
          (IsOldOrNewBook store.rows standing store.held start) either takes_new.any_moment

    pub commits_ok : {T E : Type 0} (end : DiskState) (x : T) (y : E) (body : List ℕ) → body ≡ body_of next
        → TakesPlace book_names l [] old (book_shot old body (pages_at store.held)) start end (Ok x)
        → CommitsRows {T = E} {E = StoreFault} next standing start end (Ok y)
    commits_ok end x y body is takes = record {
      any_moment = committing end (Ok x) body is takes;
      done = λ c left. has_committed c ((takes_new end (Ok x) body is takes).done c left);
      stopped = tt;
    }

    pub commits_err : {T U : Type 0} (end : DiskState) (call : Call) (e : StoreFault) (body : List ℕ) → body ≡ body_of next
        → TakesPlace {T = U} book_names l [] old (book_shot old body (pages_at store.held)) start end (Err call)
        → CommitsRows {T = T} next standing start end (Err e)
    commits_err {U = U} end call e body is takes = record {
      any_moment = committing {T = U} end (Err call) body is takes;
      done = tt;
      stopped = stopped end (takes_new {T = U} end (Err call) body is takes).stopped;
    }
