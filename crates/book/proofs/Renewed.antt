-- Rows are staged in the newest version, one after the other.
use Rattle.std.proofs.Common.{Bool, List, None, Ok, Option, Some, [], ap, arith, false, get_or, inl, length, refl, subst, suc, sym, true, zero, ℕ, ⊎_elim, ◌+◌, ◌-◌, ◌<◌, ◌≤◌, ◌∙◌, ◌≡◌, map}
use Rattle.std.proofs.Math.ListN.{set}
use Rattle.std.proofs.lemmas.Bool.{cases_eq, cases_lt}
use Rattle.std.proofs.lemmas.List.{get_or-set_other, get_or-set_same, get_or_past, ext_get_or, length-append, length-map, length-set}
use Rattle.dr_base.specs.Bytes.{AreBytes}
use Rattle.dr_disk.specs.Spans.{Span}
use Rattle.dr_disk.specs.State.{Always, DiskState}
use Rattle.dr_disk.proofs.Calling.{none_made, then_passed}
use Rattle.dr_disk.proofs.Steps.{stays, widen}
use Rattle.pages.proofs.Around.{around_first, reads_both, reads_same}
use Rattle.book_model.specs.Rows.{Row, Rows}
use Rattle.book_store.specs.Committing.{HasRows, IsOldOrNewBook, KeepsRows, ReadsOutsideBook, StagesRow, call_of}
use Rattle.book_store.specs.declared.errors.StoreFault.{StoreFault}
use Rattle.book_store.specs.Layout.{book_layout}
use Rattle.book_store.specs.Shown.{BookRow, absent}
use Rattle.book_store.specs.Staging.{IsStagedOver}
use Rattle.book_store.specs.Store.{BookStore, IsNewName}
use Rattle.book_store.specs.declared.layout.TheConstants.{BOOK_ROWS}
use Rattle.book_store.proofs.Books.Listed.{marks_long}
use Rattle.book_store.proofs.Composed.{all_or_none, stay, stay_still}
use Rattle.kem_laws.specs.Mechanism.{Mechanism}
use Rattle.session_model.specs.Clients.{Client}
use Rattle.session_record.specs.Record.{record_read, record_text}
use Rattle.session_record.specs.Versions.{is_newest}
use Rattle.book.specs.Books.{IsStoreReady}
use Rattle.book.specs.Opening.{AreRowsRead, IsRowRead}
use Rattle.book.specs.Renewing.{IsStagedNewest, Renews, RenewsRow}
use Rattle.book.specs.Rows.{stored, stored_row}
use Rattle.book.proofs.Counted.{new_name}
use Rattle.book.proofs.Stored.{name_in, present_inside, stored_at}

-- a row that was read is one that the store has
pub record IsReadFrom (k : Mechanism) (held : Option BookRow) (session : Row Client) : Type 0 where
  pub row : BookRow
  pub held_is : held ≡ Some row
  pub name : session.name ≡ row.name
  pub read : record_read k row.text ≡ Ok session.kept

pub read_from : (k : Mechanism) (held : Option BookRow) (o : Option (Row Client)) (session : Row Client)
    → IsRowRead k held o → o ≡ Some session → IsReadFrom k held session
read_from k None None session is none = absurd (let e : None ≡ Some session = none in cc)
read_from k None (Some row) session is some = absurd is
read_from k (Some held) None session is none = absurd (let e : None ≡ Some session = none in cc)
read_from k (Some held) (Some row) session is some =
    let same : row ≡ session = let e : Some row ≡ Some session = some in cc in
    record {
      row = held;
      held_is = refl;
      name = ap (λ (r : Row Client). r.name) (sym same) ∙ is.0;
      read = is.1 ∙ ap (λ (r : Row Client). Ok r.kept) same;
    }

none_held : (k : Mechanism) (held : Option BookRow) → IsRowRead k held None → held ≡ None
none_held k None is = refl
none_held k (Some row) is = absurd is

absent_long : (n : ℕ) → length (absent n) ≡ n
absent_long zero = refl
absent_long (suc n) = ap suc (absent_long n)

-- what a store has in each row it has in all
pub held_all : (rows : Rows Client) (held : List (Option BookRow)) → length held ≡ BOOK_ROWS
    → length rows ≤ BOOK_ROWS → ((r : ℕ) → get_or held r None ≡ stored_row (get_or rows r None))
    → held ≡ stored rows
held_all rows held long few same = ext_get_or None held (stored rows)
    (omega (
      arith,
      long,
      few,
      length-append (map stored_row rows) (absent (BOOK_ROWS - length rows)),
      length-map rows stored_row,
      absent_long (BOOK_ROWS - length rows),
    ))
    (λ r lt. same r ∙ sym (stored_at rows r))

-- a record in the newest version is that of the session that is read from it
pub newest_row : (k : Mechanism)
    → ((text : List ℕ) (c : Client) → AreBytes text → record_read k text ≡ Ok c → is_newest text ≡ true → text ≡ record_text c)
    → (held : Option BookRow) (session : Row Client) (from : IsReadFrom k held session)
    → AreBytes from.row.text → is_newest from.row.text ≡ true → held ≡ stored_row (Some session)
newest_row k newest held session from bytes is =
    from.held_is
    ∙ ap (λ (t : List ℕ). Some (record { name = from.row.name; text = t })) (newest from.row.text session.kept bytes from.read is)
    ∙ ap (λ (n : List ℕ). Some (record { name = n; text = record_text session.kept })) (sym from.name)

module _ (rows : Rows Client) (first : BookStore) (start : DiskState) where
  pub none_yet : IsStagedOver first first.held start → Always (HasRows first.rows first.held) start
      → Renews rows first first start start 0
  none_yet over has = record {
    rows_are = refl;
    long = refl;
    done = λ r lt. absurd (omega (arith, lt));
    later = λ r le. refl;
    unstaged = λ r le. refl;
    over = over;
    any_moment = stays start (KeepsRows first.rows first.held start);
    still = λ c left. record { has = has c left; frame = around_first (book_layout first.rows) start c left };
    reads = reads_same (book_layout first.rows) start start refl;
    went = none_made call_of tt start;
  }

  module _ (store : BookStore) (mid : DiskState) (i : ℕ) (so : Renews rows first store start mid i) where
    -- a row that needn't be staged
    pub unchanged_next : get_or store.held i None ≡ stored_row (get_or rows i None)
        → Renews rows first store start mid (i + 1)
    unchanged_next here = record {
      rows_are = so.rows_are;
      long = so.long;
      done = λ r lt. ⊎_elim
          (λ same. subst (λ q. get_or store.held q None ≡ stored_row (get_or rows q None)) (sym same) here)
          (λ other. so.done r (let e : r ≡ i → ⊥ = other in omega (arith, lt))) (cases_eq r i);
      later = λ r le. so.later r (omega (arith, le));
      unstaged = λ r le. so.unstaged r (omega (arith, le));
      over = so.over;
      any_moment = so.any_moment;
      still = so.still;
      reads = so.reads;
      went = so.went;
    }

    -- one that was
    module _ (new : BookStore) (end : DiskState) (is : IsStagedNewest i (get_or rows i None) store new mid end) where
      abbrev Put : Option BookRow
      Put = Some (record { name = is.session.name; text = record_text is.session.kept })

      held_is : new.held ≡ set store.held i Put
      held_is = ap (λ (s : BookStore). s.held) is.next

      stages_here : StagesRow {T = Unit} {E = StoreFault} new first.held mid end (Ok tt)
      stages_here = is.stages first.held so.over

      count : new.rows ≡ first.rows
      count = ap (λ (s : BookStore). s.rows) is.next ∙ so.rows_are

      next_span : Span mid end (KeepsRows first.rows first.held mid)
      next_span = subst (λ n. Span mid end (KeepsRows n first.held mid)) count stages_here.any_moment

      pub staged_next : i < length first.held → Renews rows first new start end (i + 1)
      staged_next inside = record {
        rows_are = count;
        long = ap length held_is ∙ length-set store.held i Put ∙ so.long;
        done = λ r lt. ⊎_elim
            (λ same. subst (λ q. get_or new.held q None ≡ stored_row (get_or rows q None)) (sym same)
            (ap (λ (l : List (Option BookRow)). get_or l i None) held_is
            ∙ get_or-set_same store.held i Put None (omega (arith, inside, so.long))
            ∙ sym (ap stored_row is.row_is)))
            (λ other. ap (λ (l : List (Option BookRow)). get_or l r None) held_is
            ∙ get_or-set_other store.held i r Put None other
            ∙ so.done r (let e : r ≡ i → ⊥ = other in omega (arith, lt))) (cases_eq r i);
        later = λ r le. ap (λ (l : List (Option BookRow)). get_or l r None) held_is
            ∙ get_or-set_other store.held i r Put None (λ e. absurd (omega (arith, le, e)))
            ∙ so.later r (omega (arith, le));
        unstaged = λ r le. ap (λ (s : BookStore). get_or s.staged r true) is.next
            ∙ get_or-set_other store.staged i r true true (λ e. absurd (omega (arith, le, e)))
            ∙ so.unstaged r (omega (arith, le));
        over = stages_here.staged;
        any_moment = stay first.rows first.held start mid so.still end so.any_moment next_span;
        still = stay_still first.rows first.held start mid so.still end
            (subst (λ n. Always (KeepsRows n first.held mid) end) count stages_here.still);
        reads = reads_both (book_layout first.rows) start mid end so.reads
            (subst (λ n. ReadsOutsideBook n mid end) so.rows_are is.reads);
        went = then_passed {T = Unit} {U = Unit} call_of call_of call_of tt tt tt start mid end so.went is.went;
      }

    -- what stands in an earlier row stood there under that name
    other_of : (k : Mechanism) (r : ℕ) (other : BookRow) → get_or store.held r None ≡ Some other → r < i
        → IsRowRead k (get_or first.held r None) (get_or rows r None)
        → (row : BookRow) × (get_or first.held r None ≡ Some row) × (other.name ≡ row.name)
    other_of k r other is lt read = by (get_or rows r None) refl
      where
        by : (o : Option (Row Client)) → get_or rows r None ≡ o
            → (row : BookRow) × (get_or first.held r None ≡ Some row) × (other.name ≡ row.name)
        by None none =
            absurd (let e : None ≡ Some other = sym (so.done r lt ∙ ap stored_row none) ∙ is in cc)
        by (Some one) there =
            let from = read_from k (get_or first.held r None) (get_or rows r None) one read there in
            (from.row, from.held_is, ap name_in (sym is ∙ so.done r lt ∙ ap stored_row there) ∙ from.name)

    -- the name of the next row is new beside those of all others
    pub name_now : (k : Mechanism) → IsStoreReady first start → AreRowsRead k first.held rows
        → (session : Row Client) → get_or rows i None ≡ Some session → IsNewName store i session.name
    name_now k ready read session here r other apart is e =
        let own = read_from k (get_or first.held i None) (get_or rows i None) session (read i) here in
        let differs = new_name first i own.row.name own.row.text [] ready.marked ready.dropped own.held_is in
        ⊎_elim
        (λ lt. let was = other_of k r other is lt (read r) in differs r was.0 apart was.1 (sym was.2 ∙ e ∙ own.name))
        (λ le. differs r other apart (sym (so.later r le) ∙ is) (e ∙ own.name)) (cases_lt r i)

-- ---- all rows

module _ (k : Mechanism) (rows : Rows Client) (store : BookStore) (disk : DiskState)
    (ready : IsStoreReady store disk) where
  pub held_long : length store.held ≡ BOOK_ROWS
  held_long = omega (arith, marks_long store.held store.mark.numbers, ready.marked.marks.all)

  -- where all records are in the newest version, they are those of the sessions that were read
  pub all_newest : ((text : List ℕ) (c : Client) → AreBytes text → record_read k text ≡ Ok c
      → is_newest text ≡ true → text ≡ record_text c)
      → AreRowsRead k store.held rows → length rows ≤ BOOK_ROWS
      → ((r : ℕ) (row : BookRow) → r < length rows → get_or store.held r None ≡ Some row
      → (is_newest row.text ≡ true) × AreBytes row.text)
      → store.held ≡ stored rows
  all_newest newest read few all =
      held_all rows store.held held_long few (λ r. by r (get_or rows r None) refl (read r))
    where
      by : (r : ℕ) (o : Option (Row Client)) → get_or rows r None ≡ o
          → IsRowRead k (get_or store.held r None) (get_or rows r None)
          → get_or store.held r None ≡ stored_row (get_or rows r None)
      by r None none is =
          none_held k (get_or store.held r None)
          (subst (λ (o : Option (Row Client)). IsRowRead k (get_or store.held r None) o) none is)
          ∙ sym (ap stored_row none)
      by r (Some session) some is =
          let from = read_from k (get_or store.held r None) (get_or rows r None) session is some in
          let so = all r from.row (present_inside rows r session some) from.held_is in
          newest_row k newest (get_or store.held r None) session from so.1 so.0 ∙ sym (ap stored_row some)

  -- where all rows were gone through, the store has those of the sessions
  pub all_renewed : (now : BookStore) (mid : DiskState) → Renews rows store now disk mid (length rows)
      → AreRowsRead k store.held rows → length rows ≤ BOOK_ROWS → now.held ≡ stored rows
  all_renewed now mid so read few =
      held_all rows now.held (so.long ∙ held_long) few (λ r. ⊎_elim (λ lt. so.done r lt) (λ le. past r le) (cases_lt r (length rows)))
    where
      past : (r : ℕ) → length rows ≤ r → get_or now.held r None ≡ stored_row (get_or rows r None)
      past r le =
          let none = get_or_past rows r None le in
          so.later r le
          ∙ none_held k (get_or store.held r None)
          (subst (λ (o : Option (Row Client)). IsRowRead k (get_or store.held r None) o) none (read r))
          ∙ sym (ap stored_row none)

-- what was read of the rows that a book may have was read of all
pub read_all : (k : Mechanism) (rows : Rows Client) (held : List (Option BookRow))
    → ((r : ℕ) → r < length rows → IsRowRead k (get_or held r None) (get_or rows r None))
    → ((r : ℕ) (row : BookRow) → get_or held r None ≡ Some row → r < length rows)
    → AreRowsRead k held rows
read_all k rows held read inside r =
    ⊎_elim (λ lt. read r lt) (λ le. by (get_or held r None) refl le) (cases_lt r (length rows))
  where
    by : (o : Option BookRow) → get_or held r None ≡ o → length rows ≤ r
        → IsRowRead k (get_or held r None) (get_or rows r None)
    by None is le =
        subst (λ (h : Option BookRow). IsRowRead k h (get_or rows r None)) (sym is)
        (subst (λ (o : Option (Row Client)). IsRowRead k None o) (sym (get_or_past rows r None le)) tt)
    by (Some row) is le = let lt = inside r row is in absurd (omega (arith, lt, le))

-- a row was staged, or needn't be
pub renewed_next : {X : Type 0} (state : X → DiskState) (rows : Rows Client) (first : BookStore) (start : DiskState) (store : BookStore)
    (mid : X) (i : ℕ) → Renews rows first store start (state mid) i → (did : Bool) (row : Option (Row Client)) (new : BookStore) (end : X)
    → get_or rows i None ≡ row → i < length first.held → RenewsRow state did i row store new mid end
    → Renews rows first new start (state end) (i + 1)
renewed_next state rows first start store mid i so true row new end here lt is =
    staged_next rows first start store (state mid) i so new (state end)
    (subst (λ (o : Option (Row Client)). IsStagedNewest i o store new (state mid) (state end)) (sym here) is) lt
renewed_next {X = X} state rows first start store mid i so false row new end here lt is =
    subst (λ (s : BookStore). Renews rows first s start (state end) (i + 1)) (sym is.0)
    (subst (λ (x : X). Renews rows first store start (state x) (i + 1)) (sym is.1)
    (unchanged_next rows first start store (state mid) i so (is.2 ∙ sym (ap stored_row here))))

-- what stands while rows are staged, and while they are committed
pub kept_span : (rows : ℕ) (old new : List (Option BookRow)) (start now : DiskState) → Span start now (KeepsRows rows old start)
    → Span start now (IsOldOrNewBook rows old new start)
kept_span rows old new start now span =
    widen start now (KeepsRows rows old start) (IsOldOrNewBook rows old new start)
    (λ c is. record { either = inl is.has; frame = is.frame }) span

pub renewed_span : (rows : ℕ) (old new : List (Option BookRow)) (start mid now : DiskState) → Always (KeepsRows rows old start) mid
    → Span start mid (KeepsRows rows old start) → Span mid now (IsOldOrNewBook rows old new mid)
    → Span start now (IsOldOrNewBook rows old new start)
renewed_span rows old new start mid now still first next = all_or_none rows old start mid still new now first next
