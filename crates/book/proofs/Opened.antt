-- A book that was opened, and renewed: what is left is as what was read.
use Rattle.std.proofs.Common.{[], Err, List, None, Ok, Option, Some, ap, false, get_or, inl, inr, length, refl, subst, sym, true, ⊎_elim, ℕ, ◌<◌, ◌∙◌, ◌≡◌, ◌⊎◌}
use Rattle.dr_base.specs.Causes.{Rose}
use Rattle.dr_disk.specs.Called.{Went}
use Rattle.dr_disk.specs.Spans.{FailsLater, IsQuiet, Span, StaysTold}
use Rattle.dr_disk.specs.State.{Always, DiskState, IsLawful, OnSeen, all_pass}
use Rattle.dr_disk.specs.declared.call.Call.{Call}
use Rattle.dr_disk.proofs.Calling.{then_failed}
use Rattle.dr_disk.proofs.Steps.{spans, widen}
use Rattle.pages.specs.Around.{IsSameOutside}
use Rattle.pages.proofs.Around.{outside_twice, same_outside}
use Rattle.book_model.specs.Rows.{Rows}
use Rattle.book_store.proofs.Books.Listed.{mark_at}
use Rattle.book_store.specs.AtRest.{IsBookMarked, row_mark, row_marks}
use Rattle.book_store.specs.Marks.{RowMark}
use Rattle.relay_wire.specs.Names.{is_name}
use Rattle.book_store.specs.Committing.{HasRows, IsOldOrNewBook, call_of}
use Rattle.book_store.specs.Layout.{book_layout}
use Rattle.book_store.specs.LikeRead.{IsEntryOrLikeBook, IsLikeReadBook}
use Rattle.book_store.specs.Opened.{IsBookOpened, IsBookRefused}
use Rattle.book_store.specs.Shown.{BookRow, stored_rows}
use Rattle.book_store.specs.Staging.{Rests}
use Rattle.book_store.specs.Store.{BookStore}
use Rattle.book_store.specs.declared.errors.BookOpenError.TheVariants.{StoreFault as Faulted}
use Rattle.book_store.specs.declared.errors.StoreFault.{StoreFault}
use Rattle.kem_laws.specs.Mechanism.{Mechanism}
use Rattle.session_model.specs.Clients.{Client}
use Rattle.client.specs.Opening.{client_record_fault}
use Rattle.book.specs.Opening.{AreRowsRead, IsAsReadBook, IsEntryOrAsReadBook}
use Rattle.book.specs.Rows.{stored}
use Rattle.book.proofs.Imaged.{RestsWithRows}

-- as read is what is like what was read
pub to_as_read : (k : Mechanism) (rows : ℕ) (start : DiskState) (c : List ℕ) → IsLikeReadBook rows start c
    → IsAsReadBook k rows start c
to_as_read k rows start c like = record {
  read = like.read;
  told = like.told;
  same = inl like.same;
  undamaged = like.undamaged;
  outside = like.outside;
}

-- and what was read itself
pub read_itself : (k : Mechanism) (rows : ℕ) (start : DiskState) → OnSeen (IsAsReadBook k rows start) start
read_itself k rows start s told = record {
  read = s;
  told = told;
  same = inl refl;
  undamaged = λ whole. whole;
  outside = same_outside (book_layout rows) s;
}

like_as_read : (k : Mechanism) (rows : ℕ) (start : DiskState) (c : List ℕ) → IsEntryOrLikeBook rows start c
    → IsEntryOrAsReadBook k rows start c
like_as_read k rows start c either = ⊎_elim (λ was. inl was) (λ like. inr (to_as_read k rows start c like)) either

module _ (resting : RestsWithRows) (k : Mechanism) (rows : ℕ) (start mid : DiskState) (store : BookStore)
    (is : IsBookOpened (client_record_fault k) rows start mid store) where
  held_in : (c : List ℕ) → mid.image c → stored_rows store.rows c ≡ store.held
  unfolding Rests
  held_in c left = (resting store.rows store.mark store.held c (is.at_rest c left).0).are

  -- the rows are those that were read
  pub held_as_read : IsLawful mid → StaysTold start mid → (s : List ℕ) → start.seen ≡ Some s → store.held ≡ stored_rows rows s
  held_as_read lawful stays s told =
      let seen = stays s told in
      let left = lawful.seen_now seen.0 seen.1 in
      let like = (is.at_rest seen.0 left).1 in
      let held : stored_rows rows seen.0 ≡ store.held =
      subst (λ n. stored_rows n seen.0 ≡ store.held) is.rows_are (held_in seen.0 left) in
      sym held ∙ like.same ∙ ap (stored_rows rows) (cc (sym like.told ∙ told))

module _ (resting : RestsWithRows) (k : Mechanism) (rows : ℕ) (sessions : Rows Client) (start mid now : DiskState) (store : BookStore)
    (is : IsBookOpened (client_record_fault k) rows start mid store) (read : AreRowsRead k store.held sessions) where
  -- what stands while it is renewed, as what was read
  renewed : (c : List ℕ) → IsOldOrNewBook store.rows store.held (stored sessions) mid c → IsAsReadBook k rows start c
  renewed c has =
      let d = has.frame.0 in
      let like = (is.at_rest d has.frame.1).1 in
      let held : stored_rows rows d ≡ store.held = subst (λ n. stored_rows n d ≡ store.held) is.rows_are
      (held_in resting k rows start mid store is d has.frame.1) in
      let were : stored_rows rows like.read ≡ store.held = sym like.same ∙ held in
      let there = subst (λ n. HasRows n store.held c ⊎ HasRows n (stored sessions) c) is.rows_are has.either in
      record {
        read = like.read;
        told = like.told;
        same = ⊎_elim (λ old. inl (old.are ∙ sym were))
            (λ new. inr (sessions, subst (λ (h : List (Option BookRow)). AreRowsRead k h sessions) (sym were) read, new.are)) there;
        undamaged = λ whole. ⊎_elim (λ old. old.undamaged) (λ new. new.undamaged) there;
        outside = outside_twice (book_layout rows) like.read d c like.outside
            (subst (λ n. IsSameOutside (book_layout n) d c) is.rows_are has.frame.2);
      }

  module _ (next : Span mid now (IsOldOrNewBook store.rows store.held (stored sessions) mid)) where
    pub alike : Always (IsAsReadBook k rows start) now
    alike c left = ⊎_elim (λ was. to_as_read k rows start c (is.at_rest c was).1) (λ has. renewed c has) (next.last c left)

    pub reads_alike : IsLawful now → OnSeen (IsAsReadBook k rows start) now
    reads_alike lawful s told = alike s (lawful.seen_now s told)

  pub opened_moment : Span start mid (IsEntryOrLikeBook rows start)
      → Span mid now (IsOldOrNewBook store.rows store.held (stored sessions) mid)
      → Span start now (IsEntryOrAsReadBook k rows start)
  opened_moment first next = spans start mid now (IsEntryOrAsReadBook k rows start)
      (widen start mid (IsEntryOrLikeBook rows start) (IsEntryOrAsReadBook k rows start) (like_as_read k rows start) first)
      (widen mid now (IsOldOrNewBook store.rows store.held (stored sessions) mid) (IsEntryOrAsReadBook k rows start)
      (λ c has. inr (renewed c has)) next)

pub only_read : (k : Mechanism) (rows : ℕ) (start now : DiskState) → Span start now (IsEntryOrLikeBook rows start)
    → Span start now (IsEntryOrAsReadBook k rows start)
only_read k rows start now span =
    widen start now (IsEntryOrLikeBook rows start) (IsEntryOrAsReadBook k rows start) (like_as_read k rows start) span

-- how the calls of an opening went that was done
pub opened_went : (start mid : DiskState) → IsQuiet start mid → FailsLater start mid
    → (start.fate ≡ all_pass → mid.fate ≡ all_pass) → Went {T = Unit} {E = StoreFault} call_of start mid (Ok tt)
opened_went start mid quiet ahead fate = record {
  ended = tt;
  ahead = ahead;
  fate = λ all. (refl, fate all);
  quiet = quiet;
  fault = tt;
}

-- a call failed while it was renewed
pub renewing_failed : (k : Mechanism) (rows : ℕ) (start mid now : DiskState) (P : List ℕ → Type 0) (fault : StoreFault)
    → Span start mid P → Went {T = Unit} {E = StoreFault} call_of start mid (Ok tt)
    → Went {T = Unit} call_of mid now (Err fault)
    → IsBookRefused (client_record_fault k) rows start now (Faulted fault.call)
renewing_failed k rows start mid now P fault span first next =
    let went = then_failed {T = Unit} {U = Unit} {V = Unit} call_of call_of call_of tt fault fault start mid now P refl span first next in
    record {
      table = λ table at is. absurd (cc is);
      row = λ row at is. absurd (cc is);
      fault = λ call is. subst (λ (c : Call). Rose (start.faults c) (now.faults c)) (call_in is) went.fault;
      ended = λ call is. went.ended;
    }
  where
    call_in : {call : Call} → Faulted fault.call ≡ Faulted call → fault.call ≡ call
    call_in is = cc

-- none failed where all pass
pub renewing_fate : (mid now : DiskState) (fault : StoreFault) (A : Type 0) → Went {T = Unit} call_of mid now (Err fault)
    → mid.fate ≡ all_pass → A
renewing_fate mid now fault A went all = absurd (let e : false ≡ true = (went.fate all).0 in cc)

-- a row that an opened store has
module _ (store : BookStore) (marked : IsBookMarked store.rows store.mark store.held) (r : ℕ) (row : BookRow)
    (is : get_or store.held r None ≡ Some row) where
  abbrev own : RowMark
  own = record { name = row.name; len = length row.text; numbers = get_or store.mark.numbers r [] }

  mark_is : get_or (row_marks store.held store.mark.numbers) r None ≡ Some own
  mark_is = mark_at store.held store.mark.numbers r
      ∙ ap (λ (o : Option BookRow). row_mark o (get_or store.mark.numbers r [])) is

  pub named : is_name row.name ≡ true
  named = (marked.marks.lawful r own mark_is).named

  pub below : r < store.rows
  below = marked.marks.inside r own mark_is
