-- The records of all sessions of a fan are staged and settled, and then the sessions say the text.
use Rattle.std.proofs.Common.{Err, List, None, Ok, Option, Result, ap, arith, length, refl, subst, sym, ℕ, ◌≤◌, ◌∙◌, ◌≡◌, ◌<◌}
use Rattle.dr_disk.specs.Spans.{Span}
use Rattle.dr_disk.specs.State.{Always, DiskState, IsLawful}
use Rattle.book_model.specs.Rows.{Rows}
use Rattle.book_store.specs.Committing.{IsOldOrNewBook, KeepsRows, ReadsOutsideBook}
use Rattle.book_store.specs.Layout.{HasBook}
use Rattle.book_store.specs.Shown.{BookRow}
use Rattle.book_store.specs.Staging.{IsStagedOver, MayStage}
use Rattle.book_store.specs.Store.{BookStore}
use Rattle.book_store.specs.declared.errors.StoreFault.{StoreFault}
use Rattle.book_store.specs.declared.layout.TheConstants.{BOOK_ROWS}
use Rattle.dr_base.specs.declared.key.Key32.{Key32}
use Rattle.kem_laws.specs.Mechanism.{Mechanism}
use Rattle.session_model.specs.Clients.{Client}
use Rattle.book.specs.Books.{BookNow, IsBookReady, IsBookOpen, MayBookAct}
use Rattle.book.specs.Changing.{TakesPlaceOf}
use Rattle.book.specs.Fanning.{FansOut, AsksAndFans, AsksInTurn, FansIn}
use Rattle.book.specs.Fans.{AllSay, Fan, fan_of, fanned_rows, fanned_store, fanned_writes, AreAsked, AreListed, IsFanList}
use Rattle.book.specs.Putting.{PutsFan, StagesFan, closed_by, with_rows, with_store}
use Rattle.book.specs.RowKeepings.{RowNow}
use Rattle.book.specs.Rows.{stored}
use Rattle.book.proofs.Fanning.Fanned.{held_is, store_rows}
use Rattle.book.proofs.Staged.{stage_failed, then_settled}
use Rattle.dr_ports.specs.States.{DrawsState}
use Rattle.book.specs.declared.refusals.FanRefusal.{FanRefusal}
use Rattle.book.specs.declared.refusals.FanRefusal.TheVariants.{Closed, Nobody, Peer, StoreFault as Faulted}
use Rattle.book.proofs.Fanning.Asked.{all_say}

module _ (k : Mechanism) (was : RowNow) (list text : List ℕ) (seeds : List (Option Key32))
    (all : AllSay k (fan_of was.book.rows list text seeds)) (start : DiskState) (ready : IsBookReady was.book start) where
  abbrev fan : Fan
  fan = fan_of was.book.rows list text seeds

  abbrev staged : BookStore
  staged = fanned_store k fan was.book.store (length list)

  abbrev writes : ℕ
  writes = fanned_writes k fan was.book.store (length list)

  abbrev said : Rows Client
  said = fanned_rows k fan (length list)

  abbrev held : List (Option BookRow)
  held = was.book.store.held

  count : staged.rows ≡ was.book.store.rows
  count = store_rows k fan all was.book.store (length list)

  holds : staged.held ≡ stored said
  holds = held_is k fan all was.book.store (length list) (omega arith) ready.holds

  pub put_failed : (mid : DiskState) (fault : StoreFault) (new : RowNow) → IsLawful mid
      → StagesFan k fan was new start mid (Err fault) → PutsFan {T = Unit} k fan was new start mid (Err fault)
  put_failed mid fault new lawful is = record {
    same = is.0;
    takes = stage_failed writes staged held start mid
        (subst (λ r. Span start mid (KeepsRows r held start)) (sym count) is.2.any_moment)
        (subst (λ r. Always (KeepsRows r held start) mid) (sym count) is.2.still)
        fault new.book.store lawful (is.1 ∙ sym count)
        (subst (λ r. ReadsOutsideBook r start mid) (sym count) is.2.reads) is.2.calls is.2.kind;
  }

  module _ (mid : DiskState) (self : RowNow) (is : StagesFan k fan was self start mid (Ok tt)) where
    pub few : self.book.store.rows ≤ BOOK_ROWS
    few = subst (λ (s : RowNow). s.book.store.rows ≤ BOOK_ROWS) (sym is.0)
        (subst (λ r. r ≤ BOOK_ROWS) (sym count) ready.rests.few)

    over : IsStagedOver self.book.store held mid
    over = subst (λ (s : RowNow). IsStagedOver s.book.store held mid) (sym is.0) is.1.over

    pub may : MayStage self.book.store mid
    may = record {
      within = subst (λ (s : RowNow). HasBook s.book.store.rows mid) (sym is.0)
          (subst (λ r. HasBook r mid) (sym count) (omega (arith, ready.rests.within, is.1.any_moment.size)));
      standing = held;
      over = over;
    }

    pub put_then : (end : DiskState) (new : RowNow) (result : Result Unit StoreFault)
        → ((standing : List (Option BookRow)) → IsStagedOver self.book.store standing mid
        → TakesPlaceOf 0 self.book.store new.book.store standing mid end result)
        → new ≡ with_store self new.book.store → PutsFan k fan was new start end result
    put_then end new result takes same = record {
      same = same ∙ ap (λ (s : RowNow). with_store s new.book.store) is.0;
      takes = then_settled writes staged held start mid
          (subst (λ r. Span start mid (KeepsRows r held start)) (sym count) is.1.any_moment)
          (subst (λ r. Always (KeepsRows r held start) mid) (sym count) is.1.still)
          end is.1.calls (subst (λ r. ReadsOutsideBook r start mid) (sym count) is.1.reads) new.book.store result
          (subst (λ (s : RowNow). TakesPlaceOf 0 s.book.store new.book.store held mid end result) is.0 (takes held over));
    }

  -- ---- what becomes of the book

  module _ {T : Type 0} (end : DiskState) (self : RowNow) (result : Result T StoreFault)
      (puts : PutsFan k fan was self start end result) where
    pub all_or_none : Span start end (IsOldOrNewBook was.book.store.rows (stored was.book.rows) (stored said) start)
    all_or_none =
        subst (λ (new : List (Option BookRow)). Span start end (IsOldOrNewBook was.book.store.rows (stored was.book.rows) new start)) holds
        (subst (λ (old : List (Option BookRow)). Span start end (IsOldOrNewBook was.book.store.rows old staged.held start)) ready.holds
        (subst (λ r. Span start end (IsOldOrNewBook r held staged.held start)) count puts.takes.any_moment))

  pub still_all : (self : RowNow) → self ≡ with_store was self.book.store
      → AllSay k (fan_of self.book.rows list text seeds)
  still_all self same = subst (λ (s : RowNow). AllSay k (fan_of s.book.rows list text seeds)) (sym same) all

  pub fanned : (end : DiskState) (self new : RowNow) → was.book.closed ≡ None
      → PutsFan {T = Unit} k fan was self start end (Ok tt)
      → new ≡ with_rows self (fanned_rows k (fan_of self.book.rows list text seeds) (length list))
      → FansOut {T = Unit} k fan was.book new.book start end (Ok tt)
  fanned end self new is_open puts accepts = subst (λ (s : RowNow). FansOut {T = Unit} k fan was.book s.book start end (Ok tt)) (sym there)
      (record {
        changes = record {
          takes = puts.takes;
          rows = refl;
          stays_open = is_open;
          ready = record { rests = puts.takes.ready; holds = ap (λ (s : BookStore). s.held) puts.takes.next ∙ holds };
          keeps = tt;
          closes = tt;
        };
        all_or_none = all_or_none end self (Ok tt) puts;
      })
    where
      there : new ≡ with_rows (with_store was self.book.store) said
      there = accepts ∙ ap (λ (s : RowNow). with_rows s (fanned_rows k (fan_of s.book.rows list text seeds) (length list))) puts.same

  pub unfanned : (end : DiskState) (self new : RowNow) (fault : StoreFault)
      → PutsFan {T = Unit} k fan was self start end (Err fault) → new ≡ closed_by self fault.call
      → FansOut {T = Unit} k fan was.book new.book start end (Err fault)
  unfanned end self new fault puts shut = subst (λ (s : RowNow). FansOut {T = Unit} k fan was.book s.book start end (Err fault)) (sym there)
      (record {
        changes = record {
          takes = puts.takes;
          rows = tt;
          stays_open = tt;
          ready = tt;
          keeps = refl;
          closes = refl;
        };
        all_or_none = all_or_none end self (Err fault) puts;
      })
    where
      there : new ≡ closed_by (with_store was self.book.store) fault.call
      there = shut ∙ ap (λ (s : RowNow). closed_by s fault.call) puts.same

-- ---- a fan, by how it ends

module _ {X W : Type 0} (state : X → DiskState) (draws : W → DrawsState) (k : Mechanism) (text list : List ℕ)
    (old mid : BookNow) (same : mid ≡ old) (is_open : old.closed ≡ None) (start : X) (source left : W) (seeds : List (Option Key32)) where
  pub refused : (refusal : FanRefusal) (now : X) → now ≡ start
      → AsksInTurn draws k text old.rows list source left seeds (Err refusal)
      → FansIn state draws k text list old mid start now source left (Err refusal)
  refused (Peer at refusal) now stays asks = (is_open, (seeds, asks), same, stays)
  refused (Closed call) now stays asks = absurd asks
  refused Nobody now stays asks = absurd asks
  refused (Faulted call) now stays asks = absurd asks

  module _ (asked : AreAsked draws k text old.rows list source (length list) left seeds) where
    pub all_of : IsFanList list → AreListed old.rows list → AllSay k (fan_of mid.rows list text seeds)
    all_of fair listed = subst (λ (b : BookNow). AllSay k (fan_of b.rows list text seeds)) (sym same)
        (all_say draws k text old.rows list source left seeds asked fair listed)

    pub still_open : MayBookAct old (state start) → IsBookOpen mid (state start)
    still_open may = subst (λ (b : BookNow). IsBookOpen b (state start)) (sym same) (is_open, may is_open)

    pub said_by_all : {T : Type 0} (new : BookNow) (end : DiskState) (result : Result T StoreFault) → 0 < length list
        → FansOut k (fan_of mid.rows list text seeds) mid new (state start) end result
        → AsksAndFans draws k text list old new (state start) end source left result
    said_by_all new end result some fans = (
      is_open,
      some,
      (
        seeds,
        asked,
        subst (λ (b : BookNow). FansOut k (fan_of b.rows list text seeds) b new (state start) end result) same fans,
      ),
    )
