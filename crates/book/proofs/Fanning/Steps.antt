-- One step of the loops over a fan's sessions, in the words of the loop.
use Rattle.std.proofs.Common.{Err, List, None, Ok, Option, add-one, ap, arith, get_or, length, refl, subst, suc, sym, true, ℕ, ◌+◌, ◌<◌, ◌∙◌, ◌≡◌}
use Rattle.std.proofs.Math.ListN.{set}
use Rattle.std.specs.Prelude.{is_some, [], ◌++◌, ◌∷◌}
use Rattle.book_model.specs.Rows.{Row, Rows}
use Rattle.book_store.specs.Committing.{ReadsOutsideBook, StagesRow, call_of}
use Rattle.book_store.specs.Layout.{HasBook}
use Rattle.book_store.specs.Shown.{BookRow}
use Rattle.book_store.specs.Staging.{IsStagedOver, MayStage}
use Rattle.book_store.specs.Store.{BookStore, IsNewName, IsUnstaged}
use Rattle.book_store.specs.declared.errors.StoreFault.{StoreFault}
use Rattle.dr_base.specs.declared.key.Key32.{Key32}
use Rattle.dr_disk.specs.Called.{Called}
use Rattle.dr_disk.specs.State.{DiskState}
use Rattle.dr_disk.specs.declared.call.Call.TheVariants.{Write}
use Rattle.dr_ports.specs.States.{DrawsState}
use Rattle.kem_laws.specs.Mechanism.{Mechanism}
use Rattle.pages.specs.Runs.{CameNext, only}
use Rattle.session_model.specs.Clients.{Client}
use Rattle.client.specs.declared.refusals.SayRefusal.{SayRefusal}
use Rattle.std.specs.Prelude.{Result}
use Rattle.book.specs.Books.{BookNow, IsBookReady}
use Rattle.book.specs.Fans.{AllSay, AreAsked, Asks, Fan, Says, fan_of, fanned_rows, fanned_store, one_more, said_row, said_writes, staged_said}
use Rattle.book.specs.Putting.{StagesFirst, StagingFails, with_rows, with_store}
use Rattle.book.specs.RowKeepings.{RowNow, kept_of, known_name, name_of, row_at, row_keeping}
use Rattle.book.proofs.Fanning.Staged.{staged_next, staging_failed}
use Rattle.book.proofs.Fanning.Fanned.{inside_store, later, name_new, row_stays, store_rows, unstaged_yet}

-- ---- asked

-- the session in use is the next of the list
pub next_kept : (rows : Rows Client) (list : List ℕ) (n : ℕ) (book : BookNow) (shelf : RowNow) (at : ℕ)
    → shelf ≡ record { book = book; at = at } → book.rows ≡ rows → at ≡ get_or list n 0
    → row_keeping.kept shelf ≡ kept_of (row_at rows (get_or list n 0))
next_kept rows list n book shelf at is same here =
    ap (λ (s : RowNow). kept_of (row_at s.book.rows s.at)) is
    ∙ ap (λ (l : Rows Client). kept_of (row_at l at)) same
    ∙ ap (λ q. kept_of (row_at rows q)) here

module _ {W : Type 0} (draws : W → DrawsState) (k : Mechanism) (text : List ℕ) (source : W) (was : RowNow)
    (list : List ℕ) (n : ℕ) (mid : W) (seeds : List (Option Key32))
    (asked : AreAsked draws k text was.book.rows list source n mid seeds) (self shelf : RowNow) (at : ℕ)
    (is : shelf ≡ record { book = self.book; at = at }) (same : self.book ≡ was.book) (here : at ≡ get_or list n 0) where
  pub asks_next : (left : W) (result : Result (Option Key32) SayRefusal)
      → Asks draws k text (row_keeping.kept shelf) mid left result
      → Asks draws k text (kept_of (row_at was.book.rows (get_or list n 0))) mid left result
  asks_next left result asks =
      subst (λ (c : Client). Asks draws k text c mid left result)
      (next_kept was.book.rows list n self.book shelf at is (ap (λ (b : BookNow). b.rows) same) here) asks

  pub asked_more : (left : W) (seed : Option Key32) → Asks draws k text (row_keeping.kept shelf) mid left (Ok seed)
      → AreAsked draws k text was.book.rows list source (n + 1) left (seeds ++ seed ∷ [])
  asked_more left seed asks = one_more n mid left seeds seed asked (asks_next left (Ok seed) asks)

-- ---- staged

module _ (k : Mechanism) (was : RowNow) (list text : List ℕ) (seeds : List (Option Key32))
    (all : AllSay k (fan_of was.book.rows list text seeds)) (start : DiskState) (ready : IsBookReady was.book start) where
  abbrev fan : Fan
  fan = fan_of was.book.rows list text seeds

  abbrev store : ℕ → BookStore
  store n = fanned_store k fan was.book.store n

  abbrev held : List (Option BookRow)
  held = was.book.store.held

  module _ (n : ℕ) (lt : n < length list) (self : RowNow) (self_is : self ≡ with_store was (store n)) (at : ℕ)
      (at_is : at ≡ get_or list n 0) (seed : Option Key32) (seed_is : seed ≡ get_or seeds n None)
      (mid : DiskState) (so : StagesFirst k fan was.book.store start mid n) where
    over : (P : RowNow → ℕ → Option Key32 → Type 0)
        → P (with_store was (store n)) (get_or list n 0) (get_or seeds n None) → P self at seed
    over P is =
        subst (λ (s : RowNow). P s at seed) (sym self_is)
        (subst (λ q. P (with_store was (store n)) q seed) (sym at_is)
        (subst (λ (e : Option Key32). P (with_store was (store n)) (get_or list n 0) e) (sym seed_is) is))

    back : (P : RowNow → ℕ → Option Key32 → Type 0) → P self at seed
        → P (with_store was (store n)) (get_or list n 0) (get_or seeds n None)
    back P is =
        subst (λ (e : Option Key32). P (with_store was (store n)) (get_or list n 0) e) seed_is
        (subst (λ q. P (with_store was (store n)) q seed) at_is
        (subst (λ (s : RowNow). P s at seed) self_is is))

    pub there : is_some (row_at self.book.rows at) ≡ true
    there = over (λ s q e. is_some (row_at s.book.rows q) ≡ true) (all.there n lt)

    pub says : Says k text (kept_of (row_at self.book.rows at)) seed
    says = over (λ s q e. Says k text (kept_of (row_at s.book.rows q)) e) (all.say n lt)

    pub inside : at < self.book.store.rows
    inside = over (λ s q e. q < s.book.store.rows) (inside_store k fan all was.book start ready refl n lt)

    pub once : IsUnstaged self.book.store at
    once = over (λ s q e. IsUnstaged s.book.store q) (unstaged_yet k fan all was.book start ready refl n lt)

    pub name : IsNewName self.book.store at (known_name (name_of (row_at self.book.rows at)))
    name = over (λ s q e. IsNewName s.book.store q (known_name (name_of (row_at s.book.rows q))))
        (name_new k fan all was.book start ready refl n lt)

    pub may : MayStage self.book.store mid
    may = over (λ s q e. MayStage s.book.store mid) (record {
      within = subst (λ r. HasBook r mid) (sym (store_rows k fan all was.book.store n))
          (omega (arith, ready.rests.within, so.any_moment.size));
      standing = held;
      over = so.over;
    })

    module _ (new : RowNow) (next : new ≡ with_store self (staged_said k text seed (row_at self.book.rows at) at self.book.store))
        (end : DiskState) (reads : ReadsOutsideBook self.book.store.rows mid end) where
      pub next_self : new ≡ with_store was (store (suc n))
      next_self = next ∙ over (λ s q e. with_store s (staged_said k text e (row_at s.book.rows q) q s.book.store)
          ≡ with_store was (store (suc n))) refl

      next_store : new.book.store ≡ store (suc n)
      next_store = ap (λ (s : RowNow). s.book.store) next_self

      pub more_staged : ((standing : List (Option BookRow)) → IsStagedOver self.book.store standing mid
          → StagesRow {T = Unit} {E = StoreFault} new.book.store standing mid end (Ok tt))
          → Called {T = Unit} (said_writes k text seed (row_at self.book.rows at) at self.book.store) call_of mid end (Ok tt)
          → StagesFirst k fan was.book.store start end (n + 1)
      more_staged stages calls =
          let st = stages held (over (λ s q e. IsStagedOver s.book.store held mid) so.over) in
          subst (λ m. StagesFirst k fan was.book.store start end m) (sym (add-one n))
          (staged_next k fan was.book.store start all n mid so new.book.store end next_store st.any_moment st.still
          (back (λ s q e. ReadsOutsideBook s.book.store.rows mid end) reads) st.staged
          (back (λ s q e. Called {T = Unit} (said_writes k text e (row_at s.book.rows q) q s.book.store) call_of mid end (Ok tt)) calls))

      pub fails_staging : (fault : StoreFault) → ((standing : List (Option BookRow)) → IsStagedOver self.book.store standing mid
          → StagesRow {T = Unit} new.book.store standing mid end (Err fault))
          → Called {T = Unit} (said_writes k text seed (row_at self.book.rows at) at self.book.store) call_of mid end (Err fault)
          → CameNext (only Write) mid end fault.call
          → StagingFails k fan was.book.store start end fault
      fails_staging fault stages calls kind =
          let st = stages held (over (λ s q e. IsStagedOver s.book.store held mid) so.over) in
          staging_failed k fan was.book.store start all n mid so new.book.store end next_store st.any_moment st.still
          (back (λ s q e. ReadsOutsideBook s.book.store.rows mid end) reads) fault lt
          (back (λ s q e. Called {T = Unit} (said_writes k text e (row_at s.book.rows q) q s.book.store) call_of mid end (Err fault)) calls)
          kind

      pub same_rows : new.book.store.rows ≡ was.book.store.rows
      same_rows = ap (λ (s : BookStore). s.rows) next_store ∙ store_rows k fan all was.book.store (suc n)

      pub only_store : new ≡ with_store was new.book.store
      only_store = next_self ∙ ap (λ (s : BookStore). with_store was s) (sym next_store)

-- ---- accepted

module _ (k : Mechanism) (was : RowNow) (list text : List ℕ) (seeds : List (Option Key32))
    (all : AllSay k (fan_of was.book.rows list text seeds)) (n : ℕ) (lt : n < length list) (self : RowNow)
    (self_is : self ≡ with_rows was (fanned_rows k (fan_of was.book.rows list text seeds) n)) (at : ℕ)
    (at_is : at ≡ get_or list n 0) (seed : Option Key32) (seed_is : seed ≡ get_or seeds n None) where
  abbrev said : Fan
  said = fan_of was.book.rows list text seeds

  row_is : row_at self.book.rows at ≡ row_at was.book.rows (get_or list n 0)
  row_is = ap (λ (s : RowNow). row_at s.book.rows at) self_is
      ∙ ap (λ q. row_at (fanned_rows k said n) q) at_is
      ∙ row_stays k said all n (get_or list n 0) (later k said all n lt)

  pub still_there : is_some (row_at self.book.rows at) ≡ true
  still_there = ap is_some row_is ∙ all.there n lt

  pub still_says : Says k text (kept_of (row_at self.book.rows at)) seed
  still_says =
      subst (λ (o : Option (Row Client)). Says k text (kept_of o) seed) (sym row_is)
      (subst (λ (e : Option Key32). Says k text (kept_of (row_at was.book.rows (get_or list n 0))) e) (sym seed_is) (all.say n lt))

  pub next_rows : (new : RowNow)
      → new ≡ with_rows self (set self.book.rows at (said_row k text seed (row_at self.book.rows at)))
      → new ≡ with_rows was (fanned_rows k said (n + 1))
  next_rows new next =
      next
      ∙ ap (λ (o : Option (Row Client)). with_rows self (set self.book.rows at (said_row k text seed o))) row_is
      ∙ ap (λ (e : Option Key32). with_rows self (set self.book.rows at (said_row k text e (row_at was.book.rows (get_or list n 0)))))
      seed_is
      ∙ ap (λ q. with_rows self (set self.book.rows q (said_row k text (get_or seeds n None) (row_at was.book.rows (get_or list n 0)))))
      at_is
      ∙ ap (λ (s : RowNow). with_rows s (set s.book.rows (get_or list n 0)
      (said_row k text (get_or seeds n None) (row_at was.book.rows (get_or list n 0))))) self_is
      ∙ ap (λ m. with_rows was (fanned_rows k said m)) (sym (add-one n))
