-- A session is begun in the lowest absent row, or the row of a name is made absent.
use Rattle.std.proofs.Common.{Bool, List, None, Ok, Option, Some, [], ap, ap₂, false, get_or, refl, subst, suc, sym, true, zero, ℕ, ◌∙◌, ◌<◌, ◌∷◌, ◌≡◌}
use Rattle.std.proofs.Math.ListN.{set}
use Rattle.std.specs.Prelude.{IsNone, IsSome, if◌then◌else◌, is_some, option_map}
use Rattle.std.specs.Str.{bytes_eq}
use Rattle.book_model.proofs.Names.{same_self}
use Rattle.book_model.specs.Rows.{Row, Rows, begun, under, without}
use Rattle.book_model.specs.Runs.{went_step, replied}
use Rattle.book_model.specs.Steps.{begins, begins_in, forgets, forgets_in, forgotten, has_begun, name_taken, no_pair, opened_if, opened_in}
use Rattle.book_store.specs.Shown.{BookRow}
use Rattle.book_store.specs.Store.{BookStore, IsNewName, with_row, without_row, writes_at}
use Rattle.dr_disk.specs.State.{DiskState}
use Rattle.kem_laws.specs.Mechanism.{Mechanism}
use Rattle.relay_wire.specs.Names.{is_name}
use Rattle.session_model.specs.Clients.{Client}
use Rattle.session_model.specs.Schedule.{agreement_seed}
use Rattle.session_record.specs.Record.{record_text}
use Rattle.client.specs.Beginning.{HasPair, begun_client}
use Rattle.client.specs.declared.begin.Begin.{Begin}
use Rattle.book.specs.Beginning.{ChangesBook, HasPlaceFor}
use Rattle.book.specs.Books.{BookNow, IsBookReady}
use Rattle.book.specs.Changing.{TakesPlaceOf}
use Rattle.book.specs.Machines.{IsStep, asked_under}
use Rattle.book.specs.Naming.{HasNone, IsPlaceOf, is_named}
use Rattle.book.specs.Rows.{stored, stored_row}
use Rattle.book.proofs.Counted.{inside}
use Rattle.book.proofs.Only.{held_at, only}
use Rattle.book.proofs.Places.{IsOnly, begun_is, not_full, under_at, without_is}
use Rattle.book.proofs.Stepped.{on_open, opened, row_of, then_is}
use Rattle.book.proofs.Stored.{name_in, present_inside, stored_set}

none_named : {C : Type 0} (name : List ℕ) (rows : Rows C) → under name rows ≡ None → HasNone name rows
none_named name [] none q = refl
none_named name (None ∷ rows) none zero = refl
none_named name (None ∷ rows) none (suc q) = none_named name rows none q
none_named {C = C} name (Some row ∷ rows) none q =
    by (bytes_eq row.name name) refl none (λ rest p. none_named name rows rest p) q
  where
    by : (b : Bool) → bytes_eq row.name name ≡ b → (if b then Some row.kept else under name rows) ≡ None
        → (under name rows ≡ None → HasNone name rows)
        → (q : ℕ) → is_named name (get_or (Some row ∷ rows) q None) ≡ false
    by true is none more q = absurd (let e : Some row.kept ≡ None = none in cc)
    by false is none more zero = is
    by false is none more (suc q) = more none q

-- a name that no row has is new to the store
pub fresh_name : (rows : Rows Client) (store : BookStore) (name : List ℕ) (at : ℕ) → store.held ≡ stored rows
    → ((r : ℕ) → get_or store.held r None ≡ stored_row (get_or rows r None)) → under name rows ≡ None
    → IsNewName store at name
fresh_name rows store name at holds held none r other apart is e = by (get_or rows r None) refl
  where
    by : (o : Option (Row Client)) → get_or rows r None ≡ o → ⊥
    by None absent = absurd (let f : None ≡ Some other = sym (held r ∙ ap stored_row absent) ∙ is in cc)
    by (Some one) there =
        let stands : Some (record { name = one.name; text = record_text one.kept }) ≡ Some other =
        sym (held r ∙ ap stored_row there) ∙ is in
        let named : one.name ≡ name = ap name_in stands ∙ e in
        let no = none_named name rows none r in
        let isnt : bytes_eq one.name name ≡ false = subst (λ (o : Option (Row Client)). is_named name o ≡ false) there no in
        absurd (let f : true ≡ false = sym (ap (λ (l : List ℕ). bytes_eq l name) named ∙ same_self name) ∙ isnt in cc)

pair_some : {A C : Type 0} (o : Option A) (c : C) → IsSome o → option_map (λ a. c) o ≡ Some c
pair_some None c is = absurd (let e : false ≡ true = is in cc)
pair_some (Some a) c is = refl

pair_none : {A C : Type 0} (o : Option A) (c : C) → IsNone o → option_map (λ a. c) o ≡ None
pair_none None c is = refl
pair_none (Some a) c is = absurd (let e : true ≡ false = is in cc)

module _ (k : Mechanism) (name : List ℕ) (begin : Begin) (old new : BookNow) where
  -- ---- as steps of the machine

  abbrev Opens : Option Client
  Opens = option_map (λ pair. begun_client k begin) (k.meaning.pair_of (agreement_seed begin.key.bytes))

  pub taken_step : (kept : Client) → old.closed ≡ None → is_name name ≡ true → under name old.rows ≡ Some kept
      → new ≡ old → IsStep k old new name (begins begin) (replied name_taken)
  taken_step kept is_open lawful stands same =
      on_open k name old new (asked_under name (begins begin) (replied name_taken)) _ is_open
      (ap₂ (λ l (o : Option Client). opened (went_step (begins_in l name old.rows o Opens))) lawful stands
      ∙ then_is k name old new (replied name_taken) old.rows false (ap (λ (b : BookNow). b.rows) same)
      (ap (λ (b : BookNow). is_some b.closed) same ∙ ap is_some is_open))

  module _ (at : ℕ) (place : HasPlaceFor name old at) where
    asked_is : (o : Option Client) → Opens ≡ o
        → opened (went_step (begins_in (is_name name) name old.rows (under name old.rows) Opens))
        ≡ opened (went_step (opened_in name old.rows o))
    asked_is o is =
        ap₂ (λ l (u : Option Client). opened (went_step (begins_in l name old.rows u Opens))) place.lawful place.fresh
        ∙ ap (λ f. opened (went_step (opened_if f name old.rows Opens))) (not_full old.rows at place.free)
        ∙ ap (λ (u : Option Client). opened (went_step (opened_in name old.rows u))) is

    pub pairless_step : IsNone (k.meaning.pair_of (agreement_seed begin.key.bytes)) → new ≡ old
        → IsStep k old new name (begins begin) (replied no_pair)
    pairless_step none same =
        on_open k name old new (asked_under name (begins begin) (replied no_pair)) _ place.is_open
        (asked_is None (pair_none (k.meaning.pair_of (agreement_seed begin.key.bytes)) (begun_client k begin) none)
        ∙ then_is k name old new (replied no_pair) old.rows false (ap (λ (b : BookNow). b.rows) same)
        (ap (λ (b : BookNow). is_some b.closed) same ∙ ap is_some place.is_open))

    pub begun_step : HasPair k begin → new.closed ≡ None
        → new.rows ≡ set old.rows at (Some (record { name = name; kept = begun_client k begin }))
        → IsStep k old new name (begins begin) (replied has_begun)
    begun_step pair stays rows =
        on_open k name old new (asked_under name (begins begin) (replied has_begun)) _ place.is_open
        (asked_is (Some (begun_client k begin))
        (pair_some (k.meaning.pair_of (agreement_seed begin.key.bytes)) (begun_client k begin) pair)
        ∙ then_is k name old new (replied has_begun) (begun name (begun_client k begin) old.rows) false
        (rows ∙ sym (begun_is name (begun_client k begin) old.rows at place.free)) (ap is_some stays))

module _ (k : Mechanism) (name : List ℕ) (old new : BookNow) (at : ℕ) (is : IsPlaceOf name old.rows at)
    (start now : DiskState) (ready : IsBookReady old start) where
  here : (row : Row Client) × (get_or old.rows at None ≡ Some row) × (row.name ≡ name)
  here = row_of name (get_or old.rows at None) is.named

  alone : IsOnly name old.rows at here.0
  alone = subst (λ (n : List ℕ). IsOnly n old.rows at here.0) here.2
      (only old.rows old.store ready.holds ready.rests.marked at here.0 here.1)

  pub forgotten_step : old.closed ≡ None → new.closed ≡ None → new.rows ≡ set old.rows at None
      → IsStep k old new name forgets (replied forgotten)
  forgotten_step is_open stays rows =
      on_open k name old new (asked_under name forgets (replied forgotten)) _ is_open
      (ap (λ (o : Option Client). opened (went_step (forgets_in name old.rows o)))
      (under_at name old.rows at here.0 is here.1)
      ∙ then_is k name old new (replied forgotten) (without name old.rows) false
      (rows ∙ sym (without_is name old.rows at here.0 alone)) (ap is_some stays))

  pub cleared : TakesPlaceOf {T = Unit} 0 (without_row old.store at) new.store old.store.held start now (Ok tt)
      → new.closed ≡ None → new.rows ≡ set old.rows at None
      → ChangesBook {T = Unit} 0 (without_row old.store at) (without name old.rows) old new start now (Ok tt)
  cleared takes stays rows = record {
    takes = takes;
    rows = rows ∙ sym (without_is name old.rows at here.0 alone);
    stays_open = stays;
    ready = record {
      rests = takes.ready;
      holds = ap (λ (s : BookStore). s.held) takes.next
          ∙ ap (λ (l : List (Option BookRow)). set l at None) ready.holds
          ∙ stored_set old.rows at None (present_inside old.rows at here.0 here.1) ∙ ap stored (sym rows);
    };
    keeps = tt;
    closes = tt;
  }

-- a row that is present is one that the book may have
pub row_inside : (name : List ℕ) (book : BookNow) (at : ℕ) → IsPlaceOf name book.rows at → (disk : DiskState)
    → IsBookReady book disk → at < book.store.rows
row_inside name book at is disk ready =
    let here = row_of name (get_or book.rows at None) is.named in
    inside book.store at here.0.name (record_text here.0.kept) [] ready.rests.marked ready.rests.dropped
    (held_at book.rows book.store ready.holds ready.rests.marked at ∙ ap stored_row here.1)

-- the first record was put
pub put_first : (name : List ℕ) (c : Client) (old new : BookNow) (at : ℕ) (start now : DiskState)
    → HasPlaceFor name old at → IsBookReady old start
    → TakesPlaceOf {T = Unit} (writes_at old.store at (record_text c)) (with_row old.store at name (record_text c))
    new.store old.store.held start now (Ok tt) → new.closed ≡ None
    → new.rows ≡ set old.rows at (Some (record { name = name; kept = c }))
    → ChangesBook {T = Unit} (writes_at old.store at (record_text c)) (with_row old.store at name (record_text c))
    (begun name c old.rows) old new start now (Ok tt)
put_first name c old new at start now place ready takes stays rows = record {
  takes = takes;
  rows = rows ∙ sym (begun_is name c old.rows at place.free);
  stays_open = stays;
  ready = record {
    rests = takes.ready;
    holds = ap (λ (s : BookStore). s.held) takes.next
        ∙ ap (λ (l : List (Option BookRow)). set l at (Some (record { name = name; text = record_text c }))) ready.holds
        ∙ stored_set old.rows at (Some (record { name = name; kept = c })) place.free.inside
        ∙ ap stored (sym rows);
  };
  keeps = tt;
  closes = tt;
}
