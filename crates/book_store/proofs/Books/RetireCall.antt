-- A retire, as the code has it.
use Rattle.std.proofs.Common.{◌≡◌, ◌≢◌, ℕ, zero, suc, ◌^◌, ◌<◌, Bool, true, false, List, [], Result, Ok, Err, get_or, length, map, replicate, refl, sym, ◌∙◌, ap, subst, arith}
use Rattle.std.specs.Prelude.{All, if◌then◌else◌}
use Rattle.std.proofs.lemmas.List.{length-map, length-replicate}
use Rattle.std.proofs.lemmas.List.Elements.{All-nil}
use Rattle.dr_disk.specs.declared.call.Call.{Call}
use Rattle.dr_disk.specs.State.{Always, DiskState, IsLawful}
use Rattle.dr_disk.specs.Spans.{HavePassed, Span}
use Rattle.dr_disk.specs.Called.{Called}
use Rattle.pages.specs.Around.{KeepsOutside}
use Rattle.pages.specs.Retiring.{IsNewest, IsOver, Retires}
use Rattle.pages.specs.Runs.{RunsCalls}
use Rattle.pages.specs.Stops.{retires}
use Rattle.pages.specs.Tables.{Table}
use Rattle.pages.specs.Writing.{AreFree}
use Rattle.record_pages.specs.Tables.{entry_fault}
use Rattle.book_store.proofs.Books.Calls.{called_err, called_ok}
use Rattle.book_store.proofs.Books.RetireShots.{alone, free, newest, retire_done, retire_whole}
use Rattle.book_store.proofs.Books.RowCall.{store_of}
use Rattle.book_store.proofs.Books.Seen.{none_dropped}
use Rattle.book_store.specs.Committing.{HasRetired, KeepsRows, call_of}
use Rattle.book_store.specs.Held.{drops_seen, row_seen}
use Rattle.book_store.specs.Layout.{HasBook, book_layout}
use Rattle.book_store.specs.Rows.{book_names}
use Rattle.book_store.specs.Staging.{AwaitsRetire}
use Rattle.book_store.specs.Store.{BookStore, IsLawfulStore, all_drops, numbers_at, retire_calls, retired}
use Rattle.book_store.specs.declared.desk.Desk.{Desk}
use Rattle.book_store.specs.declared.errors.StoreFault.{StoreFault}
use Rattle.book_store.specs.declared.held.HeldRow.{HeldRow}
use Rattle.book_store.specs.declared.layout.TheConstants.{BOOK_ROWS, ROW_PAGES}

-- no row has dropped a page once all are retired
pub no_drops : (n r : ℕ) → get_or (replicate {A = List ℕ} n []) r [] ≡ []
no_drops zero r = refl
no_drops (suc n) zero = refl
no_drops (suc n) (suc r) = no_drops n r

pub retired_lawful : (store : BookStore) → IsLawfulStore store → IsLawfulStore (retired store)
retired_lawful store lawful = record {
  few = lawful.few;
  high = lawful.high;
  held_all = lawful.held_all;
  numbers_all = lawful.numbers_all;
  staged_all = length-replicate BOOK_ROWS false;
  drops_all = length-replicate {A = List ℕ} BOOK_ROWS [];
  marks = lawful.marks;
  none = λ r not_so. no_drops BOOK_ROWS r;
  drops = λ r. ap (entry_fault 0 ROW_PAGES [] 6) (no_drops BOOK_ROWS r);
  apart = λ r. subst (All (λ n. All (λ m. m ≢ n) (numbers_at store.mark store.held r))) (sym (no_drops BOOK_ROWS r))
      (All-nil (λ n. All (λ m. m ≢ n) (numbers_at store.mark store.held r)));
}

module _ (store : BookStore) (desk : Desk) (rows : List HeldRow) (staged : List Bool) (replaced : Bool)
    (seen_is : store_of desk rows staged replaced ≡ store) (lawful_is : IsLawfulStore (store_of desk rows staged replaced)) where
  all : length rows ≡ BOOK_ROWS
  all = sym (length-map rows row_seen) ∙ lawful_is.held_all

  pub lawful : IsLawfulStore store
  lawful = subst IsLawfulStore seen_is lawful_is

  module _ (cleared : List Bool) (clear : cleared ≡ replicate (length staged) false) where
    cleared_is : cleared ≡ replicate BOOK_ROWS false
    cleared_is = clear ∙ ap (λ n. replicate n false) lawful_is.staged_all

    drops_are : drops_seen cleared rows ≡ replicate BOOK_ROWS []
    drops_are = ap (λ (l : List Bool). drops_seen l rows) (cleared_is ∙ ap (λ n. replicate n false) (sym all))
        ∙ none_dropped rows ∙ ap (λ n. replicate {A = List ℕ} n []) all

    pub seen : store_of desk rows cleared replaced ≡ retired store
    seen = (λ i. record {
      rows = desk.rows;
      mark = (store_of desk rows staged replaced).mark;
      held = map row_seen rows;
      staged = cleared_is i;
      drops = drops_are i;
      replaced = replaced;
    }) ∙ ap retired seen_is

    pub lawful_now : IsLawfulStore (store_of desk rows cleared replaced)
    lawful_now = subst IsLawfulStore (sym seen) (retired_lawful store lawful)

    pub alone_here : (start : DiskState) → Always (AwaitsRetire store) start → replaced ≡ false
        → Always (HasRetired (store_of desk rows cleared replaced) start) start
    alone_here start awaits none = subst (λ b. Always (HasRetired b start) start) (sym seen)
        (alone store lawful start awaits (sym (ap (λ (b : BookStore). b.replaced) seen_is) ∙ none))

  module _ (start : DiskState) (awaits : Always (AwaitsRetire store) start) (gone : List ℕ)
      (gone_is : gone ≡ all_drops (store_of desk rows staged replaced)) where
    gone_here : gone ≡ all_drops store
    gone_here = gone_is ∙ ap all_drops seen_is

    pub gone_long : length gone ≡ length (all_drops store)
    gone_long = ap length gone_here

    pub free_here : start.size < 2 ^ 64 → HasBook store.rows start → AreFree book_names (book_layout desk.rows) gone start
    free_here ends within = subst (λ (b : BookStore). AreFree book_names (book_layout b.rows) gone start) (sym seen_is)
        (subst (λ ns. AreFree book_names (book_layout store.rows) ns start) (sym gone_here)
        (free store lawful start awaits ends within))

    pub newest_here : Always (IsNewest (book_layout desk.rows) desk.second) start
    newest_here = subst (λ (b : BookStore). Always (IsNewest (book_layout b.rows) b.mark.second) start) (sym seen_is)
        (newest store lawful start awaits)

    abbrev Takes : {T : Type 0} → BookStore → List ℕ → DiskState → Result T Call → Type 0
    Takes {T = T} b ns end result = (table : Table) (pages : List (List ℕ))
        → IsOver book_names (book_layout b.rows) b.mark.second ns table pages start
        → Retires {T = T} book_names (book_layout b.rows) ns (record { second = b.mark.second; table = table; pages = pages }) start end result

    module _ {T : Type 0} (end : DiskState) (result : Result T Call)
        (runs : RunsCalls (book_layout desk.rows) (retires (length gone)) start end result)
        (takes : Takes {T = T} (store_of desk rows staged replaced) gone end result) where
      around : Span start end (KeepsOutside (book_layout store.rows) start)
      around = subst (λ (b : BookStore). Span start end (KeepsOutside (book_layout b.rows) start)) seen_is runs.around

      takes_here : Takes {T = T} store (all_drops store) end result
      takes_here = subst (λ ns. Takes {T = T} store ns end result) gone_here
          (subst (λ b. Takes {T = T} b gone end result) seen_is takes)

      pub whole_here : Span start end (KeepsRows store.rows store.held start)
      whole_here = retire_whole store lawful start awaits end result around takes_here

    calls_are : store.replaced ≡ true → retires (length gone) ≡ retire_calls store
    calls_are is = ap retires gone_long ∙ sym (ap (λ b. if b then retires (length (all_drops store)) else 0) is)

    pub done_here : {T : Type 0} (end : DiskState) (x : T) (cleared : List Bool) → cleared ≡ replicate (length staged) false
        → RunsCalls (book_layout desk.rows) (retires (length gone)) start end (Ok x)
        → Takes {T = T} (store_of desk rows staged replaced) gone end (Ok x) → IsLawful start
        → Always (HasRetired (store_of desk rows cleared replaced) start) end
    done_here {T = T} end x cleared clear runs takes of = subst (λ b. Always (HasRetired b start) end) (sym (seen cleared clear))
        (retire_done store lawful start awaits {T = T} end x (around {T = T} end (Ok x) runs takes) (takes_here {T = T} end (Ok x) runs takes) of)

    pub passed_here : {T U : Type 0} (end : DiskState) (x : U) (y : T)
        → RunsCalls (book_layout desk.rows) (retires (length gone)) start end (Ok x)
        → replaced ≡ true → Called (retire_calls store) call_of start end (Ok y)
    passed_here end x y runs is = called_ok (retires (length gone)) (retire_calls store) x y start end
        (calls_are (sym (ap (λ (b : BookStore). b.replaced) seen_is) ∙ is)) runs.calls

    pub failed_here : {T U : Type 0} (end : DiskState) (call : Call) (e : StoreFault)
        → RunsCalls {T = U} (book_layout desk.rows) (retires (length gone)) start end (Err call)
        → call ≡ call_of e → replaced ≡ true → Called {T = T} (retire_calls store) call_of start end (Err e)
    failed_here {T = T} {U = U} end call e runs same is = called_err {T = T} {U = U} (retires (length gone)) (retire_calls store)
        call e start end (calls_are (sym (ap (λ (b : BookStore). b.replaced) seen_is) ∙ is)) same runs.calls

  -- no call where no table was replaced
  pub no_calls : (start : DiskState) → replaced ≡ false → HavePassed (retire_calls store) start start
  no_calls start none m told = (
    m,
    told,
    let e : retire_calls store ≡ 0 = ap (λ b. if b then retires (length (all_drops store)) else 0)
        (sym (ap (λ (b : BookStore). b.replaced) seen_is) ∙ none) in omega (arith, e),
  )
