-- A commit, as the code has it.
use Rattle.std.proofs.Common.{◌≡◌, ℕ, Bool, List, [], Result, Ok, Err, sym, ◌∙◌, ap, subst}
use Rattle.std.specs.Prelude.{◌==◌, not, slice_set}
use Rattle.dr_disk.specs.declared.call.Call.{Call}
use Rattle.dr_disk.specs.State.{DiskState}
use Rattle.pages.specs.Commits.{TakesPlace}
use Rattle.pages.specs.Tables.{turn_after}
use Rattle.book_store.proofs.Books.CommitShots.{commits_err, commits_ok, marked}
use Rattle.book_store.proofs.Books.Listed.{Book}
use Rattle.book_store.proofs.Books.RowCall.{store_of}
use Rattle.book_store.specs.AtRest.{IsBookMarked, laid_book}
use Rattle.book_store.specs.Committing.{CommitsRows}
use Rattle.book_store.specs.Desk.{StandsStaged, book_shot}
use Rattle.book_store.specs.Layout.{book_layout}
use Rattle.book_store.specs.Rows.{book_names}
use Rattle.book_store.specs.Staging.{IsStagedOver}
use Rattle.book_store.specs.Store.{BookStore, IsLawfulStore, body_of, committed, pages_at}
use Rattle.book_store.specs.declared.desk.Desk.{Desk}
use Rattle.book_store.specs.declared.errors.StoreFault.{StoreFault}
use Rattle.book_store.specs.declared.held.HeldRow.{HeldRow}

module _ (store : BookStore) (desk next : Desk) (rows : List HeldRow) (staged : List Bool) (replaced : Bool)
    (seen_is : store_of desk rows staged replaced ≡ store) (lawful_is : IsLawfulStore (store_of desk rows staged replaced))
    (laid : desk.body.items ≡ body_of (store_of desk rows staged replaced))
    (rows_is : next.rows ≡ desk.rows) (second_is : next.second ≡ not desk.second) (turn_is : next.turn ≡ turn_after desk.turn)
    (body_is : next.body.items ≡ slice_set desk.body.items 0 (turn_after desk.turn)) where
  abbrev now : BookStore
  now = store_of next rows staged (not (desk.turn == 0))

  pub seen : now ≡ committed store
  seen = (λ i. record {
    rows = rows_is i;
    mark = record {
      second = second_is i;
      turn = turn_is i;
      numbers = (store_of desk rows staged replaced).mark.numbers;
    };
    held = (store_of desk rows staged replaced).held;
    staged = staged;
    drops = (store_of desk rows staged replaced).drops;
    replaced = not (desk.turn == 0);
  }) ∙ ap committed seen_is

  lawful : IsLawfulStore store
  lawful = subst IsLawfulStore seen_is lawful_is

  pub marked_here : IsBookMarked now.rows now.mark now.held
  marked_here = subst (λ (b : BookStore). IsBookMarked b.rows b.mark b.held) (sym seen) (marked store lawful)

  body_now : next.body.items ≡ body_of (committed store)
  body_now = body_is ∙ ap (λ (b : List ℕ). slice_set b 0 (turn_after desk.turn)) laid ∙ ap (λ b. body_of (committed b)) seen_is

  module _ (standing : Book) (start : DiskState) (over : IsStagedOver store standing start) where
    pub stands_here : StandsStaged desk.rows desk.second desk.turn desk.body.items (laid_book over.mark standing) (pages_at store.held) start
    stands_here =
        subst (λ b. StandsStaged desk.rows desk.second desk.turn b (laid_book over.mark standing) (pages_at store.held) start)
        (sym (laid ∙ ap body_of seen_is))
        (subst (λ (b : BookStore). StandsStaged b.rows b.mark.second b.mark.turn (body_of store) (laid_book over.mark standing) (pages_at store.held) start)
        (sym seen_is) over.stands)

    abbrev Takes : {T : Type 0} → ℕ → DiskState → Result T Call → Type 0
    Takes {T = T} n end result = TakesPlace {T = T} book_names (book_layout n) [] (laid_book over.mark standing)
        (book_shot (laid_book over.mark standing) next.body.items (pages_at store.held)) start end result

    takes_here : {T : Type 0} (end : DiskState) (result : Result T Call) → Takes {T = T} desk.rows end result → Takes {T = T} store.rows end result
    takes_here {T = T} end result takes = subst (λ (b : BookStore). Takes {T = T} b.rows end result) seen_is takes

    pub commits_here : {T U : Type 0} (end : DiskState) (x : U) (y : T) → Takes {T = U} desk.rows end (Ok x)
        → CommitsRows {T = T} {E = StoreFault} now standing start end (Ok y)
    commits_here {T = T} {U = U} end x y takes = subst (λ b. CommitsRows {T = T} {E = StoreFault} b standing start end (Ok y)) (sym seen)
        (commits_ok store lawful standing start over end x y next.body.items body_now (takes_here {T = U} end (Ok x) takes))

    pub fails_here : {T U : Type 0} (end : DiskState) (call : Call) (e : StoreFault) → Takes {T = U} desk.rows end (Err call)
        → CommitsRows {T = T} now standing start end (Err e)
    fails_here {T = T} {U = U} end call e takes = subst (λ b. CommitsRows {T = T} b standing start end (Err e)) (sym seen)
        (commits_err store lawful standing start over {T = T} {U = U} end call e next.body.items body_now (takes_here {T = U} end (Err call) takes))
