-- A store of absent rows, as the code has it.
use Rattle.std.proofs.Common.{◌≡◌, ℕ, ◌-◌, ◌≤◌, All, false, true, List, None, length, map, replicate, refl, sym, subst}
use Rattle.book_store.proofs.Books.Blank.{none_marked}
use Rattle.book_store.proofs.Books.Empty.{laid_empty, lawful_empty, seen_empty}
use Rattle.book_store.specs.AtRest.{IsBookMarked}
use Rattle.book_store.specs.Held.{row_seen}
use Rattle.book_store.specs.Locating.{IsStoreWith, store_with}
use Rattle.book_store.specs.Shown.{absent}
use Rattle.book_store.specs.Store.{BookStore, empty_store}
use Rattle.book_store.specs.declared.desk.Desk.{Desk}
use Rattle.book_store.specs.declared.held.HeldRow.{HeldRow}
use Rattle.book_store.specs.declared.layout.TheConstants.{BOOK_ROWS, BOOK_TABLE}

module _ (count : ℕ) (few : count ≤ BOOK_ROWS) (desk : Desk) (rows : List HeldRow) (rows_is : desk.rows ≡ count)
    (second_is : desk.second ≡ true) (turn_is : desk.turn ≡ 0) (body_is : desk.body.items ≡ replicate (BOOK_TABLE - 1) 0)
    (all : length rows ≡ BOOK_ROWS) (nameless : All (λ (row : HeldRow). row.name ≡ None) rows) where
  pub empty_is : store_with desk rows ≡ empty_store count
  empty_is = seen_empty count few desk rows (replicate BOOK_ROWS false) rows_is second_is turn_is body_is all nameless refl

  pub empty_with : IsStoreWith desk rows
  empty_with = record {
    lawful = lawful_empty count few desk rows (replicate BOOK_ROWS false) rows_is second_is turn_is body_is all nameless refl;
    laid = laid_empty count few desk rows (replicate BOOK_ROWS false) rows_is second_is turn_is body_is all nameless refl;
    marked = subst (λ (b : BookStore). IsBookMarked b.rows b.mark b.held) (sym empty_is) (none_marked count few);
  }

  pub empty_held : map row_seen rows ≡ absent BOOK_ROWS
  empty_held = λ i. (empty_is i).held
