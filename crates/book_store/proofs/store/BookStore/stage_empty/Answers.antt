use Rattle.std.proofs.Common.{◌≡◌, ◌<◌, ℕ, [], Bool, true, List, None, get_or, length, sym, ◌∙◌, ap, subst, arith}
use Rattle.std.proofs.Math.ListN.{set}
use Rattle.std.proofs.lemmas.List.{length-map}
use Rattle.book_store.specs.declared.layout.TheConstants.{BOOK_ROWS}
use Rattle.book_store.specs.Held.{row_seen, seen_as, store_seen}
use Rattle.book_store.specs.Kept.{text_of}
use Rattle.book_store.specs.Rows.{absent_row, with_row_in}
use Rattle.book_store.specs.Store.{BookStore, IsLawfulStore, body_of, numbers_at, without_row}
use Rattle.book_store.specs.declared.desk.Desk.{Desk}
use Rattle.book_store.specs.declared.held.HeldRow.{HeldRow}
use Rattle.book_store.specs.Desk.{IsWithBody}
use Rattle.book_store.proofs.Books.Seen.{numbers_here, seen_with}
use Rattle.book_store.proofs.Books.Renewing.{empty_body, empty_lawful}
use Rattle.book_store.proofs.store.BookStore.stage_empty.Goals as goal

module _ (desk next : Desk) (rows : List HeldRow) (staged : List Bool) (replaced : Bool) (r : ℕ) (old new : HeldRow)
    (lawful : IsLawfulStore (store_seen desk.rows desk.second desk.turn rows staged replaced))
    (laid : desk.body.items ≡ body_of (store_seen desk.rows desk.second desk.turn rows staged replaced))
    (here : r < desk.rows) (is : old ≡ get_or rows r old) (nameless : new.name ≡ None)
    (numbers : new.kept.numbers.items ≡ []) (dropped : new.dropped.items ≡ old.kept.numbers.items)
    (with : IsWithBody desk next (with_row_in desk.body.items r absent_row)) where
  abbrev was : BookStore
  was = store_seen desk.rows desk.second desk.turn rows staged replaced

  abbrev now : BookStore
  now = store_seen next.rows next.second next.turn (set rows r new) (set staged r true) replaced

  all : length rows ≡ BOOK_ROWS
  all = sym (length-map rows row_seen) ∙ lawful.held_all

  seen : now ≡ without_row was r
  seen = seen_with desk.rows next.rows desk.second next.second desk.turn next.turn rows staged replaced r new None []
      (numbers_at was.mark was.held r) with.rows with.second with.turn (lawful.staged_all ∙ sym all)
      (ap (λ name. seen_as name (text_of new.kept)) nameless) numbers
      (dropped ∙ numbers_here rows r old (omega (arith, here, lawful.few, all)) is)

  lawful_now : IsLawfulStore now
  lawful_now = subst IsLawfulStore (sym seen) (empty_lawful was lawful r here)

  laid_now : next.body.items ≡ body_of now
  laid_now = with.body_is ∙ ap (λ (b : List ℕ). with_row_in b r absent_row) laid
      ∙ empty_body was lawful r here ∙ sym (ap body_of seen)

pub invariant_of-self-inside : goal.invariant_of-self-inside
invariant_of-self-inside c =
    let s = c.self.inside in
    let here : c.args.row < c.self.inside.desk.rows = omega (arith, c.requires.row, ap (λ (b : BookStore). b.rows) c.self.view_is) in (
      lawful_now s.desk c.stage_empty.new.self s.rows.items s.staged.items s.replaced c.args.row c.index_mut-held.result.now
          c.clear.new.self s.lawful s.laid here c.index_mut-held.ensures.value c.clear.ensures.name c.clear.ensures.numbers
          c.clear.ensures.dropped c.stage_empty.ensures.next,
      (
        laid_now s.desk c.stage_empty.new.self s.rows.items s.staged.items s.replaced c.args.row c.index_mut-held.result.now
            c.clear.new.self s.lawful s.laid here c.index_mut-held.ensures.value c.clear.ensures.name c.clear.ensures.numbers
            c.clear.ensures.dropped c.stage_empty.ensures.next,
        (s.rooms, (s.gathered, (s.zero, tt))),
      ),
    )

pub returns : goal.returns
returns c =
    let s = c.self.inside in
    let here : c.args.row < c.self.inside.desk.rows = omega (arith, c.requires.row, ap (λ (b : BookStore). b.rows) c.self.view_is) in
    seen s.desk c.stage_empty.new.self s.rows.items s.staged.items s.replaced c.args.row c.index_mut-held.result.now
    c.clear.new.self s.lawful s.laid here c.index_mut-held.ensures.value c.clear.ensures.name c.clear.ensures.numbers
    c.clear.ensures.dropped c.stage_empty.ensures.next
    ∙ ap (λ b. without_row b c.args.row) c.self.view_is
