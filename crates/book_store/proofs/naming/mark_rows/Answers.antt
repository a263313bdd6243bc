use Rattle.std.proofs.Common.{◌<◌, ◌||◌, [], ℕ, All, List, false, get_or, map, refl, sym, ◌∙◌, ap, subst, arith}
use Rattle.std.proofs.lemmas.List.Elements.{All-weaker}
use Rattle.record_pages.specs.Plans.{is_among}
use Rattle.record_pages.proofs.LawfulEntries.{IsEntry, entries_lawful}
use Rattle.book_store.proofs.Books.Seen.{own_at}
use Rattle.book_store.proofs.Openings.RowMarks.{none_more, row_more}
use Rattle.book_store.specs.Held.{held_names, numbers_seen}
use Rattle.book_store.specs.Rows.{shifted}
use Rattle.book_store.specs.declared.held.HeldRow.{HeldRow}
use Rattle.book_store.specs.declared.layout.TheConstants.{ROW_PAGES}
use Rattle.book_store.proofs.naming.mark_rows.Goals as goal

pub rows-init : goal.rows-init
unfolding held_names
rows-init c = record { marks = λ n. refl; long = refl }

pub mark_row-requires-clause-own : goal.mark_row-requires-clause-own
mark_row-requires-clause-own c =
    let row = c.index-rows-row.result in
    subst (λ (ns : List ℕ). All (λ n. n < ROW_PAGES) ns)
    (sym (c.deref.ensures.value ∙ ap (λ (h : HeldRow). h.kept.numbers.items) (sym c.index-rows-row.is)))
    (All-weaker (IsEntry 0 ROW_PAGES) (λ n. n < ROW_PAGES) (λ n entry. entry.1) row.kept.numbers.items
    (entries_lawful 0 ROW_PAGES row.kept.numbers.items row.«record».entries).within)

pub rows-preserved : goal.rows-preserved
rows-preserved c = record {
  marks = λ n. c.rows.invariant.marks n
      ∙ row_more c.rows.row n (λ r. get_or (map numbers_seen c.args.rows.now) r []) (get_or c.rows.named n false)
      (get_or c.mark_row.new.named n false) (omega (arith, c.rows-test.true))
      (c.mark_row.ensures.marks n
      ∙ ap (λ (ns : List ℕ). get_or c.rows.named n false || is_among (shifted c.rows.row ns) n)
      (c.deref.ensures.value ∙ ap (λ (h : HeldRow). h.kept.numbers.items) (sym c.index-rows-row.is)
      ∙ sym (own_at c.args.rows.now c.rows.row c.index-rows-row.result (omega (arith, c.rows-test.true, c.requires.all)) c.index-rows-row.is)));
  long = c.mark_row.ensures.long ∙ c.rows.invariant.long;
}

pub returns-clause-marks : goal.returns-clause-marks
returns-clause-marks c = λ n. sym (c.rows.invariant.marks n
    ∙ none_more (get_or c.rows.named n false) n (λ r. get_or (map numbers_seen c.args.rows.now) r []) c.rows.row
    (omega (arith, c.rows-test.false)))
