use Rattle.std.proofs.Common.{List, ℕ, ap, refl, ◌∙◌}
use Rattle.std.proofs.lemmas.List.{with_items_is}
use Rattle.book_store.specs.Rows.{absent_row, row_in, row_names, with_row_in}
use Rattle.book_store.proofs.Absent.{blank_names}
use Rattle.book_store.proofs.desk.Desk.stage_empty.Goals as goal

pub returns-clause-next : goal.returns-clause-next
returns-clause-next c = record {
  rows = refl;
  second = refl;
  turn = refl;
  body_is = with_items_is c.args.self.now.body c.blank_row.new.body (c.blank_row.auto.body ∙ c.deref_mut.ensures.len)
      ∙ c.blank_row.ensures.whole
      ∙ ap (λ (b : List ℕ). with_row_in b c.args.row absent_row) c.deref_mut.ensures.value;
}

pub returns-clause-others : goal.returns-clause-others
returns-clause-others c = λ r other.
    ap (λ (b : List ℕ). row_in b r)
    (with_items_is c.args.self.now.body c.blank_row.new.body (c.blank_row.auto.body ∙ c.deref_mut.ensures.len))
    ∙ c.blank_row.ensures.others r other
    ∙ ap (λ (b : List ℕ). row_in b r) c.deref_mut.ensures.value

pub returns-clause-none : goal.returns-clause-none
returns-clause-none c =
    let items = with_items_is c.args.self.now.body c.blank_row.new.body (c.blank_row.auto.body ∙ c.deref_mut.ensures.len) in
    ap (λ (b : List ℕ). row_names (row_in b c.args.row)) items ∙ ap row_names c.blank_row.ensures.this ∙ blank_names
