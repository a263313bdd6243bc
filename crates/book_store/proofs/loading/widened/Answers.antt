use Rattle.std.proofs.Common.{◌≡◌, ◌-◌, ◌++◌, ℕ, List, length, replicate, sym, ◌∙◌, ap, ap₂, arith}
use Rattle.std.proofs.lemmas.List.{take_all}
use Rattle.dr_base.specs.declared.limits.TheConstants.{PAGE}
use Rattle.book_store.specs.Rows.{record_table}
use Rattle.book_store.specs.declared.layout.TheConstants.{RECORD_PLACE, TABLE_ROW}
use Rattle.book_store.proofs.loading.widened.Goals as goal

pub returns : goal.returns
returns c =
    let table : c.in_ok-table.table.items ≡ record_table c.args.row.now =
    c.in_ok-table.ensures.items_if_clones_equal (λ x y is. is) ∙ c.record_of.ensures.value in
    let more : PAGE - 1 - length c.in_ok-table.table.items ≡ PAGE - 1 - (TABLE_ROW - RECORD_PLACE) =
    ap (λ n. PAGE - 1 - n) (ap length table ∙ sym (ap length c.record_of.ensures.value) ∙ c.record_of.ensures.long) in
    c.in_ok-resize.ensures.items
    ∙ ap₂ (λ (l : List ℕ) n. l ++ replicate n 0)
    (take_all (PAGE - 1) c.in_ok-table.table.items (omega (arith, ap length table, c.record_of.ensures.long, ap length c.record_of.ensures.value)) ∙ table)
    (ap (λ n. PAGE - 1 - n) c.in_ok-table.table.ok.0 ∙ more)
