use Rattle.std.proofs.Common.{List, ℕ, sym, ◌∙◌, ap}
use Rattle.std.specs.Prelude.{not}
use Rattle.pages.specs.Judged.{table_with}
use Rattle.pages.specs.Tables.{table_at}
use Rattle.book_store.specs.Layout.{book_layout}
use Rattle.book_store.proofs.settling.settle.Goals as goal

pub settle_newer-requires-clause-read : goal.settle_newer-requires-clause-read
settle_newer-requires-clause-read g c = λ s told.
    ap (λ k. table_at (book_layout c.args.desk.now.rows) (not k) s) c.if-desk.true
    ∙ c.requires.tables.read.first_is s told
    ∙ ap (λ (b : List ℕ). table_with c.args.first_gate b) (sym c.deref-then-desk.ensures.value)

pub settle_newer-requires-else-desk-clause-read : goal.settle_newer-requires-else-desk-clause-read
settle_newer-requires-else-desk-clause-read g c = λ s told.
    ap (λ k. table_at (book_layout c.args.desk.now.rows) (not k) s) c.if-desk.false
    ∙ c.requires.tables.read.second_is s told
    ∙ ap (λ (b : List ℕ). table_with c.args.second_gate b) (sym c.deref-else-desk.ensures.value)
