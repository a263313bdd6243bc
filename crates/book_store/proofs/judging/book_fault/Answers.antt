use Rattle.std.proofs.Common.{drop, take, ap, sym, ◌∙◌}
use Rattle.record_pages.specs.Tables.{nonzero_from, or_else}
use Rattle.book_store.specs.Judging.{all_rows_fault, book_fault}
use Rattle.book_store.proofs.judging.book_fault.Goals as goal

pub returns : goal.returns
unfolding book_fault
returns c =
    let last = nonzero_from 16896 (take 3584 (drop 16895 c.args.body.now)) in
    c.first_nonzero-2.ensures
    ∙ sym (ap (λ o. or_else o (or_else (all_rows_fault c.args.rows c.args.body.now) last))
    (sym c.first_nonzero.ensures ∙ c.in-None.is)
    ∙ ap (λ o. or_else o last) (sym c.rows_fault.ensures ∙ c.in-None-rows_fault.is))
