use Rattle.std.proofs.Common.{◌≡◌, List, ℕ, ap, sym, ◌∙◌, arith}
use Rattle.std.specs.Prelude.{◌||◌}
use Rattle.book_store.specs.Judging.{is_named, is_taken}
use Rattle.book_store.proofs.Taken.{taken_next}
use Rattle.book_store.proofs.rows.is_taken.Goals as goal

pub rows-preserved : goal.rows-preserved
rows-preserved c =
    c.either-taken.ensures
    ∙ ap (λ b. b || c.is_named.result) c.rows.invariant
    ∙ ap (λ b. is_taken c.rows.row c.args.body.now c.args.name.now || b)
    (c.is_named.ensures ∙ ap (λ (l : List ℕ). is_named l c.args.name.now) c.row_of.ensures.value)
    ∙ sym (taken_next c.rows.row c.args.body.now c.args.name.now)

pub returns : goal.returns
returns c =
    let last : c.rows.row ≡ c.args.rows = omega (arith, c.rows-test.false, c.rows.auto.row-end) in
    c.rows.invariant ∙ ap (λ n. is_taken n c.args.body.now c.args.name.now) last
