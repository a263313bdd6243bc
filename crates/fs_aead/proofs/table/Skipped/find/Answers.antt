use Rattle.std.proofs.Common.{◌≡◌, ◌+◌, ◌<◌, ◌≤◌, ℕ, List, Option, Some, None, length, sym, subst, arith}
use Rattle.std.specs.Prelude.{IfSome}
use Rattle.dr_base.specs.declared.key.Kept.{Kept}
use Rattle.fs_aead.specs.Rows.{IsPlaceIn, row_at, starts_of}
use Rattle.fs_aead.specs.Table.{IsAscending}
use Rattle.fs_aead.specs.declared.rows.Row.{Row}
use Rattle.fs_aead.proofs.Directory.{are-rows}
use Rattle.fs_aead.proofs.Finding.{in-no-row, in-row}
use Rattle.fs_aead.proofs.table.Skipped.find.Goals as goal

-- a row that was read ends within the keys
ends_inside : (keys : List Kept) (k : ℕ) (row : Row) → IsAscending keys → k < length (starts_of keys) → row ≡ row_at keys k
    → row.start + row.len ≤ length keys
ends_inside keys k row up below is = subst (λ (r : Row). r.start + r.len ≤ length keys) (sym is) ((are-rows keys up).inside k below)

-- and so does what was found there
is_inside : (keys : List Kept) (row : Row) (index : ℕ) (place : Option ℕ) → row.start + row.len ≤ length keys → IsPlaceIn keys row index place
    → IfSome place (λ i. i < length keys)
is_inside keys row index (Some i) most is = let high = is.0.1 in omega arith
is_inside keys row index None most is = tt

pub place_in-requires : goal.place_in-requires
place_in-requires c =
    subst (λ (keys : List Kept). c.in-Some.row.start + c.in-Some.row.len ≤ length keys) (sym c.kept-keys.ensures.keys)
    (ends_inside c.args.self.now c.epochs.k c.in-Some.row c.kept-keys.ensures.ascending (omega (arith, c.rows-k-end.ensures)) (c.in-Some.ensures).row)

pub returns-then-row-position-clause-place : goal.returns-then-row-position-clause-place
returns-then-row-position-clause-place c =
    in-row c.args.self.now c.kept-keys.ensures.ascending c.args.position c.epochs.k c.in-Some.row c.place_in.result (omega (arith, c.rows-k-end.ensures))
    (c.in-Some.ensures).row c.if-row-position.true
    (subst (λ (keys : List Kept). IsPlaceIn keys c.in-Some.row c.args.position.index c.place_in.result) c.kept-keys.ensures.keys c.place_in.ensures)

pub returns-then-row-position-clause-within : goal.returns-then-row-position-clause-within
returns-then-row-position-clause-within c =
    is_inside c.args.self.now c.in-Some.row c.args.position.index c.place_in.result
    (ends_inside c.args.self.now c.epochs.k c.in-Some.row c.kept-keys.ensures.ascending (omega (arith, c.rows-k-end.ensures)) (c.in-Some.ensures).row)
    (subst (λ (keys : List Kept). IsPlaceIn keys c.in-Some.row c.args.position.index c.place_in.result) c.kept-keys.ensures.keys c.place_in.ensures)

pub returns-clause-place : goal.returns-clause-place
returns-clause-place c =
    in-no-row c.args.self.now c.kept-keys.ensures.ascending c.args.position
    (λ k below. c.epochs.invariant k (omega (arith, c.rows-k-end.ensures)))
