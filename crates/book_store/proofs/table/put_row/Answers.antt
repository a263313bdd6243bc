use Rattle.std.proofs.Common.{◌≡◌, ◌+◌, ◌-◌, List, ℕ, ap, ◌∙◌, arith}
use borrow.Rule.Slice.PartMut.{put_mid}
use Rattle.book_store.proofs.Slots.{other_row}
use Rattle.book_store.specs.Rows.{row_place, with_row_in}
use Rattle.book_store.specs.declared.layout.TheConstants.{TABLE_ROW}
use Rattle.book_store.proofs.table.put_row.Goals as goal

pub returns-clause-whole : goal.returns-clause-whole
returns-clause-whole c =
    ap (λ n. put_mid (row_place c.args.row) n c.args.body.now c.lay_out_row.new.out)
    (let e : row_place c.args.row + TABLE_ROW - row_place c.args.row ≡ TABLE_ROW = omega arith in e)
    ∙ ap (λ (l : List ℕ). with_row_in c.args.body.now c.args.row l) c.lay_out_row.ensures

pub returns-clause-others : goal.returns-clause-others
returns-clause-others c = λ r other. other_row c.args.row r _ c.args.body.now c.lay_out_row.new.out
    c.requires.room (omega (arith, c.lay_out_row.auto.out)) (omega arith) other
