use Rattle.std.proofs.Common.{◌≡◌, ℕ, ◌+◌, ◌-◌, ◌*◌, List, ◌++◌, length, take, drop, ap, ◌∙◌, arith}
use Rattle.std.specs.Prelude.{slice_index}
use Rattle.std.proofs.lemmas.List.{length-drop, take_all}
use Rattle.record_pages.specs.Tables.{table_body}
use Rattle.book_store.proofs.Laid.{laid, written_behind}
use Rattle.book_store.proofs.table.lay_out_row.Goals as goal
use Rattle.book_store.specs.declared.layout.TheConstants.{RECORD_PLACE, TABLE_ROW}

pub returns : goal.returns
returns c =
    let row = c.put_head.new.out in
    let numbers = c.args.numbers.now in
    let long : length row ≡ TABLE_ROW = c.put_head.ensures.long ∙ c.requires.room in
    let behind : length (take (length row - RECORD_PLACE) (drop RECORD_PLACE row)) ≡ TABLE_ROW - RECORD_PLACE =
    ap length (take_all (length row - RECORD_PLACE) (drop RECORD_PLACE row) (omega (arith, length-drop RECORD_PLACE row)))
    ∙ length-drop RECORD_PLACE row ∙ ap (λ n. n - RECORD_PLACE) long in
    written_behind RECORD_PLACE row c.lay_out_table.new.body
    ∙ ap (λ (l : List ℕ). take RECORD_PLACE row ++ l)
    (c.lay_out_table.ensures
    ∙ ap (λ n. table_body (slice_index row RECORD_PLACE) c.args.len numbers (n - (5 + 2 * length numbers))) behind)
    ∙ laid row c.args.name.now c.args.len numbers _ c.put_head.ensures.head long
