use Rattle.std.proofs.Common.{◌≤◌, refl, sym, subst, take, arith, length-take-le}
use Rattle.paged_records.proofs.Texts.{held_fits, held_inside}
use Rattle.book_store.proofs.Books.Calls.{called_err, called_ok}
use Rattle.book_store.proofs.Books.RowCall.{IsRowOf, beside_here, free_here, laid_now, lawful_now, names_are, olds_are, rows_is, seen, stages_row, stands_here, writes_are}
use Rattle.book_store.proofs.Sound.{book_sound}
use Rattle.book_store.specs.AtRest.{laid_book}
use Rattle.book_store.specs.Kept.{row_bounds}
use Rattle.book_store.specs.Layout.{book_end}
use Rattle.book_store.specs.Store.{pages_at}
use Rattle.book_store.proofs.store.BookStore.stage.Goals as goal

pub stage-done-requires-clause-sound : goal.stage-done-requires-clause-sound
stage-done-requires-clause-sound g c =
    let of : IsRowOf c.args.self.now c.self.inside.desk c.self.inside.rows.items c.self.inside.staged.items
    c.self.inside.replaced c.args.row c.index_mut-held.result.now = record {
      seen_is = c.self.view_is;
      lawful_is = c.self.inside.lawful;
      laid = c.self.inside.laid;
      row = c.requires.row;
      once = c.requires.once;
      is = c.index_mut-held.ensures.value;
    } in
    book_sound c.self.inside.desk.rows (g.D.Disk.state c.args.disk.now).size
    (omega (arith, c.size-size.ensures, c.size-size.type_inv))
    (subst (λ n. book_end n ≤ (g.D.Disk.state c.args.disk.now).size) (sym (rows_is of)) c.requires.may.within)

pub stage-done-requires-clause-free : goal.stage-done-requires-clause-free
stage-done-requires-clause-free g c =
    let of : IsRowOf c.args.self.now c.self.inside.desk c.self.inside.rows.items c.self.inside.staged.items
    c.self.inside.replaced c.args.row c.index_mut-held.result.now = record {
      seen_is = c.self.view_is;
      lawful_is = c.self.inside.lawful;
      laid = c.self.inside.laid;
      row = c.requires.row;
      once = c.requires.once;
      is = c.index_mut-held.ensures.value;
    } in
    free_here of c.requires.may.standing (g.D.Disk.state c.args.disk.now) c.requires.may.over

pub invariant_of-self-inside : goal.invariant_of-self-inside
invariant_of-self-inside g c =
    let of : IsRowOf c.args.self.now c.self.inside.desk c.self.inside.rows.items c.self.inside.staged.items
    c.self.inside.replaced c.args.row c.index_mut-held.result.now = record {
      seen_is = c.self.view_is;
      lawful_is = c.self.inside.lawful;
      laid = c.self.inside.laid;
      row = c.requires.row;
      once = c.requires.once;
      is = c.index_mut-held.ensures.value;
    } in (
      lawful_now of c.stage-done.new.desk c.stage-done.new.self c.args.name
          (take c.args.len c.args.text.now.items) c.args.len
          (held_fits row_bounds c.args.text.now c.args.len c.requires.text)
          (length-take-le c.args.len c.args.text.now.items (held_inside row_bounds c.args.text.now c.args.len c.requires.text))
          c.stage-done.ensures.lawful c.requires.name c.stage-done.ensures.name c.stage-done.ensures.replaced c.stage-done.ensures.next,
      (
        laid_now of c.stage-done.new.desk c.stage-done.new.self c.args.name
            (take c.args.len c.args.text.now.items) c.args.len
            (held_fits row_bounds c.args.text.now c.args.len c.requires.text)
            (length-take-le c.args.len c.args.text.now.items (held_inside row_bounds c.args.text.now c.args.len c.requires.text))
            c.stage-done.ensures.lawful c.requires.name c.stage-done.ensures.name c.stage-done.ensures.replaced c.stage-done.ensures.next,
        (
          c.stage-done.ensures.rooms,
          (c.self.inside.gathered, (c.self.inside.zero, tt)),
        ),
      ),
    )

pub returns-clause-next : goal.returns-clause-next
returns-clause-next g c =
    let of : IsRowOf c.args.self.now c.self.inside.desk c.self.inside.rows.items c.self.inside.staged.items
    c.self.inside.replaced c.args.row c.index_mut-held.result.now = record {
      seen_is = c.self.view_is;
      lawful_is = c.self.inside.lawful;
      laid = c.self.inside.laid;
      row = c.requires.row;
      once = c.requires.once;
      is = c.index_mut-held.ensures.value;
    } in
    seen of c.stage-done.new.desk c.stage-done.new.self c.args.name
    (take c.args.len c.args.text.now.items) c.args.len
    (held_fits row_bounds c.args.text.now c.args.len c.requires.text)
    (length-take-le c.args.len c.args.text.now.items (held_inside row_bounds c.args.text.now c.args.len c.requires.text))
    c.stage-done.ensures.lawful c.requires.name c.stage-done.ensures.name c.stage-done.ensures.replaced c.stage-done.ensures.next

pub returns-in-Err-clause-next : goal.returns-in-Err-clause-next
returns-in-Err-clause-next g c =
    let of : IsRowOf c.args.self.now c.self.inside.desk c.self.inside.rows.items c.self.inside.staged.items
    c.self.inside.replaced c.args.row c.index_mut-held.result.now = record {
      seen_is = c.self.view_is;
      lawful_is = c.self.inside.lawful;
      laid = c.self.inside.laid;
      row = c.requires.row;
      once = c.requires.once;
      is = c.index_mut-held.ensures.value;
    } in
    seen of c.stage-done.new.desk c.stage-done.new.self c.args.name
    (take c.args.len c.args.text.now.items) c.args.len
    (held_fits row_bounds c.args.text.now c.args.len c.requires.text)
    (length-take-le c.args.len c.args.text.now.items (held_inside row_bounds c.args.text.now c.args.len c.requires.text))
    c.stage-done.ensures.lawful c.requires.name c.stage-done.ensures.name c.stage-done.ensures.replaced c.stage-done.ensures.next

pub returns-clause-stages : goal.returns-clause-stages
returns-clause-stages g c = λ standing over.
    let of : IsRowOf c.args.self.now c.self.inside.desk c.self.inside.rows.items c.self.inside.staged.items
    c.self.inside.replaced c.args.row c.index_mut-held.result.now = record {
      seen_is = c.self.view_is;
      lawful_is = c.self.inside.lawful;
      laid = c.self.inside.laid;
      row = c.requires.row;
      once = c.requires.once;
      is = c.index_mut-held.ensures.value;
    } in
    let start = g.D.Disk.state c.args.disk.now in
    stages_row of c.stage-done.new.desk c.stage-done.new.self c.args.name
    (take c.args.len c.args.text.now.items) c.args.len
    (held_fits row_bounds c.args.text.now c.args.len c.requires.text)
    (length-take-le c.args.len c.args.text.now.items (held_inside row_bounds c.args.text.now c.args.len c.requires.text))
    c.stage-done.ensures.lawful c.requires.name c.stage-done.ensures.name c.stage-done.ensures.replaced c.stage-done.ensures.next
    standing start (g.D.Disk.state c.stage-done.new.disk) _ c.stage-done.ensures.stages over c.in-Ok.ensures.rest
    (c.in-Ok.ensures.staged (laid_book over.mark standing) (pages_at c.args.self.now.held) (stands_here of standing start over)
    (beside_here of standing start over) (names_are of) (sym (olds_are of)))

pub returns-in-Err-clause-stages : goal.returns-in-Err-clause-stages
returns-in-Err-clause-stages g c = λ standing over.
    let of : IsRowOf c.args.self.now c.self.inside.desk c.self.inside.rows.items c.self.inside.staged.items
    c.self.inside.replaced c.args.row c.index_mut-held.result.now = record {
      seen_is = c.self.view_is;
      lawful_is = c.self.inside.lawful;
      laid = c.self.inside.laid;
      row = c.requires.row;
      once = c.requires.once;
      is = c.index_mut-held.ensures.value;
    } in
    let start = g.D.Disk.state c.args.disk.now in
    stages_row of c.stage-done.new.desk c.stage-done.new.self c.args.name
    (take c.args.len c.args.text.now.items) c.args.len
    (held_fits row_bounds c.args.text.now c.args.len c.requires.text)
    (length-take-le c.args.len c.args.text.now.items (held_inside row_bounds c.args.text.now c.args.len c.requires.text))
    c.stage-done.ensures.lawful c.requires.name c.stage-done.ensures.name c.stage-done.ensures.replaced c.stage-done.ensures.next
    standing start (g.D.Disk.state c.stage-done.new.disk) _ c.stage-done.ensures.stages over tt tt

pub returns-clause-calls : goal.returns-clause-calls
returns-clause-calls g c =
    let of : IsRowOf c.args.self.now c.self.inside.desk c.self.inside.rows.items c.self.inside.staged.items
    c.self.inside.replaced c.args.row c.index_mut-held.result.now = record {
      seen_is = c.self.view_is;
      lawful_is = c.self.inside.lawful;
      laid = c.self.inside.laid;
      row = c.requires.row;
      once = c.requires.once;
      is = c.index_mut-held.ensures.value;
    } in
    called_ok {T = Unit} {U = Unit} _ _ _ _ (g.D.Disk.state c.args.disk.now) (g.D.Disk.state c.stage-done.new.disk)
    (writes_are of c.stage-done.new.desk c.stage-done.new.self c.args.name
    (take c.args.len c.args.text.now.items) c.args.len
    (held_fits row_bounds c.args.text.now c.args.len c.requires.text)
    (length-take-le c.args.len c.args.text.now.items (held_inside row_bounds c.args.text.now c.args.len c.requires.text))
    c.stage-done.ensures.lawful c.requires.name c.stage-done.ensures.name c.stage-done.ensures.replaced c.stage-done.ensures.next)
    c.in-Ok.ensures.makes.calls

pub returns-in-Err-clause-calls : goal.returns-in-Err-clause-calls
returns-in-Err-clause-calls g c =
    let of : IsRowOf c.args.self.now c.self.inside.desk c.self.inside.rows.items c.self.inside.staged.items
    c.self.inside.replaced c.args.row c.index_mut-held.result.now = record {
      seen_is = c.self.view_is;
      lawful_is = c.self.inside.lawful;
      laid = c.self.inside.laid;
      row = c.requires.row;
      once = c.requires.once;
      is = c.index_mut-held.ensures.value;
    } in
    called_err {T = Unit} {U = Unit} _ _ _ _ (g.D.Disk.state c.args.disk.now) (g.D.Disk.state c.stage-done.new.disk)
    (writes_are of c.stage-done.new.desk c.stage-done.new.self c.args.name
    (take c.args.len c.args.text.now.items) c.args.len
    (held_fits row_bounds c.args.text.now c.args.len c.requires.text)
    (length-take-le c.args.len c.args.text.now.items (held_inside row_bounds c.args.text.now c.args.len c.requires.text))
    c.stage-done.ensures.lawful c.requires.name c.stage-done.ensures.name c.stage-done.ensures.replaced c.stage-done.ensures.next)
    refl c.in-Err.ensures.makes.calls
