use Rattle.std.proofs.Common.{◌∙◌}
use Rattle.book_store.proofs.Openings.EmptyHeld.{empty_is, empty_with}
use Rattle.book_store.proofs.store.BookStore.new.Goals as goal

pub of_rows-requires : goal.of_rows-requires
of_rows-requires c = empty_with c.args.rows c.requires c.in_ok-desk.desk c.in_ok-rows.rows.items
    c.in_ok-desk.ensures.rows c.in_ok-desk.ensures.second c.in_ok-desk.ensures.turn c.in_ok-desk.ensures.body
    c.in_ok-rows.ensures.long c.in_ok-rows.ensures.absent

pub returns : goal.returns
returns c = c.of_rows.ensures ∙ empty_is c.args.rows c.requires c.in_ok-desk.desk c.in_ok-rows.rows.items
    c.in_ok-desk.ensures.rows c.in_ok-desk.ensures.second c.in_ok-desk.ensures.turn c.in_ok-desk.ensures.body
    c.in_ok-rows.ensures.long c.in_ok-rows.ensures.absent
