use Rattle.book_store.proofs.Openings.EmptyHeld.{empty_held, empty_with}
use Rattle.book_store.proofs.locating.locate_none.Goals as goal

pub returns : goal.returns
returns g c = record {
  count_is = c.in-Ok.ensures.rows;
  store = empty_with c.args.count c.requires.few c.in-Ok.desk c.in-Ok.rows.items c.in-Ok.ensures.rows c.in-Ok.ensures.second
      c.in-Ok.ensures.turn c.in-Ok.ensures.body c.in-Ok.ensures.long c.in-Ok.ensures.absent;
  turn = c.in-Ok.ensures.turn;
  second = c.in-Ok.ensures.second;
  absent = empty_held c.args.count c.requires.few c.in-Ok.desk c.in-Ok.rows.items c.in-Ok.ensures.rows c.in-Ok.ensures.second
      c.in-Ok.ensures.turn c.in-Ok.ensures.body c.in-Ok.ensures.long c.in-Ok.ensures.absent;
  none = c.fill_readers.ensures;
}
