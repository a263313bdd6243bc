use Rattle.book_store.proofs.Openings.RowTaken.{absent_added}
use Rattle.book_store.proofs.taking.read_absent.Goals as goal

pub returns-clause-read : goal.returns-clause-read
returns-clause-read g c = absent_added _ _ _ _ c.in-Ok.held _ _ c.in-Ok.ensures
    c.push.ensures.items (c.push.ensures.succeeds c.requires.room)
    c.push-2.ensures.items (c.push-2.ensures.succeeds c.requires.readers)
