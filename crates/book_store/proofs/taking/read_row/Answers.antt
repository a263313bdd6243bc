use Rattle.pages.proofs.Looking.{looks_none}
use Rattle.book_store.proofs.Openings.RowTaken.{absent_as}
use Rattle.book_store.proofs.taking.read_row.Goals as goal

pub returns-then-bytes-eq0-clause-read : goal.returns-then-bytes-eq0-clause-read
returns-then-bytes-eq0-clause-read g c = record {
  found = absent_as g.G.Grammar.fault_at g.G.Grammar.has_read c.args.row c.args.bytes.now _ _ _ _ _ _ c.if-bytes-eq0.true
      c.read_absent.ensures.read;
  looks = looks_none _ _;
}
