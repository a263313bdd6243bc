use Rattle.std.proofs.Common.{◌-◌, drop, length, arith}
use Rattle.std.proofs.lemmas.List.{length-drop, take_all}
use Rattle.book_store.specs.declared.layout.TheConstants.{RECORD_PLACE}
use Rattle.book_store.proofs.rows.record_of.Goals as goal

pub returns-clause-value : goal.returns-clause-value
returns-clause-value c = take_all (length c.args.row.now - RECORD_PLACE) (drop RECORD_PLACE c.args.row.now)
    (omega (arith, length-drop RECORD_PLACE c.args.row.now))
