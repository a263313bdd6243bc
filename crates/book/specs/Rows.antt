-- The rows of a book: sessions under names, and the records that they are stored as.
use Rattle.std.specs.Prelude.{List, None, Option, Some, length, map, ◌++◌, ◌-◌}
use Rattle.book_model.specs.Rows.{Row, Rows}
use Rattle.book_store.specs.Shown.{BookRow, absent}
use Rattle.book_store.specs.declared.layout.TheConstants.{BOOK_ROWS}
use Rattle.session_model.specs.Clients.{Client}
use Rattle.session_record.specs.Record.{record_text}

-- the record of a row's session, under the row's name
abbrev pub stored_row : Option (Row Client) → Option BookRow
stored_row None = None
stored_row (Some row) = Some (record { name = row.name; text = record_text row.kept })

-- all rows as a store has them, where those that the book may not have are absent
abbrev pub stored : Rows Client → List (Option BookRow)
stored rows = map stored_row rows ++ absent (BOOK_ROWS - length rows)
