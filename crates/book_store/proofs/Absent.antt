-- A row that is absent names no page.
use Rattle.std.proofs.Common.{◌≡◌, [], refl}
use Rattle.book_store.specs.Rows.{absent_row, row_names}

pub blank_names : row_names (absent_row) ≡ []
unfolding row_names
blank_names = refl
