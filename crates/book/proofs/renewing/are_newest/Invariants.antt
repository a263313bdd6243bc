use Rattle.std.proofs.Common.{None, Some, get_or, true, ℕ, ◌<◌, ◌≡◌}
use Rattle.dr_base.specs.Bytes.{AreBytes}
use Rattle.book_store.specs.Shown.{BookRow}
use Rattle.session_record.specs.Versions.{is_newest}
use Rattle.book.proofs.renewing.are_newest.Given as goal

abbrev pub invariant-rows : goal.invariant-rows
invariant-rows l = (r : ℕ) (row : BookRow) → r < l.at → get_or l.store.held r None ≡ Some row
    → (is_newest row.text ≡ true) × AreBytes row.text
