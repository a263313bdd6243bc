-- The versions of a box's record, and what each of them has. A later one is a case more of each
-- definition.
use Rattle.std.specs.Prelude.{ℕ, ◌==◌, ◌||◌, Bool, true, false, List, get_or, if◌then◌else◌}
use Rattle.std.specs.Int.{w8}
use Rattle.grammar.specs.Reader.{Reader, checked, mapped, number}
use Rattle.relay_core.specs.declared.versions.Version.{Version}
use Rattle.relay_core.specs.declared.versions.Version.TheVariants.{One, Two}

-- the version that is written
abbrev pub newest : Version
newest = Two

-- ---- the byte of a version

abbrev pub is_version : ℕ → Bool
is_version n = (n == 1) || (n == 2)

abbrev pub version_at : ℕ → Version
version_at n = if n == 1 then One else Two

abbrev pub version_code : Version → ℕ
version_code One = 1
version_code Two = 2

unfoldable pub version_field : Reader Version
version_field = mapped version_at (checked is_version (number w8))

-- a text begins as the newest version does
abbrev pub is_newest : List ℕ → Bool
is_newest text = get_or text 0 0 == version_code newest

-- ---- since a version

-- a box may have a guard since version 2
abbrev pub has_guards : Version → Bool
has_guards One = false
has_guards Two = true
