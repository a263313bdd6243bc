-- How a session seals its texts: the versions of its packets, and the words of formats.
use Rattle.std.specs.Prelude.{ℕ, List, Option, Some, None, codes, if◌then◌else◌}
use Rattle.std.specs.Str.{bytes_eq}
use Rattle.dr_base.specs.declared.limits.TheConstants.{PADDED, PLAIN, RECEIPTS}
use Rattle.bodies.specs.declared.format.Format.{Format}
use Rattle.bodies.specs.declared.format.Format.TheVariants.{Padded, Plain, Receipts}

abbrev pub version_of : Format → ℕ
version_of Plain = PLAIN
version_of Padded = PADDED
version_of Receipts = RECEIPTS

-- `plain`, `padded` or `receipts`
unfoldable pub format_read : List ℕ → Option Format
format_read word =
    if bytes_eq word (codes "plain") then Some Plain
    else (if bytes_eq word (codes "padded") then Some Padded
    else (if bytes_eq word (codes "receipts") then Some Receipts else None))
