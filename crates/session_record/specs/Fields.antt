-- The fields of a record that tell its version and its format.
use Rattle.std.specs.Prelude.{ℕ, ◌==◌, ◌&&◌, ◌||◌, Bool, List, Option, Some, None, if◌then◌else◌}
use Rattle.std.specs.Int.{w8, to_be_bytes}
use Rattle.bodies.specs.declared.format.Format.{Format}
use Rattle.bodies.specs.declared.format.Format.TheVariants.{Padded, Plain, Receipts}
use Rattle.grammar.specs.Printer.{print_maybe}
use Rattle.grammar.specs.Reader.{Reader, number, checked, mapped, maybe}
pub use Rattle.record_fields.specs.Fields.{code_of, format_code, has_receiving, is_good, is_previous, is_secret, is_side, of_own, of_phase, of_reception, own_of, own_text, phase_of, phase_text, reception_of, reception_text, side_at, up_to}
unfoldable pub use Rattle.record_fields.specs.Fields.{count_field, epoch_field, own_fields, phase_field, previous_field, receiving_field, reception_fields, side_field}
use Rattle.session_record.specs.Versions.{has_format, has_receipts, is_version, version_at}
use Rattle.session_record.specs.declared.versions.Version.{Version}

unfoldable pub version_field : Reader Version
version_field = mapped version_at (checked is_version (number w8))

-- ---- the format, where the version has a byte for it: 1 is Plain, 2 is Padded, 3 is Receipts

-- the last one where the version knows receipts
abbrev pub is_format : Version → ℕ → Bool
is_format version n = (n == 1) || ((n == 2) || ((n == 3) && has_receipts version))

abbrev pub format_at : ℕ → Format
format_at n = if n == 1 then Plain else if n == 2 then Padded else Receipts

-- without a byte it is Plain
abbrev pub format_of : Option Format → Format
format_of None = Plain
format_of (Some format) = format

abbrev pub of_format : Version → Format → Option Format
of_format version format = if has_format version then Some format else None

unfoldable pub format_byte : Version → Reader Format
format_byte version = mapped format_at (checked (is_format version) (number w8))

unfoldable pub format_field : Version → Reader Format
format_field version = mapped format_of (maybe (has_format version) (format_byte version))

abbrev pub format_text : Version → Format → List ℕ
format_text version format =
    print_maybe (λ one. to_be_bytes w8 (format_code one)) (of_format version format)
