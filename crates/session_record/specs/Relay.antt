-- The last field of a record, where the version has it: a byte that says whether the session has
-- keys of its boxes at a relay (00 or 01), and then these, 128 bytes that are one field.
use Rattle.std.specs.Prelude.{ℕ, ◌==◌, Bool, nat_le, List, ◌++◌, Option, Some, None, if◌then◌else◌}
use Rattle.std.specs.Int.{w8, to_be_bytes}
use Rattle.grammar.specs.Printer.{print_maybe}
use Rattle.grammar.specs.Reader.{Reader, number, piece, checked, mapped, maybe, both}
use Rattle.session_model.specs.BoxKeys.{relay_bytes, relay_keys_at}
use Rattle.session_model.specs.declared.relay_keys.RelayKeys.{RelayKeys}
use Rattle.session_model.specs.declared.relay_keys.TheConstants.{RELAY_KEYS_SIZE}
use Rattle.session_record.specs.Versions.{has_keys}
use Rattle.session_record.specs.declared.versions.Version.{Version}

unfoldable pub relay_keys_field : Reader RelayKeys
relay_keys_field = mapped relay_keys_at (piece RELAY_KEYS_SIZE)

-- ---- whether there are some

abbrev pub is_flag : ℕ → Bool
is_flag n = nat_le n 1

abbrev pub flag_of : Option RelayKeys → ℕ
flag_of None = 0
flag_of (Some keys) = 1

unfoldable pub flagged_keys : Reader (Option RelayKeys)
flagged_keys =
    mapped (λ e. e.1)
    (both (checked is_flag (number w8)) (λ flag. maybe (flag == 1) relay_keys_field))

unfoldable pub flagged_text : Option RelayKeys → List ℕ
flagged_text keys = to_be_bytes w8 (flag_of keys) ++ print_maybe relay_bytes keys

-- ---- by the version

-- where the field isn't there, there are none
abbrev pub keys_told : Option (Option RelayKeys) → Option RelayKeys
keys_told None = None
keys_told (Some keys) = keys

abbrev pub told_keys : Version → Option RelayKeys → Option (Option RelayKeys)
told_keys version keys = if has_keys version then Some keys else None

unfoldable pub relay_field : Version → Reader (Option RelayKeys)
relay_field version = mapped keys_told (maybe (has_keys version) flagged_keys)

abbrev pub relay_text : Version → Option RelayKeys → List ℕ
relay_text version keys = print_maybe flagged_text (told_keys version keys)
