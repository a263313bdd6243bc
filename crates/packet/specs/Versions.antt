-- The versions of packets: a plain one seals its text as it is, a padded one seals it filled up, and one with receipts
-- seals a receipt before it.
use Rattle.std.specs.Prelude.{ℕ, ◌%◌, ◌==◌, ◌&&◌, ◌||◌, Bool, nat_le, if◌then◌else◌}
use Rattle.dr_base.specs.declared.limits.TheConstants.{PADDED, PADDED_LIMIT, PLAIN, RECEIPTS, SEALED_LIMIT, TEXT_LIMIT}

abbrev pub is_version : ℕ → Bool
is_version n = (n == PLAIN) || ((n == PADDED) || (n == RECEIPTS))

-- the most bytes that a packet seals which fills them up
abbrev pub padded_most : ℕ → ℕ
padded_most version = if version == PADDED then PADDED_LIMIT else SEALED_LIMIT

-- how many bytes a packet of a version may seal
unfoldable pub is_text_len : ℕ → ℕ → Bool
is_text_len version n =
    if version == PLAIN then nat_le n TEXT_LIMIT
    else ((n % 256 == 0) && (nat_le 256 n && nat_le n (padded_most version)))

-- the fewest
abbrev pub least_len : ℕ → ℕ
least_len version = if version == PLAIN then 0 else 256
