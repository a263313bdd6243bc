-- The guard of a box in its record, since version 2: a byte that says whether there is one (00 or
-- 01), and then both keys (32 bytes each) and the last counter under each (8), the owner's first.
use Rattle.std.specs.Prelude.{ℕ, ◌==◌, Bool, nat_le, List, ◌++◌, Option, Some, None, if◌then◌else◌}
use Rattle.std.specs.Int.{w8, w64, to_be_bytes}
use Rattle.grammar.specs.Printer.{print_maybe}
use Rattle.grammar.specs.Reader.{Reader, number, piece, checked, mapped, maybe, both}
use Rattle.relay_core.specs.Versions.{has_guards}
use Rattle.relay_core.specs.declared.versions.Version.{Version}
use Rattle.relay_guard.specs.declared.guard.Guard.{Guard}

-- ---- keys and counters

abbrev pub GuardParts : Type 0
GuardParts = List ℕ × (List ℕ × (ℕ × ℕ))

abbrev pub guard_of_parts : GuardParts → Guard
guard_of_parts e = record {
  owner = record { bytes = e.0 };
  poster = record { bytes = e.1.0 };
  owner_last = e.1.1.0;
  poster_last = e.1.1.1;
}

unfoldable pub guard_fields : Reader Guard
guard_fields =
    mapped guard_of_parts
    (both (piece 32) (λ _.
    both (piece 32) (λ _.
    both (number w64) (λ _.
    number w64))))

unfoldable pub guard_bytes : Guard → List ℕ
guard_bytes guard =
    guard.owner.bytes
    ++ (guard.poster.bytes
    ++ (to_be_bytes w64 guard.owner_last ++ to_be_bytes w64 guard.poster_last))

-- ---- whether there are some

abbrev pub is_flag : ℕ → Bool
is_flag n = nat_le n 1

abbrev pub flag_of : Option Guard → ℕ
flag_of None = 0
flag_of (Some guard) = 1

unfoldable pub flagged_guard : Reader (Option Guard)
flagged_guard =
    mapped (λ e. e.1) (both (checked is_flag (number w8)) (λ flag. maybe (flag == 1) guard_fields))

unfoldable pub flagged_text : Option Guard → List ℕ
flagged_text guard = to_be_bytes w8 (flag_of guard) ++ print_maybe guard_bytes guard

-- ---- by the version

-- where the field isn't there, the box has no guard
abbrev pub guard_told : Option (Option Guard) → Option Guard
guard_told None = None
guard_told (Some guard) = guard

abbrev pub told_guard : Version → Option Guard → Option (Option Guard)
told_guard version guard = if has_guards version then Some guard else None

unfoldable pub guard_field : Version → Reader (Option Guard)
guard_field version = mapped guard_told (maybe (has_guards version) flagged_guard)

abbrev pub guard_text : Version → Option Guard → List ℕ
guard_text version guard = print_maybe flagged_text (told_guard version guard)
