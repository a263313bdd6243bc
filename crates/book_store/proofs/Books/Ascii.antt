-- A name is text.
use Rattle.std.proofs.Common.{◌≡◌, ℕ, zero, suc, ◌<◌, true, List, [], ◌∷◌, length, arith}
use Rattle.std.specs.Prelude.{◌&&◌, nat_le}
use Rattle.std.specs.List.{list_all}
use Rattle.std.specs.Str.{IsAscii, IsUtf8}
use Rattle.std.proofs.lemmas.Bool.{and_parts}
use Rattle.std.proofs.lemmas.Bool.Decides.{nat_tests}
use Rattle.std.proofs.lemmas.Str.{IsUtf8-from_ascii}
use Rattle.relay_wire.specs.Names.{is_name, is_name_byte}
use Rattle.relay_wire.specs.declared.limits.TheConstants.{NAME_LIMIT}

small_byte : (b : ℕ) → is_name_byte b ≡ true → b < 128
small_byte b is = grind (arith, nat_tests)

all_ascii : (bytes : List ℕ) → list_all is_name_byte bytes ≡ true → IsAscii bytes
all_ascii [] is i = omega arith
all_ascii (b ∷ bytes) is zero = small_byte b (and_parts (is_name_byte b) (list_all is_name_byte bytes) is).0
all_ascii (b ∷ bytes) is (suc i) = all_ascii bytes (and_parts (is_name_byte b) (list_all is_name_byte bytes) is).1 i

pub name_text : (name : List ℕ) → is_name name ≡ true → IsUtf8 name
unfolding is_name
name_text name is = IsUtf8-from_ascii name
    (all_ascii name (and_parts (nat_le 1 (length name) && nat_le (length name) NAME_LIMIT) (list_all is_name_byte name) is).1)
