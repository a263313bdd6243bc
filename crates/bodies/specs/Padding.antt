-- Padding: bytes, a text or a receipt with one, after their length and filled up with zeros, so that their number tells
-- little of the text.
use Rattle.std.specs.Prelude.{ℕ, ◌+◌, ◌-◌, ◌*◌, ◌/◌, ◌==◌, Bool, true, nat_le, List, ◌++◌, length, replicate, Option, Some, None, Result, Ok, Err}
use Rattle.std.specs.Int.{w16}
use Rattle.std.specs.List.{list_all}
use Rattle.grammar.specs.Printer.{print_sized}
use Rattle.grammar.specs.Reader.{Reader, piece, checked, mapped, both, sized, whole}

-- the least multiple of 256 that holds so many bytes after their length, which has two
abbrev pub padded_len : ℕ → ℕ
padded_len n = 256 * ((n + 257) / 256)

-- how many zeros follow so many bytes
unfoldable pub filling : ℕ → ℕ
filling n = padded_len n - (n + 2)

-- bytes padded
unfoldable pub padded : List ℕ → List ℕ
padded text = print_sized w16 text ++ replicate (filling (length text)) 0

-- ---- read

abbrev pub are_zeros : List ℕ → Bool
are_zeros bytes = list_all (λ b. b == 0) bytes

-- at most so many bytes, after their length
abbrev pub text_field : ℕ → Reader (List ℕ)
text_field most = sized w16 (λ n. nat_le n most) (λ _. true)

-- at most so many bytes, padded
unfoldable pub padded_field : ℕ → Reader (List ℕ)
padded_field most =
    mapped (λ e. e.0)
    (both (text_field most) (λ text. checked are_zeros (piece (filling (length text)))))

-- what was read, unless there was a fault
abbrev pub found : {A : Type 0} → Result A ℕ → Option A
found (Ok a) = Some a
found (Err at) = None

-- what these bytes are the padding of, if it has at most so many
unfoldable pub unpadded : ℕ → List ℕ → Option (List ℕ)
unpadded most bytes = found (whole (padded_field most) bytes)
