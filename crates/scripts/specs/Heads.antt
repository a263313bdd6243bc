-- The lines of a script that may stand between its key and its deeds.
use Rattle.std.specs.Prelude.{ℕ, ◌+◌, Bool, true, false, List, [], ◌∷◌, Option, Some, None, option_map, codes}
use Rattle.std.specs.Option.{option_and_then}
use Rattle.bodies.specs.Formats.{format_read}
use Rattle.bodies.specs.declared.format.Format.TheVariants.{Plain}
use Rattle.dr_model.specs.Conversations.Formats.{Formats}
use Rattle.scripts.specs.Words.{after_prefix, halves_of, is_text}

-- First's format, and Second's
abbrev pub both_read : List ℕ × List ℕ → Option Formats
both_read halves =
    option_and_then (λ first.
    option_map (λ second. record { first = first; second = second }) (format_read halves.1))
    (format_read halves.0)

-- the formats of the line `format F G`
unfoldable pub formats_read : List ℕ → Option Formats
formats_read line =
    option_and_then both_read (option_and_then (halves_of 32) (after_prefix (codes "format ") line))

-- what the lines before the deeds say: how each side seals its texts, and whether the relay guards
-- the boxes of both; the number of the next line, and the lines from it on
pub record Headed : Type 0 where
  pub formats : Formats
  pub guarded : Bool
  pub number : ℕ
  pub lines : List (List ℕ)

-- where no line says formats, both sides seal their texts as they are
abbrev pub both_plain : Formats
both_plain = record { first = Plain; second = Plain }

-- the line of a number and those after it, where it is `guard`, and where it isn't
abbrev pub with_guard : Bool → Formats → ℕ → List ℕ → List (List ℕ) → Headed
with_guard true formats number line lines =
    record { formats = formats; guarded = true; number = number + 1; lines = lines }
with_guard false formats number line lines =
    record { formats = formats; guarded = false; number = number; lines = line ∷ lines }

-- the head of a script in these formats, from the line of a number on, which may be `guard`
unfoldable pub guard_read : Formats → ℕ → List (List ℕ) → Headed
guard_read formats number [] =
    record { formats = formats; guarded = false; number = number; lines = [] }
guard_read formats number (line ∷ lines) =
    with_guard (is_text (codes "guard") line) formats number line lines

-- a third line and those after it, where it says formats, and where it doesn't
abbrev pub with_formats : Option Formats → List ℕ → List (List ℕ) → Headed
with_formats None line lines = guard_read both_plain 3 (line ∷ lines)
with_formats (Some formats) line lines = guard_read formats 4 lines

-- the head of the lines after the key, which begin with the third
unfoldable pub head_read : List (List ℕ) → Headed
head_read [] = guard_read both_plain 3 []
head_read (line ∷ lines) = with_formats (formats_read line) line lines
