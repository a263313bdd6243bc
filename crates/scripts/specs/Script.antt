-- A script: its lines, and what they say together.
use Rattle.std.specs.Prelude.{◌≡◌, ℕ, suc, Bool, List, [], ◌∷◌, length, Option, Some, None, Result, Ok, Err, codes, if◌then◌else◌}
use Rattle.std.specs.Option.{option_and_then}
use Rattle.std.specs.Result.{result_ok}
use Rattle.hex.specs.Hex.{decode_sized}
pub use Rattle.script_parts.specs.Parts.{with_byte}
unfoldable pub use Rattle.script_parts.specs.Parts.{lines_of}
use Rattle.dr_model.specs.Conversations.Formats.{Formats}
use Rattle.scripts.specs.Deeds.{Deed}
use Rattle.scripts.specs.Heads.{Headed, head_read}
use Rattle.scripts.specs.Words.{after_prefix, is_text, line_read}
use Rattle.scripts.specs.declared.script.KemName.{KemName}
use Rattle.scripts.specs.declared.script.KemName.TheVariants.{Open, Sntrup761}

-- a deed before those of the next lines
abbrev pub with_deed : Deed → Result (List Deed) ℕ → Result (List Deed) ℕ
with_deed deed (Ok deeds) = Ok (deed ∷ deeds)
with_deed deed (Err bad) = Err bad

-- a deed and what follows it, or the number of its line where the line is bad
abbrev pub or_bad : Option Deed → ℕ → Result (List Deed) ℕ → Result (List Deed) ℕ
or_bad None number others = Err number
or_bad (Some deed) number others = with_deed deed others

-- the deeds of lines that begin with the line of a number, or the number of the first bad line
unfoldable pub deeds_of : ℕ → List (List ℕ) → Result (List Deed) ℕ
deeds_of number [] = Ok []
deeds_of number (line ∷ lines) = or_bad (line_read line) number (deeds_of (suc number) lines)

-- the deeds that were read
abbrev pub or_none : Result (List Deed) ℕ → List Deed
or_none (Ok deeds) = deeds
or_none (Err bad) = []

-- the deeds of the lines after the head, whose numbers tell only in an Err; none where one is bad
unfoldable pub deeds_in : List ℕ → List Deed
deeds_in text = or_none (deeds_of 3 (lines_of text))

-- no line is bad
abbrev pub AreRead : List ℕ → Type 0
AreRead text = deeds_of 3 (lines_of text) ≡ Ok (deeds_in text)

-- no line is bad, and there are this many
pub record AreCounted (text : List ℕ) (count : ℕ) : Type 0 where
  pub read : AreRead text
  pub count_is : count ≡ length (deeds_in text)

-- what a script says: the mechanism, the key of both sessions, how each side seals its texts,
-- whether the relay guards their boxes, and what happens; and of how many rounds it was made, 0 where
-- it was read
pub record Scripted : Type 0 where
  pub kem : KemName
  pub key : List ℕ
  pub formats : Formats
  pub guarded : Bool
  pub deeds : List Deed
  pub rounds : ℕ

-- the mechanism that the line `kem NAME` names
unfoldable pub kem_read : List ℕ → Option KemName
kem_read line =
    if is_text (codes "kem open") line then Some Open
    else (if is_text (codes "kem sntrup761") line then Some Sntrup761 else None)

-- the key of the line `key` and 64 hex digits
unfoldable pub key_read : List ℕ → Option (List ℕ)
key_read line = option_and_then (λ digits. result_ok (decode_sized digits 32)) (after_prefix (codes "key ") line)

-- a script from its mechanism, its key, its head and its deeds
abbrev pub scripted : KemName → List ℕ → Headed → Result (List Deed) ℕ → Result Scripted ℕ
scripted kem key head (Ok deeds) = Ok (record {
  kem = kem;
  key = key;
  formats = head.formats;
  guarded = head.guarded;
  deeds = deeds;
  rounds = 0;
})
scripted kem key head (Err bad) = Err bad

-- the deeds are those of the lines after the head
abbrev pub headed : KemName → List ℕ → Headed → Result Scripted ℕ
headed kem key head = scripted kem key head (deeds_of head.number head.lines)

-- a script from its key, if the second line has one, and the lines after it
abbrev pub keyed : KemName → Option (List ℕ) → List (List ℕ) → Result Scripted ℕ
keyed kem None lines = Err 2
keyed kem (Some key) lines = headed kem key (head_read lines)

-- a script from its mechanism, if the first line names one, and the lines after it
abbrev pub after_kem : Option KemName → List (List ℕ) → Result Scripted ℕ
after_kem None lines = Err 1
after_kem (Some kem) [] = Err 2
after_kem (Some kem) (line ∷ lines) = keyed kem (key_read line) lines

-- a script from its lines: the first names the mechanism, the second has the key
abbrev pub script_of_lines : List (List ℕ) → Result Scripted ℕ
script_of_lines [] = Err 1
script_of_lines (line ∷ lines) = after_kem (kem_read line) lines

-- what a text says as a script, or the number, from 1, of its first bad line
unfoldable pub script_of : List ℕ → Result Scripted ℕ
script_of text = script_of_lines (lines_of text)
