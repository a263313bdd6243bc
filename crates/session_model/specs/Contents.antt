-- What is said: a text, or a part of a long one. A session says each by one and the same step.
use Rattle.std.specs.Prelude.{Bool, Err, List, Ok, Result, false, if◌then◌else◌, length, nat_lt, true, ℕ, ◌&&◌, ◌==◌}
use Rattle.bodies.specs.declared.format.Format.{Format}
use Rattle.bodies.specs.declared.format.Format.TheVariants.{Padded, Plain, Receipts}
use Rattle.boxes.specs.Parts.{Part, is_content, part_text}
use Rattle.boxes.specs.declared.kinds.TheConstants.{PART_KIND, TEXT_KIND}
use Rattle.dr_base.specs.declared.limits.TheConstants.{TEXT_LIMIT}
use Rattle.session_model.specs.declared.answer.Refusal.{Refusal}
use Rattle.session_model.specs.declared.answer.Refusal.TheVariants.{NoParts, TextTooLong}

-- bytes, and of which kind they are
pub record Content : Type 0 where
  pub kind : ℕ
  pub bytes : List ℕ

abbrev pub content_with : ℕ → List ℕ → Content
content_with kind bytes = record { kind = kind; bytes = bytes }

-- a text
abbrev pub text_content : List ℕ → Content
text_content text = content_with TEXT_KIND text

-- a part of a long text
abbrev pub part_content : Part → Content
part_content part = content_with PART_KIND (part_text part)

-- the packets of a format tell the kind of what they seal
abbrev pub has_kinds : Format → Bool
has_kinds Plain = false
has_kinds Padded = false
has_kinds Receipts = true

-- a text of this length isn't too long
abbrev pub length_check : ℕ → Result Unit Refusal
length_check len = if nat_lt TEXT_LIMIT len then Err (TextTooLong len) else Ok tt

-- Whether a session of a format says it, or why not: a text that isn't too long; and, where its
-- packets tell kinds, a lawful part.
abbrev pub content_check : Format → Content → Result Unit Refusal
content_check format content =
    if content.kind == TEXT_KIND then length_check (length content.bytes)
    else (if has_kinds format && is_content content.kind content.bytes then Ok tt else Err NoParts)

-- what passed a check comes to the next one
abbrev pub once_checked : {A : Type 0} → Result Unit Refusal → Result A Refusal → Result A Refusal
once_checked (Ok passed) next = next
once_checked (Err refusal) next = Err refusal
