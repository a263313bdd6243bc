-- A content that passed its check is one of its kind, and only a session with receipts says another kind than a text.
use Rattle.std.proofs.Common.{Bool, Err, Ok, Result, arith, ap, false, length, refl, sym, true, ℕ, ◌==◌, ◌≡◌, ◌≢◌, ◌≤◌, ◌∙◌}
use Rattle.std.specs.Prelude.{if◌then◌else◌, nat_lt, ◌&&◌}
use Rattle.std.proofs.lemmas.Bool.{and_parts, eqb-true, ltb-false}
use Rattle.bodies.specs.Formats.{version_of}
use Rattle.bodies.specs.declared.format.Format.{Format}
use Rattle.bodies.specs.declared.format.Format.TheVariants.{Padded, Plain, Receipts}
use Rattle.boxes.specs.Parts.{is_content}
use Rattle.boxes.specs.declared.kinds.TheConstants.{TEXT_KIND}
use Rattle.boxes.proofs.Contents.{content_fits, text_content}
use Rattle.dr_base.specs.declared.limits.TheConstants.{RECEIPTS, TEXT_LIMIT}
use Rattle.session_model.specs.Contents.{Content, content_check, has_kinds, length_check, once_checked}
use Rattle.session_model.specs.declared.answer.Refusal.{Refusal}
use Rattle.session_model.specs.declared.answer.Refusal.TheVariants.{NoParts, TextTooLong}

-- what comes after a check comes of what passed it
pub once_passed : {A : Type 0} (passed : Result Unit Refusal) (next : Result A Refusal) (value : A)
    → once_checked passed next ≡ Ok value → (passed ≡ Ok tt) × (next ≡ Ok value)
once_passed (Ok done) next value is = (refl, is)
once_passed (Err refusal) next value is = absurd (cc is)

-- a text that passed isn't too long
abbrev length_by : Bool → ℕ → Result Unit Refusal
length_by long len = if long then Err (TextTooLong len) else Ok tt

length_passed : (long : Bool) (len : ℕ) → length_by long len ≡ Ok tt → long ≡ false
length_passed true len is = absurd (cc is)
length_passed false len is = refl

abbrev part_by : Bool → Result Unit Refusal
part_by told = if told then Ok tt else Err NoParts

part_passed : (told : Bool) → part_by told ≡ Ok tt → told ≡ true
part_passed true is = refl
part_passed false is = absurd (cc is)

-- it is one of its kind
pub content_lawful : (format : Format) (content : Content) → content_check format content ≡ Ok tt
    → is_content content.kind content.bytes ≡ true
content_lawful format content is = by_kind (content.kind == TEXT_KIND) refl is
  where
    told : Bool
    told = has_kinds format && is_content content.kind content.bytes

    by_kind : (text : Bool) → (content.kind == TEXT_KIND) ≡ text
        → (if text then length_check (length content.bytes) else (if told then Ok tt else Err NoParts)) ≡ Ok tt
        → is_content content.kind content.bytes ≡ true
    by_kind true same is =
        ap (λ (kind : ℕ). is_content kind content.bytes) (eqb-true content.kind TEXT_KIND same)
        ∙ text_content content.bytes
        (ltb-false TEXT_LIMIT (length content.bytes)
        (length_passed (nat_lt TEXT_LIMIT (length content.bytes)) (length content.bytes) is))
    by_kind false _ is =
        (and_parts (has_kinds format) (is_content content.kind content.bytes) (part_passed told is)).1

-- so it fits a packet
pub content_short : (format : Format) (content : Content) → content_check format content ≡ Ok tt
    → length content.bytes ≤ TEXT_LIMIT
content_short format content is =
    content_fits content.kind content.bytes (content_lawful format content is)

-- packets that have no receipts tell no kinds
only_receipts : (format : Format) → has_kinds format ≡ true → version_of format ≡ RECEIPTS
only_receipts Plain is = absurd (cc is)
only_receipts Padded is = absurd (cc is)
only_receipts Receipts is = refl

-- so it is a text, where the session has no receipts
pub content_kind : (format : Format) (content : Content) → content_check format content ≡ Ok tt
    → version_of format ≢ RECEIPTS → content.kind ≡ TEXT_KIND
content_kind format content is other = by_kind (content.kind == TEXT_KIND) refl is
  where
    told : Bool
    told = has_kinds format && is_content content.kind content.bytes

    by_kind : (text : Bool) → (content.kind == TEXT_KIND) ≡ text
        → (if text then length_check (length content.bytes) else (if told then Ok tt else Err NoParts)) ≡ Ok tt
        → content.kind ≡ TEXT_KIND
    by_kind true same is = eqb-true content.kind TEXT_KIND same
    by_kind false _ is =
        absurd (other (only_receipts format
        (and_parts (has_kinds format) (is_content content.kind content.bytes) (part_passed told is)).0))
