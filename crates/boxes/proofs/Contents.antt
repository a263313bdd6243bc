-- What the contents of a kind are.
use Rattle.std.proofs.Common.{◌≡◌, ℕ, ◌==◌, ◌≤◌, Bool, true, false, List, length, refl, arith}
use Rattle.std.specs.Prelude.{◌&&◌, nat_le, if◌then◌else◌}
use Rattle.std.proofs.lemmas.Bool.{and_parts, eqb-true, le-leb, leb-true}
use Rattle.dr_base.specs.declared.limits.TheConstants.{TEXT_LIMIT}
use Rattle.boxes.specs.Parts.{is_content, is_part}
use Rattle.boxes.specs.declared.kinds.TheConstants.{PART_KIND, TEXT_KIND}
use Rattle.boxes.proofs.Reading.{part_fits}

-- they are no longer than the longest text
pub content_fits : (kind : ℕ) (bytes : List ℕ) → is_content kind bytes ≡ true → length bytes ≤ TEXT_LIMIT
content_fits kind bytes is = by_kind (kind == TEXT_KIND) is
  where
    by_kind : (text : Bool) → (if text then nat_le (length bytes) TEXT_LIMIT else ((kind == PART_KIND) && is_part bytes)) ≡ true
        → length bytes ≤ TEXT_LIMIT
    by_kind true fits = leb-true (length bytes) TEXT_LIMIT fits
    by_kind false part = part_fits bytes (and_parts (kind == PART_KIND) (is_part bytes) part).1

-- a part's kind is the last one
pub content_kind : (kind : ℕ) (bytes : List ℕ) → is_content kind bytes ≡ true → kind ≤ PART_KIND
content_kind kind bytes is = by_kind (kind == TEXT_KIND) refl is
  where
    by_kind : (text : Bool) → (kind == TEXT_KIND) ≡ text
        → (if text then nat_le (length bytes) TEXT_LIMIT else ((kind == PART_KIND) && is_part bytes)) ≡ true → kind ≤ PART_KIND
    by_kind true same _ = let e = eqb-true kind TEXT_KIND same in omega arith
    by_kind false _ part = let e = eqb-true kind PART_KIND (and_parts (kind == PART_KIND) (is_part bytes) part).0 in omega arith

-- a text that fits is a content
pub text_content : (bytes : List ℕ) → length bytes ≤ TEXT_LIMIT → is_content TEXT_KIND bytes ≡ true
text_content bytes fits = le-leb (length bytes) TEXT_LIMIT fits
