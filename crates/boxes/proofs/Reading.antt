-- The bytes of a part are read as it, and nothing else is.
use Rattle.std.proofs.Common.{◌≡◌, ◌≤◌, ◌<◌, ◌^◌, ℕ, Bool, true, false, List, [], ◌∷◌, ◌++◌, length, Option, Some, None, refl, sym, ◌∙◌, ap, subst, arith}
use Rattle.std.specs.Prelude.{◌&&◌, nat_le, slice_index_or, if◌then◌else◌}
use Rattle.std.proofs.lemmas.Bool.{and_parts, leb-true, le-leb}
use Rattle.std.proofs.lemmas.List.{length-drop}
use Rattle.dr_base.specs.Bytes.{AreBytes}
use Rattle.dr_base.proofs.Bytes.{AreBytes-take}
use Rattle.dr_base.proofs.Widths.{exact32}
use Rattle.dr_base.specs.declared.limits.TheConstants.{TEXT_LIMIT}
use Rattle.boxes.specs.Parts.{IsPart, Part, is_part, part_of, part_read, part_text}
use Rattle.boxes.specs.declared.limits.TheConstants.{PARTS_LIMIT, PART_HEAD}

pub both_true : (a b : Bool) → a ≡ true → b ≡ true → (a && b) ≡ true
both_true true b _ e = e
both_true false b e _ = e

pub is_part-text : (part : Part) → IsPart part → is_part (part_text part) ≡ true
unfolding is_part
is_part-text part is =
    both_true _ _
    (both_true _ _ (le-leb PART_HEAD (length (part_text part)) (omega arith)) (le-leb (length (part_text part)) TEXT_LIMIT (omega (arith, is.short))))
    (both_true _ _ (le-leb 1 part.number is.one)
    (both_true _ _ (le-leb part.number part.count is.most) (le-leb part.count PARTS_LIMIT is.few)))

pub id_read : (part : Part) → part.id < 2 ^ 32 → (part_of (part_text part)).id ≡ part.id
id_read part fits = exact32.read part.id fits

pub read : (part : Part) → IsPart part → part.id < 2 ^ 32 → part_read (part_text part) ≡ Some part
read part is fits =
    by_test (is_part (part_text part)) (is_part-text part is)
    ∙ ap (λ (i : ℕ). let o : Option Part = Some (record { id = i; number = part.number; count = part.count; bytes = part.bytes }) in o) (id_read part fits)
  where
    by_test : (t : Bool) → t ≡ true → (if t then Some (part_of (part_text part)) else None) ≡ Some (part_of (part_text part))
    by_test true _ = refl
    by_test false e = absurd (let f : false ≡ true = e in cc)

-- the bytes of a part are no more than a text's
pub part_fits : (bytes : List ℕ) → is_part bytes ≡ true → length bytes ≤ TEXT_LIMIT
unfolding is_part
part_fits bytes e =
    let number = slice_index_or bytes 4 0 in
    let count = slice_index_or bytes 5 0 in
    let halves = and_parts (nat_le PART_HEAD (length bytes) && nat_le (length bytes) TEXT_LIMIT)
    (nat_le 1 number && (nat_le number count && nat_le count PARTS_LIMIT)) e in
    leb-true (length bytes) TEXT_LIMIT (and_parts (nat_le PART_HEAD (length bytes)) (nat_le (length bytes) TEXT_LIMIT) halves.0).1

lawful : (bytes : List ℕ) → is_part bytes ≡ true → IsPart (part_of bytes)
unfolding is_part
lawful bytes e =
    let number = slice_index_or bytes 4 0 in
    let count = slice_index_or bytes 5 0 in
    let halves = and_parts (nat_le PART_HEAD (length bytes) && nat_le (length bytes) TEXT_LIMIT)
    (nat_le 1 number && (nat_le number count && nat_le count PARTS_LIMIT)) e in
    let sizes = and_parts (nat_le PART_HEAD (length bytes)) (nat_le (length bytes) TEXT_LIMIT) halves.0 in
    let one = and_parts (nat_le 1 number) (nat_le number count && nat_le count PARTS_LIMIT) halves.1 in
    let most = and_parts (nat_le number count) (nat_le count PARTS_LIMIT) one.1 in
    let fits : length bytes ≤ TEXT_LIMIT = leb-true (length bytes) TEXT_LIMIT sizes.1 in
    record {
      one = leb-true 1 number one.0;
      most = leb-true number count most.0;
      few = leb-true count PARTS_LIMIT most.1;
      short = omega (arith, fits, length-drop PART_HEAD bytes);
    }

printed : (bytes : List ℕ) → AreBytes bytes → is_part bytes ≡ true → bytes ≡ part_text (part_of bytes)
unfolding is_part
printed (b0 ∷ b1 ∷ b2 ∷ b3 ∷ b4 ∷ b5 ∷ more) are e =
    ap (λ (head : List ℕ). head ++ (b4 ∷ (b5 ∷ more)))
    (sym (exact32.printed (b0 ∷ b1 ∷ b2 ∷ b3 ∷ []) refl (AreBytes-take 4 (b0 ∷ b1 ∷ b2 ∷ b3 ∷ b4 ∷ b5 ∷ more) are)))
printed [] are e = absurd (let f : false ≡ true = e in cc)
printed (b0 ∷ []) are e = absurd (let f : false ≡ true = e in cc)
printed (b0 ∷ b1 ∷ []) are e = absurd (let f : false ≡ true = e in cc)
printed (b0 ∷ b1 ∷ b2 ∷ []) are e = absurd (let f : false ≡ true = e in cc)
printed (b0 ∷ b1 ∷ b2 ∷ b3 ∷ []) are e = absurd (let f : false ≡ true = e in cc)
printed (b0 ∷ b1 ∷ b2 ∷ b3 ∷ b4 ∷ []) are e = absurd (let f : false ≡ true = e in cc)

pub only : (bytes : List ℕ) (part : Part) → AreBytes bytes → part_read bytes ≡ Some part → (bytes ≡ part_text part) × IsPart part
only bytes part are e = by_test (is_part bytes) refl e
  where
    by_test : (t : Bool) → is_part bytes ≡ t → (if t then Some (part_of bytes) else None) ≡ Some part → (bytes ≡ part_text part) × IsPart part
    by_test true is some =
        let same : part_of bytes ≡ part = (let f : (let o : Option Part = Some (part_of bytes) in o) ≡ Some part = some in cc) in
        (printed bytes are is ∙ ap part_text same, subst IsPart same (lawful bytes is))
    by_test false is none = absurd (let f : (let o : Option Part = None in o) ≡ Some part = none in cc)
