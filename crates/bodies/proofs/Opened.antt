-- Where the content of opened bytes stands in them, that it is one of its kind, and that it isn't too long: of all numbers, also of
-- those that are no bytes.
use Rattle.std.proofs.Common.{◌≡◌, ℕ, ◌+◌, ◌-◌, ◌==◌, ◌≤◌, Bool, true, false, List, length, take, drop, Option, Some, None, Result, Ok, Err, refl, sym, ◌∙◌, ap, subst, arith, if◌then◌else◌}
use Rattle.std.specs.Prelude.{◌≢◌, nat_le}
use Rattle.std.specs.Int.{w16}
use Rattle.std.proofs.lemmas.Bool.{and_parts, leb-true}
use Rattle.std.proofs.lemmas.Bool.Decides.{Decides-eqb}
use Rattle.std.proofs.lemmas.List.{drop-drop, drop-take, length-drop, length-take, take_all}
use Rattle.dr_base.specs.declared.limits.TheConstants.{PLAIN, RECEIPTS, TEXT_LIMIT}
use Rattle.dr_base.specs.declared.position.Side.{Side}
use Rattle.grammar.specs.Reader.{Read, Reader, both, checked, ended, number, piece}
use Rattle.grammar.proofs.Steps.{from_test}
use Rattle.bodies.specs.Bodies.{Body, HasContentAt, as_body, body_place, body_read, head_field, body_head, opened_body, text_body}
use Rattle.bodies.specs.Padding.{filling, are_zeros, text_field, padded_field, found, unpadded}
use Rattle.bodies.specs.declared.limits.TheConstants.{BODY_LIMIT}
use Rattle.boxes.specs.Parts.{is_content}
use Rattle.boxes.specs.declared.kinds.TheConstants.{TEXT_KIND}
use Rattle.boxes.proofs.Contents.{content_fits, text_content}
use Rattle.bodies.proofs.Heads.{from_head}
use Rattle.bodies.proofs.Lengths.{is_other, length-body_head}
use Rattle.bodies.proofs.HeadsTaken.{size_by, takes-head}
use Rattle.bodies.proofs.Taken.{from_both, from_checked, from_mapped, takes-number}

-- ---- what is padded

from_piece : (size at : ℕ) (bytes : List ℕ) (x : Read (List ℕ)) → piece size at bytes ≡ Ok x
    → (size ≤ length bytes) × (take size bytes ≡ x.value)
unfolding piece
from_piece size at bytes x h =
    let whole : Read (List ℕ) = record { value = take size bytes; at = at + size; rest = drop size bytes } in
    let t = from_test (nat_le size (length bytes)) whole x at h in
    (leb-true size (length bytes) t.0, ap (λ (r : Read (List ℕ)). r.value) t.1)

from_whole : {A : Type 0} (r : Result (Read A) ℕ) (a : A) → found (ended r) ≡ Some a
    → (x : Read A) × (r ≡ Ok x) × (x.value ≡ a)
from_whole {A} (Ok x) a h = (x, refl, by_end (length x.rest == 0) h)
  where
    by_end : (b : Bool) → found (if b then Ok x.value else Err x.at) ≡ Some a → x.value ≡ a
    by_end true e = let given : Some x.value ≡ Some a = e in cc
    by_end false e = cc
from_whole (Err at) a h = cc

-- a text stands after its length
taken_is_text : (n : ℕ) (bytes : List ℕ) → 2 ≤ length bytes → n ≤ length (drop 2 bytes)
    → HasContentAt bytes 2 (take n (drop 2 bytes))
taken_is_text n bytes two inside =
    let long : length (take n (drop 2 bytes)) ≡ n = omega (arith, length-take n (drop 2 bytes)) in
    record {
      inside = omega (arith, long, length-drop 2 bytes);
      here = ap (λ k. take k (drop 2 bytes)) long;
    }

text_field-place : (most : ℕ) (bytes : List ℕ) (x : Read (List ℕ)) → text_field most 0 bytes ≡ Ok x
    → HasContentAt bytes 2 x.value
text_field-place most bytes x h =
    let fits : ℕ → Bool = λ n. nat_le n most in
    let any : List ℕ → Bool = λ _. true in
    let next : ℕ → Reader (List ℕ) = λ n. checked any (piece n) in
    let sized = from_mapped (λ (e : ℕ × List ℕ). e.1) (both (checked fits (number w16)) next) 0 bytes x h in
    let parts = from_both (checked fits (number w16)) next 0 bytes sized.0 sized.1 in
    let n = parts.0 in
    let text = parts.2.0 in
    let behind = takes-number w16 0 bytes n (from_checked fits (number w16) 0 bytes n parts.1).1 in
    let here = from_piece n.value n.at n.rest text (from_checked any (piece n.value) n.at n.rest text parts.2.1).1 in
    let is : take n.value (drop 2 bytes) ≡ x.value =
    ap (take n.value) (sym behind.rest_is) ∙ here.1 ∙ ap (λ (e : Read (ℕ × List ℕ)). e.value.1) parts.2.2
    ∙ ap (λ (e : Read (List ℕ)). e.value) sized.2 in
    subst (HasContentAt bytes 2) is
    (taken_is_text n.value bytes behind.inside (subst (λ (r : List ℕ). n.value ≤ length r) behind.rest_is here.0))

first_of : (a b : Read (List ℕ)) (e : Read (List ℕ × List ℕ))
    → record { value = (a.value, b.value); at = b.at; rest = b.rest } ≡ e → a.value ≡ e.value.0
first_of a b e is = ap (λ (r : Read (List ℕ × List ℕ)). r.value.0) is

unpadded-place : (most : ℕ) (bytes text : List ℕ) → unpadded most bytes ≡ Some text → HasContentAt bytes 2 text
unfolding unpadded padded_field
unpadded-place most bytes text h =
    let zeros : List ℕ → Reader (List ℕ) = λ text. checked are_zeros (piece (filling (length text))) in
    let end = from_whole (padded_field most 0 bytes) text h in
    let all = from_mapped (λ (e : List ℕ × List ℕ). e.0) (both (text_field most) zeros) 0 bytes end.0 end.1 in
    let parts = from_both (text_field most) zeros 0 bytes all.0 all.1 in
    let first = first_of parts.0 parts.2.0 all.0 parts.2.2 in
    let same : parts.0.value ≡ text = first ∙ ap (λ (e : Read (List ℕ)). e.value) all.2 ∙ end.2 in
    subst (HasContentAt bytes 2) same (text_field-place most bytes parts.0 parts.1)

-- ---- what was opened

record WasOpened (version : ℕ) (plain : Bool) (bytes : List ℕ) (body : Body) : Type 0 where
  place : HasContentAt bytes (if plain then 0 else 2 + length (body_head version body)) body.content
  kind : plain ≡ true → body.kind ≡ TEXT_KIND
  content : plain ≡ false → is_content body.kind body.content ≡ true

whole_content : (bytes : List ℕ) → HasContentAt bytes 0 bytes
whole_content bytes = record { inside = omega arith; here = take_all (length bytes) bytes (omega arith) }

-- the rest of a text stands as much further on
rest_of : (bytes text : List ℕ) (place n : ℕ) → HasContentAt bytes place text → n ≤ length text
    → HasContentAt bytes (place + n) (drop n text)
rest_of bytes text place n is inside =
    let long : length (drop n text) ≡ length text - n = omega (arith, length-drop n text) in
    let sum : n + length (drop n text) ≡ length text = omega (arith, long) in
    record {
      inside = omega (arith, long, is.inside);
      here = ap (take (length (drop n text))) (sym (drop-drop n place bytes)) ∙ sym (drop-take n (length (drop n text)) (drop place bytes))
          ∙ ap (λ (k : ℕ). drop n (take k (drop place bytes))) sum ∙ ap (drop n) is.here;
    }

from_text : (version : ℕ) (side : Side) (o : Option (List ℕ)) (bytes : List ℕ) (body : Body)
    → ((text : List ℕ) → o ≡ Some text → HasContentAt bytes 2 text) → as_body version side o ≡ Some body
    → WasOpened version false bytes body
from_text version side None bytes body was h = cc
from_text version side (Some text) bytes body was h =
    let from = from_head (head_field version side 0 text) body h in
    let x = from.0 in
    let taken = takes-head version side 0 text x from.1 in
    let size = size_by (version == RECEIPTS) x.value in
    let made : Body = record { receipt = x.value.0; kind = x.value.1; content = x.rest } in
    let long : length (body_head version made) ≡ size = length-body_head version made in
    subst (WasOpened version false bytes) from.2.is
    (record {
      place = subst (λ (n : ℕ). HasContentAt bytes (2 + n) x.rest) (sym long)
          (subst (HasContentAt bytes (2 + size)) (sym taken.rest_is) (rest_of bytes text 2 size (was text refl) taken.inside));
      kind = λ (plain : false ≡ true). cc;
      content = λ _. from.2.passes;
    })

opened_by : (version : ℕ) (side : Side) (plain : Bool) (bytes : List ℕ) (body : Body)
    → (if plain then Some (text_body bytes) else as_body version side (unpadded BODY_LIMIT bytes)) ≡ Some body
    → WasOpened version plain bytes body
opened_by version side true bytes body h =
    let given : Some (text_body bytes) ≡ Some body = h in
    let same : text_body bytes ≡ body = cc in
    subst (WasOpened version true bytes) same (record { place = whole_content bytes; kind = λ _. refl; content = λ padded. cc })
opened_by version side false bytes body h =
    from_text version side (unpadded BODY_LIMIT bytes) bytes body (λ text is. unpadded-place BODY_LIMIT bytes text is) h

-- where it is the padding of something
pub opened-padded : (version : ℕ) (side : Side) (bytes text : List ℕ) → version ≢ PLAIN
    → unpadded BODY_LIMIT bytes ≡ Some text → opened_body version side bytes ≡ body_read version side text
unfolding opened_body
opened-padded version side bytes text padded is =
    ap (λ (plain : Bool). if plain then Some (text_body bytes) else as_body version side (unpadded BODY_LIMIT bytes))
    (is_other version PLAIN padded)
    ∙ ap (as_body version side) is

pub opened-place : (version : ℕ) (side : Side) (bytes : List ℕ) (body : Body)
    → opened_body version side bytes ≡ Some body → HasContentAt bytes (body_place version body) body.content
unfolding opened_body
opened-place version side bytes body h = (opened_by version side (version == PLAIN) bytes body h).place

-- where it isn't too long, it is a content of its kind
pub opened-content : (version : ℕ) (side : Side) (bytes : List ℕ) (body : Body)
    → opened_body version side bytes ≡ Some body → length body.content ≤ TEXT_LIMIT → is_content body.kind body.content ≡ true
unfolding opened_body
opened-content version side bytes body h fits = by_version (version == PLAIN) (opened_by version side (version == PLAIN) bytes body h)
  where
    by_version : (plain : Bool) → WasOpened version plain bytes body → is_content body.kind body.content ≡ true
    by_version true opened =
        subst (λ (kind : ℕ). is_content kind body.content ≡ true) (sym (opened.kind refl)) (text_content body.content fits)
    by_version false opened = opened.content refl

pub opened-fits : (version : ℕ) (side : Side) (bytes : List ℕ) (body : Body)
    → opened_body version side bytes ≡ Some body → version ≢ PLAIN → length body.content ≤ TEXT_LIMIT
unfolding opened_body
opened-fits version side bytes body h padded =
    content_fits body.kind body.content ((opened_by version side (version == PLAIN) bytes body h).content (is_other version PLAIN padded))
