-- What was sealed is opened, and nothing else.
use Rattle.std.proofs.Common.{◌≡◌, ◌≢◌, ℕ, ◌≤◌, ◌==◌, Bool, true, false, List, ◌++◌, length, take, drop, Option, Some, None, refl, sym, ◌∙◌, ap, ap₂, subst, arith, length-append, if◌then◌else◌}
use Rattle.std.specs.Prelude.{IfSome, nat_le, replicate}
use Rattle.std.specs.Int.{w16, to_be_bytes}
use Rattle.std.proofs.lemmas.Bool.{and_from, and_parts, eqb-true, le-leb, leb-true}
use Rattle.std.proofs.lemmas.Bool.Decides.{nat_tests}
use Rattle.std.proofs.lemmas.List.{drop_at, take_at}
use Rattle.dr_base.specs.Bytes.{AreBytes}
use Rattle.dr_base.specs.declared.limits.TheConstants.{PLAIN, RECEIPTS, RECEIPT_LIMIT, TEXT_LIMIT}
use Rattle.dr_base.specs.declared.position.Side.{Side}
use Rattle.dr_base.proofs.Bytes.{AreBytes-drop, AreBytes-take}
use Rattle.bodies.specs.Bodies.{Body, as_body, body_text, body_head, opened_body, sealed_body, text_body}
use Rattle.bodies.specs.Lawful.{IsLawfulBody, IsReceiptOrNone}
use Rattle.bodies.specs.Padding.{filling, padded, unpadded}
use Rattle.bodies.specs.Receipts.{Receipt}
use Rattle.bodies.specs.declared.limits.TheConstants.{BODY_LIMIT}
use Rattle.boxes.specs.declared.kinds.TheConstants.{TEXT_KIND}
use Rattle.boxes.proofs.Contents.{content_fits, content_kind}
use Rattle.bodies.proofs.Heads.{Head, Passes, PassesHead, body-only, body-reads, head_of}
use Rattle.bodies.proofs.Lengths.{differs, not_told, short-head}
use Rattle.bodies.proofs.Listed.{or-lawful, or-passes}
use Rattle.bodies.proofs.Padded.{unpadded-only, unpadded-padded}

-- ---- which bodies pass the tests of their reader: those that are lawful

-- a body without a receipt, of a text's kind, is a text alone
alone_is : (body : Body) → body.receipt ≡ None → body.kind ≡ TEXT_KIND → text_body body.content ≡ body
alone_is body none kind =
    let made : Option Receipt → ℕ → Body = λ r k. record { receipt = r; kind = k; content = body.content } in
    ap₂ made (sym none) (sym kind)

head_passes : (told : Bool) (version : ℕ) (side : Side) (body : Body) → (version == RECEIPTS) ≡ told
    → IsLawfulBody version side body → PassesHead told side (head_of body)
head_passes true version side body is lawful =
    let padded : version ≢ PLAIN = let e = eqb-true version RECEIPTS is in λ plain. omega arith in
    (or-passes side body.receipt lawful.receipt, omega (arith, content_kind body.kind body.content (lawful.content padded)))
head_passes false version side body is lawful =
    let pair : Option Receipt → ℕ → Head = λ r k. (r, k) in
    ap₂ pair (lawful.alone (differs version RECEIPTS is)) (lawful.kind (differs version RECEIPTS is))

passes : (version : ℕ) (side : Side) (body : Body) → version ≢ PLAIN → IsLawfulBody version side body
    → Passes version side body
passes version side body padded lawful = record {
  head = head_passes (version == RECEIPTS) version side body refl lawful;
  content = lawful.content padded;
}

from_head : (told : Bool) (version : ℕ) (side : Side) (body : Body) → (version == RECEIPTS) ≡ told
    → PassesHead told side (head_of body) → IsReceiptOrNone side body.receipt × (version ≢ RECEIPTS → body.receipt ≡ None) × (version ≢ RECEIPTS → body.kind ≡ TEXT_KIND)
from_head true version side body is passes =
    let told = eqb-true version RECEIPTS is in
    (or-lawful side body.receipt passes.0, λ other. absurd (other told), λ other. absurd (other told))
from_head false version side body is passes =
    let none : body.receipt ≡ None = ap (λ (e : Head). e.0) passes in
    (subst (IsReceiptOrNone side) (sym none) tt, λ other. none, λ other. ap (λ (e : Head). e.1) passes)

lawful_of : (version : ℕ) (side : Side) (body : Body) → Passes version side body → IsLawfulBody version side body
lawful_of version side body passes =
    let head = from_head (version == RECEIPTS) version side body refl passes.head in
    record { receipt = head.0; alone = head.1; kind = head.2; content = λ padded. passes.content }

lawful_text : (version : ℕ) (side : Side) (text : List ℕ) → version ≡ PLAIN → IsLawfulBody version side (text_body text)
lawful_text version side text plain =
    record { receipt = tt; alone = λ other. refl; kind = λ other. refl; content = λ padded. absurd (padded plain) }

-- ---- sealed, then opened

few_listed : (side : Side) (o : Option Receipt) → IsReceiptOrNone side o → IfSome o (λ r. length r.listed ≤ RECEIPT_LIMIT)
few_listed side None l = tt
few_listed side (Some r) l = l.few

-- a lawful body fits its padding
text_fits : (version : ℕ) (side : Side) (body : Body) → version ≢ PLAIN → IsLawfulBody version side body
    → length (body_text version body) ≤ BODY_LIMIT
text_fits version side body padded lawful =
    omega (
      arith,
      content_fits body.kind body.content (lawful.content padded),
      short-head version body (few_listed side body.receipt lawful.receipt),
      length-append (body_head version body) body.content,
    )

abbrev sealed_by : Bool → ℕ → Body → List ℕ
sealed_by plain version body = if plain then body.content else padded (body_text version body)

abbrev opened_by : Bool → ℕ → Side → List ℕ → Option Body
opened_by plain version side bytes =
    if plain then Some (text_body bytes) else as_body version side (unpadded BODY_LIMIT bytes)

opens_by : (plain : Bool) (version : ℕ) (side : Side) (body : Body) → (version == PLAIN) ≡ plain
    → IsLawfulBody version side body → opened_by plain version side (sealed_by plain version body) ≡ Some body
opens_by true version side body is lawful =
    let other = differs version RECEIPTS (not_told version is) in
    ap Some (alone_is body (lawful.alone other) (lawful.kind other))
opens_by false version side body is lawful =
    let padded = differs version PLAIN is in
    ap (as_body version side)
    (unpadded-padded BODY_LIMIT (body_text version body) (omega arith) (text_fits version side body padded lawful))
    ∙ body-reads version side body (passes version side body padded lawful)

pub sealed-opens : (version : ℕ) (side : Side) (body : Body) → IsLawfulBody version side body
    → opened_body version side (sealed_body version body) ≡ Some body
unfolding opened_body sealed_body
sealed-opens version side body lawful = opens_by (version == PLAIN) version side body refl lawful

-- ---- opened, and so sealed

-- what was padded are bytes where all are
padded_bytes : (text : List ℕ) → AreBytes (padded text) → AreBytes text
unfolding padded
padded_bytes text are =
    let before = to_be_bytes w16 (length text) in
    let after = replicate (filling (length text)) 0 in
    let n = length (before ++ text) in
    let all = (before ++ text) ++ after in
    let front = take_at (before ++ text) after n refl in
    let inside : drop (length before) (take n all) ≡ text =
    ap (drop (length before)) front ∙ drop_at before text (length before) refl in
    subst AreBytes inside (AreBytes-drop (length before) (take n all) (AreBytes-take n all are))

abbrev WasSealed : Bool → ℕ → Side → List ℕ → Body → Type 0
WasSealed plain version side bytes body = (bytes ≡ sealed_by plain version body) × IsLawfulBody version side body

only_padded : (o : Option (List ℕ)) (version : ℕ) (side : Side) (bytes : List ℕ) (body : Body) → AreBytes bytes
    → ((text : List ℕ) → o ≡ Some text → (bytes ≡ padded text) × (length text ≤ BODY_LIMIT))
    → as_body version side o ≡ Some body → WasSealed false version side bytes body
only_padded None version side bytes body are was h = cc
only_padded (Some text) version side bytes body are was h =
    let is = (was text refl).0 in
    let from = body-only version side text body (padded_bytes text (subst AreBytes is are)) h in
    (is ∙ ap padded from.text, lawful_of version side body from.passes)

only_by : (plain : Bool) (version : ℕ) (side : Side) (bytes : List ℕ) (body : Body) → (version == PLAIN) ≡ plain
    → AreBytes bytes → opened_by plain version side bytes ≡ Some body → WasSealed plain version side bytes body
only_by true version side bytes body is are h =
    let e : Some (text_body bytes) ≡ Some body = h in
    let same : text_body bytes ≡ body = cc in
    subst (WasSealed true version side bytes) same (refl, lawful_text version side bytes (eqb-true version PLAIN is))
only_by false version side bytes body is are h =
    only_padded (unpadded BODY_LIMIT bytes) version side bytes body are
    (λ text found. unpadded-only BODY_LIMIT bytes text are found) h

pub sealed-only : (version : ℕ) (side : Side) (bytes : List ℕ) (body : Body) → AreBytes bytes
    → opened_body version side bytes ≡ Some body
    → (bytes ≡ sealed_body version body) × IsLawfulBody version side body
unfolding opened_body sealed_body
sealed-only version side bytes body are h = only_by (version == PLAIN) version side bytes body refl are h
