-- What a packet seals, by its version: a text as it is; a text padded; or a receipt, a kind and a
-- text, padded together.
use Rattle.std.specs.Prelude.{◌≡◌, ℕ, ◌+◌, ◌≤◌, ◌==◌, List, [], ◌++◌, length, take, drop, Option, Some, None, Result, Ok, Err, if◌then◌else◌}
use Rattle.std.specs.Int.{w8, to_be_bytes}
use Rattle.dr_base.specs.declared.limits.TheConstants.{PLAIN, RECEIPTS}
use Rattle.dr_base.specs.declared.position.Side.{Side}
use Rattle.grammar.specs.Reader.{Read, Reader, both, gives, number}
use Rattle.bodies.specs.Padding.{padded, unpadded}
use Rattle.bodies.specs.Receipts.{Receipt, receipt_field, receipt_text}
use Rattle.bodies.specs.declared.limits.TheConstants.{BODY_LIMIT}
use Rattle.boxes.specs.Parts.{is_content}
use Rattle.boxes.specs.declared.kinds.TheConstants.{TEXT_KIND}

-- what an opened packet holds
pub record Body : Type 0 where
  pub receipt : Option Receipt
  pub kind : ℕ
  pub content : List ℕ

-- a text alone
abbrev pub text_body : List ℕ → Body
text_body text = record { receipt = None; kind = TEXT_KIND; content = text }

-- ---- sealed

-- what a packet of a version has before the content: one with receipts the receipt and the kind
unfoldable pub body_head : ℕ → Body → List ℕ
body_head version body =
    if version == RECEIPTS then receipt_text body.receipt ++ to_be_bytes w8 body.kind else []

abbrev pub body_text : ℕ → Body → List ℕ
body_text version body = body_head version body ++ body.content

-- the bytes that a packet of a version seals
unfoldable pub sealed_body : ℕ → Body → List ℕ
sealed_body version body =
    if version == PLAIN then body.content else padded (body_text version body)

-- how many of them stand before the content
abbrev pub body_place : ℕ → Body → ℕ
body_place version body = if version == PLAIN then 0 else 2 + length (body_head version body)

-- from a place on, the bytes are first those of a content
pub record HasContentAt (bytes : List ℕ) (place : ℕ) (content : List ℕ) : Type 0 where
  pub inside : place + length content ≤ length bytes
  pub here : take (length content) (drop place bytes) ≡ content

-- ---- opened

-- the receipt and the kind, read by an opener of a side
unfoldable pub head_field : ℕ → Side → Reader (Option Receipt × ℕ)
head_field version side at bytes =
    if version == RECEIPTS then both (receipt_field side) (λ _. number w8) at bytes
    else gives (None, TEXT_KIND) at bytes

-- what follows them is the content, if it is one of that kind: a text, or a part of a long one
abbrev pub with_content : Result (Read (Option Receipt × ℕ)) ℕ → Option Body
with_content (Ok x) =
    if is_content x.value.1 x.rest
    then Some (record { receipt = x.value.0; kind = x.value.1; content = x.rest })
    else None
with_content (Err at) = None

abbrev pub body_read : ℕ → Side → List ℕ → Option Body
body_read version side bytes = with_content (head_field version side 0 bytes)

abbrev pub as_body : ℕ → Side → Option (List ℕ) → Option Body
as_body version side None = None
as_body version side (Some bytes) = body_read version side bytes

-- what the bytes of an opened packet are, where this is its opener's side; None is what no lawful
-- body of the version is sealed as
unfoldable pub opened_body : ℕ → Side → List ℕ → Option Body
opened_body version side bytes =
    if version == PLAIN then Some (text_body bytes)
    else as_body version side (unpadded BODY_LIMIT bytes)
