-- How many bytes receipts have, what stands before a content, and what is sealed.
use Rattle.std.proofs.Common.{◌≡◌, ◌≢◌, ℕ, ◌+◌, ◌*◌, ◌≤◌, ◌==◌, Bool, true, false, List, [], ◌∷◌, ◌++◌, length, Option, Some, None, refl, ◌∙◌, ap, arith, length-append, if◌then◌else◌}
use Rattle.std.specs.Prelude.{IfSome}
use Rattle.std.specs.Int.{w8, to_be_bytes}
use Rattle.std.proofs.lemmas.Bool.Decides.{nat_tests}
use Rattle.dr_base.specs.declared.position.Position.{Position}
use Rattle.grammar.specs.Printer.{print_counted, print_items}
use Rattle.bodies.specs.Bodies.{Body, body_text, body_head, sealed_body}
use Rattle.bodies.specs.Padding.{padded, padded_len}
use Rattle.bodies.specs.Receipts.{Receipt, position_bytes, receipt_text}
use Rattle.dr_base.specs.declared.limits.TheConstants.{PLAIN, RECEIPTS, RECEIPT_LIMIT, TEXT_LIMIT}
use Rattle.bodies.specs.declared.limits.TheConstants.{BODY_LIMIT}
use Rattle.bodies.proofs.Heads.{body_head-is}
use Rattle.bodies.proofs.Padded.{length-padded}

-- ---- tests of a version

pub is_other : (version other : ℕ) → version ≢ other → (version == other) ≡ false
is_other version other differ = grind (arith, nat_tests)

pub differs : (version other : ℕ) → (version == other) ≡ false → version ≢ other
differs version other is = grind (arith, nat_tests)

-- a plain packet has no receipts
pub not_told : (version : ℕ) → (version == PLAIN) ≡ true → (version == RECEIPTS) ≡ false
not_told version is = grind (arith, nat_tests)

-- ---- receipts

pub length-positions : (list : List Position) → length (print_items position_bytes list) ≡ 8 * length list
unfolding print_items
length-positions [] = refl
length-positions (p ∷ more) =
    let behind = length-positions more in
    let sum : 8 * length (p ∷ more) ≡ 8 + 8 * length more = grind arith in
    omega (arith, sum, behind, length-append (position_bytes p) (print_items position_bytes more))

pub length-receipt : (r : Receipt) → length (receipt_text (Some r)) ≡ 10 + 8 * length r.listed
length-receipt r =
    omega (arith, length-positions r.listed, length-append (position_bytes r.bound) (print_counted w8 position_bytes r.listed))

-- ---- what stands before the content

head_len-by : (told : Bool) (receipt : Option Receipt) (kind : ℕ)
    → length (if told then receipt_text receipt ++ to_be_bytes w8 kind else []) ≡ (if told then length (receipt_text receipt) + 1 else 0)
head_len-by true receipt kind = length-append (receipt_text receipt) (to_be_bytes w8 kind)
head_len-by false receipt kind = refl

pub length-body_head : (version : ℕ) (body : Body)
    → length (body_head version body) ≡ (if version == RECEIPTS then length (receipt_text body.receipt) + 1 else 0)
length-body_head version body =
    ap (λ (t : List ℕ). length t) (body_head-is version body) ∙ head_len-by (version == RECEIPTS) body.receipt body.kind

short-receipt : (o : Option Receipt) → IfSome o (λ r. length r.listed ≤ RECEIPT_LIMIT) → length (receipt_text o) + 1 + TEXT_LIMIT ≤ BODY_LIMIT
short-receipt None few = omega arith
short-receipt (Some r) few = omega (arith, few, length-receipt r)

-- a content that isn't longer than a text has room after it
pub short-head : (version : ℕ) (body : Body) → IfSome body.receipt (λ r. length r.listed ≤ RECEIPT_LIMIT)
    → length (body_head version body) + TEXT_LIMIT ≤ BODY_LIMIT
short-head version body few =
    let long = length-body_head version body in
    let by : (told : Bool) → (if told then length (receipt_text body.receipt) + 1 else 0) + TEXT_LIMIT ≤ BODY_LIMIT =
    by_told in
    omega (arith, long, by (version == RECEIPTS))
  where
    by_told : (told : Bool) → (if told then length (receipt_text body.receipt) + 1 else 0) + TEXT_LIMIT ≤ BODY_LIMIT
    by_told true = short-receipt body.receipt few
    by_told false = omega arith

-- ---- what is sealed

-- a packet without receipts has nothing before the content
alone_by : (told : Bool) (body : Body) → told ≡ false
    → (if told then receipt_text body.receipt ++ to_be_bytes w8 body.kind else []) ++ body.content ≡ body.content
alone_by true body is = cc
alone_by false body is = refl

pub alone_text : (version : ℕ) (body : Body) → version ≢ RECEIPTS → body_text version body ≡ body.content
alone_text version body other =
    ap (λ (t : List ℕ). t ++ body.content) (body_head-is version body)
    ∙ alone_by (version == RECEIPTS) body (is_other version RECEIPTS other)

pub length-told : (body : Body)
    → length (body_text RECEIPTS body) ≡ length (receipt_text body.receipt) + 1 + length body.content
length-told body =
    omega (arith, length-body_head RECEIPTS body, length-append (body_head RECEIPTS body) body.content)

pub length-plain : (body : Body) → length (sealed_body PLAIN body) ≡ length body.content
unfolding sealed_body
length-plain body = refl

pub length-sealed : (version : ℕ) (body : Body) → version ≢ PLAIN
    → length (sealed_body version body) ≡ padded_len (length (body_text version body))
unfolding sealed_body
length-sealed version body other =
    ap (λ (plain : Bool). length (if plain then body.content else padded (body_text version body))) (is_other version PLAIN other)
    ∙ length-padded (body_text version body)
