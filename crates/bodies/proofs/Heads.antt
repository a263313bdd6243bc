-- What a packet has before the content, and a body after it.
use Rattle.std.proofs.Common.{◌≡◌, ℕ, ◌+◌, ◌^◌, ◌<◌, ◌==◌, Bool, true, false, List, [], ◌++◌, Option, Some, None, Result, Ok, Err, refl, sym, ◌∙◌, ap, subst, arith, if◌then◌else◌}
use Rattle.std.specs.Int.{w8, to_be_bytes}
use Rattle.dr_base.specs.Bytes.{AreBytes}
use Rattle.dr_base.specs.declared.position.Side.{Side}
use Rattle.dr_base.proofs.Widths.{exact8}
use Rattle.grammar.specs.Grammar.{IsGrammar, WasPrinted, reading}
use Rattle.grammar.specs.Reader.{Read, Reader, both, gives, number}
use Rattle.grammar.proofs.Fields.{number_grammar}
use Rattle.grammar.proofs.Combined.{both_grammar}
use Rattle.bodies.specs.Bodies.{Body, body_read, body_text, head_field, body_head, with_content}
use Rattle.bodies.specs.Receipts.{Receipt, receipt_field, receipt_text}
use Rattle.dr_base.specs.declared.limits.TheConstants.{RECEIPTS}
use Rattle.boxes.specs.Parts.{is_content}
use Rattle.boxes.specs.declared.kinds.TheConstants.{TEXT_KIND}
use Rattle.bodies.proofs.Passing.{PassesOrNone}
use Rattle.bodies.proofs.ReceiptGrammar.{receipt_grammar}

-- a receipt and a kind
abbrev pub Head : Type 0
Head = Option Receipt × ℕ

abbrev pub head_of : Body → Head
head_of body = (body.receipt, body.kind)

-- ---- by whether a packet has them

abbrev text_by : Bool → Head → List ℕ
text_by told e = if told then receipt_text e.0 ++ to_be_bytes w8 e.1 else []

abbrev field_by : Bool → Side → Reader Head
field_by told side at bytes =
    if told then both (receipt_field side) (λ _. number w8) at bytes else gives (None, TEXT_KIND) at bytes

abbrev pub PassesHead : Bool → Side → Head → Type 0
PassesHead true side e = PassesOrNone side e.0 × (e.1 < 2 ^ 8)
PassesHead false side e = e ≡ (None, TEXT_KIND)

reads_none : (side : Side) (e : Head) (at : ℕ) (rest : List ℕ) → PassesHead false side e
    → field_by false side at (text_by false e ++ rest) ≡ reading e at (text_by false e) rest
reads_none side e at rest is =
    let here : at ≡ at + 0 = omega arith in
    ap (λ (n : ℕ). Ok (record { value = (None, TEXT_KIND); at = n; rest = rest })) here
    ∙ ap (λ (h : Head). Ok (record { value = h; at = at + 0; rest = rest })) (sym is)

only_none : (side : Side) (at : ℕ) (bytes : List ℕ) (x : Read Head) → AreBytes bytes
    → field_by false side at bytes ≡ Ok x → WasPrinted (text_by false) (PassesHead false side) at bytes x
only_none side at bytes x are h =
    let given : Ok (record { value = (None, TEXT_KIND); at = at; rest = bytes }) ≡ Ok x = h in
    let same : record { value = (None, TEXT_KIND); at = at; rest = bytes } ≡ x = cc in
    subst (WasPrinted (text_by false) (PassesHead false side) at bytes) same
    (record { text = refl; lawful = refl; behind = omega arith; rest_bytes = are })

grammar_by : (told : Bool) (side : Side) → IsGrammar (text_by told) (PassesHead told side) (field_by told side)
grammar_by true side =
    both_grammar receipt_text (PassesOrNone side) _ (λ _. to_be_bytes w8) (λ _ n. n < 2 ^ 8) _ (receipt_grammar side)
    (λ _ _. number_grammar w8 (2 ^ 8) exact8)
grammar_by false side = record { reads = reads_none side; only = only_none side }

-- ---- by the version

abbrev printed : ℕ → Head → List ℕ
printed version = text_by (version == RECEIPTS)

head_grammar : (version : ℕ) (side : Side)
    → IsGrammar (printed version) (PassesHead (version == RECEIPTS) side) (head_field version side)
unfolding head_field
head_grammar version side = grammar_by (version == RECEIPTS) side

pub body_head-is : (version : ℕ) (body : Body)
    → body_head version body ≡ (if version == RECEIPTS then receipt_text body.receipt ++ to_be_bytes w8 body.kind else [])
unfolding body_head
body_head-is version body = refl

-- ---- the rest is the content

pub record Passes (version : ℕ) (side : Side) (body : Body) : Type 0 where
  pub head : PassesHead (version == RECEIPTS) side (head_of body)
  pub content : is_content body.kind body.content ≡ true

chosen : (b : Bool) (body : Body) → b ≡ true → (if b then Some body else None) ≡ Some body
chosen true body h = refl
chosen false body h = cc

pub body-reads : (version : ℕ) (side : Side) (body : Body) → Passes version side body
    → body_read version side (body_text version body) ≡ Some body
body-reads version side body passes =
    ap (λ (t : List ℕ). body_read version side (t ++ body.content)) (body_head-is version body)
    ∙ ap with_content ((head_grammar version side).reads (head_of body) 0 body.content passes.head)
    ∙ chosen (is_content body.kind body.content) body passes.content

abbrev made_of : Read Head → Body
made_of x = record { receipt = x.value.0; kind = x.value.1; content = x.rest }

-- the content passed, and this is the body
pub record HasContent (x : Read Head) (body : Body) : Type 0 where
  pub passes : is_content x.value.1 x.rest ≡ true
  pub is : made_of x ≡ body

from_content : (b : Bool) (x : Read Head) (body : Body) → is_content x.value.1 x.rest ≡ b
    → (if b then Some (made_of x) else None) ≡ Some body → HasContent x body
from_content true x body passes h = let e : Some (made_of x) ≡ Some body = h in record { passes = passes; is = cc }
from_content false x body passes h = cc

pub from_head : (r : Result (Read Head) ℕ) (body : Body) → with_content r ≡ Some body
    → (x : Read Head) × (r ≡ Ok x) × HasContent x body
from_head (Err at) body h = cc
from_head (Ok x) body h = (x, refl, from_content (is_content x.value.1 x.rest) x body refl h)

pub record WasBody (version : ℕ) (side : Side) (bytes : List ℕ) (body : Body) : Type 0 where
  pub text : bytes ≡ body_text version body
  pub passes : Passes version side body

pub body-only : (version : ℕ) (side : Side) (bytes : List ℕ) (body : Body) → AreBytes bytes
    → body_read version side bytes ≡ Some body → WasBody version side bytes body
body-only version side bytes body are h =
    let from = from_head (head_field version side 0 bytes) body h in
    let x = from.0 in
    let was = (head_grammar version side).only 0 bytes x are from.1 in
    subst (WasBody version side bytes) from.2.is
    (record {
      text = was.text ∙ ap (λ (t : List ℕ). t ++ x.rest) (sym (body_head-is version (made_of x)));
      passes = record { head = was.lawful; content = from.2.passes };
    })
