use Rattle.std.proofs.Common.{◌∙◌, Bool, ℕ, Some, None, ap, arith, drop, sym, if◌then◌else◌}
use Rattle.grammar.specs.Reader.{Read}
use Rattle.bodies.specs.Bodies.{Body}
use Rattle.bodies.proofs.Heads.{Head}
use Rattle.bodies.proofs.HeadsTaken.{head-ends, read-as}
use Rattle.bodies.proofs.opening.read_body.Goals as goal

pub split_at-requires : goal.split_at-requires
split_at-requires c =
    let here = c.read_head.new.cursor in
    let x : Read Head = record { value = (c.in-Ok.receipt, c.in-Ok.kind); at = here.at; rest = here.rest } in
    omega (arith, c.at.ensures, head-ends c.args.version c.args.side _ c.args.bytes.now x c.new-cursor.ensures c.in-Ok.ensures)

pub returns-then-not-is_content : goal.returns-then-not-is_content
returns-then-not-is_content c =
    let here = c.read_head.new.cursor in
    let x : Read Head = record { value = (c.in-Ok.receipt, c.in-Ok.kind); at = here.at; rest = here.rest } in
    let bytes = c.args.bytes.now in
    let content = c.split_at.result.1.now in
    let body : Body = record { receipt = c.in-Ok.receipt; kind = c.in-Ok.kind; content = content } in
    ap (λ (is : Bool). if is then Some body else None) c.if-not-is_content.ensures
    ∙ sym (read-as c.args.version c.args.side _ c.args.bytes.now x content c.new-cursor.ensures c.in-Ok.ensures
    (c.split_at.ensures.back ∙ ap (λ (n : ℕ). drop n bytes) c.at.ensures))

pub returns : goal.returns
returns c =
    let here = c.read_head.new.cursor in
    let x : Read Head = record { value = (c.in-Ok.receipt, c.in-Ok.kind); at = here.at; rest = here.rest } in
    let bytes = c.args.bytes.now in
    let content = c.split_at.result.1.now in
    let body : Body = record { receipt = c.in-Ok.receipt; kind = c.in-Ok.kind; content = content } in
    ap (λ (is : Bool). if is then Some body else None) c.if-not-is_content.ensures
    ∙ sym (read-as c.args.version c.args.side _ c.args.bytes.now x content c.new-cursor.ensures c.in-Ok.ensures
    (c.split_at.ensures.back ∙ ap (λ (n : ℕ). drop n bytes) c.at.ensures))
