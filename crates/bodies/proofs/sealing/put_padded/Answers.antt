use Rattle.std.proofs.Common.{◌≡◌, ◌++◌, List, ℕ, ap, replicate, subst}
use Rattle.std.specs.Int.{w16, to_be_bytes}
use Rattle.dr_base.specs.Buffer.{Puts}
use Rattle.dr_base.proofs.Putting.{then_puts}
use Rattle.bodies.specs.Bodies.{Body, body_text, body_head}
use Rattle.bodies.specs.Padding.{filling, padded}
use Rattle.bodies.proofs.sealing.put_padded.Goals as goal

pub returns : goal.returns
unfolding padded
returns c =
    let head = body_head c.args.version c.args.body.now in
    let content : c.body.inside.content.now ≡ c.args.body.now.content = ap (λ (b : Body). b.content) c.body.view_is in
    let text =
    subst (λ (t : List ℕ). Puts c.put_u16-at_head.new.out c.put-at_zeros.new.out c.put_u16-at_head.result (head ++ t) c.put-at_zeros.result)
    content (then_puts c.put_head-at_content.ensures c.put-at_zeros.ensures) in
    subst (λ (n : ℕ). Puts c.args.out.now c.put_filling.new.out c.args.at
    ((to_be_bytes w16 n ++ body_text c.args.version c.args.body.now) ++ replicate (filling n) 0) c.put_filling.result)
    c.text_len-len.ensures.value (then_puts (then_puts c.put_u16-at_head.ensures text) c.put_filling.ensures)
