use Rattle.std.proofs.Common.{Some, sym, ◌∙◌, ap}
use Rattle.std.specs.Prelude.{option_map}
use Rattle.boxes.specs.Posts.{Post}
use Rattle.dr_base.specs.Position.{is_at}
use Rattle.duet.proofs.Finding.{found_here, none_more}
use Rattle.duet.proofs.network.held_at.Goals as goal

pub returns-then-is_at-clause-packet : goal.returns-then-is_at-clause-packet
returns-then-is_at-clause-packet c =
    let here = ap (λ (post : Post). is_at c.args.position post.position) (sym c.post-item.is) ∙ sym c.is_at.ensures ∙ c.if-is_at.true in
    ap Some (c.packet.ensures.value ∙ ap (λ (post : Post). post.packet) c.post-item.is)
    ∙ sym (ap (option_map (λ (post : Post). post.packet)) (found_here (λ post. is_at c.args.position post.position) c.args.posts.now c.posts.post-index c.post-item.result c.posts-test.true c.posts.invariant here))

pub posts-preserved : goal.posts-preserved
posts-preserved c =
    let here = ap (λ (post : Post). is_at c.args.position post.position) (sym c.post-item.is) ∙ sym c.is_at.ensures ∙ c.if-is_at.false in
    none_more (λ post. is_at c.args.position post.position) c.args.posts.now c.posts.post-index c.post-item.result c.posts-test.true c.posts.invariant here
