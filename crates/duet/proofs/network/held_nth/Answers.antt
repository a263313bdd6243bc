use Rattle.std.proofs.Common.{Some, sym, ◌∙◌, ap}
use Rattle.boxes.specs.Posts.{Post}
use Rattle.dr_model.specs.Machines.Network.{is_from_peer}
use Rattle.duet.proofs.Finding.{nth_here, too_few}
use Rattle.duet.proofs.network.held_nth.Goals as goal

pub returns-then-left-eq1-clause-packet : goal.returns-then-left-eq1-clause-packet
returns-then-left-eq1-clause-packet c =
    let here = ap (is_from_peer c.args.side) (sym c.post-item.is) ∙ sym c.is_from_peer.ensures ∙ c.if-is_from_peer.true in
    ap Some (c.packet.ensures.value ∙ ap (λ (post : Post). post.packet) c.post-item.is)
    ∙ sym (nth_here c.args.posts.now c.args.side c.args.nth c.posts.left c.posts.post-index c.post-item.result c.posts-test.true c.posts.invariant.counted c.if-left-eq1.true here)

pub returns-clause-packet : goal.returns-clause-packet
returns-clause-packet c = sym (too_few c.args.posts.now c.args.side c.args.nth c.posts.left c.posts.post-index c.posts-test.false c.posts.invariant.counted c.posts.invariant.more)
