use Rattle.std.proofs.Common.{◌≡◌, take, None}
use Rattle.std.specs.Prelude.{find}
use Rattle.dr_base.specs.Position.{is_at}
use Rattle.duet.proofs.network.held_at.Given as goal

abbrev pub invariant-posts : goal.invariant-posts
invariant-posts l = find (λ post. is_at l.fn.position post.position) (take l.post-index l.posts) ≡ None
