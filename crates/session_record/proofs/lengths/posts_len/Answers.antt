use Rattle.std.proofs.Common.{◌≡◌, drop, Some, sym, arith}
use Rattle.std.specs.List.{slice_get}
use Rattle.boxes.specs.Posts.{Post, post_under}
use Rattle.grammar.proofs.Printing.{print-none, slice_get-drop}
use Rattle.session_record.specs.Lists.{post_text}
use Rattle.session_record.proofs.Sizes.{size_next}
use Rattle.session_record.proofs.lengths.posts_len.Goals as goal

pub posts-init : goal.posts-init
posts-init c = rw (print-none post_text) (omega arith, omega arith)

pub posts-preserved : goal.posts-preserved
posts-preserved c =
    let list = drop c.args.from c.args.outbox.now in
    let post : Post = post_under c.in-Some.pair.0 c.in-Some.pair.1.now in
    let here : slice_get list c.posts.i ≡ Some post = slice_get-drop c.args.outbox.now c.args.from c.posts.i post (sym c.in-Some.ensures.packet) in (
      omega (arith, size_next post_text list c.posts.i post c.posts.sum here c.posts.invariant.0),
      omega (arith, c.posts.invariant.1, c.in-Some.ensures.fits),
    )
