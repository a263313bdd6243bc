use Rattle.std.proofs.Common.{◌≡◌, drop, Some, sym, arith, length}
use Rattle.std.specs.List.{slice_get}
use Rattle.boxes.specs.Posts.{Post, post_under}
use Rattle.grammar.proofs.Printing.{slice_get-drop}
use Rattle.grammar.proofs.Putting.{puts_no_items, puts_next, room_next}
use Rattle.session_record.specs.Lists.{post_text}
use Rattle.session_record.proofs.outbox.put_posts.Goals as goal

pub posts-init : goal.posts-init
posts-init c = puts_no_items post_text c.args.out.now c.args.at

pub put_post-next-requires-clause-room : goal.put_post-next-requires-clause-room
put_post-next-requires-clause-room c =
    let list = drop c.args.from c.args.outbox.now in
    let post : Post = post_under c.in-Some.pair.0 c.in-Some.pair.1.now in
    let here : slice_get list c.posts.i ≡ Some post = slice_get-drop c.args.outbox.now c.args.from c.posts.i post (sym c.in-Some.ensures.packet) in
    let room = room_next post_text list c.posts.i post (length c.args.out.now) here c.posts.invariant c.requires.room in
    omega (arith, room, c.posts.auto.out)

pub posts-preserved : goal.posts-preserved
posts-preserved c =
    let list = drop c.args.from c.args.outbox.now in
    let post : Post = post_under c.in-Some.pair.0 c.in-Some.pair.1.now in
    let here : slice_get list c.posts.i ≡ Some post = slice_get-drop c.args.outbox.now c.args.from c.posts.i post (sym c.in-Some.ensures.packet) in
    puts_next post_text list c.posts.i post here c.posts.invariant (c.put_post-next.ensures c.in-Some.pair.0)
