use Rattle.std.proofs.Common.{◌≡◌, ◌+◌, ◌∷◌, ◌++◌, [], List, length, ap, arith, length-append, ℕ, sym, ◌∙◌}
use Rattle.std.proofs.lemmas.List.{length_push}
use Rattle.grammar.specs.Printer.{print_items}
use Rattle.grammar.proofs.Printing.{print_items-push}
use Rattle.dr_base.proofs.Putting.{then_puts}
use Rattle.session_record.specs.Lists.{post_of, post_text}
use Rattle.session_record.proofs.outbox.put_more.Goals as goal

pub put_posts-at_last-requires-clause-room : goal.put_posts-at_last-requires-clause-room
unfolding post_of
put_posts-at_last-requires-clause-room g c =
    let post = post_of g.K.Kem.mechanism c.args.packet.now in
    let size = ap (λ (l : List ℕ). length l) (print_items-push post_text c.args.outbox.now post) in
    omega (arith, size, length-append (print_items post_text c.args.outbox.now) (post_text post), c.requires.room, c.put_u8-at_first.ensures.next_is)

pub put_post-requires-clause-room : goal.put_post-requires-clause-room
unfolding post_of
put_post-requires-clause-room g c =
    let post = post_of g.K.Kem.mechanism c.args.packet.now in
    let size = ap (λ (l : List ℕ). length l) (print_items-push post_text c.args.outbox.now post) in
    omega (arith, size, length-append (print_items post_text c.args.outbox.now) (post_text post), c.requires.room, c.put_u8-at_first.ensures.next_is, c.put_posts-at_last.ensures.next_is)

pub returns : goal.returns
unfolding post_of
returns g c =
    let post = post_of g.K.Kem.mechanism c.args.packet.now in
    let count : c.len.result + 1 ≡ length (c.args.outbox.now ++ post_of g.K.Kem.mechanism c.args.packet.now ∷ []) =
    ap (λ n. n + 1) c.len.ensures.value ∙ sym (length_push c.args.outbox.now post) in
    rw (print_items-push post_text c.args.outbox.now post)
    (then_puts (rw count at c.put_u8-at_first.ensures) (then_puts c.put_posts-at_last.ensures (c.put_post.ensures post.position)))
