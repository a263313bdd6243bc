use Rattle.std.proofs.Common.{◌≡◌, ◌+◌, ◌∷◌, ◌++◌, [], List, ℕ, ap, arith, length, length-append}
use Rattle.std.specs.Int.{w8}
use Rattle.grammar.specs.Printer.{print_counted, print_items}
use Rattle.grammar.proofs.Printing.{print_items-push}
use Rattle.session_record.specs.Lists.{post_of, post_text}
use Rattle.session_record.proofs.lengths.outbox_len.Goals as goal

pub returns-in-Said : goal.returns-in-Said
unfolding post_of
returns-in-Said g c =
    let outbox = c.args.outbox.now in
    let post = post_of g.K.Kem.mechanism c.in-Said.packet.now in
    let size = ap (λ (l : List ℕ). length l) (print_items-push post_text outbox post) in
    let long : 1 + c.posts_len.result + 2 + length c.in-Said.packet.now ≡ length (print_counted w8 post_text (outbox ++ post ∷ [])) =
    omega (arith, c.posts_len.ensures.len, size, length-append (print_items post_text outbox) (post_text post)) in
    rw c.in-Said.is long
