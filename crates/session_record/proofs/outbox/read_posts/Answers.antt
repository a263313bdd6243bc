use Rattle.std.proofs.Common.{◌≡◌, ◌∙◌, ◌+◌, ◌∷◌, ◌++◌, [], List, length, ap, arith, rules}
use Rattle.std.proofs.lemmas.List.{length_push}
use Rattle.std.proofs.lemmas.Result.{err_from_is_err_and}
use Rattle.boxes.specs.Posts.{Post, post_under}
use Rattle.grammar.specs.Reader.{Read}
use Rattle.grammar.proofs.Loops.{items-none, items-more, items-fault}
use Rattle.session_record.specs.Lists.{post_field}
use Rattle.session_record.proofs.outbox.read_posts.Goals as goal

pub posts-init : goal.posts-init
posts-init g c =
    let start = c.args.cursor.now in
    let field = post_field g.K.Kem.mechanism c.args.heading.now.version c.args.heading.now.session c.args.heading.now.side c.args.heading.now.epoch in
    record {
      read = rw c.requires.empty (items-none (λ _. field) start.at start.rest);
      long = ap (λ (l : List Post). length l) c.requires.empty;
    }

pub returns-in_err-position : goal.returns-in_err-position
returns-in_err-position g c =
    let start = c.args.cursor.now in
    let here = c.posts.cursor in
    let field = post_field g.K.Kem.mechanism c.args.heading.now.version c.args.heading.now.session c.args.heading.now.side c.args.heading.now.epoch in
    let before : Read (List Post) = record { value = c.posts.outbox; at = here.at; rest = here.rest } in
    let p = err_from_is_err_and c.from_residual.result c.from_residual.ensures.1 in
    rw (p.1, p.2)
    (items-fault (λ _. field) start.at start.rest c.posts.counter before c.in_err-position.field-0.0
    c.posts.invariant.read c.in_err-position.ensures.reads c.args.count (omega arith))

pub posts-preserved : goal.posts-preserved
posts-preserved g c =
    let start = c.args.cursor.now in
    let here = c.posts.cursor in
    let next = c.read_post.new.cursor in
    let field = post_field g.K.Kem.mechanism c.args.heading.now.version c.args.heading.now.session c.args.heading.now.side c.args.heading.now.epoch in
    let post : Post = post_under c.in_ok-position.position c.in_ok-position.packet.now in
    let before : Read (List Post) = record { value = c.posts.outbox; at = here.at; rest = here.rest } in
    let one : Read Post = record { value = post; at = next.at; rest = next.rest } in
    let pushed : c.push.new.self ≡ c.posts.outbox ++ post_under c.in_ok-position.position c.in_ok-position.packet.now ∷ [] = search rules in
    let more = items-more (λ _. field) start.at start.rest c.posts.counter before one c.posts.invariant.read c.in_ok-position.ensures.reads in
    record {
      read = rw pushed more;
      long = ap (λ (l : List Post). length l) pushed ∙ length_push c.posts.outbox post ∙ ap (λ n. n + 1) c.posts.invariant.long;
    }
