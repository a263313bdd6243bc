-- the packets so far were counted
use Rattle.std.proofs.Common.{◌≡◌, ◌≤◌, ◌*◌, take, drop, length}
use Rattle.grammar.specs.Printer.{print_items}
use Rattle.session_record.specs.declared.limits.TheConstants.{POST_LIMIT}
use Rattle.session_record.specs.Lists.{post_text}
use Rattle.session_record.proofs.lengths.posts_len.Given as goal

abbrev pub invariant-posts : goal.invariant-posts
invariant-posts l = (l.sum ≡ length (print_items post_text (take l.i (drop l.from l.outbox)))) × (l.sum ≤ POST_LIMIT * l.i)
