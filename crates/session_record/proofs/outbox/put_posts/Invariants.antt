-- the packets so far were put
use Rattle.std.proofs.Common.{take, drop}
use Rattle.dr_base.specs.Buffer.{Puts}
use Rattle.grammar.specs.Printer.{print_items}
use Rattle.session_record.specs.Lists.{post_text}
use Rattle.session_record.proofs.outbox.put_posts.Given as goal

abbrev pub invariant-posts : goal.invariant-posts
invariant-posts l = Puts l.initial.out l.out l.at (print_items post_text (take l.i (drop l.from l.outbox))) l.next
