use Rattle.std.proofs.Common.{List, Some, refl, subst, sym, ℕ, ◌≡◌}
use Rattle.boxes.specs.Posts.{post_under}
use Rattle.command_lines.specs.Inputs.{packet_in_hex}
use Rattle.command_tests.proofs.Pieces.{stands_at}
use Rattle.command_tests.proofs.whole_talks.packet_of.Goals as goal

pub returns : goal.returns
returns g c =
    let post = post_under c.in-Some.field-0-0 c.in-Some.packet.now in
    record {
      post = post;
      hex = subst (λ (digits : List ℕ). packet_in_hex digits ≡ Some c.in-Some.packet.now) c.as_slice.ensures.value
          (c.in_ok-are_of.ensures c.if-not-branch.false);
      posted = record {
        kept = c.in-Ok.client.kept;
        held = c.in-Ok.ensures.opened.read;
        bytes = c.args.disk.now.platter.bytes.items;
        told = refl;
        stands = stands_at c.in-Ok.client.kept.outbox 0 post (sym c.in-Some.ensures.packet);
      };
    }
