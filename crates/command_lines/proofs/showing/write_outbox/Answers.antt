use Rattle.std.proofs.Common.{[], ap, arith, length, take_all, ◌<◌, ◌≤◌, ◌∙◌}
use Rattle.std.specs.Prelude.{flat_map}
use Rattle.boxes.specs.Posts.{Post, post_under}
use Rattle.dr_ports.specs.Ports.{appended}
use Rattle.session_model.specs.declared.answer.Summary.{Summary}
use Rattle.command_lines.specs.Lines.{packet_line}
use Rattle.answer_lines.proofs.Items.{cut_in_lines, took_line}
use Rattle.command_lines.proofs.showing.write_outbox.Goals as goal

-- what a place past the end gives
abbrev some : Post
some = post_under (record { epoch = 0; index = 0 }) []

pub write_packet-requires : goal.write_packet-requires
write_packet-requires g c = omega (arith, ap (λ (s : Summary). s.outbox) c.state-at-end.ensures)

pub returns-in-Err : goal.returns-in-Err
returns-in-Err g c =
    let below : c.packets.at < length c.args.core.now.outbox =
    omega (arith, ap (λ (s : Summary). s.outbox) c.state-at-end.ensures) in
    cut_in_lines packet_line _ _ _ c.args.core.now.outbox c.packets.at some _ below c.packets.invariant.written
    c.packets.invariant.quiet (c.in-Err.ensures some)

pub packets-preserved : goal.packets-preserved
packets-preserved g c =
    let below : c.packets.at < length c.args.core.now.outbox =
    omega (arith, ap (λ (s : Summary). s.outbox) c.state-at-end.ensures) in
    let writes = c.in-Ok.ensures some in
    record {
      written = took_line packet_line _ _ _ c.args.core.now.outbox c.packets.at some below c.packets.invariant.written writes.whole;
      quiet = writes.cause.passed ∙ c.packets.invariant.quiet;
    }

pub returns : goal.returns
returns g c =
    let all : length c.args.core.now.outbox ≤ c.packets.at =
    omega (arith, ap (λ (s : Summary). s.outbox) c.state-at-end.ensures) in
    record {
      whole =
          c.packets.invariant.written
          ∙ ap (λ posts. appended (g.O.Sink.at c.args.out.now).taken (flat_map packet_line posts)) (take_all c.packets.at c.args.core.now.outbox all);
      part = tt;
      cause = record { later = omega (arith, c.packets.invariant.quiet); failed = tt; passed = c.packets.invariant.quiet };
    }
