use Rattle.std.proofs.Common.{List, ap, arith, length, ℕ, ◌∙◌, ◌≡◌}
use Rattle.hub.specs.Lines.{fan_lines}
use Rattle.hub.proofs.PeerLines.{first_lines, next_lines, no_lines}
use Rattle.hub.proofs.lines.put_lines.Goals as goal

pub peers-init : goal.peers-init
peers-init g c = (
  first_lines g.K.Kem.mechanism c.args.left.now.acknowledged c.args.left.now.book.rows c.args.lines.now.items c.first_line.result.now
      c.put.new.lines.items c.requires.empty c.first_line.ensures.bytes c.put.ensures.bytes,
  omega (arith, c.put.ensures.len, c.first_line.ensures.len, ap (λ (l : List ℕ). length l) c.requires.empty),
)

pub put_peer-requires-clause-room : goal.put_peer-requires-clause-room
put_peer-requires-clause-room g c = omega (arith, c.peers.invariant.1, c.peers-test.true, c.requires.few)

pub returns-in-Err : goal.returns-in-Err
returns-in-Err g c =
    no_lines g.K.Kem.mechanism c.args.left.now.acknowledged c.args.left.now.book.rows c.args.peers c.peers.at c.peers-test.true
    c.peers.lines.items c.put_peer.new.lines.items c.in-Err.error c.in-Err.ensures.puts

pub peers-preserved : goal.peers-preserved
peers-preserved g c = (
  next_lines g.K.Kem.mechanism c.args.left.now.acknowledged c.args.left.now.book.rows c.peers.at c.peers.lines.items
      c.put_peer.new.lines.items c.peers.invariant.0 c.in-Ok.ensures.puts,
  omega (arith, c.peers.invariant.1, c.put_peer.ensures.len),
)

pub returns : goal.returns
returns g c =
    let end : c.peers.at ≡ c.args.peers = omega (arith, c.peers.auto.at-end, c.peers-test.false) in
    c.peers.invariant.0
    ∙ ap (λ n. fan_lines g.K.Kem.mechanism n c.args.left.now.acknowledged c.args.left.now.book.rows) end
