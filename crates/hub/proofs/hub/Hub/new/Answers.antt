use Rattle.std.proofs.Common.{arith, refl, subst, ℕ, ◌≡◌, ◌≤◌}
use Rattle.hub.specs.Beginning.{IsBegun}
use Rattle.hub.proofs.Begun.{fresh_next, is_hub, no_hub, one_more_begun, room_next}
use Rattle.hub.proofs.hub.Hub.new.Goals as goal

pub begin_one-requires-clause-fresh : goal.begin_one-requires-clause-fresh
begin_one-requires-clause-fresh g c =
    fresh_next g.K.Kem.mechanism c.args.peers c.peers.at c.peers.hub.rows c.peers.invariant.0 c.peers-test.true c.requires

pub begin_one-requires-clause-room : goal.begin_one-requires-clause-room
begin_one-requires-clause-room g c =
    room_next g.K.Kem.mechanism c.args.peers c.peers.at c.peers.hub.rows c.peers.invariant.0 c.peers-test.true

pub returns-in-Err-begin_one : goal.returns-in-Err-begin_one
returns-in-Err-begin_one g c =
    no_hub g.K.Kem.mechanism c.args.peers c.peers.at c.peers.hub.rows c.peers.invariant.0 c.peers-test.true c.peers.hub
    c.begin_one.new.self c.in-Err-begin_one.error c.in-Err-begin_one.ensures

pub peers-preserved : goal.peers-preserved
peers-preserved g c =
    one_more_begun g.K.Kem.mechanism c.args.peers c.peers.at c.peers.hub.rows c.peers.invariant.0 c.peers-test.true c.peers.hub
    c.begin_one.new.self refl c.peers.invariant.1 c.peers.invariant.2 c.in-Ok-begin_one.ensures

pub returns : goal.returns
returns g c =
    let end : c.peers.at ≡ c.args.peers = omega (arith, c.peers.auto.at-end, c.peers-test.false) in
    is_hub g.K.Kem.mechanism c.args.peers
    (subst (λ n. (number : ℕ) → 1 ≤ number → number ≤ n → IsBegun g.K.Kem.mechanism number) end c.peers.invariant.2)
    c.peers.at c.peers.hub end c.peers.invariant.0 c.peers.invariant.1
