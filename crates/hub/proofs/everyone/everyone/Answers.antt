use Rattle.std.proofs.Common.{List, ap, arith, length, ℕ, ◌∙◌, ◌≡◌}
use Rattle.hub.specs.Peers.{places}
use Rattle.hub.proofs.Placing.{one_more_place, placed_next, places_long, unlisted_next}
use Rattle.hub.proofs.everyone.everyone.Goals as goal

pub peers-init : goal.peers-init
peers-init g c = (
  c.new-list.ensures,
  λ i lt. absurd (let e : ⊥ = omega (arith, lt, ap (λ (l : List ℕ). length l) c.new-list.ensures) in e),
)

pub add-requires-clause-named : goal.add-requires-clause-named
add-requires-clause-named g c =
    placed_next g.K.Kem.mechanism c.args.peers c.peers.at c.args.book.now.rows c.requires.rows c.peers-test.true c.requires.few

pub add-requires-clause-unlisted : goal.add-requires-clause-unlisted
add-requires-clause-unlisted g c = unlisted_next c.peers.at c.peers.list c.peers.invariant.0

pub add-requires-clause-room : goal.add-requires-clause-room
add-requires-clause-room g c =
    omega (arith, ap (λ (l : List ℕ). length l) c.peers.invariant.0, places_long c.peers.at)

pub add-requires-clause-listed : goal.add-requires-clause-listed
add-requires-clause-listed g c = c.peers.invariant.1

pub peers-preserved : goal.peers-preserved
peers-preserved g c = (
  one_more_place c.peers.at c.peers.list c.add.new.list c.peers.invariant.0 c.add.ensures.list,
  c.add.ensures.listed,
)

pub returns-clause-list : goal.returns-clause-list
returns-clause-list g c =
    let end : c.peers.at ≡ c.args.peers = omega (arith, c.peers.auto.at-end, c.peers-test.false) in
    c.peers.invariant.0 ∙ ap places end

pub returns-clause-listed : goal.returns-clause-listed
returns-clause-listed g c = c.peers.invariant.1
