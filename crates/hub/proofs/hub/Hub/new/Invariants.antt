use Rattle.std.proofs.Common.{ℕ, ◌≡◌, ◌≤◌}
use Rattle.hub.specs.Beginning.{IsBegun}
use Rattle.hub.specs.Peers.{begun_rows}
use Rattle.hub.proofs.hub.Hub.new.Given as goal

abbrev pub invariant-peers : goal.invariant-peers
invariant-peers g l =
    (l.hub.rows ≡ begun_rows g.K.Kem.mechanism l.peers l.at) × (l.hub.store.rows ≡ l.peers)
    × ((number : ℕ) → 1 ≤ number → number ≤ l.at → IsBegun g.K.Kem.mechanism number)
