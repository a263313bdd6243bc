use Rattle.std.proofs.Common.{◌≡◌, ◌-◌, ◌≤◌, length, take}
use Rattle.std.specs.Prelude.{filter}
use Rattle.dr_model.specs.Machines.Network.{is_from_peer}
use Rattle.duet.proofs.network.held_nth.Given as goal

abbrev pub invariant-posts : goal.invariant-posts
invariant-posts l = record {
  counted : l.left ≡ l.fn.nth - length (filter (is_from_peer l.fn.side) (take l.post-index l.posts));
  more : 1 ≤ l.fn.nth → 1 ≤ l.left;
}
