-- the room is no longer than it shall be, in the memory that it had
use Rattle.std.proofs.Common.{◌≤◌, ◌-◌, length, vec_capacity, ℕ}
use Rattle.paged_records.proofs.kept.stretch.Given as goal

pub record Stretched (end long memory now : ℕ) : Type 0 where
  pub short : long ≤ end
  pub kept : memory ≤ now

abbrev pub invariant-pages : goal.invariant-pages
invariant-pages l =
    Stretched l.end (length l.room.items) (vec_capacity l.fn.room) (vec_capacity l.room)

abbrev pub decreases-pages : goal.decreases-pages
decreases-pages l = l.end - length l.room.items
