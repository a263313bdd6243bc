use Rattle.std.proofs.Common.{◌≡◌, ◌<◌, ◌≤◌, ℕ, length, get_or}
use Rattle.dr_disk.specs.Memory.{filled}
use Rattle.dr_disk.proofs.platter.fill_marked.Given as goal

-- the places so far are filled, and the others as they were
abbrev pub invariant-places : goal.invariant-places
invariant-places l = record {
  size : length l.bytes.items ≡ length l.fn.bytes.items;
  done : (k : ℕ) → k < l.at → get_or l.bytes.items k 0 ≡ get_or (filled l.byte l.fn.bytes.items l.marks.items) k 0;
  rest : (k : ℕ) → l.at ≤ k → get_or l.bytes.items k 0 ≡ get_or l.fn.bytes.items k 0;
}
