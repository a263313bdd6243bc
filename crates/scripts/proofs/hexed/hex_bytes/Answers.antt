use Rattle.std.proofs.Common.{arith}
use Rattle.std.proofs.lemmas.Grind.{common_steps}
use Rattle.scripts.proofs.hexed.hex_bytes.Goals as goal

pub slice_bounds-room-end-then-is_ok : goal.slice_bounds-room-end-then-is_ok
slice_bounds-room-end-then-is_ok c = grind (arith, common_steps)

pub slice_bounds-try_extend_from_slice-end : goal.slice_bounds-try_extend_from_slice-end
slice_bounds-try_extend_from_slice-end c = grind (arith, common_steps)

pub unwrap-requires : goal.unwrap-requires
unwrap-requires c = grind (arith, common_steps)
