-- Where a relay does its work: what it is given, and that nothing fails.
use Rattle.std.specs.Prelude.{List, Some, slice_get, ℕ, ◌≡◌}
use Rattle.dr_disk.specs.State.{DiskState}
use Rattle.dr_disk.specs.declared.call.Call.{Call}
use Rattle.dr_ports.specs.Ports.{Rose}
use Rattle.dr_ports.specs.Wires.{Port}
use Rattle.dr_ports.specs.declared.pipe.Part.TheVariants.{Gate}
use Rattle.relay_core.specs.Boxes.{Box}
use Rattle.relay_core.specs.declared.spec.BoxSpec.{BoxSpec}
use Rattle.relay_server.specs.Opening.{GivesBox}
use Rattle.relay_server.specs.Reading.{area_read}
use Rattle.relay_command.specs.Names.{AreNames, specs_of}

-- The words name boxes. The disk's bytes are told, and give a box for each word: no area is
-- damaged, and none has the record of another box, or of its box with other keys.
pub record MayServe (words : List (List ℕ)) (disk : DiskState) : Type 0 where
  pub names : AreNames words
  pub bytes : List ℕ
  pub told : disk.seen ≡ Some bytes
  pub gives : (k : ℕ) (spec : BoxSpec) → slice_get (specs_of words) k ≡ Some spec
      → (box : Box) × GivesBox spec box (area_read k bytes)

-- between two moments no call on the disk failed, and no listening or accepting of the door
pub record NoneFailed (start now : DiskState) (from door : Port) : Type 0 where
  pub disk : (call : Call) → Rose (start.faults call) (now.faults call) → ⊥
  pub gate : Rose (from.faults Gate) (door.faults Gate) → ⊥
