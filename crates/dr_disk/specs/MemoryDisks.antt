-- What the disks in memory show.
use Rattle.std.specs.Prelude.{◌≡◌, ◌-◌, ℕ, true, List, length, replicate, Some}
use Rattle.dr_disk.specs.declared.call.Call.{Call}
use Rattle.dr_disk.specs.declared.call.Mode.{Mode}
use Rattle.dr_disk.specs.declared.memory.MemoryDisk.{MemoryDisk}
use Rattle.dr_disk.specs.State.{DiskState, IsSettled, all_but, all_pass, some_pass}
use Rattle.dr_disk.specs.Memory.{memory_state}

abbrev pub state_of : MemoryDisk → DiskState
state_of disk = memory_state disk.platter.bytes.items disk.platter.durable.items
    disk.platter.asked.items disk.platter.marks.items disk.meter.fate disk.meter.passed
    (record { reads = disk.reads; writes = disk.writes; syncs = disk.syncs; tried = disk.tried })

-- this many more writes and syncs pass, which are counted anew, and then every call fails
abbrev pub stopped_after : ℕ → MemoryDisk → MemoryDisk
stopped_after n disk = record disk { meter = record { fate = some_pass n; passed = 0 } }

-- the k-th further write or sync fails, counted anew from 1, and all others pass
abbrev pub failing_at : ℕ → MemoryDisk → MemoryDisk
failing_at k disk = record disk { meter = record { fate = all_but (k - 1); passed = 0 } }

-- all calls pass
abbrev pub going_on : MemoryDisk → MemoryDisk
going_on disk = record disk { meter = record disk.meter { fate = all_pass } }

-- A disk whose bytes are these, with none unsynced. All its calls will pass.
pub record IsFresh (bytes : List ℕ) (disk : DiskState) : Type 0 where
  pub size : disk.size ≡ length bytes
  pub seen : disk.seen ≡ Some bytes
  pub settled : IsSettled disk
  pub leaves : (mode : Mode) → disk.leaves mode ≡ Some bytes
  pub keeps : disk.keeps ≡ true
  pub fate : disk.fate ≡ all_pass

-- a new disk of this many zeros: no call has passed or failed
pub record IsBlank (size : ℕ) (disk : DiskState) : Type 0 where
  pub fresh : IsFresh (replicate size 0) disk
  pub passed : disk.passed ≡ Some 0
  pub reads : disk.reads ≡ Some 0
  pub faults : (call : Call) → disk.faults call ≡ 0

-- what a crash left, which counts on as before
pub record IsLeftBy (mode : Mode) (was now : DiskState) : Type 0 where
  pub bytes : List ℕ
  pub left : was.leaves mode ≡ Some bytes
  pub fresh : IsFresh bytes now
  pub passed : now.passed ≡ was.passed
  pub reads : now.reads ≡ was.reads
  pub faults : (call : Call) → now.faults call ≡ was.faults call
