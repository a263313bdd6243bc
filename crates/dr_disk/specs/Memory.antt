-- Bytes in memory that stand for a disk's.
use Rattle.std.specs.Prelude.{◌≡◌, ◌-◌, ◌^◌, ℕ, Bool, false, true, nat_lt, List, [], ◌∷◌, length, replicate, slice_index, get_or, Option, Some, None, if◌then◌else◌}
use Rattle.dr_disk.specs.declared.call.Call.{Call}
use Rattle.dr_disk.specs.declared.call.Call.TheVariants.{Read, Write, Sync}
use Rattle.dr_disk.specs.declared.call.Mode.{Mode}
use Rattle.dr_disk.specs.declared.call.Mode.TheVariants.{Old, New, Fill}
use Rattle.dr_disk.specs.Bytes.{overwritten}
use Rattle.dr_disk.specs.State.{DiskState, Fate}

-- what a crash may leave: the bytes without a mark are the durable ones
pub record IsImage (durable : List ℕ) (marks : List Bool) (c : List ℕ) : Type 0 where
  pub size : length c ≡ length durable
  pub same : (i : ℕ) → get_or marks i false ≡ false → slice_index c i ≡ slice_index durable i

-- a range is marked
abbrev pub marked : List Bool → ℕ → ℕ → List Bool
marked marks at n = overwritten marks at (replicate n true)

-- one byte in each marked place
abbrev pub filled : ℕ → List ℕ → List Bool → List ℕ
filled byte [] marks = []
filled byte (d ∷ durable) [] = d ∷ durable
filled byte (d ∷ durable) (true ∷ marks) = byte ∷ filled byte durable marks
filled byte (d ∷ durable) (false ∷ marks) = d ∷ filled byte durable marks

-- what a crash of each kind leaves
abbrev pub left_by : List ℕ → List ℕ → List Bool → Mode → List ℕ
left_by durable asked marks Old = durable
left_by durable asked marks New = asked
left_by durable asked marks (Fill byte) = filled byte durable marks

-- how many reads, writes and syncs have failed, and how many reads were made
pub record Counts : Type 0 where
  pub reads : ℕ
  pub writes : ℕ
  pub syncs : ℕ
  pub tried : ℕ

abbrev pub no_faults : Counts
no_faults = record { reads = 0; writes = 0; syncs = 0; tried = 0 }

abbrev pub count_of : Counts → Call → ℕ
count_of counts Read = counts.reads
count_of counts Write = counts.writes
count_of counts Sync = counts.syncs

-- a count of a u64, which is told up to its end
abbrev pub told_count : ℕ → Option ℕ
told_count n = if nat_lt n (2 ^ 64 - 1) then Some n else None

-- the bytes as read, as the last good sync left them, and as last asked for; which are unsynced; how the next calls
-- go; how many passed and how many failed
abbrev pub memory_state : List ℕ → List ℕ → List ℕ → List Bool → Fate → ℕ → Counts → DiskState
memory_state bytes durable asked marks fate passed counts = record {
  size = length bytes;
  seen = Some bytes;
  image = IsImage durable marks;
  moment = 0;
  since = λ t c. ⊥;
  faults = count_of counts;
  leaves = λ mode. Some (left_by durable asked marks mode);
  passed = told_count passed;
  reads = told_count counts.tried;
  keeps = true;
  fate = fate;
}
