-- A disk that tells its size and its faults alone.
use Rattle.std.specs.Prelude.{◌≡◌, ℕ, false, Some, None}
use Rattle.dr_disk.specs.State.{DiskState, IsLawful, untold_fate}
use Rattle.dr_disk.specs.Memory.{Counts, count_of}

pub record Counted : Type 0 where
  pub size : ℕ
  pub counts : Counts

abbrev pub untold : Counted → DiskState
untold disk = record {
  size = disk.size;
  seen = None;
  image = λ c. ⊥;
  moment = 0;
  since = λ t c. ⊥;
  faults = count_of disk.counts;
  leaves = λ mode. None;
  passed = None;
  reads = None;
  keeps = false;
  fate = untold_fate;
}

pub untold_lawful : (disk : Counted) → IsLawful (untold disk)
untold_lawful disk = record {
  sized = λ c left. absurd left;
  seen_now = λ s told. absurd (let e : None ≡ Some s = told in cc);
  only_now = λ c left. absurd left;
  leaves_now = λ mode c told. absurd (let e : None ≡ Some c = told in cc);
}
