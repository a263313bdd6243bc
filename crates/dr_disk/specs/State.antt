-- What a disk tells of itself at one moment.
use Rattle.std.specs.Prelude.{◌≡◌, ℕ, List, length, Option, Some, None, Bool}
use Rattle.dr_disk.specs.declared.call.Call.{Call}
use Rattle.dr_disk.specs.declared.call.Mode.{Mode}

-- How the next writes and syncs go, where it is told: all pass; this many, and then every call
-- fails; or this many, then one fails, and from then on all pass.
pub data Fate : Type 0 where
  untold_fate : Fate
  all_pass : Fate
  some_pass : ℕ → Fate
  all_but : ℕ → Fate

-- how many pass before one that fails, where one is told to
abbrev pub to_failure : Fate → Option ℕ
to_failure untold_fate = None
to_failure all_pass = None
to_failure (some_pass n) = Some n
to_failure (all_but n) = Some n

-- what is told once that one has failed
abbrev pub after_failure : Fate → Fate
after_failure untold_fate = untold_fate
after_failure all_pass = all_pass
after_failure (some_pass n) = some_pass 0
after_failure (all_but n) = all_pass

-- A disk that tells nothing of its content has `seen` None, and `image` and `since` hold of nothing.
pub record DiskState : Type 1 where
  pub size : ℕ
  -- what a read gives
  pub seen : Option (List ℕ)
  -- what a crash now may leave
  pub image : List ℕ → Type 0
  -- a clock, and what a crash at some moment from that one on might have left
  pub moment : ℕ
  pub since : ℕ → List ℕ → Type 0
  -- how often a call of each kind has failed
  pub faults : Call → ℕ
  -- what a crash of each kind would leave now, where it is told
  pub leaves : Mode → Option (List ℕ)
  -- how many writes and syncs have passed, where it is told
  pub passed : Option ℕ
  -- how many reads were made, where it is told, those that failed among them
  pub reads : Option ℕ
  -- a write that fails leaves what reads give
  pub keeps : Bool
  pub fate : Fate

-- What holds of every disk: each image has the disk's size, and what a read gives is an image.
pub record IsLawful (disk : DiskState) : Type 0 where
  pub sized : (c : List ℕ) → disk.image c → length c ≡ disk.size
  pub seen_now : (s : List ℕ) → disk.seen ≡ Some s → disk.image s
  pub only_now : (c : List ℕ) → disk.since disk.moment c → disk.image c
  pub leaves_now : (mode : Mode) (c : List ℕ) → disk.leaves mode ≡ Some c → disk.image c

-- each image has P
abbrev pub Always : (List ℕ → Type 0) → DiskState → Type 0
Always P disk = (c : List ℕ) → disk.image c → P c

-- a crash leaves what a read gives
abbrev pub IsSettled : DiskState → Type 0
IsSettled disk = (c : List ℕ) → disk.image c → disk.seen ≡ Some c

-- what a read gives has P, where it is told
abbrev pub OnSeen : (List ℕ → Type 0) → DiskState → Type 0
OnSeen P disk = (s : List ℕ) → disk.seen ≡ Some s → P s
