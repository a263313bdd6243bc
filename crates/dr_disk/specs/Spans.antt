-- What may have happened on a disk between two moments.
use Rattle.std.specs.Prelude.{◌≡◌, ◌⊎◌, ℕ, ◌+◌, ◌≤◌, List, Some}
use Rattle.dr_disk.specs.declared.call.Call.{Call}
use Rattle.dr_disk.specs.Bytes.{Torn}
use Rattle.dr_disk.specs.State.{DiskState, after_failure, all_pass, to_failure}

-- the count of writes and syncs that passed doesn't fall, where it is told
abbrev pub HavePassedAtLeast : DiskState → DiskState → Type 0
HavePassedAtLeast a b = (m : ℕ) → b.passed ≡ Some m → (l : ℕ) × (a.passed ≡ Some l) × (l ≤ m)

-- Where n more writes and syncs are told to pass at a before one fails, and b tells of that one
-- too: how many are left before it, and that the others have passed.
pub record Gone (n : ℕ) (a b : DiskState) : Type 0 where
  pub left : ℕ
  pub fate : to_failure b.fate ≡ Some left
  pub behind : after_failure b.fate ≡ after_failure a.fate
  pub counted : (l m : ℕ) → a.passed ≡ Some l → b.passed ≡ Some m → m + left ≡ l + n

-- where that one has failed meanwhile, and all pass from then on: that the n have passed
pub record HasFailed (n : ℕ) (a b : DiskState) : Type 0 where
  pub behind : after_failure a.fate ≡ all_pass
  pub fate : b.fate ≡ all_pass
  pub counted : (l m : ℕ) → a.passed ≡ Some l → b.passed ≡ Some m → l + n ≤ m

abbrev pub HaveGone : DiskState → DiskState → Type 0
HaveGone a b = (n : ℕ) → to_failure a.fate ≡ Some n → Gone n a b ⊎ HasFailed n a b

-- where a call is told to fail at a, one is told to at b
abbrev pub FailsLater : DiskState → DiskState → Type 0
FailsLater a b = (n : ℕ) → to_failure a.fate ≡ Some n → (left : ℕ) × (to_failure b.fate ≡ Some left)

-- where n are told to pass at a before one fails: they have passed, which is counted, and it failed
abbrev pub HasFailedAsTold : DiskState → DiskState → Type 0
HasFailedAsTold a b = (n : ℕ) → to_failure a.fate ≡ Some n
    → (b.fate ≡ after_failure a.fate) × (l : ℕ) × (a.passed ≡ Some l) × (b.passed ≡ Some (l + n))

-- where it is told what a read gives at a, it is told at b
abbrev pub StaysTold : DiskState → DiskState → Type 0
StaysTold a b = (s : List ℕ) → a.seen ≡ Some s → (r : List ℕ) × (b.seen ≡ Some r)

-- From a on until b: a crash at each moment leaves what has P, or what one at a might have left.
-- The size stays, no count falls, the clock doesn't go back, and what a read gives stays told, as
-- does that all calls pass.
pub record Span (a b : DiskState) (P : List ℕ → Type 0) : Type 0 where
  pub size : b.size ≡ a.size
  pub counts : (call : Call) → a.faults call ≤ b.faults call
  pub later : a.moment ≤ b.moment
  pub passes : HavePassedAtLeast a b
  pub keeps : b.keeps ≡ a.keeps
  pub fates : HaveGone a b
  pub all : a.fate ≡ all_pass → b.fate ≡ all_pass
  pub told : StaysTold a b
  pub each : (t : ℕ) (c : List ℕ) → t ≤ a.moment → b.since t c → a.since t c ⊎ P c
  -- also for a disk that tells nothing of moments past
  pub last : (c : List ℕ) → b.image c → a.image c ⊎ P c

-- one call goes by: no crash meanwhile leaves anything but what one before it, or one after it, might leave
abbrev pub GoesBy : DiskState → DiskState → Type 0
GoesBy a b = Span a b b.image

-- no call between the two moments failed
abbrev pub IsQuiet : DiskState → DiskState → Type 0
IsQuiet a b = (call : Call) → b.faults call ≡ a.faults call

-- this many writes and syncs passed between the two moments
abbrev pub HavePassed : ℕ → DiskState → DiskState → Type 0
HavePassed n a b = (m : ℕ) → b.passed ≡ Some m → (l : ℕ) × (a.passed ≡ Some l) × (m ≡ l + n)

-- outside a range the bytes are those of an image of that moment
abbrev pub Frame : DiskState → ℕ → ℕ → List ℕ → Type 0
Frame start at n c = (d : List ℕ) × start.image d × Torn at n d c

-- outside a range a read gives what it gave
abbrev pub ReadsOutside : ℕ → ℕ → DiskState → DiskState → Type 0
ReadsOutside at n a b = (s : List ℕ) → b.seen ≡ Some s → (r : List ℕ) × (a.seen ≡ Some r) × Torn at n r s
