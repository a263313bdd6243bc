-- Disks in memory with no byte unsynced.
use Rattle.std.proofs.Common.{◌≡◌, ℕ, Bool, true, false, List, [], ◌∷◌, length, replicate, Some, refl, ◌∙◌, ap, get_or, suc}
use Rattle.dr_disk.specs.declared.call.Mode.{Mode}
use Rattle.dr_disk.specs.declared.call.Call.TheVariants.{Read, Write, Sync}
use Rattle.dr_disk.specs.declared.call.Mode.TheVariants.{Old, New, Fill}
use Rattle.dr_disk.specs.Memory.{Counts, filled, left_by, memory_state}
use Rattle.dr_disk.specs.State.{Fate, all_pass}
use Rattle.dr_disk.specs.MemoryDisks.{IsBlank, IsFresh, IsLeftBy}
use Rattle.dr_disk.proofs.Tears.{no_mark, settled_seen}

-- with no mark nothing is filled
filled_unmarked : (byte : ℕ) (durable : List ℕ) (marks : List Bool) → ((i : ℕ) → get_or marks i false ≡ false) → filled byte durable marks ≡ durable
filled_unmarked byte [] marks none = refl
filled_unmarked byte (d ∷ durable) [] none = refl
filled_unmarked byte (d ∷ durable) (m ∷ marks) none = by m (none 0) (filled_unmarked byte durable marks (λ i. none (suc i)))
  where
    by : (m : Bool) → m ≡ false → filled byte durable marks ≡ durable → filled byte (d ∷ durable) (m ∷ marks) ≡ d ∷ durable
    by true is rest = absurd (let e : true ≡ false = is in cc)
    by false is rest = ap (λ (l : List ℕ). d ∷ l) rest

-- the bytes of a disk that is settled in all three
pub fresh : (was bytes durable asked : List ℕ) (marks : List Bool) (n passed : ℕ) (counts : Counts) → bytes ≡ was → durable ≡ was → asked ≡ was → marks ≡ replicate n false
    → IsFresh was (memory_state bytes durable asked marks all_pass passed counts)
fresh was bytes durable asked marks n passed counts read kept last unmarked = record {
  size = ap (λ (l : List ℕ). length l) read;
  seen = ap (λ (l : List ℕ). Some l) read;
  settled = settled_seen was bytes durable marks n read kept unmarked;
  leaves = leaves;
  keeps = refl;
  fate = refl;
}
  where
    leaves : (mode : Mode) → Some (left_by durable asked marks mode) ≡ Some was
    leaves Old = ap (λ (l : List ℕ). Some l) kept
    leaves New = ap (λ (l : List ℕ). Some l) last
    leaves (Fill byte) = ap (λ (l : List ℕ). Some l) (filled_unmarked byte durable marks (λ i. ap (λ (m : List Bool). get_or m i false) unmarked ∙ no_mark n i) ∙ kept)

pub blank : (size : ℕ) (bytes durable asked : List ℕ) (marks : List Bool) → bytes ≡ replicate size 0 → durable ≡ replicate size 0 → asked ≡ replicate size 0 → marks ≡ replicate size false
    → IsBlank size (memory_state bytes durable asked marks all_pass 0 (record { reads = 0; writes = 0; syncs = 0; tried = 0 }))
blank size bytes durable asked marks read kept last unmarked = record {
  fresh = fresh (replicate size 0) bytes durable asked marks size 0 (record { reads = 0; writes = 0; syncs = 0; tried = 0 }) read kept last unmarked;
  passed = refl;
  reads = refl;
  faults = elim [ Read ↦ refl | Write ↦ refl | Sync ↦ refl ];
}

pub left_by_crash : (bytes durable asked : List ℕ) (marks : List Bool) (fate : Fate) (bytes' durable' asked' : List ℕ) (marks' : List Bool) (n passed : ℕ) (counts : Counts) (mode : Mode)
    → bytes' ≡ left_by durable asked marks mode → durable' ≡ left_by durable asked marks mode → asked' ≡ left_by durable asked marks mode → marks' ≡ replicate n false
    → IsLeftBy mode (memory_state bytes durable asked marks fate passed counts) (memory_state bytes' durable' asked' marks' all_pass passed counts)
left_by_crash bytes durable asked marks fate bytes' durable' asked' marks' n passed counts mode read kept last unmarked = record {
  bytes = left_by durable asked marks mode;
  left = refl;
  fresh = fresh (left_by durable asked marks mode) bytes' durable' asked' marks' n passed counts read kept last unmarked;
  passed = refl;
  reads = refl;
  faults = λ call. refl;
}
