-- The rows of the kept keys: one for each epoch that has keys, in the order of the table.
use Rattle.std.specs.Prelude.{◌≡◌, ◌≢◌, ℕ, ◌+◌, ◌-◌, ◌<◌, ◌≤◌, ◌==◌, ◌||◌, ◌↔◌, Bool, not, Option, Some, None, List, [], length, filter, slice_index_or}
use Rattle.std.specs.List.{range_with_len}
use Rattle.dr_base.specs.declared.key.Kept.{Kept}
use Rattle.dr_base.specs.Position.{position_at}
use Rattle.fs_aead.specs.declared.rows.Row.{Row}

-- what is read behind the last key
abbrev pub no_kept : Kept
no_kept = record { position = position_at 0 0; key = record { bytes = [] } }

-- the epoch of the key at a place
abbrev pub epoch_at : List Kept → ℕ → ℕ
epoch_at keys i = (slice_index_or keys i no_kept).position.epoch

-- and its index
abbrev pub index_at : List Kept → ℕ → ℕ
index_at keys i = (slice_index_or keys i no_kept).position.index

-- a row begins at the first key, and at each whose epoch isn't that of the key before it
abbrev pub begins_row : List Kept → ℕ → Bool
begins_row keys i = (i == 0) || not (epoch_at keys (i - 1) == epoch_at keys i)

-- the places at which rows begin: as many as there are rows
unfoldable pub starts_of : List Kept → List ℕ
starts_of keys = filter (begins_row keys) (range_with_len 0 (length keys))

-- where row k begins; behind the last row, where the keys end
abbrev pub start_at : List Kept → ℕ → ℕ
start_at keys k = slice_index_or (starts_of keys) k (length keys)

-- row k, which ends where the next one begins
abbrev pub row_at : List Kept → ℕ → Row
row_at keys k = record {
  epoch = epoch_at keys (start_at keys k);
  start = start_at keys k;
  len = start_at keys (k + 1) - start_at keys k;
}

-- a place is one of a row's
abbrev pub IsInRow : Row → ℕ → Type 0
IsInRow row i = (row.start ≤ i) × (i < row.start + row.len)

-- the rows of a table: each has some keys, which are exactly those of its epoch; they ascend by
-- epoch, and no key is without a row
pub record AreRows (keys : List Kept) : Type 0 where
  pub some : (k : ℕ) → k < length (starts_of keys) → 1 ≤ (row_at keys k).len
  pub inside : (k : ℕ) → k < length (starts_of keys)
      → (row_at keys k).start + (row_at keys k).len ≤ length keys
  pub exact : (k i : ℕ) (d : Kept) → k < length (starts_of keys) → i < length keys
      → ((slice_index_or keys i d).position.epoch ≡ (row_at keys k).epoch)
      ↔ IsInRow (row_at keys k) i
  pub ascending : (j k : ℕ) → j < k → k < length (starts_of keys)
      → (row_at keys j).epoch < (row_at keys k).epoch
  pub every : (i : ℕ) → i < length keys
      → (k : ℕ) × (k < length (starts_of keys)) × IsInRow (row_at keys k) i

-- the place of the key of an index in a row
abbrev pub IsPlaceIn : List Kept → Row → ℕ → Option ℕ → Type 0
IsPlaceIn keys row index (Some i) = IsInRow row i × (index_at keys i ≡ index)
IsPlaceIn keys row index None = (i : ℕ) → IsInRow row i → index_at keys i ≢ index
