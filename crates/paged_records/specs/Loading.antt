-- A record that was read into memory.
use Rattle.std.specs.Prelude.{◌≡◌, ⊤, ℕ, List, map, take, Option, Some, None}
use Rattle.pages.specs.declared.layout.Layout.{Layout}
use Rattle.pages.specs.Snapshots.{page_of}
use Rattle.record_pages.specs.Pages.{pages_in}
use Rattle.record_pages.specs.Tables.{length_in, record_names, table_fault}
use Rattle.paged_records.specs.declared.kept.Kept.{Kept}
use Rattle.paged_records.specs.declared.loading.Loaded.{Loaded}
use Rattle.paged_records.specs.declared.loading.Loaded.TheVariants.{Faulty, Whole}
use Rattle.paged_records.specs.Bounded.{Bounds}
use Rattle.paged_records.specs.Faults.{fault_in}
use Rattle.paged_records.specs.Memory.{HasRoomToLoad}

-- the pages that a table names
abbrev pub pages_named : Layout → List ℕ → List ℕ → List (List ℕ)
pages_named layout body s = map (page_of layout s) (record_names body)

-- a record that a faultless table names, in the grammar
pub record IsNamed (fault_at : List ℕ → Option ℕ) (bounds : Bounds) (body : List ℕ) (kept : Kept)
    : Type 0 where
  pub has_room : HasRoomToLoad bounds kept
  pub len : kept.len ≡ length_in body
  pub numbers : kept.numbers.items ≡ record_names body
  pub lawful : table_fault bounds.least bounds.count bounds.most body ≡ None
  pub text : fault_at (take kept.len kept.bytes.items) ≡ None

abbrev pub IsNamedRecord : (List ℕ → Option ℕ) → Bounds → List ℕ → Loaded → Type 0
IsNamedRecord fault_at bounds body (Faulty at) = ⊤
IsNamedRecord fault_at bounds body (Whole kept) = IsNamed fault_at bounds body kept

-- a record that was read
abbrev pub IsReadRecord : (List ℕ → Type 0) → Loaded → Type 0
IsReadRecord has_read (Faulty at) = ⊤
IsReadRecord has_read (Whole kept) = has_read (take kept.len kept.bytes.items)

-- what stood in these bytes: a fault, or the record's pages
abbrev pub IsLoaded : (List ℕ → Option ℕ) → Layout → Bounds → List ℕ → Loaded → List ℕ → Type 0
IsLoaded fault_at layout bounds body (Faulty at) s =
    fault_in fault_at bounds body (pages_named layout body s) ≡ Some at
IsLoaded fault_at layout bounds body (Whole kept) s =
    pages_named layout body s ≡ pages_in (take kept.len kept.bytes.items)
