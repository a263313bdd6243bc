-- The first place that no record's table and pages have.
use Rattle.std.specs.Prelude.{ℕ, ◌+◌, List, drop, take, Option, Some, None}
use Rattle.dr_base.specs.declared.limits.TheConstants.{PAGE}
use Rattle.record_pages.specs.Pages.{joined}
use Rattle.record_pages.specs.Tables.{length_in, nonzero_from, or_else, table_fault}
use Rattle.paged_records.specs.Bounded.{Bounds}

-- the record of a table and its pages
abbrev pub record_in : List ℕ → List (List ℕ) → List ℕ
record_in body pages = take (length_in body) (joined pages)

-- of a fault in a record's pages, counted from its table
abbrev pub behind_table : Option ℕ → Option ℕ
behind_table None = None
behind_table (Some at) = Some (PAGE + at)

-- the first fault of a record, or else of the zeros that fill its pages
abbrev pub record_fault : (List ℕ → Option ℕ) → List ℕ → List (List ℕ) → Option ℕ
record_fault fault_at body pages = or_else (fault_at (record_in body pages))
    (nonzero_from (length_in body) (drop (length_in body) (joined pages)))

-- the first fault of a table and its pages
abbrev pub fault_in : (List ℕ → Option ℕ) → Bounds → List ℕ → List (List ℕ) → Option ℕ
fault_in fault_at bounds body pages =
    or_else (table_fault bounds.least bounds.count bounds.most body)
    (behind_table (record_fault fault_at body pages))
