-- Two tables as they were read, and which of them counts, as code answers it.
use Rattle.std.specs.Prelude.{◌≡◌, ℕ, List, true, false}
use Rattle.dr_disk.specs.State.{DiskState, OnSeen}
use Rattle.pages.specs.declared.layout.Layout.{Layout}
use Rattle.pages.specs.Tables.{TableStanding, Table, alike, counts, none_open, table_at}
use Rattle.pages.specs.declared.judging.Judged.{Judged}
use Rattle.pages.specs.declared.judging.Judged.TheVariants.{Alike, Newer, NoneOpen}

-- both tables, as a read gives them
pub record AreTablesRead (l : Layout) (first second : Table) (disk : DiskState) : Type 0 where
  pub first_is : OnSeen (λ s. table_at l false s ≡ first) disk
  pub second_is : OnSeen (λ s. table_at l true s ≡ second) disk

-- a gate, with these bytes after it
abbrev pub table_with : ℕ → List ℕ → Table
table_with gate body = record { gate = gate; body = body }

-- what is answered of these tables
abbrev pub standing_seen : Judged → Table → Table → TableStanding
standing_seen NoneOpen first second = none_open
standing_seen (Newer false) first second = counts false first
standing_seen (Newer true) first second = counts true second
standing_seen Alike first second = alike
