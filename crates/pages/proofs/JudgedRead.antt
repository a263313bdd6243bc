-- Which of two tables counts, as code judged it of what was read.
use Rattle.std.proofs.Common.{◌≡◌, ℕ, Bool, false, true, List, sym, ◌∙◌, ap, ap₂, subst}
use Rattle.dr_disk.specs.State.{DiskState, OnSeen}
use Rattle.pages.specs.declared.judging.Judged.TheVariants.{Newer}
use Rattle.pages.specs.declared.layout.Layout.{Layout}
use Rattle.pages.specs.Judged.{AreTablesRead, standing_seen, table_with}
use Rattle.pages.specs.Tables.{Table, TableStanding, counts, is_open, open_table, tables_standing, standing_of, table_at}
use Rattle.pages.proofs.Standings.{counts_opened, gate_open, open_as}

-- as both tables were read
pub stands_as : (l : Layout) (s : List ℕ) (first second : Table) → table_at l false s ≡ first
    → table_at l true s ≡ second → tables_standing l s ≡ standing_of first second
stands_as l s first second one two =
    ap (λ t. standing_of t (table_at l true s)) one ∙ ap (λ t. standing_of first t) two

pub judged_read : (l : Layout) (disk : DiskState) (g1 g2 : ℕ) (b1 b2 d1 d2 : List ℕ) (o : TableStanding) → d1 ≡ b1 → d2 ≡ b2
    → o ≡ standing_of (table_with g1 d1) (table_with g2 d2) → AreTablesRead l (table_with g1 b1) (table_with g2 b2) disk
    → OnSeen (λ s. tables_standing l s ≡ o) disk
judged_read l disk g1 g2 b1 b2 d1 d2 o one two judged read s told =
    stands_as l s (table_with g1 b1) (table_with g2 b2) (read.first_is s told) (read.second_is s told)
    ∙ sym (judged ∙ ap₂ (λ (x y : List ℕ). standing_of (table_with g1 x) (table_with g2 y)) one two)

-- an open table's gate is told
opened_as : (gate : ℕ) (read body : List ℕ) → body ≡ read → is_open (table_with gate read) ≡ true
    → table_with gate read ≡ open_table body
opened_as gate read body same opened =
    open_as (table_with gate read) (gate_open (table_with gate read) opened) ∙ ap open_table (sym same)

module _ (l : Layout) (disk : DiskState) (g1 g2 : ℕ) (b1 b2 d1 d2 body : List ℕ) (one : d1 ≡ b1) (two : d2 ≡ b2) (second : Bool)
    (judged : standing_seen (Newer second) (table_with g1 d1) (table_with g2 d2) ≡ standing_of (table_with g1 d1) (table_with g2 d2)) where
  judged_as : (k : Bool) → second ≡ k → standing_of (table_with g1 d1) (table_with g2 d2)
      ≡ standing_seen (Newer k) (table_with g1 d1) (table_with g2 d2)
  judged_as k is = sym (subst (λ s. standing_seen (Newer s) (table_with g1 d1) (table_with g2 d2)
      ≡ standing_of (table_with g1 d1) (table_with g2 d2)) is judged)

  module _ (is : second ≡ true) (same : body ≡ b2) where
    second_as : table_with g2 d2 ≡ open_table body
    second_as = opened_as g2 d2 body (same ∙ sym two)
        (counts_opened (table_with g1 d1) (table_with g2 d2) true (table_with g2 d2) (judged_as true is))

    pub second_opened : is_open (open_table body) ≡ true
    second_opened = ap is_open (sym second_as)
        ∙ counts_opened (table_with g1 d1) (table_with g2 d2) true (table_with g2 d2) (judged_as true is)

    pub second_counts : AreTablesRead l (table_with g1 b1) (table_with g2 b2) disk
        → OnSeen (λ s. tables_standing l s ≡ counts true (open_table body)) disk
    second_counts read s told =
        judged_read l disk g1 g2 b1 b2 d1 d2 (counts true (table_with g2 d2)) one two (sym (judged_as true is)) read s told
        ∙ ap (counts true) second_as

  module _ (is : second ≡ false) (same : body ≡ b1) where
    first_as : table_with g1 d1 ≡ open_table body
    first_as = opened_as g1 d1 body (same ∙ sym one)
        (counts_opened (table_with g1 d1) (table_with g2 d2) false (table_with g1 d1) (judged_as false is))

    pub first_opened : is_open (open_table body) ≡ true
    first_opened = ap is_open (sym first_as)
        ∙ counts_opened (table_with g1 d1) (table_with g2 d2) false (table_with g1 d1) (judged_as false is)

    pub first_counts : AreTablesRead l (table_with g1 b1) (table_with g2 b2) disk
        → OnSeen (λ s. tables_standing l s ≡ counts false (open_table body)) disk
    first_counts read s told =
        judged_read l disk g1 g2 b1 b2 d1 d2 (counts false (table_with g1 d1)) one two (sym (judged_as false is)) read s told
        ∙ ap (counts false) first_as
