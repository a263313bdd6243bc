-- A book that was opened, as a command under a name finds it; or wasn't, or has no row of the name.
use Rattle.std.proofs.Common.{List, None, Ok, Some, [], inl, inr, sym, ℕ, ⊎_elim, ◌∙◌, ◌≡◌, ◌⊎◌}
use Rattle.dr_base.specs.declared.position.Side.{Side}
use Rattle.dr_disk.specs.Spans.{IsQuiet, Span}
use Rattle.dr_disk.specs.State.{DiskState, OnSeen}
use Rattle.dr_disk.proofs.Steps.{widen}
use Rattle.dr_model.specs.Machines.WorldSides.{kept_in}
use Rattle.dr_model.specs.Machines.Worlds.{World}
use Rattle.dr_model.specs.Theorems.LawfulWorlds.{IsLawfulWorld}
use Rattle.endings.specs.declared.ending.Ending.TheVariants.{Done, NoName}
use Rattle.kem_laws.specs.Mechanism.{Mechanism}
use Rattle.session_model.specs.Clients.{Client}
use Rattle.book_model.specs.Rows.{under}
use Rattle.book_store.specs.declared.errors.BookOpenError.{BookOpenError}
use Rattle.book_store.specs.declared.layout.TheConstants.{BOOK_ROWS}
use Rattle.client.specs.Cells.{Cell}
use Rattle.client.specs.Grounds.{ReadsWritten}
use Rattle.client.specs.InWorlds.{CellStandsFor}
use Rattle.client.specs.Opening.{CellReadsAsSide, IsAsReadInCell, IsEntryOrAsReadInCell, StandsInOpening}
use Rattle.client.proofs.Openings.{as_read_stands}
use Rattle.book.proofs.AsRead.{row_as_read, row_entry_or_as_read}
use Rattle.book.specs.Books.{BookNow}
use Rattle.book.specs.Calling.{row_in}
use Rattle.book.specs.Naming.{IsPlaceOf}
use Rattle.book.specs.Opening.{IsAsReadBook, IsEntryOrAsReadBook, IsOpenedBook}
use Rattle.book.specs.RowKeepings.{kept_of, row_at, row_keeping}
use Rattle.command_lines.proofs.Acts.{OpensInPlace}
use Rattle.command_lines.proofs.Unopened.{unopened_runs, unopened_shows}
use Rattle.command_lines.specs.Acting.{ClientAsk}
use Rattle.command_lines.specs.InWorlds.{RunsActAt}
use Rattle.command_lines.specs.Showing.{RunsShowAt}
use Rattle.book_commands.specs.Opening.{IsBookUnopened, ending_of_open_book}
use Rattle.book_commands.specs.Places.{HasNoRow, has_no_row, name_cell, name_place, not_opened}
use Rattle.book_commands.proofs.Fitting.{row_opened}
use Rattle.book_commands.proofs.Reading.{reads_none}

-- while a place is opened in a world that it reads, what is left stands for it
pub stands_opening : (cell : Cell) (k : Mechanism) → ReadsWritten k → (w : World) (side : Side) (start now : DiskState)
    → CellReadsAsSide cell k w side start → Span start now (IsEntryOrAsReadInCell cell k start)
    → ((s : List ℕ) → now.seen ≡ Some s → IsAsReadInCell cell k start s) → StandsInOpening cell k w side start now
stands_opening cell k written w side start now reads span seen = record {
  any_moment =
      widen start now (IsEntryOrAsReadInCell cell k start) (λ c. start.image c ⊎ CellStandsFor cell k w side c)
      (λ c s. ⊎_elim (λ was. inl was) (λ as_read. inr (as_read_stands cell k written w side start c reads as_read)) s) span;
  reads = λ s told. as_read_stands cell k written w side start s reads (seen s told);
}

module _ {X : Type 0} (state : X → DiskState) (k : Mechanism) (written : ReadsWritten k) (name : List ℕ) (start mid : X)
    (opening : Span (state start) (state mid) (IsEntryOrAsReadBook k BOOK_ROWS (state start)))
    (seen : OnSeen (IsAsReadBook k BOOK_ROWS (state start)) (state mid)) where
  pub row_opening : Span (state start) (state mid) (IsEntryOrAsReadInCell (name_cell k name) k (state start))
  row_opening = row_entry_or_as_read k BOOK_ROWS name (state start) (state mid) opening

  pub row_seen : (s : List ℕ) → (state mid).seen ≡ Some s → IsAsReadInCell (name_cell k name) k (state start) s
  row_seen s told = row_as_read k BOOK_ROWS name (state start) s (seen s told)

  pub row_stands : (w : World) (side : Side) → IsLawfulWorld k w → CellReadsAsSide (name_cell k name) k w side (state start)
      → StandsInOpening (name_cell k name) k w side (state start) (state mid)
  row_stands w side lawful reads =
      stands_opening (name_cell k name) k written w side (state start) (state mid) reads row_opening row_seen

  -- ---- no book

  module _ (error : BookOpenError) (why : IsBookUnopened k (state start) (state mid) error) where
    pub unopened_acts : (asked : ClientAsk) → asked.idle
        → RunsActAt (name_place k name) state k asked start mid (ending_of_open_book error) []
    unopened_acts asked idle =
        unopened_runs (name_place k name) state k start mid (not_opened error) why row_opening row_seen row_stands asked idle

    pub unopened_lists : (shows : Client → List ℕ) → RunsShowAt (name_place k name) state k shows start mid (ending_of_open_book error) []
    unopened_lists shows =
        unopened_shows (name_place k name) state k start mid (not_opened error) why row_opening row_seen row_stands (λ kept. Done) shows

  module _ (book : BookNow) (opened : IsOpenedBook k BOOK_ROWS (state start) (state mid) book)
      (quiet : IsQuiet (state start) (state mid)) where
    -- ---- no row of the name

    module _ (none : under name book.rows ≡ None) where
      pub nameless : HasNoRow name (state start) (state mid)
      nameless = record {
        read = λ s told. reads_none k name book.rows s (opened.read s told) none;
        rests = record { book = book; ready = opened.ready; count = opened.count; there = none };
        quiet = quiet;
      }

      pub nameless_acts : (asked : ClientAsk) → asked.idle → RunsActAt (name_place k name) state k asked start mid NoName []
      nameless_acts asked idle =
          unopened_runs (name_place k name) state k start mid has_no_row nameless row_opening row_seen row_stands asked idle

      pub nameless_lists : (shows : Client → List ℕ) → RunsShowAt (name_place k name) state k shows start mid NoName []
      nameless_lists shows =
          unopened_shows (name_place k name) state k start mid has_no_row nameless row_opening row_seen row_stands (λ kept. Done) shows

    -- ---- the row of the name

    pub row_opens : (at : ℕ) → IsPlaceOf name book.rows at → (w : World) (side : Side) → IsLawfulWorld k w
        → CellReadsAsSide (name_cell k name) k w side (state start)
        → OpensInPlace (name_place k name) row_keeping k w side (row_in book at) (state start) (state mid)
    row_opens at is w side lawful reads =
        let there = row_opened k name book opened.count at is (state start) (state mid) opened quiet in
        record {
          is = record {
            lawful = lawful;
            keeps =
                let e : Some (Ok (kept_of (row_at book.rows at))) ≡ Some (Ok (kept_in k w side)) =
                sym (there.read reads.bytes reads.told) ∙ reads.stands in cc;
          };
          stand = λ c left.
              as_read_stands (name_cell k name) k written w side (state start) c reads
              (row_as_read k BOOK_ROWS name (state start) c (opened.alike c left));
          opens = row_stands w side lawful reads;
        }
