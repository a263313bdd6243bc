-- The first record of a session is put under a name that had none.
use Rattle.std.proofs.Common.{List, None, Ok, [], Option, Some, ap, false, get_or, inl, inr, sym, true, ℕ, ⊎_elim, ◌∙◌, ◌≡◌, ◌⊎◌}
use Rattle.std.proofs.Math.ListN.{set}
use Rattle.std.specs.Prelude.{is_some, option_map}
use Rattle.bodies.specs.declared.format.Format.{Format}
use Rattle.dr_base.specs.declared.position.Side.{Side}
use Rattle.dr_base.specs.declared.position.Side.TheVariants.{First, Second}
use Rattle.dr_disk.specs.Spans.{Span}
use Rattle.dr_disk.specs.State.{DiskState, OnSeen}
use Rattle.dr_disk.proofs.Steps.{widen}
use Rattle.dr_model.proofs.Worlds.OpeningWorlds.{opening_client}
use Rattle.dr_model.specs.Conversations.Formats.{formats_of}
use Rattle.dr_model.specs.Machines.WorldSides.{kept_in}
use Rattle.dr_model.specs.Machines.Worlds.{World, opening_world}
use Rattle.dr_model.specs.Theorems.LawfulWorlds.{IsLawfulWorld}
use Rattle.kem_laws.specs.Mechanism.{Mechanism}
use Rattle.session_model.specs.BoxKeys.{relay_keys_of}
use Rattle.session_model.specs.Clients.{Client}
use Rattle.session_model.specs.States.{opening_state}
use Rattle.session_record.specs.Record.{client_of, record_read, record_text}
use Rattle.book_model.proofs.Names.{begun_same, same_self}
use Rattle.book_model.specs.Rows.{Row, Rows, begun, under}
use Rattle.book_store.specs.Reading.{under as recorded}
use Rattle.book_store.specs.Shown.{BookRow}
use Rattle.book_store.specs.declared.layout.TheConstants.{BOOK_ROWS}
use Rattle.client.specs.Beginning.{begun_client}
use Rattle.client.specs.Grounds.{ReadsWritten}
use Rattle.client.specs.Opening.{CellReadsAsSide}
use Rattle.client.specs.declared.begin.Begin.{Begin}
use Rattle.client.proofs.Openings.{as_read_stands}
use Rattle.book.proofs.AsRead.{row_as_read}
use Rattle.book.proofs.Places.{IsOf, begun_is, not_full}
use Rattle.book.proofs.Stored.{stored_set, stored_under}
use Rattle.book.specs.Beginning.{HasPlaceFor}
use Rattle.book.specs.Books.{BookNow}
use Rattle.book.specs.Opening.{IsAsReadBook}
use Rattle.book.specs.RowCells.{beside}
use Rattle.book.specs.Rows.{stored}
use Rattle.command_lines.proofs.Standing.{stands_for_one}
use Rattle.command_lines.specs.Places.{RunsOnInCell, StandsForOneInCell}
use Rattle.book_commands.specs.Beginning.{HasPlaceAmong, IsFirstUnder}
use Rattle.book_commands.specs.Places.{name_cell}
use Rattle.book_commands.proofs.Changed.{beside_set}

-- what a side keeps in the world in which a conversation begins
pub kept_at : (k : Mechanism) (key : List ℕ) (side : Side) (format other : Format)
    → client_of (opening_state k key side format) [] [] (Some (relay_keys_of key))
    ≡ kept_in k (opening_world key (formats_of side format other)) side
kept_at k key First format other = sym (opening_client k key (formats_of First format other) First)
kept_at k key Second format other = sym (opening_client k key (formats_of Second format other) Second)

-- ---- among the rows

pub place_among : (name : List ℕ) (book : BookNow) (at : ℕ) → HasPlaceFor name book at → HasPlaceAmong name book.rows
place_among name book at place =
    record { lawful = place.lawful; fresh = place.fresh; room = not_full book.rows at place.free }

absent_of : (name : List ℕ) (o : Option (Row Client)) → is_some o ≡ false → IsOf name o
absent_of name None is = tt
absent_of name (Some row) is = absurd (let e : true ≡ false = is in cc)

module _ (k : Mechanism) (name : List ℕ) (begin : Begin) (book : BookNow) (holds : book.store.held ≡ stored book.rows) (at : ℕ)
    (place : HasPlaceFor name book at) where
  abbrev row : Row Client
  row = record { name = name; kept = begun_client k begin }

  abbrev pub with_first : List (Option BookRow)
  with_first = set book.store.held at (Some (record { name = name; text = record_text (begun_client k begin) }))

  pub first_beside : beside name with_first ≡ beside name book.store.held
  first_beside = beside_set name book.rows book.store.held at (Some row) holds place.free.inside
      (absent_of name (get_or book.rows at None) place.free.absent) (same_self name)

  -- what stands under the name then
  pub begun_under : under name (begun name (begun_client k begin) book.rows) ≡ Some (begun_client k begin)
  begun_under = begun_same name (begun_client k begin) book.rows place.fresh (not_full book.rows at place.free)

  pub first_recorded : recorded name with_first ≡ Some (record_text (begun_client k begin))
  first_recorded =
      ap (λ (l : List (Option BookRow)). recorded name
      (set l at (Some (record { name = name; text = record_text (begun_client k begin) })))) holds
      ∙ ap (recorded name) (stored_set book.rows at (Some row) place.free.inside)
      ∙ stored_under name (set book.rows at (Some row))
      ∙ ap (λ (l : Rows Client). option_map record_text (under name l)) (sym (begun_is name (begun_client k begin) book.rows at place.free))
      ∙ ap (option_map record_text) begun_under

-- ---- in worlds

module _ (k : Mechanism) (written : ReadsWritten k) (name : List ℕ) (begin : Begin) (start now : DiskState)
    (span : Span start now (λ c. start.image c ⊎ IsAsReadBook k BOOK_ROWS start c ⊎ IsFirstUnder k name begin start c))
    (seen : OnSeen (λ s. IsAsReadBook k BOOK_ROWS start s ⊎ IsFirstUnder k name begin start s) now) where
  module _ (w : World) (side : Side) (reads : CellReadsAsSide (name_cell k name) k w side start) where
    one : (c : List ℕ) → IsAsReadBook k BOOK_ROWS start c ⊎ IsFirstUnder k name begin start c
        → StandsForOneInCell (name_cell k name) k side w w start c
    one c is = ⊎_elim
        (λ as_read.
        let there = row_as_read k BOOK_ROWS name start c as_read in
        stands_for_one (name_cell k name) k side w w start c there
        (as_read_stands (name_cell k name) k written w side start c reads there))
        (λ first. absurd (never first)) is
      where
        never : IsFirstUnder k name begin start c → ⊥
        never first =
            let same : None ≡ Some (Ok (kept_in k w side)) =
            sym (ap (option_map (record_read k)) (first.none reads.bytes reads.told)) ∙ reads.stands in cc

  -- a world that the disk reads under the name stays
  pub worlds_stay : (w : World) (side : Side) → IsLawfulWorld k w → CellReadsAsSide (name_cell k name) k w side start
      → RunsOnInCell (name_cell k name) k side w w start now
  worlds_stay w side lawful reads = record {
    any_moment =
        widen start now (λ c. start.image c ⊎ IsAsReadBook k BOOK_ROWS start c ⊎ IsFirstUnder k name begin start c)
        (λ c. start.image c ⊎ StandsForOneInCell (name_cell k name) k side w w start c)
        (λ c s. ⊎_elim (λ was. inl was) (λ is. inr (one w side reads c is)) s) span;
    reads = λ s told. one w side reads s (seen s told);
  }
