-- Under every other name stays what the disk reads there.
use Rattle.std.proofs.Common.{List, Some, ap, inl, inr, sym, ℕ, ⊎_elim, ◌∙◌, ◌≡◌, ◌≢◌, ◌⊎◌}
use Rattle.std.specs.Prelude.{option_map}
use Rattle.dr_base.specs.declared.position.Side.{Side}
use Rattle.dr_disk.specs.Spans.{Span}
use Rattle.dr_disk.specs.State.{DiskState, OnSeen}
use Rattle.dr_disk.proofs.Steps.{widen}
use Rattle.dr_model.specs.Machines.Worlds.{World}
use Rattle.endings.specs.declared.ending.Ending.{Ending}
use Rattle.kem_laws.specs.Mechanism.{Mechanism}
use Rattle.session_model.specs.Clients.{Client}
use Rattle.session_record.specs.Record.{record_read}
use Rattle.book_store.specs.Reading.{record_under}
use Rattle.book_store.specs.declared.layout.TheConstants.{BOOK_ROWS}
use Rattle.client.specs.Grounds.{ReadsWritten}
use Rattle.client.specs.InWorlds.{CellStandsFor}
use Rattle.client.specs.Opening.{CellReadsAsSide, IsAsReadInCell, StandsInOpening}
use Rattle.client.specs.declared.begin.Begin.{Begin}
use Rattle.client.proofs.Renewing.{same_reading}
use Rattle.book.proofs.AsRead.{row_as_read}
use Rattle.book.specs.Opening.{IsAsReadBook}
use Rattle.book.specs.RowCells.{IsAlikeBeside}
use Rattle.command_lines.specs.Acting.{ActedAt, ClientAsk, was_cut, was_done, was_refused, was_undrawn, was_unopened}
use Rattle.command_lines.specs.Places.{IsReadOrEitherInCell, LeavesAsReadInCell, LeavesEitherInCell, StaysSoundInCell, is_after, is_before, is_read}
use Rattle.command_lines.specs.Showing.{ShownAt, was_shown, wasnt_opened}
use Rattle.book_commands.specs.Beginning.{BeginsUnder, IsFirstUnder}
use Rattle.book_commands.specs.Forgetting.{IsForgotten, RunsForget}
use Rattle.book_commands.specs.Others.{OthersStand}
use Rattle.book_commands.specs.Places.{name_cell, name_place}

module _ (k : Mechanism) (written : ReadsWritten k) (name : List ℕ) (start : DiskState) where
  module _ (other : List ℕ) (w : World) (side : Side) (apart : other ≢ name)
      (reads : CellReadsAsSide (name_cell k other) k w side start) where
    abbrev Stands : List ℕ → Type 0
    Stands c = CellStandsFor (name_cell k other) k w side c

    beside_stands : (c read : List ℕ) → start.seen ≡ Some read → IsAlikeBeside k BOOK_ROWS name read c → Stands c
    beside_stands c read told alike =
        let same : read ≡ reads.bytes = cc (sym told ∙ reads.told) in
        same_reading k written (record_under BOOK_ROWS other read) (record_under BOOK_ROWS other c) (alike.others other apart)
        ∙ ap (λ s. option_map (record_read k) (record_under BOOK_ROWS other s)) same ∙ reads.stands

    sound_stands : (c : List ℕ) → StaysSoundInCell (name_cell k name) start c → Stands c
    sound_stands c sound = beside_stands c sound.read sound.told sound.outside

    read_stands : (c : List ℕ) → IsAsReadInCell (name_cell k name) k start c → Stands c
    read_stands c is = beside_stands c is.read is.told is.outside

    book_stands : (c : List ℕ) → IsAsReadBook k BOOK_ROWS start c → Stands c
    book_stands c is = read_stands c (row_as_read k BOOK_ROWS name start c is)

    either_stands : (before after : Client) (c : List ℕ) → IsReadOrEitherInCell (name_cell k name) k before after start c → Stands c
    either_stands before after c (is_read is) = read_stands c is
    either_stands before after c (is_before has) = sound_stands c has.sound
    either_stands before after c (is_after has) = sound_stands c has.sound

    -- where all that is left has P, which stands
    stands_by : (now : DiskState) (P : List ℕ → Type 0) → ((c : List ℕ) → P c → Stands c)
        → Span start now (λ c. start.image c ⊎ P c) → OnSeen P now → StandsInOpening (name_cell k other) k w side start now
    stands_by now P to span seen = record {
      any_moment = widen start now (λ c. start.image c ⊎ P c) (λ c. start.image c ⊎ Stands c)
          (λ c s. ⊎_elim (λ was. inl was) (λ is. inr (to c is)) s) span;
      reads = λ s told. to s (seen s told);
    }

  pub as_read_leaves : (now : DiskState) → LeavesAsReadInCell (name_cell k name) k start now → OthersStand k name start now
  as_read_leaves now leaves other w side apart reads =
      stands_by other w side apart reads now (IsAsReadInCell (name_cell k name) k start) (read_stands other w side apart reads)
      leaves.any_moment leaves.reads

  pub either_leaves : (now : DiskState) (before after : Client) → LeavesEitherInCell (name_cell k name) k before after start now
      → OthersStand k name start now
  either_leaves now before after leaves other w side apart reads =
      stands_by other w side apart reads now (IsReadOrEitherInCell (name_cell k name) k before after start)
      (either_stands other w side apart reads before after) leaves.any_moment leaves.reads

  pub change_leaves : (now : DiskState) (P : List ℕ → Type 0) → ((c : List ℕ) → P c → StaysSoundInCell (name_cell k name) start c)
      → Span start now (λ c. start.image c ⊎ IsAsReadBook k BOOK_ROWS start c ⊎ P c)
      → OnSeen (λ s. IsAsReadBook k BOOK_ROWS start s ⊎ P s) now → OthersStand k name start now
  change_leaves now P sound span seen other w side apart reads =
      stands_by other w side apart reads now (λ c. IsAsReadBook k BOOK_ROWS start c ⊎ P c)
      (λ c is. ⊎_elim (book_stands other w side apart reads c) (λ p. sound_stands other w side apart reads c (sound c p)) is)
      span seen

module _ {X : Type 0} (state : X → DiskState) (k : Mechanism) (written : ReadsWritten k) (name : List ℕ) (start now : X) where
  pub acts_leave : (asked : ClientAsk) (ending : Ending) (lines : List ℕ) → ActedAt (name_place k name) state k asked start now ending lines
      → OthersStand k name (state start) (state now)
  acts_leave asked _ _ (was_unopened refusal why leaves idle) = as_read_leaves k written name (state start) (state now) leaves
  acts_leave asked _ _ (was_undrawn kept is undrawn leaves) = either_leaves k written name (state start) (state now) kept kept leaves.either
  acts_leave asked _ _ (was_refused kept act refusal is asks refuses leaves) =
      either_leaves k written name (state start) (state now) kept kept leaves.either
  acts_leave asked _ _ (was_done kept act made is asks makes leaves) =
      either_leaves k written name (state start) (state now) kept made.next leaves.either
  acts_leave asked _ _ (was_cut kept act made call is asks makes leaves rose) =
      either_leaves k written name (state start) (state now) kept made.next leaves

  pub shows_leave : (shows : Client → List ℕ) (ending : Ending) (lines : List ℕ)
      → ShownAt (name_place k name) state k shows start now ending lines → OthersStand k name (state start) (state now)
  shows_leave shows _ _ (wasnt_opened refusal why leaves) = as_read_leaves k written name (state start) (state now) leaves
  shows_leave shows _ _ (was_shown kept is behind leaves) = either_leaves k written name (state start) (state now) kept kept leaves.either

  pub begins_leave : (begin : Begin) (ending : Ending) (lines : List ℕ) → BeginsUnder state k name begin start now ending lines
      → OthersStand k name (state start) (state now)
  begins_leave begin ending lines begins =
      change_leaves k written name (state start) (state now) (IsFirstUnder k name begin (state start)) (λ c first. first.sound)
      begins.any_moment begins.reads

  pub forgets_leave : (ending : Ending) (lines : List ℕ) → RunsForget state k name start now ending lines
      → OthersStand k name (state start) (state now)
  forgets_leave ending lines forgets =
      change_leaves k written name (state start) (state now) (IsForgotten k name (state start)) (λ c gone. gone.sound)
      forgets.any_moment forgets.reads
