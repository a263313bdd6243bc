-- Why a disk that holds a book whole isn't opened: memory was wanting.
use Rattle.std.proofs.Common.{refl, ℕ, ◌≢◌}
use Rattle.dr_disk.specs.State.{DiskState}
use Rattle.dr_disk.specs.declared.call.Call.{Call}
use Rattle.book_model.specs.Rows.{Rows}
use Rattle.book_store.specs.Opened.{IsBookRefused}
use Rattle.book_store.specs.declared.errors.BookOpenError.{BookOpenError}
use Rattle.book_store.specs.declared.errors.BookOpenError.TheVariants.{DamagedRow, DamagedTable, Memory, StoreFault}
use Rattle.kem_laws.specs.Mechanism.{Mechanism}
use Rattle.session_model.specs.Clients.{Client}
use Rattle.client.specs.Opening.{client_record_fault}
use Rattle.hub.specs.Held.{HoldsRows, IsWantOfMemory}
use Rattle.hub.proofs.Reopened.{RecordsRead, whole_row, whole_table}

pub only_memory : (law : RecordsRead) (k : Mechanism) (rows : ℕ) (sessions : Rows Client) (start now : DiskState)
    → HoldsRows k rows sessions start → (error : BookOpenError)
    → IsBookRefused (client_record_fault k) rows start now error
    → ((call : Call) → error ≢ StoreFault call) → IsWantOfMemory error
only_memory law k rows sessions start now holds Memory refused passes = tt
only_memory law k rows sessions start now holds (StoreFault call) refused passes = absurd (passes call refl)
only_memory law k rows sessions start now holds (DamagedTable table at) refused passes =
    absurd (whole_table law k rows sessions start holds table at ((refused.table table at refl).1 holds.bytes holds.told))
only_memory law k rows sessions start now holds (DamagedRow row at) refused passes =
    absurd (whole_row law k rows sessions start holds (record { row = row; at = at })
    ((refused.row row at refl).1 holds.bytes holds.told))
