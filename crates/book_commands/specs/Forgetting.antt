-- What the command that forgets a session comes to, before its last line.
use Rattle.std.specs.Prelude.{Err, IsSome, List, None, Ok, Result, [], codes, ℕ, ◌++◌, ◌≡◌, ◌⊎◌}
use Rattle.dr_base.specs.Causes.{Rose}
use Rattle.dr_disk.specs.Spans.{IsQuiet, Span}
use Rattle.dr_disk.specs.State.{DiskState, OnSeen}
use Rattle.dr_disk.specs.declared.call.Call.{Call}
use Rattle.endings.specs.declared.ending.Ending.{Ending}
use Rattle.endings.specs.declared.ending.Ending.TheVariants.{DiskFault, Done, NoName}
use Rattle.kem_laws.specs.Mechanism.{Mechanism}
use Rattle.session_model.specs.Clients.{Client}
use Rattle.book_model.specs.Rows.{Rows, under}
use Rattle.book_store.specs.Reading.{IsUndamagedBook, record_under}
use Rattle.book_store.specs.declared.layout.TheConstants.{BOOK_ROWS}
use Rattle.book.specs.Opening.{IsAsReadBook}
use Rattle.book.specs.declared.refusals.ForgetError.{ForgetError}
use Rattle.book.specs.declared.refusals.ForgetError.TheVariants.{Closed, NoName as Nobody, StoreFault as Faulted}
use Rattle.command_lines.specs.Places.{StaysSoundInCell}
use Rattle.book_commands.specs.Opening.{IsRowAtRest, LeavesBookAsRead, ReadsSessions}
use Rattle.book_commands.specs.Places.{IsMissing, Missing, ending_of_missing, name_cell}

-- the line of a name that is forgotten
unfoldable pub forgot_line : List ℕ → List ℕ
forgot_line name = codes "forgot " ++ name ++ codes "\n"

-- bytes without a row of the name, read without damage; the other rows are as they were
pub record IsForgotten (k : Mechanism) (name : List ℕ) (start : DiskState) (c : List ℕ)
    : Type 0 where
  pub none : record_under BOOK_ROWS name c ≡ None
  pub undamaged : IsUndamagedBook BOOK_ROWS c
  pub sound : StaysSoundInCell (name_cell k name) start c

-- No session was found under the name; or a call on the disk failed, of this kind; or it was
-- forgotten, and the disk is at rest without it.
pub data Forgot {X : Type 0} (state : X → DiskState) (k : Mechanism) (name : List ℕ) (start now : X)
    : Ending → List ℕ → Type 0 where
  wasnt_found : (missing : Missing) → IsMissing k name state start now missing
      → LeavesBookAsRead k (state start) (state now)
      → Forgot state k name start now (ending_of_missing missing) []
  was_cut : (sessions : Rows Client) (call : Call) → ReadsSessions k sessions (state start)
      → IsSome (under name sessions) → Rose ((state start).faults call) ((state now).faults call)
      → Forgot state k name start now DiskFault []
  was_forgotten : (sessions : Rows Client) → ReadsSessions k sessions (state start)
      → IsSome (under name sessions) → IsRowAtRest name None (state now)
      → IsQuiet (state start) (state now)
      → Forgot state k name start now Done (forgot_line name)

-- with what each crash meanwhile leaves and a read gives: what it did, but for what was tidied and
-- for the records in the newest version, or what lacks the row
pub record RunsForget {X : Type 0} (state : X → DiskState) (k : Mechanism) (name : List ℕ)
    (start now : X) (ending : Ending) (lines : List ℕ) : Type 0 where
  pub forgot : Forgot state k name start now ending lines
  pub any_moment : Span (state start) (state now) (λ c. (state start).image c
      ⊎ IsAsReadBook k BOOK_ROWS (state start) c ⊎ IsForgotten k name (state start) c)
  pub reads : OnSeen (λ s. IsAsReadBook k BOOK_ROWS (state start) s
      ⊎ IsForgotten k name (state start) s) (state now)

-- what forgetting came to
abbrev pub forgotten_under : Result Unit ForgetError → Result Unit Ending
forgotten_under (Ok u) = Ok tt
forgotten_under (Err (Closed call)) = Err DiskFault
forgotten_under (Err Nobody) = Err NoName
forgotten_under (Err (Faulted call)) = Err DiskFault

-- how it closes: forgotten, or with another ending
abbrev pub forgot_ending : Result Unit Ending → Ending
forgot_ending (Ok u) = Done
forgot_ending (Err ending) = ending

abbrev pub forgot_lines : List ℕ → Result Unit Ending → List ℕ
forgot_lines name (Ok u) = forgot_line name
forgot_lines name (Err ending) = []
