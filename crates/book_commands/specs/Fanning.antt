-- What the command that says one text under several names comes to, before its last line.
use Rattle.std.specs.Prelude.{Err, List, Ok, Option, Result, Some, [], get_or, length, ℕ, ◌+◌, ◌<◌, ◌≡◌, ◌⊎◌}
use Rattle.dr_base.specs.Causes.{Rose}
use Rattle.dr_base.specs.declared.key.Key32.{Key32}
use Rattle.dr_disk.specs.Spans.{IsQuiet, Span}
use Rattle.dr_disk.specs.State.{Always, DiskState, OnSeen}
use Rattle.dr_disk.specs.declared.call.Call.{Call}
use Rattle.dr_ports.specs.States.{DrawsState}
use Rattle.endings.specs.declared.ending.Ending.{Ending}
use Rattle.endings.specs.declared.ending.Ending.TheVariants.{DiskFault, Done, Usage}
use Rattle.kem_laws.specs.Mechanism.{Mechanism}
use Rattle.session_model.specs.Clients.{Client}
use Rattle.book_model.specs.Rows.{Rows}
use Rattle.book_store.specs.Reading.{IsSameOutsideBook, IsUndamagedBook}
use Rattle.book_store.specs.Shown.{stored_rows}
use Rattle.book_store.specs.declared.errors.BookOpenError.{BookOpenError}
use Rattle.book_store.specs.declared.layout.TheConstants.{BOOK_ROWS}
use Rattle.client.specs.declared.refusals.SayRefusal.{SayRefusal}
use Rattle.book.specs.Fanning.{AddsTo, AsksInTurn}
use Rattle.book.specs.Fans.{Fan, fan_of, fanned_rows}
use Rattle.book.specs.Opening.{IsAsReadBook}
use Rattle.book.specs.Rows.{stored}
use Rattle.book.specs.declared.fans.list.FanAddError.{FanAddError}
use Rattle.book.specs.declared.refusals.FanRefusal.TheVariants.{Peer}
use Rattle.book_commands.specs.FanEndings.{ending_of_add, ending_of_peer, listed_name}
use Rattle.book_commands.specs.FanLines.{said_lines}
use Rattle.book_commands.specs.Listing.{IsBookAtRestFor}
use Rattle.book_commands.specs.Opening.{IsBookUnopened, LeavesBookAsRead, ReadsSessions, ending_of_open_book}

-- ---- the sessions of the names are added in turn

-- those of the first n names are a list
pub data AreAdded (names : List (List ℕ)) (sessions : Rows Client) : ℕ → List ℕ → Type 0 where
  none_added : AreAdded names sessions 0 []
  one_more : (n : ℕ) (list next : List ℕ) → AreAdded names sessions n list
      → AddsTo (get_or names n []) sessions list next (Ok tt)
      → AreAdded names sessions (n + 1) next

-- those of all names are, or the first that isn't added has this reason
abbrev pub AddsInTurn : List (List ℕ) → Rows Client → List ℕ → Result Unit FanAddError → Type 0
AddsInTurn names sessions list (Ok u) = AreAdded names sessions (length names) list
AddsInTurn names sessions list (Err error) = (n : ℕ) × (n < length names)
    × AreAdded names sessions n list × AddsTo (get_or names n []) sessions list list (Err error)

-- ---- all or none

-- bytes with the records of these sessions, read without damage; outside the book they are as what
-- a read gave at entry
pub record HasSessions (sessions : Rows Client) (start : DiskState) (c : List ℕ) : Type 0 where
  pub rows : stored_rows BOOK_ROWS c ≡ stored sessions
  pub undamaged : IsUndamagedBook BOOK_ROWS c
  pub read : List ℕ
  pub told : start.seen ≡ Some read
  pub outside : IsSameOutsideBook BOOK_ROWS read c

-- the sessions once all of a fan have said its text; the others are as they were
abbrev pub all_said : Mechanism → Fan → Rows Client
all_said k fan = fanned_rows k fan (length fan.list)

-- bytes with the sessions that were read at entry, all as they were, or with all of a fan as they
-- are once they said its text
abbrev pub HasAllOrNone : Mechanism → Fan → DiskState → List ℕ → Type 0
HasAllOrNone k fan start c =
    IsAsReadBook k BOOK_ROWS start c ⊎ HasSessions (all_said k fan) start c

-- from one moment on each crash leaves such, or what one at that moment might have left, and a read
-- gives such
pub record SaysAllOrNone (k : Mechanism) (fan : Fan) (start mid now : DiskState) : Type 0 where
  pub any_moment : Span mid now (HasAllOrNone k fan start)
  pub reads : OnSeen (HasAllOrNone k fan start) now

-- ---- in an open book

-- the book of these sessions was opened: each image is as what was read at entry
pub record IsOpenedFor {X : Type 0} (state : X → DiskState) (k : Mechanism)
    (sessions : Rows Client) (start mid : X) : Type 0 where
  pub read : ReadsSessions k sessions (state start)
  pub leaves : LeavesBookAsRead k (state start) (state mid)
  pub images : Always (IsAsReadBook k BOOK_ROWS (state start)) (state mid)
  pub rests : IsBookAtRestFor sessions (state mid)
  pub quiet : IsQuiet (state start) (state mid)

-- What comes of a text and names there. Where a name isn't added, or a session doesn't say the
-- text, nothing happens but for what was drawn.
pub data FansOn {X W : Type 0} (state : X → DiskState) (draws : W → DrawsState) (k : Mechanism)
    (text : List ℕ) (names : List (List ℕ)) (sessions : Rows Client) (start mid now : X)
    (source left : W) : Ending → List ℕ → Type 0 where
  wasnt_added : (list : List ℕ) (error : FanAddError) → AddsInTurn names sessions list (Err error)
      → now ≡ mid → left ≡ source
      → FansOn state draws k text names sessions start mid now source left
      (ending_of_add error) []
  had_no_name : names ≡ [] → now ≡ mid → left ≡ source
      → FansOn state draws k text names sessions start mid now source left Usage []
  -- the first session that doesn't say the text is shown by its name, with its reason
  was_refused : (list : List ℕ) (seeds : List (Option Key32)) (at : ℕ) (refusal : SayRefusal)
      → AddsInTurn names sessions list (Ok tt)
      → AsksInTurn draws k text sessions list source left seeds (Err (Peer at refusal))
      → now ≡ mid
      → FansOn state draws k text names sessions start mid now source left
      (ending_of_peer (listed_name sessions list at) refusal) []
  -- a call on the disk failed, of this kind
  was_cut : (list : List ℕ) (seeds : List (Option Key32)) (call : Call)
      → AddsInTurn names sessions list (Ok tt)
      → AsksInTurn draws k text sessions list source left seeds (Ok tt)
      → SaysAllOrNone k (fan_of sessions list text seeds) (state start) (state mid) (state now)
      → Rose ((state start).faults call) ((state now).faults call)
      → FansOn state draws k text names sessions start mid now source left DiskFault []
  -- all of them said it
  was_fanned : (list : List ℕ) (seeds : List (Option Key32))
      → AddsInTurn names sessions list (Ok tt)
      → AsksInTurn draws k text sessions list source left seeds (Ok tt)
      → SaysAllOrNone k (fan_of sessions list text seeds) (state start) (state mid) (state now)
      → IsBookAtRestFor (all_said k (fan_of sessions list text seeds)) (state now)
      → IsQuiet (state start) (state now)
      → FansOn state draws k text names sessions start mid now source left Done
      (said_lines (all_said k (fan_of sessions list text seeds)) names list (length names))

-- ---- as a whole

-- The book wasn't opened; or once it was, the text was said under all names or under none.
pub data RunsFan {X W : Type 0} (state : X → DiskState) (draws : W → DrawsState) (k : Mechanism)
    (text : List ℕ) (names : List (List ℕ)) (start now : X) (source left : W)
    : Ending → List ℕ → Type 0 where
  wasnt_opened : (error : BookOpenError) → IsBookUnopened k (state start) (state now) error
      → LeavesBookAsRead k (state start) (state now) → left ≡ source
      → RunsFan state draws k text names start now source left (ending_of_open_book error) []
  was_opened : (sessions : Rows Client) (mid : X) (ending : Ending) (lines : List ℕ)
      → IsOpenedFor state k sessions start mid
      → FansOn state draws k text names sessions start mid now source left ending lines
      → RunsFan state draws k text names start now source left ending lines
