-- How a command ends where a text isn't said under all names.
use Rattle.std.specs.Prelude.{List, get_or, length, ℕ, ⊤, ◌<◌}
use Rattle.endings.specs.PeerNames.{peer_name}
use Rattle.endings.specs.declared.ending.Ending.{Ending}
use Rattle.endings.specs.declared.ending.Ending.TheVariants.{DiskFault, DrawFault, FanFull, NoName, PeerRefused, Twice, Usage}
use Rattle.session_model.specs.Clients.{Client}
use Rattle.session_model.specs.declared.answer.Refusal.TheVariants.{NoPair}
use Rattle.book_model.specs.Rows.{Rows}
use Rattle.client.specs.declared.refusals.SayRefusal.{SayRefusal}
use Rattle.client.specs.declared.refusals.SayRefusal.TheVariants.{Closed, DrawFault as Undrawn, NoPair as HasNoPair, Refused, StoreFault}
use Rattle.book.specs.RowKeepings.{known_name, name_of, row_at}
use Rattle.book.specs.declared.fans.list.FanAddError.{FanAddError}
use Rattle.book.specs.declared.fans.list.FanAddError.TheVariants.{FanFull as IsFull, NoName as Nobody, Twice as IsTwice}
use Rattle.book.specs.declared.refusals.FanRefusal.{FanRefusal}
use Rattle.book.specs.declared.refusals.FanRefusal.TheVariants.{Closed as IsClosed, Nobody as HasNobody, Peer, StoreFault as Faulted}

-- where a session isn't added
abbrev pub ending_of_add : FanAddError → Ending
ending_of_add Nobody = NoName
ending_of_add IsTwice = Twice
ending_of_add IsFull = FanFull

-- the name of the session at a place of a list
abbrev pub listed_name : Rows Client → List ℕ → ℕ → List ℕ
listed_name sessions list at = known_name (name_of (row_at sessions (get_or list at 0)))

-- where the session of a name doesn't say the text
abbrev pub ending_of_peer : List ℕ → SayRefusal → Ending
ending_of_peer name (Refused refusal) = PeerRefused (peer_name name) refusal
ending_of_peer name Undrawn = DrawFault
ending_of_peer name (HasNoPair seed) = PeerRefused (peer_name name) NoPair
ending_of_peer name (Closed call) = DiskFault
ending_of_peer name (StoreFault call) = DiskFault

-- where a fan isn't done
abbrev pub ending_of_fan : Rows Client → List ℕ → FanRefusal → Ending
ending_of_fan sessions list (IsClosed call) = DiskFault
ending_of_fan sessions list HasNobody = Usage
ending_of_fan sessions list (Peer at refusal) =
    ending_of_peer (listed_name sessions list at) refusal
ending_of_fan sessions list (Faulted call) = DiskFault

-- the place that it names is one of the list
abbrev pub IsWithin : List ℕ → FanRefusal → Type 0
IsWithin list (Peer at refusal) = at < length list
IsWithin list refusal = ⊤
