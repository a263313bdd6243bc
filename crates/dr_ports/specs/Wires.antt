-- What a pipe tells of itself.
use Rattle.std.specs.Prelude.{◌≡◌, ⊤, ℕ, ◌+◌, List, [], ◌++◌, length, Option, option_map, IfSome, Result, IsOk, IsErr}
use Rattle.dr_ports.specs.declared.pipe.Part.{Part}
use Rattle.dr_ports.specs.declared.pipe.Stand.{Stand}
use Rattle.dr_ports.specs.declared.pipe.Stand.TheVariants.{Ended, Unbegun, Up}

-- How the calls of a connection go, where it is told: all pass; or all pass until nothing is left, and then a receive fails.
pub data Fate : Type 0 where
  untold_fate : Fate
  all_pass : Fate
  breaks_at_end : Fate

-- a connection: all that it gives once these bytes were sent, what it gave so far, and what it took so far
pub record Wire : Type 0 where
  pub gives : List ℕ → List ℕ
  pub received : List ℕ
  pub sent : List ℕ
  pub fate : Fate

-- where a link connected to, or where a door waits: nowhere yet, an address, or a port
pub data Place : Type 0 where
  nowhere : Place
  at_address : List ℕ → Place
  at_port : ℕ → Place

-- that place, and how the connection there stands
pub record Line : Type 0 where
  pub place : Place
  pub stand : Stand

-- the connection, what those before it took, what each later one will give, and where it goes
pub record Told : Type 0 where
  pub now : Wire
  pub before : List ℕ
  pub coming : ℕ → List ℕ → List ℕ
  pub line : Line

-- what it tells of its bytes, where it does, and how often a call of each kind has failed
pub record Port : Type 0 where
  pub told : Option Told
  pub faults : Part → ℕ

abbrev pub given : List ℕ → Told → Told
given piece t = record t { now = record t.now { received = t.now.received ++ piece } }

abbrev pub taken : List ℕ → Told → Told
taken piece t = record t { now = record t.now { sent = t.now.sent ++ piece } }

-- it gave a piece, or took one
abbrev pub Gave : List ℕ → Port → Port → Type 0
Gave piece old new = new.told ≡ option_map (given piece) old.told

abbrev pub Took : List ℕ → Port → Port → Type 0
Took piece old new = new.told ≡ option_map (taken piece) old.told

-- nothing is left
abbrev pub IsAtEnd : Wire → Type 0
IsAtEnd w = w.received ≡ w.gives w.sent

abbrev pub EndsAt : Port → Type 0
EndsAt port = IfSome port.told (λ t. IsAtEnd t.now)

-- a receive, and a send, where it is told how they go
abbrev pub ReceiveGoes : {T E : Type 0} → Wire → Fate → Result T E → Type 0
ReceiveGoes w untold_fate result = ⊤
ReceiveGoes w all_pass result = IsOk result
ReceiveGoes w breaks_at_end result = (IsAtEnd w → IsErr result) × ((IsAtEnd w → ⊥) → IsOk result)

abbrev pub SendGoes : {T E : Type 0} → Fate → Result T E → Type 0
SendGoes untold_fate result = ⊤
SendGoes _ result = IsOk result

-- it is connected to an address
abbrev pub connected : List ℕ → Told → Told
connected address t = record t { line = record { place = at_address address; stand = Up } }

-- it waits at a port for the first connection
abbrev pub listens_at : ℕ → Told → Told
listens_at port t = record t { line = record { place = at_port port; stand = Unbegun } }

-- the next connection, which stands, and has given and taken nothing
abbrev pub next_of : Told → Told
next_of t = record {
  now = record { gives = t.coming 0; received = []; sent = []; fate = t.now.fate };
  before = t.before ++ t.now.sent;
  coming = λ n. t.coming (n + 1);
  line = record t.line { stand = Up };
}

-- a connection that stands has ended, by what it gave and took so far
abbrev pub ended_by : Wire → Stand → Stand
ended_by w Up = Ended (length w.received) (length w.sent)
ended_by w stand = stand

-- the connection has ended
abbrev pub hung_up : Told → Told
hung_up t = record t { line = record t.line { stand = ended_by t.now t.line.stand } }

-- what it gave is a beginning of what it gives
abbrev pub IsAhead : Wire → Type 0
IsAhead w = (more : List ℕ) × (w.gives w.sent ≡ w.received ++ more)
