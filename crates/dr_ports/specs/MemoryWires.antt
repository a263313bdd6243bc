-- What pipes, links and doors in memory show.
use Rattle.std.specs.Prelude.{◌≡◌, ◌⊎◌, ◌↔◌, ◌≤◌, ◌<◌, ℕ, min, zero, suc, ◌+◌, ◌-◌, List, [], ◌∷◌, ◌++◌, length, take, drop, nat_lt, get_or, if◌then◌else◌, Option, None, Some, Result, IfOk, IsErr}
use Rattle.std.proofs.lemmas.List.{take-append-drop}
use Rattle.std.proofs.Common.{sym}
use Rattle.dr_ports.specs.Ports.{one_more}
use Rattle.dr_ports.specs.Memory.{Plan, IsDue, IsPlayed, planned}
use Rattle.dr_ports.specs.declared.pipe.Part.{Part}
use Rattle.dr_ports.specs.declared.pipe.Part.TheVariants.{Flow, Gate}
use Rattle.dr_ports.specs.declared.memory.link.TheConstants.{ADDRESS_LIMIT}
use Rattle.dr_ports.specs.declared.pipe.Stand.{Stand}
use Rattle.dr_ports.specs.declared.pipe.Stand.TheVariants.{Unbegun, Up}
use Rattle.dr_ports.specs.Wires.{Port, IsAhead, Line, Place, Wire, at_address, at_port, nowhere, untold_fate}

-- A pipe: the bytes of this connection and how many of them it gave, those that it took before this connection and on it,
-- its room, and its plan. `all` has the bytes of all connections.
pub record Flowing : Type 0 where
  pub all : List ℕ
  pub held : List ℕ
  pub at : ℕ
  pub before : List ℕ
  pub sent : List ℕ
  pub room : ℕ
  pub plan : Plan

-- it holds these bytes out of all, has given and taken none, and has room for this many
abbrev pub fresh : List ℕ → List ℕ → ℕ → List ℕ → Flowing
fresh all held room fails = record {
  all = all;
  held = held;
  at = 0;
  before = [];
  sent = [];
  room = room;
  plan = planned fails;
}

-- another connection, which holds these bytes
abbrev pub gone_on : List ℕ → Flowing → Flowing
gone_on held pipe =
    record pipe { held = held; at = 0; before = pipe.before ++ pipe.sent; sent = [] }

-- a call of it is counted
abbrev pub called : Flowing → Flowing
called pipe = record pipe { plan = record pipe.plan { calls = one_more pipe.plan.calls } }

-- it has no room for the first of these bytes
pub record HasNoRoom (pipe : Flowing) (bytes : List ℕ) : Type 0 where
  pub no_room : length (pipe.before ++ pipe.sent) ≡ pipe.room
  pub needed : 0 < length bytes

-- a receive into a piece: as many bytes are given as the piece has room for, and nothing else changes
pub record GivesMost {E : Type 0} (old new : Flowing) (into : List ℕ) (result : Result ℕ E)
    : Type 0 where
  pub played : IsPlayed (IsDue old.plan) old.plan new.plan result
  pub most : IfOk result (λ count. count ≡ min (length into) (length old.held - old.at))
  pub stays : new ≡ record old { at = new.at; plan = new.plan }

-- a send: as many of the bytes are taken as it has room for, and nothing else changes
pub record TakesMost {E : Type 0} (old new : Flowing) (bytes : List ℕ) (result : Result ℕ E)
    : Type 0 where
  pub played : IsPlayed (IsDue old.plan ⊎ HasNoRoom old bytes) old.plan new.plan result
  pub most : IfOk result (λ count.
      count ≡ min (length bytes) (old.room - length (old.before ++ old.sent)))
  pub stays : new ≡ record old { sent = new.sent; plan = new.plan }

-- counts of faults
abbrev pub faults_of : ℕ → ℕ → Part → ℕ
faults_of flow gate Flow = flow
faults_of flow gate Gate = gate

abbrev pub wire_of : Flowing → Wire
wire_of f = record { gives = λ sent. f.held; received = take f.at f.held; sent = f.sent; fate = untold_fate }

-- a pipe whose far end sends this, with this many faults at the gate, and where it goes
abbrev pub port_with : (ℕ → List ℕ → List ℕ) → ℕ → Line → Flowing → Port
port_with coming gate line f = record {
  told = Some (record { now = wire_of f; before = f.before; coming = coming; line = line });
  faults = faults_of f.plan.faults gate;
}

abbrev pub nothing_comes : ℕ → List ℕ → List ℕ
nothing_comes n sent = []

-- a connection that stands, to no place that is told
abbrev pub plain : Line
plain = record { place = nowhere; stand = Up }

abbrev pub port_of : Flowing → Port
port_of f = port_with nothing_comes 0 plain f

-- nobody stands behind it
abbrev pub nobody : {T : Type 0} → T → List ℕ → Unit {0}
nobody port sent = tt

pub is_ahead : (f : Flowing) → IsAhead (wire_of f)
is_ahead f = (drop f.at f.held, sym (take-append-drop f.at f.held))

-- a link: its pipe, whose plan counts its openings too, the address that it connected to last, how that connection stands, and
-- how often opening failed
pub record Linking : Type 0 where
  pub pipe : Flowing
  pub address : List ℕ
  pub stand : Stand
  pub faults : ℕ

abbrev pub place_to : List ℕ → Stand → Place
place_to address Unbegun = nowhere
place_to address stand = at_address address

abbrev pub link_port_of : Linking → Port
link_port_of l = port_with nothing_comes l.faults (record { place = place_to l.address l.stand; stand = l.stand }) l.pipe

-- an opening: it fails just where the plan says so or the address is too long, and counts the call
pub record PlaysOpening {T E : Type 0} (old new : Linking) (address : List ℕ) (result : Result T E)
    : Type 0 where
  pub exact : IsErr result ↔ IsDue old.pipe.plan ⊎ (ADDRESS_LIMIT < length address)
  pub counted : new.pipe ≡ called old.pipe

-- never falling from here on, and within this many bytes
abbrev pub AreEnds : ℕ → ℕ → List ℕ → Type 0
AreEnds size from [] = from ≤ size
AreEnds size from (end ∷ ends) = (from ≤ end) × AreEnds size end ends

-- where the bytes of a connection begin, and those bytes; past the last of the ends there are none
abbrev pub start_of : List ℕ → ℕ → ℕ
start_of ends zero = 0
start_of ends (suc n) = get_or ends n 0

abbrev pub connection_of : List ℕ → List ℕ → ℕ → List ℕ
connection_of all ends n = if nat_lt n (length ends) then take (get_or ends n 0 - start_of ends n) (drop (start_of ends n) all) else []

-- a door: its pipe, where the bytes of each connection end, the number of the next one, the plan of listening and accepting, the
-- port that it waits at, and how the connection stands
pub record Doorway : Type 0 where
  pub pipe : Flowing
  pub ends : List ℕ
  pub next : ℕ
  pub plan : Plan
  pub port : Option ℕ
  pub stand : Stand

abbrev pub coming_to : Doorway → ℕ → List ℕ → List ℕ
coming_to d n sent = connection_of d.pipe.all d.ends (d.next + n)

abbrev pub place_at : Option ℕ → Place
place_at None = nowhere
place_at (Some port) = at_port port

abbrev pub door_line : Doorway → Line
door_line d = record { place = place_at d.port; stand = d.stand }

abbrev pub door_port_of : Doorway → Port
door_port_of d = port_with (coming_to d) d.plan.faults (door_line d) d.pipe
