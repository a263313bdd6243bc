-- The connections of a relay, one after the other.
use Rattle.std.specs.Prelude.{◌≡◌, ◌⊎◌, ⊤, ◌+◌, ◌≤◌, ℕ, List, [], ◌∷◌, ◌++◌, length, codes, decimal, Option, option_map, IfSome}
use Rattle.dr_ports.specs.Ports.{Rose}
use Rattle.dr_ports.specs.declared.pipe.Part.TheVariants.{Flow, Gate}
use Rattle.dr_ports.specs.Wires.{Port, Told, hung_up, listens_at, next_of}
use Rattle.relay_core.specs.Boxes.{Box}
use Rattle.relay_core.specs.Streams.{reply_bytes, served}
use Rattle.relay_server.specs.Serving.{Reached, exchanged}

-- How a connection went: it ended, a call on it failed, or one on the disk did.
pub data HowItWent : Type 0 where
  ended : HowItWent
  failed : HowItWent
  stopped : HowItWent

-- What its pipe gave, what was sent on it, how it went, and how often a receive or a send had failed on the door when it was over.
pub record Connection : Type 0 where
  pub got : List ℕ
  pub put : List ℕ
  pub went : HowItWent
  pub faults : ℕ

-- What stands before a connection: the boxes, what the door tells, and how often a receive or a send has failed on it.
pub record ConnectionStanding : Type 0 where
  pub boxes : List Box
  pub told : Option Told
  pub faults : ℕ

-- once the door listens at a port
abbrev pub listening : ℕ → ConnectionStanding → ConnectionStanding
listening port s = record s { told = option_map (listens_at port) s.told }

-- and after a connection: it was accepted, its requests were served, in order, and it was ended
abbrev pub after_connection : ConnectionStanding → Connection → ConnectionStanding
after_connection s x = record {
  boxes = (served s.boxes x.got).next;
  told = option_map hung_up (option_map (exchanged x.got x.put) (option_map next_of s.told));
  faults = x.faults;
}

abbrev pub behind_all : ConnectionStanding → List Connection → ConnectionStanding
behind_all s [] = s
behind_all s (x ∷ xs) = behind_all (after_connection s x) xs

-- ---- the door

-- a count has risen, or stands at its type's end; it hasn't fallen
abbrev pub HasRisen : ℕ → ℕ → Type 0
HasRisen before now = (before ≤ now) × Rose before now

-- it listens at a port, and nothing more was done
pub record IsHeard (port : ℕ) (from door : Port) : Type 0 where
  pub told : door.told ≡ option_map (listens_at port) from.told
  pub flow : door.faults Flow ≡ from.faults Flow
  pub gate : door.faults Gate ≡ from.faults Gate

-- it couldn't listen
pub record CouldNotListen (from door : Port) : Type 0 where
  pub told : door.told ≡ from.told
  pub flow : door.faults Flow ≡ from.faults Flow
  pub rose : HasRisen (from.faults Gate) (door.faults Gate)

-- ---- what was sent

-- where the door tells all that the connection holds: nothing more of it would be answered than what it gave
abbrev pub IsAnswered : ConnectionStanding → Connection → Type 0
IsAnswered s x = IfSome s.told (λ t. served s.boxes (t.coming 0 x.put) ≡ served s.boxes x.got)

-- a beginning of all these bytes
abbrev pub IsBeginning : List ℕ → List ℕ → Type 0
IsBeginning put all = (rest : List ℕ) × (all ≡ put ++ rest)

-- where the door tells all that the connection holds: a beginning of the replies to that was sent
abbrev pub IsBegun : ConnectionStanding → Connection → Type 0
IsBegun s x = IfSome s.told (λ t. IsBeginning x.put (reply_bytes (served s.boxes (t.coming 0 x.put))))

-- Where it ended, the replies to all that it held were sent; where it failed, a beginning of them.
abbrev pub SentReplies : ConnectionStanding → Connection → HowItWent → Type 0
SentReplies s x ended = (x.put ≡ reply_bytes (served s.boxes x.got)) × IsAnswered s x × (x.faults ≡ s.faults)
SentReplies s x failed = IsBeginning x.put (reply_bytes (served s.boxes x.got)) × IsBegun s x × HasRisen s.faults x.faults
SentReplies s x stopped = ⊥

abbrev pub AreServed : ConnectionStanding → List Connection → Type 0
AreServed s [] = ⊤
AreServed s (x ∷ xs) = SentReplies s x x.went × AreServed (after_connection s x) xs

-- ---- lines

unfoldable pub port_line : ℕ → List ℕ
port_line port = codes "relay " ++ decimal port ++ codes "\n"

-- the line of a connection, by its number and the number of its replies
unfoldable pub connection_line : ℕ → ℕ → HowItWent → List ℕ
connection_line i replies ended = codes "connection " ++ decimal i ++ codes " ended " ++ decimal replies ++ codes "\n"
connection_line i replies failed = codes "connection " ++ decimal i ++ codes " failed\n"
connection_line i replies stopped = []

-- the lines of connections, numbered on after the first i
abbrev pub lines_behind : ℕ → ConnectionStanding → List Connection → List ℕ
lines_behind i s [] = []
lines_behind i s (x ∷ xs) = connection_line (i + 1) (length (served s.boxes x.got).exchanges) x.went ++ lines_behind (i + 1) (after_connection s x) xs

-- ---- what a crash leaves

-- bytes that stand for the boxes after a beginning of the frames of one of these connections
abbrev pub WereReached : ConnectionStanding → List Connection → List ℕ → Type 0
WereReached s [] c = ⊥
WereReached s (x ∷ xs) c = Reached s.boxes x.got c ⊎ WereReached (after_connection s x) xs c
