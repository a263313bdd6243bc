-- One connection, as the code serves it.
use Rattle.std.specs.Prelude.{◌≡◌, ℕ, List, length, Result, Ok, Err}
use Rattle.dr_disk.specs.declared.call.Call.{Call}
use Rattle.dr_disk.specs.Spans.{IsQuiet, Span}
use Rattle.dr_disk.specs.State.{DiskState}
use Rattle.dr_ports.specs.Ports.{Rose}
use Rattle.dr_ports.specs.Wires.{Port}
use Rattle.dr_ports.specs.declared.pipe.Part.TheVariants.{Flow, Gate}
use Rattle.endings.specs.declared.ending.Ending.{Ending as Closing}
use Rattle.endings.specs.declared.ending.Ending.TheVariants.{DiskFault, LinkFault}
use Rattle.relay_core.specs.Streams.{served}
use Rattle.relay_server.specs.Durable.{IsServerReady, ServerNow}
use Rattle.relay_server.specs.Places.{IsSameBehind}
use Rattle.relay_server.specs.Serving.{Reached}
use Rattle.relay_server.specs.declared.serving.ServeFault.{ServeFault}
use Rattle.relay_server.specs.declared.serving.ServeFault.TheVariants.{Read, Store as FaultOf, Write}
use Rattle.relay_command.specs.declared.connecting.Connected.{Connected}
use Rattle.relay_command.specs.declared.connecting.Connected.TheVariants.{Ended, Failed}
use Rattle.relay_command.specs.declared.connecting.Fault.{Fault}
use Rattle.relay_command.specs.declared.connecting.Fault.TheVariants.{Accept, Store}
use Rattle.relay_command.specs.Connections.{Connection, HasRisen, SentReplies, ConnectionStanding, after_connection, connection_line, ended, failed}
use Rattle.relay_command.specs.Serving.{IsConnectionStopped, entry_standing}

-- how it is told
abbrev pub IsConnected : ConnectionStanding → Connection → Connected → Type 0
IsConnected s x (Ended replies) = (x.went ≡ ended) × (replies ≡ length (served s.boxes x.got).exchanges)
IsConnected s x Failed = x.went ≡ failed

-- and its line
abbrev pub line_of : ℕ → Connected → List ℕ
line_of i (Ended replies) = connection_line i replies ended
line_of i Failed = connection_line i 0 failed

-- A connection came, in the order that is said of it.
pub record IsTurn (order : Connection → Type 0) (old new : ServerNow) (start now : DiskState) (from door : Port) (x : Connection) : Type 0 where
  pub told : door.told ≡ (after_connection (entry_standing old.boxes from) x).told
  pub faults : door.faults Flow ≡ x.faults
  pub gate : door.faults Gate ≡ from.faults Gate
  pub next : new.boxes ≡ (served old.boxes x.got).next
  pub count : length new.boxes ≡ length old.boxes
  pub in_order : order x
  pub during : Span start now (λ c. Reached old.boxes x.got c × IsSameBehind (length old.boxes) start c)

-- and it was served
pub record IsServedTurn (order : Connection → Type 0) (old new : ServerNow) (start now : DiskState) (from door : Port) (connected : Connected) : Type 0 where
  pub x : Connection
  pub turn : IsTurn order old new start now from door x
  pub sent : SentReplies (entry_standing old.boxes from) x x.went
  pub how : IsConnected (entry_standing old.boxes from) x connected
  pub ready : IsServerReady new now
  pub quiet : IsQuiet start now

-- a call on the disk failed meanwhile
pub record IsStoppedTurn (order : Connection → Type 0) (old new : ServerNow) (start now : DiskState) (from door : Port) : Type 0 where
  pub x : Connection
  pub turn : IsTurn order old new start now from door x
  pub stopped : IsConnectionStopped (entry_standing old.boxes from) x now
  pub call : Call
  pub rose : Rose (start.faults call) (now.faults call)

-- none could be accepted
pub record IsNoTurn (old new : ServerNow) (start now : DiskState) (from door : Port) : Type 0 where
  pub told : door.told ≡ from.told
  pub faults : door.faults Flow ≡ from.faults Flow
  pub rose : HasRisen (from.faults Gate) (door.faults Gate)
  pub next : new.boxes ≡ old.boxes
  pub ready : IsServerReady new now
  pub still : Span start now (λ c. ⊥)
  pub quiet : IsQuiet start now

abbrev pub Turns : (Connection → Type 0) → ServerNow → ServerNow → DiskState → DiskState → Port → Port → Result Connected Fault → Type 0
Turns order old new start now from door (Ok connected) = IsServedTurn order old new start now from door connected
Turns order old new start now from door (Err Accept) = IsNoTurn old new start now from door
Turns order old new start now from door (Err Store) = IsStoppedTurn order old new start now from door

-- what a connection that broke off comes to
abbrev pub broken_as : ServeFault → Result Connected Fault
broken_as Read = Ok Failed
broken_as Write = Ok Failed
broken_as (FaultOf call) = Err Store

-- how the command ends where no connection more is served
abbrev pub closing_of_fault : Fault → Closing
closing_of_fault Accept = LinkFault
closing_of_fault Store = DiskFault
