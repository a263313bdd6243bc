-- A connection in its turn.
use Rattle.std.proofs.Common.{◌≡◌, List, [], ◌∷◌, ◌++◌, ℕ, Result, ap, sym, subst}
use Rattle.std.specs.Prelude.{option_map}
use Rattle.dr_disk.specs.State.{DiskState}
use Rattle.dr_ports.specs.Wires.{Port, next_of}
use Rattle.relay_server.specs.Durable.{IsServerReady, ServerNow}
use Rattle.relay_server.specs.Serving.{Exchanges}
use Rattle.relay_server.specs.FrameByFrame.{IsInOrder, IsServedInOrder}
use Rattle.relay_server.specs.declared.serving.Ended.{Ended}
use Rattle.relay_server.specs.declared.serving.ServeFault.{ServeFault}
use Rattle.relay_server.proofs.FrameByFrame.{at_rest}
use Rattle.relay_command.specs.Connections.{Connection, ConnectionStanding, behind_all}
use Rattle.relay_command.specs.InTurn.{CameInTurn, WasServed, one_came}
use Rattle.relay_command.specs.Serving.{entry_standing}

pub own_order : {X Y : Type 0} (state : X → DiskState) (port_of : Y → Port) (start now : X) (accepted served : Y)
    (old new : ServerNow) (result : Result Ended ServeFault)
    (s : IsServedInOrder state port_of old new start now accepted served result) (x : Connection)
    → (from : Port) → (port_of accepted).told ≡ option_map next_of from.told
    → x.got ≡ s.served.got → Exchanges x.got x.put (port_of accepted) (port_of served)
    → WasServed state port_of (entry_standing old.boxes from) start now x
own_order state port_of start now accepted served old new result s x from told same exchanges = record {
  accepted = accepted;
  served = served;
  told = told;
  exchanges = exchanges;
  in_order = subst (λ (got : List ℕ). IsInOrder state port_of old.boxes got start now accepted served)
      (sym same) s.in_order;
}

-- and so the connections are
pub one_in_turn : {X Y : Type 0} (state : X → DiskState) (port_of : Y → Port) (s : ConnectionStanding) (start disk next : X)
    (xs : List Connection) (x : Connection) (server : ServerNow) (from : Port)
    → CameInTurn state port_of s start xs disk → entry_standing server.boxes from ≡ behind_all s xs
    → IsServerReady server (state disk) → WasServed state port_of (entry_standing server.boxes from) disk next x
    → CameInTurn state port_of s start (xs ++ x ∷ []) next
one_in_turn state port_of s start disk next xs x server from came same ready was =
    one_came xs x disk next came (at_rest (behind_all s xs).boxes server (state disk) (ap (λ (t : ConnectionStanding). t.boxes) same) ready)
    (subst (λ (t : ConnectionStanding). WasServed state port_of t disk next x) same was)
