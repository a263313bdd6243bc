-- Before the first connection.
use Rattle.std.proofs.Common.{◌≡◌, ℕ, List, [], refl, sym, ◌∙◌, ap, subst, arith, append-nil}
use Rattle.dr_disk.specs.State.{DiskState}
use Rattle.dr_ports.specs.Ports.{Rose, appended}
use Rattle.dr_ports.specs.States.{SinkState}
use Rattle.dr_ports.specs.Writing.{TookBeginning}
use Rattle.dr_ports.specs.Wires.{Port}
use Rattle.endings.specs.declared.ending.Ending.TheVariants.{Done}
use Rattle.endings.proofs.Closing.{ends_cut}
use Rattle.relay_server.specs.Durable.{IsServerReady, ServerNow}
use Rattle.relay_command.specs.Connections.{Connection, ConnectionStanding, port_line}
use Rattle.relay_command.specs.Serving.{HaveCome, RelayRuns, relay_lines, entry_standing, went_on}
use Rattle.relay_command.proofs.Rounds.{SoFar, never, nothing_came, rests_as}

module _ (turns : List Connection → Type 0) (none : turns []) (port count : ℕ) (server : ServerNow) (start : DiskState) (door : Port) (old : SinkState)
    (ready : IsServerReady server start) where
  abbrev first : ConnectionStanding
  first = entry_standing server.boxes door

  come : HaveCome never turns first [] start start door
  come = nothing_came turns first start door none refl refl

  -- the line couldn't be written
  pub unwritten : (new : SinkState) → TookBeginning old.taken new.taken (port_line port) → Rose old.faults new.faults
      → RelayRuns turns first port count start start door door old new 5
  unwritten new took rose = record {
    ending = Done;
    lines = relay_lines port first [];
    came = went_on [] (rests_as turns first [] start start door server come tt refl ready (λ call. refl)) (omega arith) (λ zero. absurd (omega arith)) refl;
    ends = ends_cut (relay_lines port first []) old new (subst (λ (l : List ℕ). TookBeginning old.taken new.taken l) (sym (append-nil (port_line port))) took) rose;
  }

  pub none_yet : (out : SinkState) → out.taken ≡ appended old.taken (port_line port) → out.faults ≡ old.faults
      → SoFar turns first port 0 server start start door door old out
  none_yet out wrote writes = record {
    xs = [];
    count = refl;
    come = come;
    each = tt;
    boxes = refl;
    sized = refl;
    ready = ready;
    quiet = λ call. refl;
    gate = refl;
    wrote = wrote ∙ ap (appended old.taken) (sym (append-nil (port_line port)));
    writes = writes;
  }
