-- The command, after the look.
use Rattle.std.proofs.Common.{◌≡◌, ℕ, List, [], Option, Ok, Err, refl, subst, sym, ◌∙◌, ap}
use Rattle.dr_ports.specs.Ports.{Rose}
use Rattle.dr_disk.specs.declared.call.Call.{Call}
use Rattle.dr_disk.specs.Spans.{Span}
use Rattle.dr_disk.specs.State.{DiskState}
use Rattle.dr_ports.specs.States.{SinkState}
use Rattle.dr_ports.specs.Wires.{Port, Told}
use Rattle.dr_ports.specs.declared.pipe.Part.TheVariants.{Flow}
use Rattle.endings.specs.Ends.{Ends}
use Rattle.endings.specs.declared.ending.Ending.{Ending}
use Rattle.endings.specs.declared.ending.Ending.TheVariants.{DiskFault, LinkFault}
use Rattle.relay_server.specs.Durable.{ServerNow}
use Rattle.relay_server.specs.Filling.{IsFilling}
use Rattle.relay_server.specs.Looking.{HasSettled}
use Rattle.relay_server.specs.Opening.{IsServerOpened, IsOpening}
use Rattle.relay_server.proofs.FrameByFrame.{at_rest}
use Rattle.relay_server.proofs.OpenedBoxes.{fault_then, opened_then, settled_moments}
use Rattle.relay_command.specs.Connections.{Connection, IsHeard, CouldNotListen, ConnectionStanding, listening}
use Rattle.relay_command.specs.InTurn.{CameInTurn}
use Rattle.relay_command.specs.Names.{AreNames, specs_of}
use Rattle.relay_command.specs.Relaying.{Looks, Relays, RunsRelay, was_opened, was_unheard, was_unopened, was_unsettled}
use Rattle.relay_command.specs.Serving.{RelayRuns, ServesConnections, entry_standing}
use Rattle.relay_command.proofs.Lifting.{lift}
use Rattle.relay_command.proofs.Rounds.{never}

module _ {X Y : Type 0} (state : X → DiskState) (port_of : Y → Port) (words : List (List ℕ)) (port count : ℕ) (names : AreNames words) (start mid : X) (from : Y) (old new : SinkState) (code : ℕ) where
  -- the look was refused
  pub unopened_runs : (ending : Ending) → Looks words (state start) (state mid) (Err ending) → Ends ending [] old new code
      → RunsRelay state port_of words port count start mid from from old new code
  unopened_runs ending looks ends = record {
    ending = ending;
    lines = [];
    came = subst (λ (e : Ending). Relays state port_of words port count start mid from from code e []) (sym looks.3) (was_unopened names looks.0 looks.1 looks.2 refl);
    ends = ends;
  }

  module _ (looked : ServerNow) (looks : Looks words (state start) (state mid) (Ok looked)) where
    -- the port was taken
    pub unheard_runs : (door : Y) → CouldNotListen (port_of from) (port_of door) → Ends LinkFault [] old new code
        → RunsRelay state port_of words port count start mid from door old new code
    unheard_runs door unheard ends = record { ending = LinkFault; lines = []; came = was_unheard names looked looks.0 looks.1 unheard; ends = ends }

    module _ (opened : X) (heard : Y) (is_heard : IsHeard port (port_of from) (port_of heard)) (span : Span (state mid) (state opened) (IsFilling looked.boxes (state mid))) where
      moments : Span (state start) (state opened) (IsOpening (specs_of words) (state start))
      moments = settled_moments (specs_of words) (state start) (state mid) (state opened) looked looks.0 looks.1 span

      -- a call on the disk failed
      pub unsettled_runs : (call : Call) → Rose ((state mid).faults call) ((state opened).faults call) → Ends DiskFault [] old new code
          → RunsRelay state port_of words port count start opened from heard old new code
      unsettled_runs call rose ends = record {
        ending = DiskFault;
        lines = [];
        came = was_unsettled names looked.boxes looks.0.boxes moments call
            (fault_then (specs_of words) (state start) (state mid) (state opened) looked looks.0 looks.1 span call rose) is_heard;
        ends = ends;
      }

      -- the boxes were opened, and their connections served
      module _ (server : ServerNow) (settled : HasSettled looked server (state mid) (state opened)) where
        is_opened : IsServerOpened (specs_of words) server (state start) (state opened)
        is_opened = opened_then (specs_of words) (state start) (state mid) (state opened) looked looks.0 looks.1 span server settled

        abbrev first : ConnectionStanding
        first = listening port (entry_standing server.boxes (port_of from))

        -- what stands before the first connection
        first_is : entry_standing server.boxes (port_of heard) ≡ first
        first_is =
            ap (λ (t : Option Told). record { boxes = server.boxes; told = t; faults = (port_of heard).faults Flow }) is_heard.told
            ∙ ap (λ (n : ℕ). record first { faults = n }) is_heard.flow

        abbrev Turns : X → ConnectionStanding → List Connection → Type 0
        Turns now s xs = CameInTurn state port_of s opened xs now

        pub opened_runs : (now : X) (door : Y)
            → RelayRuns (Turns now (entry_standing server.boxes (port_of heard))) (entry_standing server.boxes (port_of heard)) port count (state opened) (state now) (port_of heard) (port_of door) old new code
            → RunsRelay state port_of words port count start now from door old new code
        opened_runs now door runs = record {
          ending = runs.ending;
          lines = runs.lines;
          came = was_opened names server.boxes is_opened.boxes opened moments (at_rest server.boxes server (state opened) refl is_opened.ready) runs.ending runs.lines
              (lift (specs_of words) (Turns now first) first (state start) (state opened) (state now) (port_of from) (port_of heard) (port_of door) is_opened.boxes.count moments is_opened.quiet is_heard.gate port count code runs.ending runs.lines
              (subst (λ (s : ConnectionStanding). ServesConnections never (Turns now s) s port count (state opened) (state now) (port_of heard) (port_of door) code runs.ending runs.lines) first_is runs.came));
          ends = runs.ends;
        }
