-- Connection after connection.
use Rattle.std.proofs.Common.{◌≡◌, inr, ⊎_elim, ℕ, ◌+◌, ◌<◌, List, [], ◌∷◌, ◌++◌, length, Option, Err, sym, ◌∙◌, ap, subst, arith, append_assoc, length-append}
use Rattle.dr_disk.specs.Spans.{IsQuiet, Span}
use Rattle.dr_disk.specs.State.{DiskState}
use Rattle.dr_disk.proofs.Steps.{quiet_twice, spans, stays, widen}
use Rattle.dr_ports.specs.Ports.{Rose, appended}
use Rattle.dr_ports.specs.States.{SinkState}
use Rattle.dr_ports.specs.Writing.{TookBeginning}
use Rattle.dr_ports.specs.Wires.{Port, Told}
use Rattle.dr_ports.specs.declared.pipe.Part.TheVariants.{Flow, Gate}
use Rattle.dr_ports.proofs.Told.{appended-appended}
use Rattle.dr_ports.proofs.WritingLemmas.{took_of_second}
use Rattle.endings.specs.Ends.{Ends}
use Rattle.endings.specs.declared.ending.Ending.TheVariants.{DiskFault, Done, LinkFault}
use Rattle.endings.proofs.Closing.{ends_behind, ends_cut}
use Rattle.relay_core.specs.Boxes.{Box}
use Rattle.relay_server.specs.Durable.{IsServerReady, ServerNow}
use Rattle.relay_server.specs.Places.{IsSameBehind, SameBehind}
use Rattle.relay_server.specs.Serving.{Reached}
use Rattle.relay_server.proofs.Behind.{behind_twice}
use Rattle.relay_command.specs.declared.connecting.Connected.{Connected}
use Rattle.relay_command.specs.declared.connecting.Fault.{Fault}
use Rattle.relay_command.specs.declared.connecting.Fault.TheVariants.{Accept, Store}
use Rattle.relay_command.specs.Connections.{AreServed, Connection, HasRisen, SentReplies, ConnectionStanding, after_connection, behind_all, lines_behind, port_line}
use Rattle.relay_command.specs.Serving.{HaveCome, IsConnectionStopped, RelayRuns, WereServed, relay_lines, entry_standing, was_stopped, was_unaccepted, went_on}
use Rattle.relay_command.specs.Turns.{IsServedTurn, IsTurn, Turns, closing_of_fault, line_of}
use Rattle.relay_command.proofs.Connections.{behind_more, line_is, lines_more, own_line, reached_before, reached_last, served_more}

abbrev pub never : List ℕ → Type 0
never c = ⊥

-- n connections were served, and their lines written
pub record SoFar (turns : List Connection → Type 0) (s : ConnectionStanding) (port n : ℕ) (server : ServerNow) (start now : DiskState) (from door : Port) (old new : SinkState) : Type 0 where
  pub xs : List Connection
  pub count : length xs ≡ n
  pub come : HaveCome never turns s xs start now door
  pub each : AreServed s xs
  pub boxes : server.boxes ≡ (behind_all s xs).boxes
  pub sized : length server.boxes ≡ length s.boxes
  pub ready : IsServerReady server now
  pub quiet : IsQuiet start now
  pub gate : door.faults Gate ≡ from.faults Gate
  pub wrote : new.taken ≡ appended old.taken (relay_lines port s xs)
  pub writes : new.faults ≡ old.faults

-- no call was made on the disk
pub nothing_came : (turns : List Connection → Type 0) (s : ConnectionStanding) (start : DiskState) (door : Port) → turns [] → door.told ≡ s.told → door.faults Flow ≡ s.faults → HaveCome never turns s [] start start door
nothing_came turns s start door none told faults = record { told = told; faults = faults; in_turn = none; during = stays start _ }

pub still_came : (turns later_turns : List Connection → Type 0) (s : ConnectionStanding) (xs : List Connection) (start mid now : DiskState) (door later : Port) → HaveCome never turns s xs start mid door → later_turns xs → later.told ≡ door.told → later.faults Flow ≡ door.faults Flow
    → Span mid now (λ c. ⊥) → HaveCome never later_turns s xs start now later
still_came turns later_turns s xs start mid now door later come in_turn told faults still = record {
  told = told ∙ come.told;
  faults = faults ∙ come.faults;
  in_turn = in_turn;
  during = spans start mid now _ come.during (widen mid now _ _ (λ c none. absurd none) still);
}

pub rests_as : (turns : List Connection → Type 0) (s : ConnectionStanding) (xs : List Connection) (start now : DiskState) (door : Port) (server : ServerNow) → HaveCome never turns s xs start now door → AreServed s xs → server.boxes ≡ (behind_all s xs).boxes → IsServerReady server now
    → IsQuiet start now → WereServed never turns s xs start now door
rests_as turns s xs start now door server come each boxes ready quiet = record {
  come = come;
  each = each;
  rests = record { stores = server.stores; ready = subst (λ (bs : List Box). IsServerReady (record { boxes = bs; stores = server.stores }) now) boxes ready };
  quiet = quiet;
}

module _ (turns : List Connection → Type 0) (s : ConnectionStanding) (port n : ℕ) (server : ServerNow) (start mid : DiskState) (from door : Port) (old out : SinkState)
    (so : SoFar turns s port n server start mid from door old out) where
  -- what stands before the next connection
  pub here : entry_standing server.boxes door ≡ behind_all s so.xs
  here =
      ap (λ (bs : List Box). record { boxes = bs; told = door.told; faults = door.faults Flow }) so.boxes
      ∙ ap (λ (t : Option Told). record { boxes = (behind_all s so.xs).boxes; told = t; faults = door.faults Flow }) so.come.told
      ∙ ap (λ (n : ℕ). record { boxes = (behind_all s so.xs).boxes; told = (behind_all s so.xs).told; faults = n }) so.come.faults

  module _ (order : Connection → Type 0) (new : ServerNow) (now : DiskState) (later : Port) (x : Connection) (turn : IsTurn order server new mid now door later x) where
    -- bytes of a moment of this connection
    outside : (c : List ℕ) → IsSameBehind (length server.boxes) mid c → IsSameBehind (length s.boxes) start c
    outside c frame =
        let sized = subst (λ (n : ℕ). SameBehind n frame.0 c) so.sized frame.2 in
        ⊎_elim (λ was. (frame.0, was, sized)) (λ left. (left.1.0, left.1.1, behind_twice (length s.boxes) left.1.0 frame.0 c left.1.2 sized)) (so.come.during.last frame.0 frame.1)

    come_more : (next : List Connection → Type 0) → next (so.xs ++ x ∷ []) → HaveCome never next s (so.xs ++ x ∷ []) start now later
    come_more next in_turn = record {
      in_turn = in_turn;
      told = turn.told ∙ ap (λ (t : ConnectionStanding). (after_connection t x).told) here ∙ ap (λ (t : ConnectionStanding). t.told) (sym (behind_more s so.xs x));
      faults = turn.faults ∙ ap (λ (t : ConnectionStanding). t.faults) (sym (behind_more s so.xs x));
      during = spans start mid now _
          (widen start mid _ _ (λ c is. (⊎_elim (λ none. absurd none) (λ was. inr (reached_before s so.xs x c was)) is.0, is.1)) so.come.during)
          (widen mid now _ _ (λ c is. (inr (reached_last s so.xs x c (subst (λ (bs : List Box). Reached bs x.got c) so.boxes is.0)), outside c is.1)) turn.during);
    }

    boxes_more : new.boxes ≡ (behind_all s (so.xs ++ x ∷ [])).boxes
    boxes_more = turn.next ∙ ap (λ (t : ConnectionStanding). (after_connection t x).boxes) here ∙ ap (λ (t : ConnectionStanding). t.boxes) (sym (behind_more s so.xs x))

    count_more : length (so.xs ++ x ∷ []) ≡ n + 1
    count_more = omega (arith, length-append {A = Connection} so.xs (x ∷ []), so.count)

  module _ (order : Connection → Type 0) (next : List Connection → Type 0) (one : (x : Connection) → turns so.xs → order x → next (so.xs ++ x ∷ [])) (new : ServerNow) (now : DiskState) (later : Port) (connected : Connected)
      (t : IsServedTurn order server new mid now door later connected) where
    came_then : HaveCome never next s (so.xs ++ t.x ∷ []) start now later
    came_then = come_more order new now later t.x t.turn next (one t.x so.come.in_turn t.turn.in_order)

    each_more : AreServed s (so.xs ++ t.x ∷ [])
    each_more = served_more s so.xs t.x so.each (subst (λ (st : ConnectionStanding). SentReplies st t.x t.x.went) here t.sent)

    lines_then : relay_lines port s so.xs ++ line_of (n + 1) connected ≡ relay_lines port s (so.xs ++ t.x ∷ [])
    lines_then =
        append_assoc (port_line port) (lines_behind 0 s so.xs) (line_of (n + 1) connected)
        ∙ ap (λ (l : List ℕ). port_line port ++ (lines_behind 0 s so.xs ++ l))
        (line_is (n + 1) (entry_standing server.boxes door) t.x connected t.how ∙ ap (λ (st : ConnectionStanding). own_line (n + 1) st t.x) here
        ∙ ap (λ (k : ℕ). own_line k (behind_all s so.xs) t.x) (let e : n + 1 ≡ 0 + length so.xs + 1 = omega (arith, so.count) in e))
        ∙ ap (λ (l : List ℕ). port_line port ++ l) (sym (lines_more 0 s so.xs t.x))

    -- its line was written
    pub one_more : (new_out : SinkState) → new_out.taken ≡ appended out.taken (line_of (n + 1) connected) → new_out.faults ≡ out.faults → SoFar next s port (n + 1) new start now from later old new_out
    one_more new_out wrote writes = record {
      xs = so.xs ++ t.x ∷ [];
      count = count_more order new now later t.x t.turn;
      come = came_then;
      each = each_more;
      boxes = boxes_more order new now later t.x t.turn;
      sized = t.turn.count ∙ so.sized;
      ready = t.ready;
      quiet = quiet_twice start mid now so.quiet t.quiet;
      gate = t.turn.gate ∙ so.gate;
      wrote = wrote ∙ ap (λ (o : Option (List ℕ)). appended o (line_of (n + 1) connected)) so.wrote ∙ appended-appended old.taken (relay_lines port s so.xs) (line_of (n + 1) connected)
          ∙ ap (appended old.taken) lines_then;
      writes = writes ∙ so.writes;
    }

    -- or it couldn't be
    pub cut_then : (count : ℕ) → n < count → (new_out : SinkState) → TookBeginning out.taken new_out.taken (line_of (n + 1) connected) → Rose out.faults new_out.faults
        → RelayRuns next s port count start now from later old new_out 5
    cut_then count less new_out took rose = record {
      ending = Done;
      lines = relay_lines port s (so.xs ++ t.x ∷ []);
      came = went_on (so.xs ++ t.x ∷ [])
          (rests_as next s (so.xs ++ t.x ∷ []) start now later new came_then each_more (boxes_more order new now later t.x t.turn) t.ready (quiet_twice start mid now so.quiet t.quiet))
          (omega (arith, less, count_more order new now later t.x t.turn)) (λ zero. absurd (omega arith)) (t.turn.gate ∙ so.gate);
      ends = ends_cut (relay_lines port s (so.xs ++ t.x ∷ [])) old new_out
          (subst (λ (l : List ℕ). TookBeginning old.taken new_out.taken l) lines_then (took_of_second old.taken out.taken new_out.taken (relay_lines port s so.xs) (line_of (n + 1) connected) so.wrote took))
          (omega (arith, rose, so.writes));
    }

  -- no connection more is served
  pub faulty : (order : Connection → Type 0) (next : List Connection → Type 0) → ((x : Connection) → turns so.xs → order x → next (so.xs ++ x ∷ [])) → (new : ServerNow) (now : DiskState) (later : Port) → (turns so.xs → Span mid now (λ c. ⊥) → next so.xs)
      → (count : ℕ) → n < count → (fault : Fault) → Turns order server new mid now door later (Err fault) → (code : ℕ) (new_out : SinkState)
      → Ends (closing_of_fault fault) [] out new_out code → RelayRuns next s port count start now from later old new_out code
  faulty order next one new now later alone count less Accept none code new_out ends = record {
    ending = LinkFault;
    lines = relay_lines port s so.xs;
    came = was_unaccepted so.xs
        (rests_as next s so.xs start now later new (still_came turns next s so.xs start mid now door later so.come (alone so.come.in_turn none.still) none.told none.faults none.still) so.each (none.next ∙ so.boxes) none.ready (quiet_twice start mid now so.quiet none.quiet))
        (omega (arith, less, so.count)) (subst (λ (n : ℕ). HasRisen n (later.faults Gate)) so.gate none.rose);
    ends = ends_behind LinkFault (relay_lines port s so.xs) old out new_out code so.wrote so.writes ends;
  }
  faulty order next one new now later alone count less Store t code new_out ends = record {
    ending = DiskFault;
    lines = relay_lines port s so.xs;
    came = was_stopped so.xs t.x t.call (come_more order new now later t.x t.turn next (one t.x so.come.in_turn t.turn.in_order)) so.each (subst (λ (st : ConnectionStanding). IsConnectionStopped st t.x now) here t.stopped)
        (omega (arith, less, so.count)) (let counts = so.come.during.counts t.call in omega (arith, t.rose, counts)) (t.turn.gate ∙ so.gate);
    ends = ends_behind DiskFault (relay_lines port s so.xs) old out new_out code so.wrote so.writes ends;
  }

  -- all were served
  pub all_served : (count : ℕ) → n ≡ count → (code : ℕ) (new_out : SinkState) → Ends Done [] out new_out code → RelayRuns turns s port count start mid from door old new_out code
  all_served count full code new_out ends = record {
    ending = Done;
    lines = relay_lines port s so.xs;
    came = went_on so.xs (rests_as turns s so.xs start mid door server so.come so.each so.boxes so.ready so.quiet) (omega (arith, full, so.count)) (λ zero. so.count ∙ full) so.gate;
    ends = ends_behind Done (relay_lines port s so.xs) old out new_out code so.wrote so.writes ends;
  }
