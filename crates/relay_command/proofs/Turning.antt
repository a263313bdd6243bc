-- A connection that was accepted, served and shut.
use Rattle.std.proofs.Common.{◌≡◌, ◌≤◌, ℕ, List, [], ◌++◌, Option, None, Some, Result, Ok, Err, refl, sym, ◌∙◌, ap, subst, append-nil, append_assoc, arith}
use Rattle.std.specs.Prelude.{IfSome, option_map}
use Rattle.dr_disk.specs.declared.call.Call.{Call}
use Rattle.dr_disk.specs.State.{DiskState}
use Rattle.dr_ports.specs.Ports.{Rose}
use Rattle.dr_ports.specs.Wires.{IsAhead, Port, Told, hung_up, next_of}
use Rattle.dr_ports.specs.declared.pipe.Part.TheVariants.{Flow, Gate}
use Rattle.relay_core.specs.Boxes.{Box}
use Rattle.relay_core.specs.Streams.{reply_bytes, reply_frame, served}
use Rattle.relay_server.specs.Durable.{ServerNow}
use Rattle.relay_server.specs.Serving.{AnswersStream, Exchanges, IsServed, LastOrBefore, exchanged}
use Rattle.relay_server.specs.declared.serving.Ended.{Ended}
use Rattle.relay_server.specs.declared.serving.ServeFault.{ServeFault}
use Rattle.relay_server.specs.declared.serving.ServeFault.TheVariants.{Read, Store, Write}
use Rattle.relay_command.specs.declared.connecting.Connected.TheVariants.{Ended as IsEnded, Failed}
use Rattle.relay_command.specs.Connections.{Connection, HasRisen, IsBeginning, HowItWent, ended, failed, stopped}
use Rattle.relay_command.proofs.Prefixes.{replies_on}
use Rattle.relay_command.specs.Turns.{IsServedTurn, IsStoppedTurn, IsTurn, Turns, broken_as}

-- what a door tells that was accepted at: nothing more would be answered of what it holds
-- and what was sent is a beginning of the replies to all that it holds
begun_of : (told at : Option Told) (boxes : List Box) (got put : List ℕ) → at ≡ option_map (exchanged got put) (option_map next_of told) → IsBeginning put (reply_bytes (served boxes got))
    → IfSome at (λ t. IsAhead t.now) → IfSome told (λ t. IsBeginning put (reply_bytes (served boxes (t.coming 0 put))))
begun_of None at boxes got put is begun ahead = tt
begun_of (Some t) at boxes got put is begun ahead =
    let left : IsAhead (exchanged got put (next_of t)).now = subst (λ (o : Option Told). IfSome o (λ (x : Told). IsAhead x.now)) is ahead in
    let longer = replies_on boxes got left.0 in (
      begun.0 ++ longer.0,
      ap (λ (stream : List ℕ). reply_bytes (served boxes stream)) left.1 ∙ longer.1 ∙ ap (λ (l : List ℕ). l ++ longer.0) begun.1 ∙ append_assoc put begun.0 longer.0,
    )

whole_of : (told at : Option Told) (boxes : List Box) (got put : List ℕ) → at ≡ option_map (exchanged got put) (option_map next_of told)
    → ((t : Told) (more : List ℕ) → at ≡ Some t → t.now.gives t.now.sent ≡ t.now.received ++ more → served boxes (got ++ more) ≡ served boxes got)
    → IfSome at (λ t. IsAhead t.now) → IfSome told (λ t. served boxes (t.coming 0 put) ≡ served boxes got)
whole_of None at boxes got put is all ahead = tt
whole_of (Some t) at boxes got put is all ahead =
    let now : Told = exchanged got put (next_of t) in
    let left : IsAhead now.now = subst (λ (o : Option Told). IfSome o (λ (x : Told). IsAhead x.now)) is ahead in
    ap (served boxes) left.1 ∙ all now left.0 is left.1

module _ (order : Connection → Type 0) (old new : ServerNow) (start now : DiskState) (from accepted after door : Port) (told : accepted.told ≡ option_map next_of from.told) (flow : accepted.faults Flow ≡ from.faults Flow)
    (gate : after.faults Gate ≡ from.faults Gate) (shut : door.told ≡ option_map hung_up after.told) (still : door.faults Flow ≡ after.faults Flow)
    (shut_gate : door.faults Gate ≡ after.faults Gate) (ahead : IfSome after.told (λ t. IsAhead t.now)) where
  abbrev connection : List ℕ → List ℕ → HowItWent → Connection
  connection got put went = record { got = got; put = put; went = went; faults = door.faults Flow }

  abbrev Ordered : List ℕ → Type 0
  Ordered got = (x : Connection) → x.got ≡ got → Exchanges x.got x.put accepted after → order x

  module _ (result : Result Ended ServeFault) (s : IsServed old new accepted after start now result) (ordered : Ordered s.got) where
    exchanges : (put : List ℕ) → AnswersStream old.boxes new.boxes s.got put accepted after
        → after.told ≡ option_map (exchanged s.got put) (option_map next_of from.told)
    exchanges put answers = answers.exchanges ∙ ap (option_map (exchanged s.got put)) told

    turn_of : (put : List ℕ) (went : HowItWent) → AnswersStream old.boxes new.boxes s.got put accepted after → IsTurn order old new start now from door (connection s.got put went)
    turn_of put went answers = record {
      told = shut ∙ ap (option_map hung_up) (exchanges put answers);
      faults = refl;
      gate = shut_gate ∙ gate;
      next = answers.next_is;
      count = s.count;
      in_order = ordered (connection s.got put went) refl answers.exchanges;
      during = s.during;
    }

  risen : accepted.faults Flow ≤ after.faults Flow → Rose (accepted.faults Flow) (after.faults Flow)
      → HasRisen (from.faults Flow) (door.faults Flow)
  risen later rose =
      (omega (arith, later, flow, still), subst (λ (n : ℕ). Rose (from.faults Flow) n) (sym still) (subst (λ (n : ℕ). Rose n (after.faults Flow)) flow rose))

  pub turn_ended : (answered : Ended) (s : IsServed old new accepted after start now (Ok answered)) → Ordered s.got → after.faults Flow ≡ accepted.faults Flow
      → IsServedTurn order old new start now from door (IsEnded answered.answered)
  turn_ended answered s ordered quiet =
      let put = reply_bytes (served old.boxes s.got) in
      let turn = turn_of (Ok answered) s ordered put ended s.serves.0 in
      record {
        x = connection s.got put ended;
        turn = turn;
        sent = (refl, whole_of from.told after.told old.boxes s.got put (exchanges (Ok answered) s ordered put s.serves.0) s.serves.4 ahead, still ∙ quiet ∙ flow);
        how = (refl, s.serves.3);
        ready = s.serves.1;
        quiet = s.serves.2;
      }

  turn_unread : (s : IsServed old new accepted after start now (Err Read)) → Ordered s.got → accepted.faults Flow ≤ after.faults Flow → IsServedTurn order old new start now from door Failed
  turn_unread s ordered later =
      let put = reply_bytes (served old.boxes s.got) in
      let turn = turn_of (Err Read) s ordered put failed s.serves.0 in
      let all : IsBeginning put put = ([], sym (append-nil put)) in
      record {
        x = connection s.got put failed;
        turn = turn;
        sent = (all, begun_of from.told after.told old.boxes s.got put (exchanges (Err Read) s ordered put s.serves.0) all ahead, risen later s.serves.3);
        how = refl;
        ready = s.serves.1;
        quiet = s.serves.2;
      }

  turn_unsent : (s : IsServed old new accepted after start now (Err Write)) → Ordered s.got → accepted.faults Flow ≤ after.faults Flow → IsServedTurn order old new start now from door Failed
  turn_unsent s ordered later =
      let turn = turn_of (Err Write) s ordered s.serves.0 failed s.serves.2 in
      let some : IsBeginning s.serves.0 (reply_bytes (served old.boxes s.got)) = (s.serves.1, s.serves.3) in
      record {
        x = connection s.got s.serves.0 failed;
        turn = turn;
        sent = (some, begun_of from.told after.told old.boxes s.got s.serves.0 (exchanges (Err Write) s ordered s.serves.0 s.serves.2) some ahead, risen later s.serves.6);
        how = refl;
        ready = s.serves.4;
        quiet = s.serves.5;
      }

  turn_stopped : (call : Call) → (s : IsServed old new accepted after start now (Err (Store call))) → Ordered s.got → accepted.faults Flow ≤ after.faults Flow → IsStoppedTurn order old new start now from door
  turn_stopped call s ordered later =
      let turn = turn_of (Err (Store call)) s ordered s.serves.0 stopped s.serves.2 in
      let some : IsBeginning s.serves.0 (reply_bytes (served old.boxes s.got)) = (reply_frame s.serves.1, s.serves.3) in
      record {
        x = connection s.got s.serves.0 stopped;
        turn = turn;
        stopped = record { last = s.serves.1; replies = s.serves.3; begun = begun_of from.told after.told old.boxes s.got s.serves.0 (exchanges (Err (Store call)) s ordered s.serves.0 s.serves.2) some ahead; stands = subst (λ (bs : List Box). LastOrBefore old.boxes bs s.got now) s.serves.2.next_is s.serves.5; later = omega (arith, later, flow, still) };
        call = call;
        rose = s.serves.4;
      }

  pub turn_broken : (fault : ServeFault) → (s : IsServed old new accepted after start now (Err fault)) → Ordered s.got → accepted.faults Flow ≤ after.faults Flow → Turns order old new start now from door (broken_as fault)
  turn_broken Read s ordered later = turn_unread s ordered later
  turn_broken Write s ordered later = turn_unsent s ordered later
  turn_broken (Store call) s ordered later = turn_stopped call s ordered later
