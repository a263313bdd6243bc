-- A connection frame by frame, from the rounds so far and the last one.
use Rattle.std.proofs.Common.{◌≡◌, inl, inr, ℕ, ◌+◌, ◌<◌, Bool, true, List, [], ◌∷◌, ◌++◌, Result, Ok, Err, refl, sym, ap, subst}
use Rattle.dr_disk.specs.Spans.{IsQuiet}
use Rattle.dr_disk.specs.State.{DiskState}
use Rattle.dr_disk.proofs.Steps.{stays}
use Rattle.dr_ports.specs.Wires.{Port}
use Rattle.relay_pipe.proofs.Exchanged.{nothing_yet}
use Rattle.relay_wire.proofs.Joining.{flat}
use Rattle.relay_core.specs.declared.limits.TheConstants.{EXCHANGE_LIMIT}
use Rattle.relay_core.specs.Boxes.{Box}
use Rattle.relay_core.specs.Streams.{Served, is_last}
use Rattle.relay_wire.specs.Frames.{frames_of}
use Rattle.relay_server.specs.declared.serving.Ended.{Ended}
use Rattle.relay_server.specs.declared.serving.ServeFault.{ServeFault}
use Rattle.relay_server.specs.declared.serving.ServeFault.TheVariants.{Read, Write, Store}
use Rattle.relay_server.specs.declared.serving.Round.{Round}
use Rattle.relay_server.specs.declared.serving.Round.TheVariants.{AtEnd, Answered}
use Rattle.relay_server.specs.Durable.{IsServerReady, ServerNow}
use Rattle.relay_server.specs.Serving.{Came, Idle, LeavesCounts, Rounds, ServedSoFar, reply_to}
use Rattle.relay_server.specs.FrameByFrame.{AreAnswered, IsServerAtRest, IsServedInOrder, after_frames, broke_off_in, ended_behind, none_yet, one_more}
use Rattle.relay_server.proofs.Serve.{with_frame}
use Rattle.relay_server.proofs.Ends.{frames_are, total_frames, whole_frames}
use Rattle.relay_server.proofs.Exits.{exit_end, exit_fault, exit_full, exit_last}

pub at_rest : (boxes : List Box) (server : ServerNow) (disk : DiskState) → server.boxes ≡ boxes → IsServerReady server disk → IsServerAtRest boxes disk
at_rest boxes server disk same ready = record {
  stores = server.stores;
  ready = subst (λ (bs : List Box). IsServerReady (record { boxes = bs; stores = server.stores }) disk) same ready;
}

module _ {X Y : Type 0} (state : X → DiskState) (port : Y → Port) where
  pub nothing_answered : (old : ServerNow) (start : X) (from : Y) → IsServerReady old (state start)
      → AreAnswered state port old.boxes start from [] old.boxes start from
  nothing_answered old start from ready = none_yet (at_rest old.boxes old (state start) refl ready)

  module _ (old server new : ServerNow) (from pipe later : Y) (start disk next : X) (n : ℕ)
      (so : ServedSoFar EXCHANGE_LIMIT old server.boxes (port from) (port pipe) (state start) (state disk) n)
      (under : n < EXCHANGE_LIMIT)
      (answered : AreAnswered state port old.boxes start from so.frames server.boxes disk pipe) where
    -- the round after these
    abbrev Went : Result Round ServeFault → Type 0
    Went round = Rounds server new (port pipe) (port later) (state disk) (state next) round

    abbrev Goes : Result Ended ServeFault → Type 0
    Goes result = IsServedInOrder state port old new start next from later result

    abbrev Counts : Result Ended ServeFault → Type 0
    Counts result = LeavesCounts state port start next from later result

    abbrev CameWith : List ℕ → List ℕ → Type 0
    CameWith frame put = Came frame put server.boxes new.boxes (port pipe) (port later) (state disk) (state next)

    after_one : (frame put : List ℕ) → CameWith frame put
        → new.boxes ≡ (after_frames old.boxes (so.frames ++ frame ∷ [])).next
    after_one frame put came = ap (λ (s : Served). s.next)
        (sym (with_frame EXCHANGE_LIMIT old server.boxes (port from) (port pipe) (state start) (state disk) n so
        frame put new.boxes (port later) (state next) under came))

    frames_with : (frame put : List ℕ) → CameWith frame put → frames_of (flat so.frames ++ frame) ≡ so.frames ++ frame ∷ []
    frames_with frame put came = whole_frames old server.boxes (port from) (port pipe) (state start) (state disk) n so
        frame put new.boxes (port later) (state next) under came

    -- one frame more was answered
    pub answered_on : (last : Bool) (r : Went (Ok (Answered last)))
        → AreAnswered state port old.boxes start from (so.frames ++ r.0 ∷ []) new.boxes next later
    answered_on last r = one_more so.frames r.0 server.boxes new.boxes disk next pipe later answered r.1
        (after_one r.0 (reply_to server.boxes r.0) r.1) (at_rest new.boxes new (state next) refl r.3)

    -- no whole frame came
    answered_all : (got : List ℕ) → Idle got server.boxes new.boxes (port pipe) (port later) (state disk) (state next)
        → AreAnswered state port old.boxes start from (frames_of (flat so.frames ++ got)) server.boxes disk pipe
    answered_all got idle = subst
        (λ (fs : List (List ℕ)). AreAnswered state port old.boxes start from fs server.boxes disk pipe)
        (sym (total_frames old server.boxes (port from) (port pipe) (state start) (state disk) n so
        got new.boxes (port later) (state next) idle))
        answered

    pub order_fault : (fault : ServeFault) → IsQuiet (state start) (state disk) → Counts (Err fault) → Went (Err fault) → Goes (Err fault)
    order_fault Read quiet counts r = record {
      served = exit_fault old server new (port from) (port pipe) (port later) (state start) (state disk) (state next) n
          so under Read quiet r;
      in_order = ended_behind server.boxes disk pipe r.0 (answered_all r.0 r.1) r.1.exchanges r.1.still
          (at_rest server.boxes new (state next) r.1.same r.3);
      counts = counts;
    }
    order_fault Write quiet counts r = record {
      served = exit_fault old server new (port from) (port pipe) (port later) (state start) (state disk) (state next) n
          so under Write quiet r;
      in_order = broke_off_in so.frames r.0 r.1 r.2 server.boxes new.boxes disk pipe (frames_with r.0 r.1 r.3) answered r.3
          (after_one r.0 r.1 r.3) r.4 (inr (at_rest new.boxes new (state next) refl r.6));
      counts = counts;
    }
    order_fault (Store call) quiet counts r = record {
      served = exit_fault old server new (port from) (port pipe) (port later) (state start) (state disk) (state next) n
          so under (Store call) quiet r;
      in_order = broke_off_in so.frames r.0 [] (reply_to server.boxes r.0) server.boxes new.boxes disk pipe
          (frames_with r.0 [] r.1) answered r.1 (after_one r.0 [] r.1) refl (inl refl);
      counts = counts;
    }

    pub order_end : (ended : Ended) → ended.answered ≡ n → Counts (Ok ended) → Went (Ok AtEnd) → Goes (Ok ended)
    order_end ended is counts r = record {
      served = exit_end old server new (port from) (port pipe) (port later) (state start) (state disk) (state next) n
          so under ended is counts.quiet r;
      in_order = ended_behind server.boxes disk pipe r.0 (answered_all r.0 r.1) r.1.exchanges r.1.still
          (at_rest server.boxes new (state next) r.1.same r.3);
      counts = counts;
    }

    pub order_last : (ended : Ended) (last : Bool) → ended.answered ≡ n + 1 → last ≡ true → Counts (Ok ended)
        → Went (Ok (Answered last)) → Goes (Ok ended)
    order_last ended last is is_last counts r = record {
      served = exit_last old server new (port from) (port pipe) (port later) (state start) (state disk) (state next) n
          so under ended last is is_last counts.quiet r;
      in_order = ended_behind new.boxes next later []
          (subst (λ (fs : List (List ℕ)). AreAnswered state port old.boxes start from fs new.boxes next later)
          (sym (frames_with r.0 (reply_to server.boxes r.0) r.1)) (answered_on last r))
          (nothing_yet (port later)) (stays (state next) _) (at_rest new.boxes new (state next) refl r.3);
      counts = counts;
    }

  pub order_full : (old server : ServerNow) (from pipe : Y) (start disk : X) (n : ℕ)
      (so : ServedSoFar EXCHANGE_LIMIT old server.boxes (port from) (port pipe) (state start) (state disk) n)
      → AreAnswered state port old.boxes start from so.frames server.boxes disk pipe → n ≡ EXCHANGE_LIMIT
      → IsServerReady server (state disk) → (ended : Ended) → LeavesCounts {E = ServeFault} state port start disk from pipe (Ok ended)
      → ended.answered ≡ EXCHANGE_LIMIT → IsServedInOrder state port old server start disk from pipe (Ok ended)
  order_full old server from pipe start disk n so answered full ready ended counts is = record {
    served = exit_full old server (port from) (port pipe) (state start) (state disk) n so full ready counts.quiet ended is;
    in_order = ended_behind server.boxes disk pipe []
        (subst (λ (fs : List (List ℕ)). AreAnswered state port old.boxes start from fs server.boxes disk pipe)
        (sym (frames_are old server.boxes (port from) (port pipe) (state start) (state disk) n so)) answered)
        (nothing_yet (port pipe)) (stays (state disk) _) (at_rest server.boxes server (state disk) refl ready);
    counts = counts;
  }
