-- A sync reply by reply: each round is a turn of it, and what a crash leaves at a moment of it is behind what was sent.
use Rattle.std.proofs.Common.{Bool, Err, List, Ok, Some, [], ap, append-nil, arith, inl, inr, None, refl, subst, sym, ℕ, ⊎_elim, ◌++◌, ◌∙◌, ◌∷◌, ◌≡◌, ◌≤◌, ◌⊎◌}
use Rattle.std.specs.List.{sum_by}
use Rattle.dr_disk.specs.Spans.{HavePassed}
use Rattle.dr_disk.specs.State.{DiskState, IsLawful}
use Rattle.dr_disk.specs.declared.call.Call.{Call}
use Rattle.dr_disk.proofs.Steps.{stays}
use Rattle.dr_ports.specs.States.{SinkState}
use Rattle.dr_ports.specs.Wires.{Port}
use Rattle.kem_laws.specs.Mechanism.{Mechanism}
use Rattle.relay_pipe.specs.Asking.{IsFaulty, cut, fault_at, unread}
use Rattle.relay_pipe.specs.Exchanging.{Exchanges}
use Rattle.relay_pipe.specs.declared.faults.PeerFault.{PeerFault}
use Rattle.relay_pipe.proofs.Exchanged.{nothing_yet}
use Rattle.relay_wire.specs.Framed.{request_frame}
use Rattle.relay_wire.specs.Replies.{Replied}
use Rattle.relay_wire.specs.Requests.{Asked}
use Rattle.session_model.specs.Clients.{Client}
use Rattle.session_record.specs.Record.{record_text}
use Rattle.sync_model.specs.Carried.{request_bytes}
use Rattle.sync_model.specs.Courses.{Course, as_list, asked_now, awaited, begun, course_of, made_requests, read_one}
use Rattle.sync_model.specs.Moves.{Ending, Move, Wait, asked_in, box_is_full, denied_by, ended, fetching, inbox_full, no_such_box, over, wrong}
use Rattle.sync_model.specs.Parties.{Party}
use Rattle.sync_model.specs.Tokens.{Tokens, first_tokens, tagged}
use Rattle.sync_model.specs.declared.more.More.{More}
use Rattle.sync_model.proofs.Reading.{read_last}
use Rattle.client.specs.Cells.{IsOldOrNewInCell, client_cell}
use Rattle.client.specs.Clients.{ClientNow, IsReady}
use Rattle.client.specs.Outcomes.{IsReplacing}
use Rattle.client.specs.declared.syncing.faults.SyncFault.{SyncFault}
use Rattle.client.specs.declared.syncing.faults.SyncFault.TheVariants.{Closed, Link, Peer, Refused, Store, Write}
use Rattle.client.specs.Syncing.InOrder.{AreStepped, EndsBehind, EndsInOrder, InOrder, acks_among, IsAtRestFor, IsBehindSent, IsSyncMoment, IsTurn, Leaves, Spot, SyncsInOrder, between, kept_after, kept_count, moment_at, none_yet, one_more, spot, take_count, within}
use Rattle.client.specs.Syncing.Moments.{IsCounted, Moved, Wrote, WroteBeginning}
use Rattle.client.specs.Syncing.Parties.{client_party}
use Rattle.client.specs.Syncing.Rounds.{IsHeard, IsRound, RoundEnd, came_to_end, heard, heard_as, stops, sync_fault_of, was_broken, was_unheard, was_unstored, was_unwritten, went_on}
use Rattle.client.specs.Syncing.Syncs.{HasRecord}
use Rattle.client.proofs.Syncs.Courses.{asks_still}
use Rattle.client.proofs.Syncs.Ending.{ends_unwritten, ends_well, goes_round, rested, turned}
use Rattle.client.proofs.Syncs.Going.{begins, on, then}
use Rattle.client.proofs.Syncs.Moving.{none_passed}
use Rattle.client.proofs.Syncs.Parties.{drops_one, keeps_outbox}
use Rattle.client.proofs.Syncs.Tallies.{IsTallied, tallied, takes_more}

-- ---- rounds

-- no end of a course is a call on the disk that failed
no_store : (ending : Ending) (call : Call) → sync_fault_of ending ≡ Some (Store call) → ⊥
no_store (ended which) call is = absurd (cc)
no_store inbox_full call is = absurd (cc)
no_store box_is_full call is = absurd (cc)
no_store no_such_box call is = absurd (cc)
no_store (denied_by rule) call is = absurd (cc)
no_store wrong call is = absurd (cc)

module _ (p : Party Client) (first : Client) {X Y : Type 0} (state : X → DiskState) (port : Y → Port) (start : X) (from : Y) (now : X) (last : Y)
    (replies : List Replied) where
  behind_ends : (ending : Ending) (fault : SyncFault) → sync_fault_of ending ≡ Some fault → EndsBehind p first state port start from replies now last
      → EndsInOrder p first state port start from replies now last (Err fault)
  behind_ends ending (Closed call) is ends = ends
  behind_ends ending Link is ends = ends
  behind_ends ending (Peer at what) is ends = ends
  behind_ends ending (Refused refusal) is ends = ends
  behind_ends ending (Store call) is ends = absurd (no_store ending call is)
  behind_ends ending Write is ends = ends

module _ {X Y Z : Type 0} (state : X → DiskState) (port : Y → Port) (taken : Z → SinkState) (p : Party Client) where
  abbrev At : Spot X Y Z → Spot X Y Z → Wait → Tokens → Type 0
  At = InOrder state port taken p

  -- before the first reply
  pub begins_in_order : (a : Spot X Y Z) → a.client.closed ≡ None → IsReady a.client.kept a.client.store (state a.disk) → At a a (fetching 0) first_tokens
  unfolding begins
  begins_in_order a is_open ready = record {
    far = begins p (moment_at state port taken p a) (port a.link) is_open ready;
    stepped = none_yet (record { store = a.client.store; ready = ready });
  }

  module _ (a b : Spot X Y Z) (wait : Wait) (tokens : Tokens) (along : At a b wait tokens) where
    abbrev replies : List Replied
    replies = along.far.replies

    -- no more was sent
    stays_behind : (c : Spot X Y Z) (got put left : List ℕ) → request_bytes (awaited p (course_of p a.client.kept replies)) ≡ put ++ left
        → Exchanges got put (port b.link) (port c.link) → IsReplacing b.client.kept b.client.kept (state b.disk) (state c.disk)
        → HavePassed 0 (state b.disk) (state c.disk) → EndsBehind p a.client.kept state port a.disk a.link replies c.disk c.link
    stays_behind c got put left split told replacing idle = record {
      disk = b.disk;
      link = b.link;
      stepped = along.stepped;
      awaits = record {
        got = got;
        put = put;
        left = left;
        split = split;
        told = told;
        during = subst (λ (x : Client). IsReplacing x x (state b.disk) (state c.disk)) along.far.stands.keeps replacing;
        idle = idle;
      };
    }

    module _ (c : Spot X Y Z) (new : Tokens) (asked : Asked) (asks : asked_in p b.client.kept wait ≡ Some asked) where
      abbrev sent : Asked
      sent = tagged p.keys tokens asked

      abbrev makes : Replied → Bool → Move Client
      makes reply again = heard_as p b.client.kept wait reply again

      abbrev Heard : Replied → Bool → Type 0
      Heard reply again = IsHeard p.keys tokens new asked (port b.link) (port c.link) reply again

      asks_so : asked_now p (course_of p a.client.kept replies) ≡ Some sent
      asks_so = asks_still p a.client.kept replies b.client.kept wait tokens asked along.far.stands.keeps along.far.waits along.far.counts asks

      next_is : (reply : Replied) (again : Bool) → Heard reply again → kept_after p a.client.kept (replies ++ reply ∷ []) ≡ (makes reply again).state
      next_is reply again is = (then p (moment_at state port taken p a) (moment_at state port taken p b) (port a.link) (port b.link) wait tokens along.far
          (moment_at state port taken p c) (port c.link) new asked asks reply again is.repeats).state

      turns : (reply : Replied) (again : Bool) → Heard reply again
          → IsReplacing b.client.kept (makes reply again).state (state b.disk) (state c.disk)
          → IsTurn p a.client.kept replies reply (state b.disk) (state c.disk) (port b.link) (port c.link)
      turns reply again is replacing = record {
        asked = sent;
        waits = asks_so;
        told = is.replied.told;
        during = subst (λ (x : Client). IsReplacing x (kept_after p a.client.kept (replies ++ reply ∷ [])) (state b.disk) (state c.disk)) along.far.stands.keeps
            (subst (λ (x : Client). IsReplacing b.client.kept x (state b.disk) (state c.disk)) (sym (next_is reply again is)) replacing);
      }

      stepped_more : (reply : Replied) (again : Bool) → Heard reply again
          → Moved (makes reply again).state (moment_at state port taken p b) (moment_at state port taken p c)
          → AreStepped p a.client.kept state port a.disk a.link (replies ++ reply ∷ []) c.disk c.link
      stepped_more reply again is moved =
          one_more replies reply b.disk c.disk b.link c.link along.stepped (turns reply again is moved.during)
          (subst (λ (x : Client). IsCounted x (kept_after p a.client.kept (replies ++ reply ∷ [])) (state b.disk) (state c.disk)) along.far.stands.keeps
          (subst (λ (x : Client). IsCounted b.client.kept x (state b.disk) (state c.disk)) (sym (next_is reply again is)) moved.counted))
          (record {
            store = c.client.store;
            ready = subst (λ (x : Client). IsReady x c.client.store (state c.disk)) (moved.keeps ∙ sym (next_is reply again is)) moved.ready;
          })

      ended_more : (reply : Replied) (again : Bool) → Heard reply again
          → Moved (makes reply again).state (moment_at state port taken p b) (moment_at state port taken p c)
          → EndsBehind p a.client.kept state port a.disk a.link (replies ++ reply ∷ []) c.disk c.link
      ended_more reply again is moved = record {
        disk = c.disk;
        link = c.link;
        stepped = stepped_more reply again is moved;
        awaits = record {
          got = [];
          put = [];
          left = request_bytes (awaited p (course_of p a.client.kept (replies ++ reply ∷ [])));
          split = refl;
          told = nothing_yet (port c.link);
          during = stays (state c.disk) (IsOldOrNewInCell client_cell (state c.disk) (Some (record_text (kept_after p a.client.kept (replies ++ reply ∷ []))))
              (Some (record_text (kept_after p a.client.kept (replies ++ reply ∷ [])))));
          idle = none_passed (state c.disk);
        };
      }

      frame_is : request_bytes (awaited p (course_of p a.client.kept replies)) ≡ request_frame sent
      frame_is = ap (λ o. request_bytes (as_list o)) asks_so ∙ append-nil (request_frame sent)

      sent_whole : (fault : PeerFault) → IsFaulty (request_frame sent) (port b.link) (port c.link) fault
          → (got : List ℕ) × Exchanges got (request_frame sent) (port b.link) (port c.link)
      sent_whole fault (unread frame bad told whole reads quiet) = (frame, told)
      sent_whole fault (cut got told partial end quiet) = (got, told)

      pub goes_in_order : (turn : RoundEnd)
          → IsRound p wait asked tokens new (moment_at state port taken p b) (moment_at state port taken p c) (port b.link) (port c.link) turn → Leaves state port taken p new a c turn
      unfolding goes_round turned on
      goes_in_order turn (heard reply again other is (went_on next waits moved wrote)) = record {
        far = on p (moment_at state port taken p a) (moment_at state port taken p b) (port a.link) (port b.link) wait tokens along.far
            (moment_at state port taken p c) (port c.link) new asked asks reply again next is waits moved wrote;
        stepped = stepped_more reply again is moved;
      }
      goes_in_order turn (heard reply again other is (came_to_end ending fault waits called moved wrote)) = record {
        syncs = goes_round p (moment_at state port taken p a) (moment_at state port taken p b) (port a.link) (port b.link) wait tokens along.far
            (moment_at state port taken p c) (port c.link) new asked asks (stops fault)
            (heard reply again (stops fault) is (came_to_end ending fault waits called moved wrote));
        order = behind_ends p a.client.kept state port a.disk a.link c.disk c.link (replies ++ reply ∷ []) ending fault called (ended_more reply again is moved);
      }
      goes_in_order turn (heard reply again other is (was_unwritten moved wrote)) = record {
        syncs = goes_round p (moment_at state port taken p a) (moment_at state port taken p b) (port a.link) (port b.link) wait tokens along.far
            (moment_at state port taken p c) (port c.link) new asked asks (stops Write)
            (heard reply again (stops Write) is (was_unwritten moved wrote));
        order = ended_more reply again is moved;
      }
      goes_in_order turn (heard reply again other is (was_unstored call broken wrote)) = record {
        syncs = goes_round p (moment_at state port taken p a) (moment_at state port taken p b) (port a.link) (port b.link) wait tokens along.far
            (moment_at state port taken p c) (port c.link) new asked asks (stops (Store call))
            (heard reply again (stops (Store call)) is (was_unstored call broken wrote));
        order = record {
          before = replies;
          reply = reply;
          split = refl;
          disk = b.disk;
          link = b.link;
          stepped = along.stepped;
          turn = turns reply again is broken.during;
        };
      }
      goes_in_order turn (was_broken broken still) = record {
        syncs = goes_round p (moment_at state port taken p a) (moment_at state port taken p b) (port a.link) (port b.link) wait tokens along.far
            (moment_at state port taken p c) (port c.link) new asked asks (stops Link) (was_broken broken still);
        order = stays_behind c broken.got broken.taken broken.left (frame_is ∙ broken.split) broken.told still.0.during still.2;
      }
      goes_in_order turn (was_unheard at kind faulty still) = record {
        syncs = goes_round p (moment_at state port taken p a) (moment_at state port taken p b) (port a.link) (port b.link) wait tokens along.far
            (moment_at state port taken p c) (port c.link) new asked asks (stops (Peer at kind)) (was_unheard at kind faulty still);
        order = (let got = sent_whole (fault_at at kind) faulty in
            stays_behind c got.0 (request_frame sent) [] (frame_is ∙ sym (append-nil (request_frame sent))) got.1 still.0.during still.2);
      }

  -- ---- after the last packet

  module _ (a b : Spot X Y Z) (more : More) (tokens : Tokens) (along : At a b (over (ended more)) tokens) (client : ClientNow) (disk : X) (sink : Z)
      (moved : Moved b.client.kept (moment_at state port taken p b) (moment_at state port taken p (spot client disk b.link sink)))
      (idle : HavePassed 0 (state b.disk) (state disk)) where
    abbrev last : Spot X Y Z
    last = spot client disk b.link sink

    ends_so : EndsBehind p a.client.kept state port a.disk a.link along.far.replies disk b.link
    ends_so = stays_behind a b (over (ended more)) tokens along last [] [] (request_bytes (awaited p (course_of p a.client.kept along.far.replies))) refl
        (nothing_yet (port b.link)) moved.during idle

    pub ends_well_in_order : Wrote (p.end_line more) (moment_at state port taken p b) (moment_at state port taken p last)
        → SyncsInOrder state port taken p a last (Ok more)
    unfolding ends_well
    ends_well_in_order wrote = record {
      syncs = ends_well p (moment_at state port taken p a) (moment_at state port taken p b) (moment_at state port taken p last) (port a.link) (port b.link) more tokens along.far
          moved wrote;
      order = ends_so;
    }

    pub ends_unwritten_in_order : WroteBeginning (p.end_line more) (moment_at state port taken p b) (moment_at state port taken p last)
        → SyncsInOrder state port taken p a last (Err Write)
    unfolding ends_unwritten
    ends_unwritten_in_order wrote = record {
      syncs = ends_unwritten p (moment_at state port taken p a) (moment_at state port taken p b) (moment_at state port taken p last) (port a.link) (port b.link) more tokens along.far
          moved wrote;
      order = ends_so;
    }

-- ---- a moment

module _ (k : Mechanism) (prefix : List ℕ) (kept : Client) where
  abbrev own : Party Client
  own = client_party k prefix kept

  last_reply : (replies : List Replied) (reply : Replied) → course_of own kept (replies ++ reply ∷ []) ≡ read_one own (course_of own kept replies) reply
  last_reply replies reply = read_last own replies reply (begun own kept)

  behind : (replies front : List Replied) (c : List ℕ) → (front ≡ replies) ⊎ ((reply : Replied) × (front ≡ replies ++ reply ∷ []))
      → HasRecord (kept_after own kept front) c → IsBehindSent own kept replies c
  behind replies front c reach has =
      let tally = tallied own (drops_one k) (keeps_outbox k) kept front in record {
        front = front;
        reach = reach;
        has = has;
        taken = ⊎_elim
            (λ same. subst (λ (f : List Replied). acks_among (made_requests own (course_of own kept replies)) ≤ sum_by take_count (course_of own kept f).acts) (sym same) so_far.acks)
            (λ (one : (reply : Replied) × (front ≡ replies ++ reply ∷ [])).
            subst (λ (f : List Replied). acks_among (made_requests own (course_of own kept replies)) ≤ sum_by take_count (course_of own kept f).acts) (sym one.1)
            (subst (λ (x : Course Client). acks_among (made_requests own (course_of own kept replies)) ≤ sum_by take_count x.acts) (sym (last_reply replies one.0))
            (omega (arith, so_far.acks, takes_more own (course_of own kept replies) one.0)))) reach;
        gone = tally.gone;
        few = tally.few;
        outbox = tally.outbox;
      }
    where
      so_far : IsTallied own (course_of own kept replies) (own.outbox kept) (sum_by kept_count replies)
      so_far = tallied own (drops_one k) (keeps_outbox k) kept replies

  module _ {X Y : Type 0} (state : X → DiskState) (sound : (x : X) → IsLawful (state x)) (port : Y → Port) (start : X) (from : Y) where
    rests_at : (replies : List Replied) (disk : X) (link : Y) → AreStepped own kept state port start from replies disk link
        → IsAtRestFor (kept_after own kept replies) (state disk)
    rests_at xs disk link (none_yet rests) = rests
    rests_at xs disk link (one_more before reply was next from_link later stepped turn counted rests) = rests

    stood : (replies : List Replied) (disk : X) (link : Y) (c : List ℕ) → AreStepped own kept state port start from replies disk link
        → (state disk).image c → HasRecord (kept_after own kept replies) c
    stood replies disk link c stepped left =
        let rests = rests_at replies disk link stepped in rested rests.store (kept_after own kept replies) (state disk) rests.ready c left

    pub moment_behind : (replies : List Replied) (c : List ℕ) → IsSyncMoment own kept state port start from replies c → IsBehindSent own kept replies c
    moment_behind replies c (between disk link stepped left) = behind replies replies c (inl refl) (stood replies disk link c stepped left)
    moment_behind replies c (within reply disk next link later stepped turn left) =
        ⊎_elim old (λ either. ⊎_elim (λ was. behind replies replies c (inl refl) was)
        (λ is. behind replies (replies ++ reply ∷ []) c (inr (reply, refl)) is) either.either) meanwhile
      where
        old : (state disk).image c → IsBehindSent own kept replies c
        old was = behind replies replies c (inl refl) (stood replies disk link c stepped was)

        meanwhile : (state disk).image c ⊎ IsOldOrNewInCell client_cell (state disk) (Some (record_text (kept_after own kept replies)))
            (Some (record_text (kept_after own kept (replies ++ reply ∷ [])))) c
        meanwhile =
            ⊎_elim (λ now. turn.during.last c now)
            (λ since. ⊎_elim (λ was. inl ((sound disk).only_now c was)) inr (turn.during.each (state disk).moment c (omega arith) since)) left
