-- A sync ends with a round, or goes on after it.
use Rattle.std.proofs.Common.{Bool, Err, List, Ok, Option, Some, [], ap, inl, inr, refl, subst, sym, ℕ, ⊎_elim, ◌++◌, ◌∙◌, ◌∷◌, ◌≡◌, append-nil}
use Rattle.dr_base.specs.Causes.{Rose}
use Rattle.dr_disk.specs.State.{DiskState}
use Rattle.dr_disk.proofs.Steps.{quiet_twice}
use Rattle.dr_ports.specs.Wires.{Port}
use Rattle.dr_ports.specs.declared.pipe.Part.TheVariants.{Flow}
use Rattle.relay_pipe.specs.Asking.{IsBroken, IsFaulty, cut, unread, fault_at}
use Rattle.relay_wire.specs.Framed.{request_frame}
use Rattle.relay_pipe.specs.Exchanging.{Exchanges}
use Rattle.relay_pipe.specs.declared.faults.PeerFault.{PeerFault}
use Rattle.relay_pipe.specs.declared.faults.PeerKind.TheVariants.{Wrong}
use Rattle.relay_pipe.proofs.Exchanged.{both}
use Rattle.relay_wire.specs.Replies.{Replied}
use Rattle.relay_wire.specs.Requests.{Asked}
use Rattle.session_model.specs.Clients.{Client}
use Rattle.session_record.specs.Record.{record_text}
use Rattle.slot_store.specs.Records.{stored_record}
use Rattle.slot_store.specs.Store.{SlotStore}
use Rattle.slot_store.specs.Areas.{Area}
use Rattle.slot_store.proofs.Standing.{rests_recovered}
use Rattle.client.proofs.Syncs.Courses.{asks_still}
use Rattle.sync_model.specs.Carried.{replied_bytes, request_bytes}
use Rattle.sync_model.specs.Courses.{as_list, asked_now, course_of, last_line, made_requests}
use Rattle.sync_model.specs.Moves.{Ending, Move, Wait, asked_in, box_is_full, denied_by, ended, inbox_full, no_such_box, over, wrong}
use Rattle.sync_model.specs.Parties.{Party}
use Rattle.sync_model.specs.Tokens.{Tokens, tagged}
use Rattle.sync_model.specs.declared.more.More.{More}
use Rattle.sync_model.proofs.Reading.{bytes_last, lawful_last}
use Rattle.client.specs.Cells.{IsOldOrNewInCell, client_cell}
use Rattle.client.specs.Clients.{IsReady}
use Rattle.client.specs.Syncing.Moments.{Moment, Moved, Wrote, WroteBeginning}
use Rattle.client.specs.Syncing.Rounds.{IsHeard, IsRound, IsUnmoved, RoundEnd, MovesTo, came_to_end, sync_fault_of, goes_on, heard, heard_as, stops, was_broken, was_unheard, was_unstored, was_unwritten, went_on}
use Rattle.client.specs.Syncing.SoFar.{SoFar, Stands}
use Rattle.client.specs.Syncing.Syncs.{EndsSync, HasRecord, IsRequestCut, IsSyncOver, IsUnheard, Syncs, is_cut, is_unread}
use Rattle.client.specs.declared.syncing.faults.SyncFault.{SyncFault}
use Rattle.client.specs.declared.syncing.faults.SyncFault.TheVariants.{Peer, Refused, Write}
use Rattle.client.specs.declared.syncing.faults.SyncRefusal.TheVariants.{BoxFull, Denied, InboxFull, Unknown}
use Rattle.client.proofs.Syncs.Going.{lines_more, on, passed_more, passed_still, stands_more, talked_more, then, wrote_as, wrote_beginning, wrote_more}

-- an image of a disk at rest has the record
pub rested : (store : SlotStore) (kept : Client) (disk : DiskState) → IsReady kept store disk → (c : List ℕ) → disk.image c → HasRecord kept c
rested store kept disk ready c left =
    subst (λ (a : Area). stored_record a c ≡ Some (record_text kept)) ready.area (rests_recovered store c (ready.rests c left) ∙ ready.holds)

some_is : (a b : SyncFault) → Some a ≡ Some b → a ≡ b
some_is a b h = cc

module _ (p : Party Client) where
  -- only a sync that did its work has a last line
  pub no_last : (ending : Ending) (fault : SyncFault) → sync_fault_of ending ≡ Some fault → last_line p (over ending) ≡ []
  no_last (ended which) fault is = absurd (cc)
  no_last inbox_full fault is = refl
  no_last box_is_full fault is = refl
  no_last no_such_box fault is = refl
  no_last (denied_by rule) fault is = refl
  no_last wrong fault is = refl

  pub over_ends : (ending : Ending) (fault : SyncFault) (replies : List Replied) (a b : Moment) (start now : Port) → sync_fault_of ending ≡ Some fault
      → IsSyncOver p replies ending a b start now → EndsSync p replies a b start now (Err fault)
  over_ends (ended which) fault replies a b start now is ends = absurd (cc)
  over_ends inbox_full fault replies a b start now is ends =
      subst (λ (f : SyncFault). EndsSync p replies a b start now (Err f)) (some_is (Refused InboxFull) fault is) (inbox_full, refl, ends)
  over_ends box_is_full fault replies a b start now is ends =
      subst (λ (f : SyncFault). EndsSync p replies a b start now (Err f)) (some_is (Refused BoxFull) fault is) (box_is_full, refl, ends)
  over_ends no_such_box fault replies a b start now is ends =
      subst (λ (f : SyncFault). EndsSync p replies a b start now (Err f)) (some_is (Refused Unknown) fault is) (no_such_box, refl, ends)
  over_ends (denied_by rule) fault replies a b start now is ends =
      subst (λ (f : SyncFault). EndsSync p replies a b start now (Err f)) (some_is (Refused (Denied rule)) fault is) (denied_by rule, refl, ends)
  over_ends wrong fault replies a b start now is ends =
      subst (λ (f : SyncFault). EndsSync p replies a b start now (Err f)) (some_is (Peer 2 Wrong) fault is) (inl (wrong, refl, ends))

  -- where a round leaves a sync
  abbrev pub After : Tokens → Moment → Moment → Port → Port → RoundEnd → Type 0
  After new a b start now (goes_on wait) = SoFar p a b start now wait new
  After new a b start now (stops fault) = Syncs p a b start now (Err fault)

  module _ (a b : Moment) (start mid : Port) (wait : Wait) (tokens : Tokens) (far : SoFar p a b start mid wait tokens) (c : Moment) (now : Port) (new : Tokens)
      (asked : Asked) (asks : asked_in p b.client.kept wait ≡ Some asked) where
    -- ---- with a reply

    abbrev pub makes : Replied → Bool → Move Client
    makes reply again = heard_as p b.client.kept wait reply again

    unfoldable pub turned : (reply : Replied) (again : Bool) (turn : RoundEnd) → IsHeard p.keys tokens new asked mid now reply again → MovesTo (makes reply again) b c turn
        → After new a c start now turn
    turned reply again turn is (went_on next waits moved wrote) = on p a b start mid wait tokens far c now new asked asks reply again next is waits moved wrote
    turned reply again turn is (came_to_end ending fault waits called moved wrote) =
        let next = then p a b start mid wait tokens far c now new asked asks reply again is.repeats in
        let waits_so : (course_of p a.client.kept (far.replies ++ reply ∷ [])).wait ≡ over ending = next.wait ∙ waits in
        record {
          replies = far.replies ++ reply ∷ [];
          syncs = record {
            lawful = lawful_last far.replies reply far.lawful is.replied.lawful;
            passed = passed_more p a b start mid wait tokens far reply c (makes reply again).state next.state moved.during;
            ends = over_ends ending fault (far.replies ++ reply ∷ []) a c start now called (record {
              is_over = waits_so;
              stands = stands_more p a b start mid wait tokens far c now new asked asks reply again is moved;
              talked = talked_more p a b start mid wait tokens far c now new asked asks reply again is;
              wrote = wrote_as _ _ a c
                  (sym (append-nil (course_of p a.client.kept (far.replies ++ reply ∷ [])).lines)
                  ∙ ap (λ (l : List ℕ). (course_of p a.client.kept (far.replies ++ reply ∷ [])).lines ++ l) (sym (ap (last_line p) waits_so ∙ no_last ending fault called)))
                  (lines_more p a b start mid wait tokens far c now new asked asks reply again is wrote);
            });
          };
        }
    turned reply again turn is (was_unwritten moved wrote) =
        let next = then p a b start mid wait tokens far c now new asked asks reply again is.repeats in
        record {
          replies = far.replies ++ reply ∷ [];
          syncs = record {
            lawful = lawful_last far.replies reply far.lawful is.replied.lawful;
            passed = passed_more p a b start mid wait tokens far reply c (makes reply again).state next.state moved.during;
            ends = record {
              stands = stands_more p a b start mid wait tokens far c now new asked asks reply again is moved;
              talked = talked_more p a b start mid wait tokens far c now new asked asks reply again is;
              wrote = subst (λ (l : List ℕ). WroteBeginning (l ++ last_line p (course_of p a.client.kept (far.replies ++ reply ∷ [])).wait) a c) (sym next.lines)
                  (wrote_beginning (course_of p a.client.kept far.replies).lines (makes reply again).lines (last_line p (course_of p a.client.kept (far.replies ++ reply ∷ [])).wait) a b c far.wrote wrote);
            };
          };
        }
    turned reply again turn is (was_unstored call broken wrote) =
        let next = then p a b start mid wait tokens far c now new asked asks reply again is.repeats in
        record {
          replies = far.replies ++ reply ∷ [];
          syncs = record {
            lawful = lawful_last far.replies reply far.lawful is.replied.lawful;
            passed = passed_more p a b start mid wait tokens far reply c (makes reply again).state next.state broken.during;
            ends = record {
              before = far.replies;
              last = reply;
              split = refl;
              keeps = broken.keeps ∙ far.stands.keeps;
              closes = broken.closes;
              rose = subst (λ (n : ℕ). Rose n (c.disk.faults call)) (far.stands.quiet call) broken.rose;
              fate = λ all. broken.fate (far.stands.fate all);
              leaves = λ d left.
                  ⊎_elim (λ was. inl (rested b.client.store b.client.kept b.disk far.stands.ready d was ∙ ap (λ (x : Client). Some (record_text x)) far.stands.keeps))
                  (λ (s : IsOldOrNewInCell client_cell b.disk (Some (record_text b.client.kept)) (Some (record_text (makes reply again).state)) d).
                  ⊎_elim (λ old. inl (old ∙ ap (λ (x : Client). Some (record_text x)) far.stands.keeps))
                  (λ new_one. inr (new_one ∙ ap (λ (x : Client). Some (record_text x)) (sym next.state))) s.either)
                  (broken.during.last d left);
              talked = talked_more p a b start mid wait tokens far c now new asked asks reply again is;
              wrote = still_wrote wrote;
            };
          };
        }
      where
        still_wrote : Wrote [] b c → Wrote (course_of p a.client.kept far.replies).lines a c
        still_wrote w = wrote_as _ _ a c (append-nil (course_of p a.client.kept far.replies).lines) (wrote_more (course_of p a.client.kept far.replies).lines [] a b c far.wrote w)

    -- ---- without one

    pub stands_still : IsUnmoved b c → Stands p far.replies a c
    stands_still still = record {
      keeps = still.0.keeps ∙ far.stands.keeps;
      is_open = still.0.is_open;
      ready = still.0.ready;
      quiet = quiet_twice a.disk b.disk c.disk far.stands.quiet still.0.quiet;
      fate = λ all. still.0.fate (far.stands.fate all);
    }

    pub wrote_still : IsUnmoved b c → Wrote (course_of p a.client.kept far.replies).lines a c
    wrote_still still = wrote_as _ _ a c (append-nil (course_of p a.client.kept far.replies).lines) (wrote_more (course_of p a.client.kept far.replies).lines [] a b c far.wrote still.1)

    abbrev sent : Asked
    sent = tagged p.keys tokens asked

    asks_so : asked_now p (course_of p a.client.kept far.replies) ≡ Some sent
    asks_so = asks_still p a.client.kept far.replies b.client.kept wait tokens asked far.stands.keeps far.waits far.counts asks

    pub broke : IsBroken (request_frame sent) mid now → IsRequestCut p a.client.kept far.replies start now
    broke is = record {
      asked = sent;
      waits = asks_so;
      put = is.taken;
      left = is.left;
      rest = is.got;
      split = is.split;
      told = both (replied_bytes far.replies) is.got (request_bytes (course_of p a.client.kept far.replies).requests) is.taken start mid now far.talked.told is.told;
      waited = far.talked.waited;
      partial = is.partial;
      rose = subst (λ (n : ℕ). Rose n (now.faults Flow)) far.talked.quiet is.rose;
    }

    told_all : (got : List ℕ) → Exchanges got (request_frame sent) mid now
        → Exchanges (replied_bytes far.replies ++ got) (request_bytes (made_requests p (course_of p a.client.kept far.replies))) start now
    told_all got told =
        subst (λ (q : List ℕ). Exchanges (replied_bytes far.replies ++ got) q start now)
        (sym (ap (λ (o : Option Asked). request_bytes ((course_of p a.client.kept far.replies).requests ++ as_list o)) asks_so
        ∙ bytes_last request_frame (course_of p a.client.kept far.replies).requests sent))
        (both (replied_bytes far.replies) got (request_bytes (course_of p a.client.kept far.replies).requests) (request_frame sent) start mid now far.talked.told told)

    pub unheard : (fault : PeerFault) → IsFaulty (request_frame sent) mid now fault → IsUnheard p a.client.kept far.replies start now fault
    unheard fault (unread frame bad told whole reads quiet) = record {
      asked = sent;
      waits = asks_so;
      rest = frame;
      told = told_all frame told;
      waited = far.talked.waited;
      came = is_unread bad whole reads;
      quiet = quiet ∙ far.talked.quiet;
    }
    unheard fault (cut got told partial end quiet) = record {
      asked = sent;
      waits = asks_so;
      rest = got;
      told = told_all got told;
      waited = far.talked.waited;
      came = is_cut partial end;
      quiet = quiet ∙ far.talked.quiet;
    }

    unfoldable pub goes_round : (turn : RoundEnd) → IsRound p wait asked tokens new b c mid now turn → After new a c start now turn
    goes_round turn (heard reply again then is turns) = turned reply again turn is turns
    goes_round turn (was_broken broken still) = record {
      replies = far.replies;
      syncs = record {
        lawful = far.lawful;
        passed = passed_still p a b start mid wait tokens far c still.0.during;
        ends = (stands_still still, broke broken, wrote_still still);
      };
    }
    goes_round turn (was_unheard at kind faulty still) = record {
      replies = far.replies;
      syncs = record {
        lawful = far.lawful;
        passed = passed_still p a b start mid wait tokens far c still.0.during;
        ends = inr (stands_still still, unheard (fault_at at kind) faulty, wrote_still still);
      };
    }

  -- ---- after the last packet

  unfoldable pub ends_well : (a b c : Moment) (start now : Port) (more : More) (tokens : Tokens) → SoFar p a b start now (over (ended more)) tokens → Moved b.client.kept b c
      → Wrote (p.end_line more) b c → Syncs p a c start now (Ok more)
  ends_well a b c start now more tokens far moved wrote = record {
    replies = far.replies;
    syncs = record {
      lawful = far.lawful;
      passed = passed_still p a b start now (over (ended more)) tokens far c moved.during;
      ends = record {
        is_over = far.waits;
        stands = record {
          keeps = moved.keeps ∙ far.stands.keeps;
          is_open = moved.is_open;
          ready = moved.ready;
          quiet = quiet_twice a.disk b.disk c.disk far.stands.quiet moved.quiet;
          fate = λ all. moved.fate (far.stands.fate all);
        };
        talked = far.talked;
        wrote = wrote_as _ _ a c (ap (λ (w : Wait). (course_of p a.client.kept far.replies).lines ++ last_line p w) (sym far.waits))
            (wrote_more (course_of p a.client.kept far.replies).lines (p.end_line more) a b c far.wrote wrote);
      };
    };
  }

  unfoldable pub ends_unwritten : (a b c : Moment) (start now : Port) (more : More) (tokens : Tokens) → SoFar p a b start now (over (ended more)) tokens → Moved b.client.kept b c
      → WroteBeginning (p.end_line more) b c → Syncs p a c start now (Err Write)
  ends_unwritten a b c start now more tokens far moved wrote = record {
    replies = far.replies;
    syncs = record {
      lawful = far.lawful;
      passed = passed_still p a b start now (over (ended more)) tokens far c moved.during;
      ends = record {
        stands = record {
          keeps = moved.keeps ∙ far.stands.keeps;
          is_open = moved.is_open;
          ready = moved.ready;
          quiet = quiet_twice a.disk b.disk c.disk far.stands.quiet moved.quiet;
          fate = λ all. moved.fate (far.stands.fate all);
        };
        talked = far.talked;
        wrote = subst (λ (w : Wait). WroteBeginning ((course_of p a.client.kept far.replies).lines ++ last_line p w) a c) (sym far.waits)
            (subst (λ (l : List ℕ). WroteBeginning l a c) (append-nil ((course_of p a.client.kept far.replies).lines ++ p.end_line more))
            (wrote_beginning (course_of p a.client.kept far.replies).lines (p.end_line more) [] a b c far.wrote wrote));
      };
    };
  }
