-- A sync goes on by one round, or ends with it.
use Rattle.std.proofs.Common.{Bool, List, None, Option, Some, [], ap, length, refl, subst, sym, ℕ, ⊎_elim, ◌+◌, ◌++◌, ◌∙◌, ◌∷◌, ◌≡◌, append_assoc, append-nil}
use Rattle.std.proofs.lemmas.List.{length_push}
use Rattle.dr_ports.proofs.Told.{appended-appended}
use Rattle.dr_base.specs.Causes.{Rose}
use Rattle.dr_disk.specs.Spans.{Span}
use Rattle.dr_disk.specs.State.{DiskState}
use Rattle.dr_disk.proofs.Steps.{quiet_twice, spans, stays, widen}
use Rattle.dr_ports.specs.Ports.{appended}
use Rattle.dr_ports.specs.Wires.{Port}
use Rattle.relay_wire.specs.Framed.{request_frame, reply_text}
use Rattle.relay_pipe.specs.Exchanging.{Exchanges}
use Rattle.relay_pipe.proofs.Exchanged.{both, nothing_yet}
use Rattle.relay_guard.specs.declared.guard.Role.{Role}
use Rattle.relay_wire.specs.Replies.{Replied}
use Rattle.relay_wire.specs.Requests.{Asked}
use Rattle.session_model.specs.Clients.{Client}
use Rattle.session_record.specs.Record.{record_text}
use Rattle.slot_store.specs.Store.{KeepsOutsideArea}
use Rattle.slot_store.proofs.Outside.{twice_outside}
use Rattle.sync_model.specs.Carried.{replied_bytes, request_bytes}
use Rattle.sync_model.specs.Courses.{course_of}
use Rattle.sync_model.specs.Moves.{Move, Wait, asked_in, fetching, role_in}
use Rattle.sync_model.specs.Parties.{Party}
use Rattle.sync_model.specs.Tokens.{Tokens, first_tokens, is_repeated, tagged, tokens_by}
use Rattle.sync_model.proofs.Hearing.{IsAfter, after}
use Rattle.sync_model.proofs.Reading.{bytes_last, lawful_last}
use Rattle.client.specs.Clients.{IsReady, client_area}
use Rattle.client.specs.Cells.{IsOldOrNewInCell, client_cell}
use Rattle.client.specs.Outcomes.{IsReplacing}
use Rattle.client.specs.Syncing.Moments.{Moment, Moved, Wrote, WroteBeginning}
use Rattle.client.specs.Syncing.SoFar.{IsReached, Passed, SoFar, Stands, Talked}
use Rattle.client.specs.Syncing.Rounds.{IsHeard, heard_as}
use Rattle.client.proofs.Syncs.Courses.{asks_role}
use Rattle.client.proofs.Syncs.Moving.{wrote_nothing}

-- ---- bytes written, one piece after another

pub wrote_more : (x y : List ℕ) (a b c : Moment) → Wrote x a b → Wrote y b c → Wrote (x ++ y) a c
wrote_more x y a b c one two = record {
  bytes_are = two.bytes_are ∙ ap (λ (t : Option (List ℕ)). appended t y) one.bytes_are ∙ appended-appended a.sink.taken x y;
  unfailing = two.unfailing ∙ one.unfailing;
}

pub wrote_as : (x y : List ℕ) (a b : Moment) → x ≡ y → Wrote x a b → Wrote y a b
wrote_as x y a b is wrote = subst (λ (z : List ℕ). Wrote z a b) is wrote

pub wrote_beginning : (x y z : List ℕ) (a b c : Moment) → Wrote x a b → WroteBeginning y b c → WroteBeginning ((x ++ y) ++ z) a c
wrote_beginning x y z a b c one two = record {
  beginning = record {
    beginning = x ++ two.beginning.beginning;
    remainder = two.beginning.remainder ++ z;
    split = ap (λ (w : List ℕ). (x ++ w) ++ z) two.beginning.split
        ∙ ap (λ (w : List ℕ). w ++ z) (sym (append_assoc x two.beginning.beginning two.beginning.remainder))
        ∙ append_assoc (x ++ two.beginning.beginning) two.beginning.remainder z;
    took = two.beginning.took ∙ ap (λ (t : Option (List ℕ)). appended t two.beginning.beginning) one.bytes_are
        ∙ appended-appended a.sink.taken x two.beginning.beginning;
  };
  rose = subst (λ (n : ℕ). Rose n c.sink.faults) one.unfailing two.rose;
}

module _ (p : Party Client) where
  -- ---- before the first reply

  unfoldable pub begins : (a : Moment) (start : Port) → a.client.closed ≡ None → IsReady a.client.kept a.client.store a.disk → SoFar p a a start start (fetching 0) first_tokens
  begins a start is_open ready = record {
    replies = [];
    lawful = tt;
    waits = refl;
    counts = refl;
    stands = record { keeps = refl; is_open = is_open; ready = ready; quiet = λ call. refl; fate = λ all. all };
    talked = record { told = nothing_yet start; waited = refl; quiet = refl };
    wrote = wrote_nothing a a refl refl;
    passed = stays a.disk (IsReached p a.client.kept [] a.disk);
  }

  -- ---- what the disk was meanwhile

  outside_since : (start mid : DiskState) (first : Client) (replies : List Replied) (c : List ℕ) → Span start mid (IsReached p first replies start)
      → KeepsOutsideArea client_area mid c → KeepsOutsideArea client_area start c
  outside_since start mid first replies c passed keeps =
      ⊎_elim (λ was. (keeps.0, was, keeps.2))
      (λ (r : IsReached p first replies start keeps.0). (r.outside.0, r.outside.1, twice_outside client_area r.outside.0 keeps.0 c r.outside.2 keeps.2))
      (passed.last keeps.0 keeps.1)

  module _ (a b : Moment) (start mid : Port) (wait : Wait) (tokens : Tokens) (far : SoFar p a b start mid wait tokens) where
    abbrev pub first : Client
    first = a.client.kept

    pub passed_more : (reply : Replied) (c : Moment) (next : Client) → (course_of p first (far.replies ++ reply ∷ [])).state ≡ next
        → IsReplacing b.client.kept next b.disk c.disk → Passed p (far.replies ++ reply ∷ []) a c
    passed_more reply c next is replacing =
        spans a.disk b.disk c.disk (IsReached p first (far.replies ++ reply ∷ []) a.disk)
        (widen a.disk b.disk (IsReached p first far.replies a.disk) (IsReached p first (far.replies ++ reply ∷ []) a.disk)
        (λ d r. record { front = r.front; back = r.back ++ reply ∷ []; split = ap (λ (xs : List Replied). xs ++ reply ∷ []) r.split ∙ append_assoc r.front r.back (reply ∷ []); holds = r.holds; undamaged = r.undamaged; outside = r.outside }) far.passed)
        (widen b.disk c.disk (IsOldOrNewInCell client_cell b.disk (Some (record_text b.client.kept)) (Some (record_text next))) (IsReached p first (far.replies ++ reply ∷ []) a.disk)
        (λ d s. ⊎_elim
        (λ old. record { front = far.replies; back = reply ∷ []; split = refl; holds = old ∙ ap (λ (x : Client). Some (record_text x)) far.stands.keeps; undamaged = s.undamaged; outside = outside_since a.disk b.disk first far.replies d far.passed s.frame })
        (λ new. record { front = far.replies ++ reply ∷ []; back = []; split = sym (append-nil (far.replies ++ reply ∷ [])); holds = new ∙ ap (λ (x : Client). Some (record_text x)) (sym is); undamaged = s.undamaged; outside = outside_since a.disk b.disk first far.replies d far.passed s.frame })
        s.either) replacing)

    pub passed_still : (c : Moment) → IsReplacing b.client.kept b.client.kept b.disk c.disk → Passed p far.replies a c
    passed_still c replacing =
        spans a.disk b.disk c.disk (IsReached p first far.replies a.disk) far.passed
        (widen b.disk c.disk (IsOldOrNewInCell client_cell b.disk (Some (record_text b.client.kept)) (Some (record_text b.client.kept))) (IsReached p first far.replies a.disk)
        (λ d s. record { front = far.replies; back = []; split = sym (append-nil far.replies); holds = ⊎_elim (λ o. o) (λ n. n) s.either ∙ ap (λ (x : Client). Some (record_text x)) far.stands.keeps; undamaged = s.undamaged; outside = outside_since a.disk b.disk first far.replies d far.passed s.frame })
        replacing)

    module _ (c : Moment) (now : Port) (new : Tokens) (asked : Asked) (asks : asked_in p b.client.kept wait ≡ Some asked) where
      abbrev pub at : Replied → Bool → Move Client
      at reply again = heard_as p b.client.kept wait reply again

      abbrev pub Hears : Replied → Bool → Type 0
      Hears reply again = IsHeard p.keys tokens new asked mid now reply again

      pub then : (reply : Replied) (again : Bool) → is_repeated p.keys tokens reply ≡ again
          → IsAfter p first far.replies reply (tagged p.keys tokens asked) (at reply again) (tokens_by (role_in wait) tokens reply again)
      then reply again repeats = after p first far.replies reply asked b.client.kept wait tokens far.stands.keeps far.waits far.counts asks again repeats

      -- ---- a reply was read

      pub talked_more : (reply : Replied) (again : Bool) → Hears reply again → Talked p first (far.replies ++ reply ∷ []) start now
      talked_more reply again is = record {
        told = subst (λ (g : List ℕ). Exchanges g (request_bytes (course_of p first (far.replies ++ reply ∷ [])).requests) start now) (sym (bytes_last reply_text far.replies reply))
            (subst (λ (q : List ℕ). Exchanges (replied_bytes far.replies ++ reply_text reply) q start now)
            (sym (ap request_bytes (then reply again is.repeats).requests ∙ bytes_last request_frame (course_of p first far.replies).requests (tagged p.keys tokens asked)))
            (both (replied_bytes far.replies) (reply_text reply) (request_bytes (course_of p first far.replies).requests) (request_frame (tagged p.keys tokens asked)) start mid now
            far.talked.told is.replied.told));
        waited = ap length (then reply again is.repeats).requests ∙ length_push (course_of p first far.replies).requests (tagged p.keys tokens asked)
            ∙ ap (λ (n : ℕ). n + 1) far.talked.waited ∙ sym (length_push far.replies reply);
        quiet = is.replied.quiet ∙ far.talked.quiet;
      }

      pub stands_more : (reply : Replied) (again : Bool) → Hears reply again → Moved (at reply again).state b c → Stands p (far.replies ++ reply ∷ []) a c
      stands_more reply again is moved = record {
        keeps = moved.keeps ∙ sym (then reply again is.repeats).state;
        is_open = moved.is_open;
        ready = moved.ready;
        quiet = quiet_twice a.disk b.disk c.disk far.stands.quiet moved.quiet;
        fate = λ all. moved.fate (far.stands.fate all);
      }

      pub lines_more : (reply : Replied) (again : Bool) → Hears reply again → Wrote (at reply again).lines b c
          → Wrote (course_of p first (far.replies ++ reply ∷ [])).lines a c
      lines_more reply again is wrote =
          wrote_as _ _ a c (sym (then reply again is.repeats).lines) (wrote_more (course_of p first far.replies).lines (at reply again).lines a b c far.wrote wrote)

      unfoldable pub on : (reply : Replied) (again : Bool) (next : Wait) → Hears reply again → (at reply again).wait ≡ next → Moved (at reply again).state b c
          → Wrote (at reply again).lines b c → SoFar p a c start now next new
      on reply again next is waits moved wrote = record {
        replies = far.replies ++ reply ∷ [];
        lawful = lawful_last far.replies reply far.lawful is.replied.lawful;
        waits = (then reply again is.repeats).wait ∙ waits;
        counts = (then reply again is.repeats).tokens_are
            ∙ ap (λ (r : Role). tokens_by r tokens reply again) (sym (asks_role p b.client.kept wait asked asks)) ∙ sym is.counts;
        stands = stands_more reply again is moved;
        talked = talked_more reply again is;
        wrote = lines_more reply again is wrote;
        passed = passed_more reply c (at reply again).state (then reply again is.repeats).state moved.during;
      }
