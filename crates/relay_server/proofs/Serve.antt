-- Round after round.
use Rattle.std.proofs.Common.{◌≡◌, ⊎_elim, ℕ, suc, ◌+◌, ◌-◌, ◌<◌, ◌≤◌, Bool, true, false, List, [], ◌∷◌, ◌++◌, length, drop, refl, sym, ◌∙◌, ap, subst, arith, append_assoc, append-nil}
use Rattle.std.specs.Prelude.{flat_map, if◌then◌else◌}
use Rattle.std.specs.List.{AllByRecursion}
use Rattle.std.proofs.lemmas.List.{length_push}
use Rattle.std.proofs.lemmas.List.Concat.{flat_map-append}
use Rattle.dr_disk.specs.State.{DiskState}
use Rattle.dr_disk.specs.Spans.{Span}
use Rattle.dr_disk.proofs.Steps.{spans, widen}
use Rattle.dr_ports.specs.declared.pipe.Part.TheVariants.{Flow}
use Rattle.dr_ports.specs.Wires.{Port}
use Rattle.relay_wire.specs.Requests.{read_request}
use Rattle.relay_wire.specs.Frames.{IsFrame}
use Rattle.relay_wire.proofs.Joining.{all_append, flat, flat_append}
use Rattle.relay_core.specs.Boxes.{Box}
use Rattle.relay_core.specs.Streams.{Exchange, Served, exchange_then, boxes_after, exchange_of, is_last, nothing_served, prepend, reply_frame, served_within}
use Rattle.relay_core.proofs.Changed.{change}
use Rattle.relay_core.proofs.Served.{served_nothing}
use Rattle.relay_pipe.proofs.Exchanged.{both, nothing_yet}
use Rattle.relay_server.specs.Durable.{ServerNow}
use Rattle.relay_server.specs.Reading.{StandsForBoxes}
use Rattle.relay_server.specs.Serving.{Exchanges, Came, reply_to, ReachedIn, ServedSoFar}
use Rattle.relay_server.specs.Places.{SameBehind, IsSameBehind}
use Rattle.relay_server.proofs.Behind.{behind_twice}

-- ---- what is answered

abbrev pub ended_with : List Exchange → List Box → Served
ended_with exs boxes = record { exchanges = exs; next = boxes }

-- by whether the frame is the last
abbrev by_last : List Box → List ℕ → ℕ → List (List ℕ) → Bool → Served
by_last boxes frame n fs last = exchange_then (exchange_of boxes frame) (if last then nothing_served (boxes_after boxes frame) else served_within n (boxes_after boxes frame) fs)

one_more : (most n : ℕ) → n < most → (most - n) ≡ suc (most - (n + 1))
one_more most n lt = omega (arith, lt)

pub serves_frame : (most n : ℕ) (boxes : List Box) (frame : List ℕ) (fs : List (List ℕ)) (last : Bool) → n < most → last ≡ is_last (read_request (drop 2 frame))
    → served_within (most - n) boxes (frame ∷ fs) ≡ by_last boxes frame (most - (n + 1)) fs last
serves_frame most n boxes frame fs last lt is =
    ap (λ (m : ℕ). served_within m boxes (frame ∷ fs)) (one_more most n lt) ∙ ap (by_last boxes frame (most - (n + 1)) fs) (sym is)

-- ---- before the first round

module _ (most : ℕ) (old : ServerNow) where
  abbrev pub nothing_so_far : (start : Port) (dstart : DiskState) → Span dstart dstart (λ c. ReachedIn most old.boxes [] c × IsSameBehind (length old.boxes) dstart c) → ServedSoFar most old old.boxes start start dstart dstart 0
  nothing_so_far start dstart span = record {
    frames = [];
    each = tt;
    exs = [];
    exchanges = nothing_yet start;
    ahead = λ fs. ap (λ (m : ℕ). served_within m old.boxes fs) (let e : most ≡ most - 0 = omega arith in e);
    count = refl;
    later = omega arith;
    during = span;
    boxes_count = refl;
  }

  module _ (boxes : List Box) (start now : Port) (dstart dnow : DiskState) (n : ℕ) (so : ServedSoFar most old boxes start now dstart dnow n) where
    -- what all the frames so far are answered
    pub so_served : served_within most old.boxes so.frames ≡ ended_with so.exs boxes
    so_served =
        ap (served_within most old.boxes) (sym (append-nil so.frames)) ∙ so.ahead [] ∙ ap (prepend so.exs) (served_nothing (most - n) boxes)
        ∙ ap (λ (xs : List Exchange). ended_with xs boxes) (append-nil so.exs)

    module _ (frame put : List ℕ) (next : List Box) (after : Port) (dafter : DiskState) (under : n < most) (came : Came frame put boxes next now after dnow dafter) where
      -- and with the frame
      pub with_frame : served_within most old.boxes (so.frames ++ frame ∷ []) ≡ ended_with (so.exs ++ exchange_of boxes frame ∷ []) next
      with_frame =
          so.ahead (frame ∷ []) ∙ ap (prepend so.exs) (serves_frame most n boxes frame [] (is_last (read_request (drop 2 frame))) under refl ∙ by_end (is_last (read_request (drop 2 frame))))
          ∙ ap (ended_with (so.exs ++ exchange_of boxes frame ∷ [])) (sym came.next)
        where
          by_end : (last : Bool) → by_last boxes frame (most - (n + 1)) [] last ≡ ended_with (exchange_of boxes frame ∷ []) (boxes_after boxes frame)
          by_end true = refl
          by_end false = ap (exchange_then (exchange_of boxes frame)) (served_nothing (most - (n + 1)) (boxes_after boxes frame))

      -- what lies after the areas, of a moment of this round
      behind_with : (c : List ℕ) → IsSameBehind (length boxes) dnow c → IsSameBehind (length old.boxes) dstart c
      behind_with c frame =
          let sized = subst (λ (n : ℕ). SameBehind n frame.0 c) so.boxes_count frame.2 in
          ⊎_elim (λ was. (frame.0, was, sized)) (λ left. (left.1.0, left.1.1, behind_twice (length old.boxes) left.1.0 frame.0 c left.1.2 sized)) (so.during.last frame.0 frame.1)

      pub span_with : Span dstart dafter (λ c. ReachedIn most old.boxes (so.frames ++ frame ∷ []) c × IsSameBehind (length old.boxes) dstart c)
      span_with = spans dstart dnow dafter _
          (widen dstart dnow _ _ (λ c r. (record { front = r.0.front; back = r.0.back ++ frame ∷ []; split = ap (λ (fs : List (List ℕ)). fs ++ frame ∷ []) r.0.split ∙ append_assoc r.0.front r.0.back (frame ∷ []); stands = r.0.stands }, r.1)) so.during)
          (widen dnow dafter _ _ (λ c e. (
            ⊎_elim
                (λ before. record { front = so.frames; back = frame ∷ []; split = refl; stands = subst (λ (bs : List Box). StandsForBoxes bs c) (sym (ap (λ (s : Served). s.next) so_served)) before })
                (λ behind. record { front = so.frames ++ frame ∷ []; back = []; split = sym (append-nil (so.frames ++ frame ∷ [])); stands = subst (λ (bs : List Box). StandsForBoxes bs c) (sym (ap (λ (s : Served). s.next) with_frame)) behind })
                e.0,
            behind_with c e.1,
          )) came.during)

      pub whole_with : AllByRecursion IsFrame (so.frames ++ frame ∷ [])
      whole_with = all_append so.frames (frame ∷ []) so.each (came.whole, tt)

      pub flat_with : flat (so.frames ++ frame ∷ []) ≡ flat so.frames ++ frame
      flat_with = flat_append so.frames (frame ∷ []) ∙ ap (λ (f : List ℕ). flat so.frames ++ f) (append-nil frame)

      pub count_with : length next ≡ length old.boxes
      count_with = ap length came.next ∙ (change boxes (read_request (drop 2 frame))).count ∙ so.boxes_count

      -- another round may follow
      abbrev pub one_more_round : put ≡ reply_to boxes frame → is_last (read_request (drop 2 frame)) ≡ false → now.faults Flow ≤ after.faults Flow → ServedSoFar most old next start after dstart dafter (n + 1)
      one_more_round is not_last later = record {
        frames = so.frames ++ frame ∷ [];
        each = whole_with;
        exs = so.exs ++ exchange_of boxes frame ∷ [];
        exchanges =
            let put_is : flat_map reply_frame so.exs ++ put ≡ flat_map reply_frame (so.exs ++ exchange_of boxes frame ∷ []) =
            ap (λ (p : List ℕ). flat_map reply_frame so.exs ++ p) (is ∙ sym (append-nil (reply_to boxes frame))) ∙ sym (flat_map-append reply_frame so.exs (exchange_of boxes frame ∷ [])) in
            subst (λ (g : List ℕ). Exchanges g (flat_map reply_frame (so.exs ++ exchange_of boxes frame ∷ [])) start after) (sym flat_with)
            (subst (λ (p : List ℕ). Exchanges (flat so.frames ++ frame) p start after) put_is (both (flat so.frames) frame (flat_map reply_frame so.exs) put start now after so.exchanges came.exchanges));
        ahead = λ fs.
            ap (served_within most old.boxes) (append_assoc so.frames (frame ∷ []) fs) ∙ so.ahead (frame ∷ fs)
            ∙ ap (prepend so.exs) (serves_frame most n boxes frame fs false under (sym not_last))
            ∙ ap (λ (xs : List Exchange). record { exchanges = xs; next = (served_within (most - (n + 1)) (boxes_after boxes frame) fs).next })
            (sym (append_assoc so.exs (exchange_of boxes frame ∷ []) (served_within (most - (n + 1)) (boxes_after boxes frame) fs).exchanges))
            ∙ ap (λ (bs : List Box). prepend (so.exs ++ exchange_of boxes frame ∷ []) (served_within (most - (n + 1)) bs fs)) (sym came.next);
        count = length_push so.exs (exchange_of boxes frame) ∙ ap (λ (m : ℕ). m + 1) so.count;
        later = omega (arith, so.later, later);
        during = span_with;
        boxes_count = count_with;
      }
