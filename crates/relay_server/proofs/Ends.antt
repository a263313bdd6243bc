-- Where the rounds of a connection end.
use Rattle.std.proofs.Common.{◌≡◌, ℕ, zero, ◌+◌, ◌-◌, ◌<◌, true, List, [], ◌∷◌, ◌++◌, length, drop, Option, sym, ◌∙◌, ap, subst, arith, append_assoc, append-nil}
use Rattle.std.specs.Prelude.{flat_map, IfSome}
use Rattle.std.specs.List.{AllByRecursion}
use Rattle.std.proofs.lemmas.List.{length_push, append_cancel_left}
use Rattle.std.proofs.lemmas.List.Concat.{flat_map-append}
use Rattle.dr_disk.specs.State.{DiskState, Always}
use Rattle.dr_disk.specs.Spans.{Span}
use Rattle.dr_disk.proofs.Steps.{spans, widen}
use Rattle.dr_ports.specs.Wires.{Port, Told, EndsAt, IsAtEnd}
use Rattle.relay_wire.specs.Requests.{read_request}
use Rattle.relay_wire.specs.Frames.{IsFrame, frames_of}
use Rattle.relay_wire.proofs.Joining.{flat, frames_join, no_frames}
use Rattle.relay_core.specs.declared.limits.TheConstants.{EXCHANGE_LIMIT}
use Rattle.relay_core.specs.Boxes.{Box}
use Rattle.relay_core.specs.Streams.{Exchange, Served, exchange_of, is_last, prepend, reply_bytes, reply_frame, served, served_within}
use Rattle.relay_pipe.proofs.Exchanged.{both}
use Rattle.relay_server.specs.Durable.{ServerNow, StandsForEitherBoxes}
use Rattle.relay_server.specs.Serving.{Exchanges, Idle, Came, reply_to, ReachedIn, Reached, IsAll, LastOrBefore, AnswersStream, ServedSoFar}
use Rattle.relay_server.proofs.Serve.{ended_with, serves_frame, so_served, with_frame, span_with, whole_with, flat_with, count_with}
use Rattle.relay_server.specs.Places.{IsSameBehind}

served_is : (boxes : List Box) (frames : List (List ℕ)) (rest : List ℕ) → AllByRecursion IsFrame frames → served boxes (flat frames ++ rest) ≡ served_within EXCHANGE_LIMIT boxes (frames ++ frames_of rest)
unfolding served
served_is boxes frames rest whole = ap (served_within EXCHANGE_LIMIT boxes) (frames_join frames rest whole)

nothing_left : frames_of [] ≡ []
nothing_left = no_frames [] (omega arith)

same_span : (boxes : List Box) (frames : List (List ℕ)) (got : List ℕ) (a b : DiskState) → frames_of got ≡ frames → Span a b (λ c. ReachedIn EXCHANGE_LIMIT boxes frames c × IsSameBehind (length boxes) a c) → Span a b (λ c. Reached boxes got c × IsSameBehind (length boxes) a c)
same_span boxes frames got a b is span = subst (λ (fs : List (List ℕ)). Span a b (λ c. ReachedIn EXCHANGE_LIMIT boxes fs c × IsSameBehind (length boxes) a c)) (sym is) span

module _ (old : ServerNow) (boxes : List Box) (start now : Port) (dstart dnow : DiskState) (n : ℕ) (so : ServedSoFar EXCHANGE_LIMIT old boxes start now dstart dnow n) where
  pub frames_are : frames_of (flat so.frames) ≡ so.frames
  frames_are = ap frames_of (sym (append-nil (flat so.frames))) ∙ frames_join so.frames [] so.each ∙ ap (λ (fs : List (List ℕ)). so.frames ++ fs) nothing_left ∙ append-nil so.frames

  -- no whole frame came
  module _ (got : List ℕ) (next : List Box) (after : Port) (dafter : DiskState) (idle : Idle got boxes next now after dnow dafter) where
    abbrev total : List ℕ
    total = flat so.frames ++ got

    pub total_frames : frames_of total ≡ so.frames
    total_frames = frames_join so.frames got so.each ∙ ap (λ (fs : List (List ℕ)). so.frames ++ fs) (no_frames got idle.partial) ∙ append-nil so.frames

    total_served : served old.boxes total ≡ ended_with so.exs boxes
    total_served = served_is old.boxes so.frames got so.each ∙ ap (λ (fs : List (List ℕ)). served_within EXCHANGE_LIMIT old.boxes (so.frames ++ fs)) (no_frames got idle.partial)
        ∙ ap (served_within EXCHANGE_LIMIT old.boxes) (append-nil so.frames) ∙ so_served EXCHANGE_LIMIT old boxes start now dstart dnow n so

    pub idle_answers : AnswersStream old.boxes next total (reply_bytes (served old.boxes total)) start after
    idle_answers = record {
      exchanges =
          let put_is : flat_map reply_frame so.exs ++ [] ≡ reply_bytes (served old.boxes total) = append-nil (flat_map reply_frame so.exs) ∙ ap reply_bytes (sym total_served) in
          subst (λ (p : List ℕ). Exchanges total p start after) put_is (both (flat so.frames) got (flat_map reply_frame so.exs) [] start now after so.exchanges idle.exchanges);
      next_is = idle.same ∙ ap (λ (s : Served). s.next) (sym total_served);
    }

    pub idle_during : Span dstart dafter (λ c. Reached old.boxes total c × IsSameBehind (length old.boxes) dstart c)
    idle_during = same_span old.boxes so.frames total dstart dafter total_frames (spans dstart dnow dafter _ so.during (widen dnow dafter _ _ (λ c none. absurd none) idle.still))

    pub idle_boxes : length next ≡ length old.boxes
    idle_boxes = ap length idle.same ∙ so.boxes_count

    pub idle_count : length (served old.boxes total).exchanges ≡ n
    idle_count = ap (λ (s : Served). length s.exchanges) total_served ∙ so.count

    pub idle_all : EndsAt after → IsAll old.boxes total after
    idle_all ended t more told left =
        let at_end : t.now.received ≡ t.now.gives t.now.sent = subst (λ (o : Option Told). IfSome o (λ (x : Told). IsAtEnd x.now)) told ended in
        let none : more ≡ [] = append_cancel_left t.now.received more [] (sym left ∙ sym at_end ∙ sym (append-nil t.now.received)) in
        ap (λ (m : List ℕ). served old.boxes (total ++ m)) none ∙ ap (served old.boxes) (append-nil total)

  -- a frame came
  module _ (frame put : List ℕ) (next : List Box) (after : Port) (dafter : DiskState) (under : n < EXCHANGE_LIMIT) (came : Came frame put boxes next now after dnow dafter) where
    abbrev whole : List ℕ
    whole = flat so.frames ++ frame

    flat_is : flat (so.frames ++ frame ∷ []) ≡ whole
    flat_is = flat_with EXCHANGE_LIMIT old boxes start now dstart dnow n so frame put next after dafter under came

    all_whole : AllByRecursion IsFrame (so.frames ++ frame ∷ [])
    all_whole = whole_with EXCHANGE_LIMIT old boxes start now dstart dnow n so frame put next after dafter under came

    pub whole_frames : frames_of whole ≡ so.frames ++ frame ∷ []
    whole_frames = ap frames_of (sym flat_is ∙ sym (append-nil (flat (so.frames ++ frame ∷ [])))) ∙ frames_join (so.frames ++ frame ∷ []) [] all_whole ∙ ap (λ (fs : List (List ℕ)). (so.frames ++ frame ∷ []) ++ fs) nothing_left ∙ append-nil (so.frames ++ frame ∷ [])

    whole_served : served old.boxes whole ≡ ended_with (so.exs ++ exchange_of boxes frame ∷ []) next
    whole_served =
        ap (served old.boxes) (sym flat_is ∙ sym (append-nil (flat (so.frames ++ frame ∷ [])))) ∙ served_is old.boxes (so.frames ++ frame ∷ []) [] all_whole
        ∙ ap (λ (fs : List (List ℕ)). served_within EXCHANGE_LIMIT old.boxes ((so.frames ++ frame ∷ []) ++ fs)) nothing_left ∙ ap (served_within EXCHANGE_LIMIT old.boxes) (append-nil (so.frames ++ frame ∷ []))
        ∙ with_frame EXCHANGE_LIMIT old boxes start now dstart dnow n so frame put next after dafter under came

    pub came_during : Span dstart dafter (λ c. Reached old.boxes whole c × IsSameBehind (length old.boxes) dstart c)
    came_during = same_span old.boxes (so.frames ++ frame ∷ []) whole dstart dafter whole_frames (span_with EXCHANGE_LIMIT old boxes start now dstart dnow n so frame put next after dafter under came)

    pub came_boxes : length next ≡ length old.boxes
    came_boxes = count_with EXCHANGE_LIMIT old boxes start now dstart dnow n so frame put next after dafter under came

    pub came_stands : Always (StandsForEitherBoxes boxes next) dafter → LastOrBefore old.boxes next whole dafter
    came_stands each = record {
      front = so.frames;
      frame = frame;
      split = whole_frames;
      each = subst (λ (bs : List Box). Always (StandsForEitherBoxes bs next) dafter) (sym (ap (λ (s : Served). s.next) (so_served EXCHANGE_LIMIT old boxes start now dstart dnow n so))) each;
    }

    -- the replies, up to what was sent of the last
    pub came_bytes : reply_bytes (served old.boxes whole) ≡ flat_map reply_frame so.exs ++ reply_to boxes frame
    came_bytes = ap reply_bytes whole_served ∙ flat_map-append reply_frame so.exs (exchange_of boxes frame ∷ []) ∙ ap (λ (p : List ℕ). flat_map reply_frame so.exs ++ p) (append-nil (reply_to boxes frame))

    pub came_answers : AnswersStream old.boxes next whole (flat_map reply_frame so.exs ++ put) start after
    came_answers = record {
      exchanges = both (flat so.frames) frame (flat_map reply_frame so.exs) put start now after so.exchanges came.exchanges;
      next_is = ap (λ (s : Served). s.next) (sym whole_served);
    }

    pub came_count : length (served old.boxes whole).exchanges ≡ n + 1
    came_count = ap (λ (s : Served). length s.exchanges) whole_served ∙ length_push so.exs (exchange_of boxes frame) ∙ ap (λ (m : ℕ). m + 1) so.count

    pub came_last : is_last (read_request (drop 2 frame)) ≡ true → (more : List ℕ) → served old.boxes (whole ++ more) ≡ served old.boxes whole
    came_last last more =
        ap (λ (w : List ℕ). served old.boxes (w ++ more)) (sym flat_is) ∙ served_is old.boxes (so.frames ++ frame ∷ []) more all_whole
        ∙ ap (served_within EXCHANGE_LIMIT old.boxes) (append_assoc so.frames (frame ∷ []) (frames_of more)) ∙ so.ahead (frame ∷ frames_of more)
        ∙ ap (prepend so.exs) (serves_frame EXCHANGE_LIMIT n boxes frame (frames_of more) true under (sym last))
        ∙ ap (ended_with (so.exs ++ exchange_of boxes frame ∷ [])) (sym came.next) ∙ sym whole_served

  -- as many frames as may be
  module _ (full : n ≡ EXCHANGE_LIMIT) where
    none_after : (fs : List (List ℕ)) → served_within EXCHANGE_LIMIT old.boxes (so.frames ++ fs) ≡ ended_with so.exs boxes
    none_after fs = so.ahead fs ∙ ap (λ (m : ℕ). prepend so.exs (served_within m boxes fs)) (let e : EXCHANGE_LIMIT - n ≡ zero = omega (arith, full) in e) ∙ ap (λ (xs : List Exchange). ended_with xs boxes) (append-nil so.exs)

    full_served : (more : List ℕ) → served old.boxes (flat so.frames ++ more) ≡ ended_with so.exs boxes
    full_served more = served_is old.boxes so.frames more so.each ∙ none_after (frames_of more)

    full_here : served old.boxes (flat so.frames) ≡ ended_with so.exs boxes
    full_here = ap (served old.boxes) (sym (append-nil (flat so.frames))) ∙ full_served []

    pub full_answers : AnswersStream old.boxes boxes (flat so.frames) (reply_bytes (served old.boxes (flat so.frames))) start now
    full_answers = record {
      exchanges = subst (λ (p : List ℕ). Exchanges (flat so.frames) p start now) (ap reply_bytes (sym full_here)) so.exchanges;
      next_is = ap (λ (s : Served). s.next) (sym full_here);
    }

    pub full_during : Span dstart dnow (λ c. Reached old.boxes (flat so.frames) c × IsSameBehind (length old.boxes) dstart c)
    full_during = same_span old.boxes so.frames (flat so.frames) dstart dnow frames_are so.during

    pub full_count : length (served old.boxes (flat so.frames)).exchanges ≡ EXCHANGE_LIMIT
    full_count = ap (λ (s : Served). length s.exchanges) full_here ∙ so.count ∙ full

    pub full_all : (more : List ℕ) → served old.boxes (flat so.frames ++ more) ≡ served old.boxes (flat so.frames)
    full_all more = full_served more ∙ sym full_here
