-- Bytes are sent on a connection, and the frame that they end is answered.
use Rattle.std.proofs.Common.{◌≡◌, ◌⊎◌, inl, inr, ℕ, zero, suc, ◌+◌, ◌<◌, ◌≤◌, Bool, true, false, List, [], ◌∷◌, ◌++◌, length, take, drop, Some, refl, sym, ◌∙◌, ap, ap₂, subst, arith, append_assoc, append-nil}
use Rattle.std.specs.Prelude.{flat_map, nat_lt, if◌then◌else◌}
use Rattle.std.proofs.lemmas.List.Concat.{flat_map-append}
use Rattle.std.proofs.lemmas.Bool.Decides.{nat_tests}
use Rattle.std.proofs.lemmas.List.{length-append, length_push, take-append-drop, take-append-le, take_all}
use Rattle.dr_ports.specs.MemoryWires.{nothing_comes, plain}
use Rattle.dr_ports.specs.Wires.{Took}
use Rattle.relay_core.specs.Streams.{Exchange, Served, exchange_then, boxes_after, exchange_of, is_last, nothing_served, prepend, served, served_within, reply_bytes, reply_frame}
use Rattle.relay_wire.specs.Frames.{IsFrame, IsPartial, frames_of}
use Rattle.relay_wire.specs.Requests.{read_request}
use Rattle.relay_wire.proofs.Joining.{frames_join, no_frames}
use Rattle.relay_core.proofs.Served.{none_answered, served_nothing}
use Rattle.relay_link.specs.Connections.{LinkConnection, HasLost, replies_coming, exchanges_of, connection_port, connection_wire}
use Rattle.relay_link.specs.Desks.{DeskNow, after_frame, frame_left}
use Rattle.relay_link.specs.Serving.{IsServing}
use Rattle.relay_link.specs.declared.limits.TheConstants.{SENT_LIMIT}

-- ---- a frame at the desk

-- what is answered to it
abbrev made : DeskNow → ℕ → List ℕ → List Exchange
made d zero frame = []
made d (suc more) frame = exchange_of d.boxes frame ∷ []

desk_goes : (d : DeskNow) (frame : List ℕ) (fs : List (List ℕ)) (n : ℕ) → d.left ≡ n
    → served_within n d.boxes (frame ∷ fs) ≡ prepend (made d n frame) (served_within (frame_left d n frame).left (frame_left d n frame).boxes fs)
desk_goes d frame fs zero is = ap (λ (m : ℕ). prepend [] (served_within m d.boxes fs)) (sym is)
desk_goes d frame fs (suc n) is = by_last (is_last (read_request (drop 2 frame)))
  where
    by_last : (last : Bool) → exchange_then (exchange_of d.boxes frame) (if last then nothing_served (boxes_after d.boxes frame) else served_within n (boxes_after d.boxes frame) fs)
        ≡ prepend (exchange_of d.boxes frame ∷ []) (served_within (if last then 0 else n) (boxes_after d.boxes frame) fs)
    by_last true = refl
    by_last false = refl

counted : (d : DeskNow) (n : ℕ) (frame : List ℕ) (exs : List Exchange) → d.answered ≡ length exs → (frame_left d n frame).answered ≡ length (exs ++ made d n frame)
counted d zero frame exs is = is ∙ ap length (sym (append-nil exs))
counted d (suc n) frame exs is = ap (λ (m : ℕ). m + 1) is ∙ sym (length_push exs (exchange_of d.boxes frame))

kept_same : (d : DeskNow) (n : ℕ) (frame : List ℕ) → (frame_left d n frame).kept ≡ d.kept
kept_same d zero frame = refl
kept_same d (suc n) frame = refl

is_below : (a k : ℕ) → nat_lt a k ≡ true → a < k
is_below a k is = grind (arith, nat_tests)

not_below : (a k : ℕ) → nat_lt a k ≡ false → k ≤ a
not_below a k is = grind (arith, nat_tests)

-- the reply comes, if it is one of the first
replies_go : (d : DeskNow) (n : ℕ) (frame : List ℕ) (exs : List Exchange) → d.answered ≡ length exs → d.replies ≡ flat_map reply_frame (take d.kept exs)
    → (frame_left d n frame).replies ≡ flat_map reply_frame (take d.kept (exs ++ made d n frame))
replies_go d zero frame exs count is = is ∙ ap (λ (xs : List Exchange). flat_map reply_frame (take d.kept xs)) (sym (append-nil exs))
replies_go d (suc n) frame exs count is = by_test (nat_lt d.answered d.kept) refl
  where
    by_test : (test : Bool) → nat_lt d.answered d.kept ≡ test
        → (if test then d.replies ++ reply_frame (exchange_of d.boxes frame) else d.replies) ≡ flat_map reply_frame (take d.kept (exs ++ exchange_of d.boxes frame ∷ []))
    by_test true below =
        let lt = is_below d.answered d.kept below in
        let longer = length_push exs (exchange_of d.boxes frame) in
        ap (λ (b : List ℕ). b ++ reply_frame (exchange_of d.boxes frame)) (is ∙ ap (flat_map reply_frame) (take_all d.kept exs (omega (arith, lt, count))))
        ∙ ap (λ (b : List ℕ). flat_map reply_frame exs ++ b) (sym (append-nil (reply_frame (exchange_of d.boxes frame))))
        ∙ sym (flat_map-append reply_frame exs (exchange_of d.boxes frame ∷ []))
        ∙ ap (flat_map reply_frame) (sym (take_all d.kept (exs ++ exchange_of d.boxes frame ∷ []) (omega (arith, lt, count, longer))))
    by_test false above =
        let le = not_below d.answered d.kept above in
        is ∙ ap (flat_map reply_frame) (sym (take-append-le d.kept exs (exchange_of d.boxes frame ∷ []) (omega (arith, le, count))))

replies_longer : (d : DeskNow) (n : ℕ) (frame : List ℕ) → length d.replies ≤ length (frame_left d n frame).replies
replies_longer d zero frame = omega arith
replies_longer d (suc n) frame = by_test (nat_lt d.answered d.kept)
  where
    by_test : (test : Bool) → length d.replies ≤ length (if test then d.replies ++ reply_frame (exchange_of d.boxes frame) else d.replies)
    by_test true = omega (arith, length-append d.replies (reply_frame (exchange_of d.boxes frame)))
    by_test false = omega arith

-- ---- the connection

module _ (c : LinkConnection) (desk : DeskNow) (held : List ℕ) (is : IsServing c desk held) (piece : List ℕ) where
  abbrev sent : LinkConnection
  sent = record c { sent = c.sent ++ piece }

  grown : exchanges_of sent ≡ exchanges_of c ++ (served_within desk.left desk.boxes (frames_of (held ++ piece))).exchanges
  grown = ap (λ (s : Served). s.exchanges) (is.ahead piece)

  -- what was received is the same beginning
  pub took : Took piece (connection_port c) (connection_port sent)
  took =
      ap (λ (b : List ℕ). Some (record { now = record { gives = λ to. reply_bytes (served c.start to); received = b; sent = c.sent ++ piece; fate = (connection_wire c).fate }; before = []; coming = nothing_comes; line = plain }))
      (ap (λ (xs : List Exchange). take c.at (flat_map reply_frame xs)) grown
      ∙ ap (take c.at) (flat_map-append reply_frame (exchanges_of c) (served_within desk.left desk.boxes (frames_of (held ++ piece))).exchanges)
      ∙ take-append-le c.at (reply_bytes (served c.start c.sent)) _ (omega (arith, is.received, ap length is.replies, few_bytes)))
    where
      few_bytes : length (replies_coming c) ≤ length (reply_bytes (served c.start c.sent))
      few_bytes =
          let all : reply_bytes (served c.start c.sent) ≡ replies_coming c ++ flat_map reply_frame (drop c.kept (exchanges_of c)) =
          ap (flat_map reply_frame) (sym (take-append-drop c.kept (exchanges_of c))) ∙ flat_map-append reply_frame (take c.kept (exchanges_of c)) (drop c.kept (exchanges_of c)) in
          omega (arith, ap length all, length-append (replies_coming c) (flat_map reply_frame (drop c.kept (exchanges_of c))))

  cause_stays : (more : List Exchange) → exchanges_of sent ≡ exchanges_of c ++ more → HasLost c ⊎ (SENT_LIMIT ≤ length c.sent) → HasLost sent ⊎ (SENT_LIMIT ≤ length (c.sent ++ piece))
  cause_stays more are (inl lost) = inl (omega (arith, lost, ap length are, length-append (exchanges_of c) more))
  cause_stays more are (inr full) = inr (omega (arith, full, length-append c.sent piece))

  -- less than a frame stands
  pub serves_part : IsPartial (held ++ piece) → IsServing sent desk (held ++ piece)
  serves_part partial =
      let same : exchanges_of sent ≡ exchanges_of c =
      grown ∙ ap (λ (s : Served). exchanges_of c ++ s.exchanges) (none_answered desk.left desk.boxes (held ++ piece) partial) ∙ append-nil (exchanges_of c) in
      record {
        partial = partial;
        ahead = λ more.
            ap (served c.start) (append_assoc c.sent piece more) ∙ is.ahead (piece ++ more)
            ∙ ap₂ (λ (xs : List Exchange) (b : List ℕ). prepend xs (served_within desk.left desk.boxes (frames_of b))) (sym same) (sym (append_assoc held piece more));
        count = is.count ∙ ap length (sym same);
        replies = is.replies ∙ ap (λ (xs : List Exchange). flat_map reply_frame (take c.kept xs)) (sym same);
        received = is.received;
        same = is.same;
        few = is.few;
        failed = λ some. cause_stays [] (same ∙ sym (append-nil (exchanges_of c))) (is.failed some);
      }

  -- a frame is whole, and answered
  module _ (whole : IsFrame (held ++ piece)) where
    abbrev frame : List ℕ
    frame = held ++ piece

    abbrev next : DeskNow
    next = after_frame desk frame

    abbrev more_made : List Exchange
    more_made = made desk desk.left frame

    with_frame : (more : List ℕ) → frames_of (frame ++ more) ≡ frame ∷ frames_of more
    with_frame more = ap (λ (b : List ℕ). frames_of (b ++ more)) (sym (append-nil frame)) ∙ frames_join (frame ∷ []) more (whole, tt)

    frame_alone : frames_of frame ≡ frame ∷ []
    frame_alone = ap frames_of (sym (append-nil frame)) ∙ with_frame [] ∙ ap (λ (fs : List (List ℕ)). frame ∷ fs) (no_frames [] (omega arith))

    goes : (fs : List (List ℕ)) → served_within desk.left desk.boxes (frame ∷ fs) ≡ prepend more_made (served_within next.left next.boxes fs)
    goes fs = desk_goes desk frame fs desk.left refl

    exchanges_are : exchanges_of sent ≡ exchanges_of c ++ more_made
    exchanges_are =
        grown ∙ ap (λ (fs : List (List ℕ)). exchanges_of c ++ (served_within desk.left desk.boxes fs).exchanges) frame_alone
        ∙ ap (λ (s : Served). exchanges_of c ++ s.exchanges) (goes [] ∙ ap (prepend more_made) (served_nothing next.left next.boxes))
        ∙ ap (λ (xs : List Exchange). exchanges_of c ++ xs) (append-nil more_made)

    pub serves_frame : IsServing sent next []
    serves_frame = record {
      partial = omega arith;
      ahead = λ more.
          ap (served c.start) (append_assoc c.sent piece more) ∙ is.ahead (piece ++ more)
          ∙ ap (λ (b : List ℕ). prepend (exchanges_of c) (served_within desk.left desk.boxes (frames_of b))) (sym (append_assoc held piece more))
          ∙ ap (λ (fs : List (List ℕ)). prepend (exchanges_of c) (served_within desk.left desk.boxes fs)) (with_frame more)
          ∙ ap (prepend (exchanges_of c)) (goes (frames_of more))
          ∙ ap (λ (xs : List Exchange). record { exchanges = xs; next = (served_within next.left next.boxes (frames_of more)).next })
          (sym (append_assoc (exchanges_of c) more_made (served_within next.left next.boxes (frames_of more)).exchanges))
          ∙ ap (λ (xs : List Exchange). prepend xs (served_within next.left next.boxes (frames_of more))) (sym exchanges_are);
      count = counted desk desk.left frame (exchanges_of c) is.count ∙ ap length (sym exchanges_are);
      replies =
          replies_go desk desk.left frame (exchanges_of c) is.count (is.replies ∙ ap (λ (k : ℕ). flat_map reply_frame (take k (exchanges_of c))) (sym is.same))
          ∙ ap₂ (λ (k : ℕ) (xs : List Exchange). flat_map reply_frame (take k xs)) is.same (sym exchanges_are);
      received = omega (arith, is.received, replies_longer desk desk.left frame);
      same = kept_same desk desk.left frame ∙ is.same;
      few = is.few;
      failed = λ some. cause_stays more_made exchanges_are (is.failed some);
    }

  -- ---- the same of a link's parts

  pub part_stands : (items new : List ℕ) → items ≡ c.sent ++ piece → new ≡ held ++ piece → IsPartial new → IsServing (record c { sent = items }) desk new
  part_stands items new one two partial =
      subst (λ (b : List ℕ). IsServing (record c { sent = b }) desk new) (sym one)
      (subst (λ (b : List ℕ). IsServing sent desk b) (sym two) (serves_part (subst IsPartial two partial)))

  pub frame_stands : (items fed new : List ℕ) (d : DeskNow) → items ≡ c.sent ++ piece → fed ≡ held ++ piece → IsFrame fed → d ≡ after_frame desk fed → new ≡ []
      → IsServing (record c { kept = d.kept; sent = items }) d new
  frame_stands items fed new d one two whole next_is none =
      let last = held ++ piece in
      let kept_is : c.kept ≡ (after_frame desk last).kept = sym is.same ∙ sym (kept_same desk desk.left last) in
      subst (λ (b : List ℕ). IsServing (record c { kept = d.kept; sent = items }) d b) (sym none)
      (subst (λ (x : DeskNow). IsServing (record c { kept = x.kept; sent = items }) x []) (sym (next_is ∙ ap (after_frame desk) two))
      (subst (λ (b : List ℕ). IsServing (record c { kept = (after_frame desk last).kept; sent = b }) (after_frame desk last) []) (sym one)
      (subst (λ (k : ℕ). IsServing (record c { kept = k; sent = c.sent ++ piece }) (after_frame desk last) []) kept_is (serves_frame (subst IsFrame two whole)))))
