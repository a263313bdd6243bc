-- A sync over a link on which this many replies come is a scene.
use Rattle.std.proofs.Common.{◌≡◌, ◌⊎◌, inl, inr, ℕ, ◌<◌, ◌≤◌, List, [], ◌∷◌, ◌++◌, length, take, drop, Some, Err, refl, sym, ◌∙◌, ap, subst, arith, append_assoc, append-nil, map}
use Rattle.std.specs.Prelude.{flat_map, option_map}
use Rattle.std.specs.List.{AllByRecursion}
use Rattle.std.proofs.lemmas.List.Concat.{flat_map-append}
use Rattle.std.proofs.lemmas.List.{length-append, length-map, take-append-drop, take_all}
use Rattle.dr_ports.specs.Wires.{IsAtEnd}
use Rattle.relay_wire.specs.Frames.{IsFrame, IsPartial}
use Rattle.relay_wire.specs.Requests.{Asked, IsLawfulAsked}
use Rattle.relay_wire.specs.Replies.{Replied, read_reply}
use Rattle.relay_wire.specs.declared.limits.TheConstants.{FRAME_LIMIT}
use Rattle.relay_wire.specs.declared.reply.BadReply.{BadReply}
use Rattle.relay_core.specs.Boxes.{Box}
use Rattle.relay_core.specs.Streams.{Exchange, Served, served, reply_frame, reply_bytes}
use Rattle.relay_core.specs.declared.limits.TheConstants.{EXCHANGE_LIMIT}
use Rattle.sync_model.specs.Parties.{Party}
use Rattle.sync_model.specs.Moves.{Ending, Wait, asked_in, over}
use Rattle.sync_model.specs.Courses.{Course, asked_now, all_lines, as_list, awaited, course_of, made_requests}
use Rattle.sync_model.specs.Tokens.{tagged}
use Rattle.sync_model.specs.Carried.{IsCarried, relay_replies, replied_bytes, request_bytes}
use Rattle.relay_wire.specs.Framed.{request_frame}
use Rattle.sync_model.specs.Scenes.{IsDone, IsPlayed, scene}
use Rattle.sync_model.proofs.Growing.{Begins}
use Rattle.sync_model.proofs.Pending.{not_cut, not_unread, pending}
use Rattle.sync_model.proofs.Reading.{bytes_last}
use Rattle.sync_model.proofs.Replying.{replies_count, replies_lawful, request_frames}
use Rattle.sync_model.proofs.Staging.{comes_first, made_few, no_more, replies_of, reply_of, shown, staged, within}
use Rattle.relay_link.specs.Connections.{LinkConnection, connection_wire}
use Rattle.relay_link.specs.Playing.{IsSynced, synced}
use Rattle.relay_link.specs.declared.limits.TheConstants.{SENT_LIMIT}
use Rattle.relay_link.proofs.Requests.{back_lawful, begins_partial, bytes_short, frame_short, front_lawful, never_full, part_unanswered}

module _ {S : Type 0} (p : Party S) (kept : ℕ) (s : S) (boxes : List Box) (replies : List Replied) (rest put : List ℕ) (now : LinkConnection)
    (is : IsSynced p kept s boxes replies rest put now) where
  abbrev course : Course S
  course = course_of p s replies

  abbrev done : List Asked
  done = course.requests

  abbrev made : List Asked
  made = made_requests p course

  -- ---- all requests were sent whole

  module _ (whole : request_bytes done ++ put ≡ request_bytes made) where
    came_whole : (replied_bytes replies ++ rest) ++ is.brought.more ≡ flat_map reply_frame (take kept (served boxes (request_bytes made)).exchanges)
    came_whole = subst (λ (b : List ℕ). (replied_bytes replies ++ rest) ++ is.brought.more ≡ flat_map reply_frame (take kept (served boxes b).exchanges)) whole is.brought.came

    played : IsPlayed p kept s boxes replies
    played = record {
      lawful_boxes = is.lawful_boxes;
      lawful_requests = is.lawful_requests;
      lawful_replies = is.lawful_replies;
      few = omega (arith, is.few);
      waited = is.waited;
      more = rest ++ is.brought.more;
      came = sym (append_assoc (replied_bytes replies) rest is.brought.more) ∙ came_whole;
    }

    plays : IsDone p kept s boxes replies → scene p kept s boxes ≡ synced p s replies now
    plays done_so =
        staged p kept s boxes replies played done_so
        ∙ ap (λ (b : List Box). record { course = course; boxes = b }) (sym (is.brought.boxes_are ∙ ap (λ (b : List ℕ). (served boxes b).next) whole))

    module _ (asked : Asked) (waits : asked_now p course ≡ Some asked) where
      read : (bad : BadReply) → IsFrame rest → read_reply (drop 2 rest) ≡ Err bad → ⊥
      read bad frame reads =
          let exs = (served boxes (request_bytes made)).exchanges in
          let lost = flat_map reply_frame (drop kept exs) in
          let carries : IsCarried p s boxes replies = record {
            lawful_boxes = is.lawful_boxes;
            lawful_requests = is.lawful_requests;
            lawful_replies = is.lawful_replies;
            few = made_few p kept s boxes replies played;
            waited = is.waited;
            more = rest ++ (is.brought.more ++ lost);
            carried =
                sym (append_assoc (replied_bytes replies) rest (is.brought.more ++ lost)) ∙ sym (append_assoc (replied_bytes replies ++ rest) is.brought.more lost)
                ∙ ap (λ (b : List ℕ). b ++ lost) came_whole ∙ sym (flat_map-append reply_frame (take kept exs) (drop kept exs)) ∙ ap (flat_map reply_frame) (take-append-drop kept exs);
          } in
          not_unread rest (is.brought.more ++ lost) bad (pending p s boxes replies carries asked (ap as_list waits)) frame reads

      goes_on : IsPartial rest → IsAtEnd (connection_wire now) → ⊥
      goes_on partial end =
          let carries : IsCarried p s boxes replies = record {
            lawful_boxes = is.lawful_boxes;
            lawful_requests = is.lawful_requests;
            lawful_replies = is.lawful_replies;
            few = made_few p kept s boxes replies played;
            waited = is.waited;
            more = rest;
            carried = is.brought.ends end ∙ ap (λ (b : List ℕ). reply_bytes (served boxes b)) whole;
          } in
          not_cut rest (pending p s boxes replies carries asked (ap as_list waits)) partial

  -- ---- the link failed

  module _ (asked : Asked) (waits : asked_now p course ≡ Some asked) where
    made_is : made ≡ done ++ asked ∷ []
    made_is = ap (λ (xs : List Asked). done ++ xs) (ap as_list waits)

    lawful_made : AllByRecursion IsLawfulAsked (done ++ asked ∷ [])
    lawful_made = subst (AllByRecursion IsLawfulAsked) made_is is.lawful_requests

    lawful_done : AllByRecursion IsLawfulAsked done
    lawful_done = front_lawful done (asked ∷ []) lawful_made

    frame_bytes : length (request_frame asked) ≤ FRAME_LIMIT
    frame_bytes = frame_short asked (back_lawful done (asked ∷ []) lawful_made).0

    pub all_sent : put ≡ request_frame asked → request_bytes done ++ put ≡ request_bytes made
    all_sent same = ap (λ (b : List ℕ). request_bytes done ++ b) same ∙ sym (bytes_last request_frame done asked) ∙ ap request_bytes (sym made_is)

    not_full : length done ≤ kept → length put ≤ FRAME_LIMIT → SENT_LIMIT ≤ length (request_bytes done ++ put) → ⊥
    not_full le short full =
        never_full (length done) kept (length (request_bytes done)) (length put) le is.few (bytes_short done lawful_done) short (omega (arith, full, length-append (request_bytes done) put))

    -- with the whole request
    by_whole : (same : put ≡ request_frame asked) → (kept < length (served boxes (request_bytes done ++ put)).exchanges) ⊎ (SENT_LIMIT ≤ length (request_bytes done ++ put))
        → scene p kept s boxes ≡ synced p s replies now
    by_whole same (inl lost) = plays (all_sent same) (inr (subst (λ (b : List ℕ). kept < length (served boxes b).exchanges) (all_sent same) lost))
    by_whole same (inr full) =
        absurd (not_full (let few = within p kept s boxes replies (played (all_sent same)) in omega (arith, few, is.waited)) (omega (arith, frame_bytes, ap length same)) full)

    -- with less of it
    by_part : IsPartial put → length put ≤ FRAME_LIMIT
        → (kept < length (served boxes (request_bytes done ++ put)).exchanges) ⊎ (SENT_LIMIT ≤ length (request_bytes done ++ put)) → ⊥
    by_part partial short cause = by_cause cause
      where
        exs : List Exchange
        exs = (served boxes (request_bytes done)).exchanges

        same_served : served boxes (request_bytes done ++ put) ≡ served boxes (request_bytes done)
        same_served = part_unanswered boxes done put lawful_done partial

        replies_are : map reply_of (served boxes (request_bytes done)).exchanges ≡ take EXCHANGE_LIMIT (relay_replies boxes done)
        replies_are = replies_of boxes done lawful_done

        few : length replies ≤ kept
        few = no_more kept EXCHANGE_LIMIT boxes done replies (rest ++ is.brought.more) (served boxes (request_bytes done)).exchanges (omega (arith, is.few))
            (replies_lawful boxes done is.lawful_boxes lawful_done) is.lawful_replies replies_are
            (sym (append_assoc (replied_bytes replies) rest is.brought.more) ∙ is.brought.came ∙ ap (λ (x : Served). flat_map reply_frame (take kept x.exchanges)) same_served)

        count : length (served boxes (request_bytes done)).exchanges ≡ length done
        count =
            sym (length-map (served boxes (request_bytes done)).exchanges reply_of)
            ∙ ap length (replies_are ∙ take_all EXCHANGE_LIMIT (relay_replies boxes done) (omega (arith, replies_count boxes done, is.waited, few, is.few)))
            ∙ replies_count boxes done

        by_cause : (kept < length (served boxes (request_bytes done ++ put)).exchanges) ⊎ (SENT_LIMIT ≤ length (request_bytes done ++ put)) → ⊥
        by_cause (inl lost) = absurd (omega (arith, lost, ap (λ (x : Served). length x.exchanges) same_served, count, is.waited, few))
        by_cause (inr full) = not_full (omega (arith, is.waited, few)) short full

    breaks : (left : List ℕ) → request_frame asked ≡ put ++ left → 0 < now.faults → scene p kept s boxes ≡ synced p s replies now
    breaks [] split some = by_whole (sym (split ∙ append-nil put)) (is.brought.failed some)
    breaks (x ∷ left) split some =
        absurd (by_part
        (begins_partial put x left (subst IsFrame split (request_frames (asked ∷ []) ((back_lawful done (asked ∷ []) lawful_made).0, tt)).0))
        (omega (arith, frame_bytes, ap length split, length-append put (x ∷ left))) (is.brought.failed some))

-- ---- the law

module _ {S : Type 0} (p : Party S) (kept : ℕ) (s : S) (boxes : List Box) (replies : List Replied) where
  pub ended : (now : LinkConnection) → IsSynced p kept s boxes replies [] [] now → (ending : Ending) → (course_of p s replies).wait ≡ over ending
      → scene p kept s boxes ≡ synced p s replies now
  ended now is ending is_over =
      let requests = (course_of p s replies).requests in
      let none : made_requests p (course_of p s replies) ≡ requests =
      ap (λ (w : Wait). requests ++ as_list (option_map (tagged p.keys (course_of p s replies).tokens) (asked_in p (course_of p s replies).state w))) is_over ∙ append-nil requests in
      plays p kept s boxes replies [] [] now is (append-nil (request_bytes requests) ∙ ap request_bytes (sym none)) (inl (ending, is_over))

  -- where it has broken off otherwise, what was printed so far begins what the scene prints
  pub shown_so : (now : LinkConnection) → IsSynced p kept s boxes replies [] [] now
      → Begins (all_lines p (course_of p s replies)) (all_lines p (scene p kept s boxes).course)
  shown_so now is =
      let course = course_of p s replies in
      let done = course.requests in
      let few : kept ≤ EXCHANGE_LIMIT = omega (arith, is.few) in
      let all = comes_first kept boxes done (awaited p course) few (front_lawful done (awaited p course) is.lawful_requests) is.lawful_requests in
      let came : replied_bytes replies ++ is.brought.more ≡ flat_map reply_frame (take kept (served boxes (request_bytes done)).exchanges) =
      ap (λ (b : List ℕ). b ++ is.brought.more) (sym (append-nil (replied_bytes replies))) ∙ is.brought.came
      ∙ ap (λ (b : List ℕ). flat_map reply_frame (take kept (served boxes b).exchanges)) (append-nil (request_bytes done)) in
      shown p kept s boxes replies (record {
        lawful_boxes = is.lawful_boxes;
        lawful_requests = is.lawful_requests;
        lawful_replies = is.lawful_replies;
        few = omega (arith, is.few);
        waited = is.waited;
        more = is.brought.more ++ all.0;
        came = sym (append_assoc (replied_bytes replies) is.brought.more all.0) ∙ ap (λ (b : List ℕ). b ++ all.0) came ∙ sym all.1;
      })

  pub broken : (rest put : List ℕ) (now : LinkConnection) → IsSynced p kept s boxes replies rest put now → (asked : Asked)
      → asked_now p (course_of p s replies) ≡ Some asked → (left : List ℕ) → request_frame asked ≡ put ++ left → 0 < now.faults
      → scene p kept s boxes ≡ synced p s replies now
  broken rest put now is asked waits left split some = breaks p kept s boxes replies rest put now is asked waits left split some

  pub always_read : (rest : List ℕ) (now : LinkConnection) (asked : Asked) → IsSynced p kept s boxes replies rest (request_frame asked) now
      → asked_now p (course_of p s replies) ≡ Some asked → (bad : BadReply) → IsFrame rest → read_reply (drop 2 rest) ≡ Err bad → ⊥
  always_read rest now asked is waits bad frame reads =
      read p kept s boxes replies rest (request_frame asked) now is (all_sent p kept s boxes replies rest (request_frame asked) now is asked waits refl) asked waits bad frame reads

  pub never_ends : (rest : List ℕ) (now : LinkConnection) (asked : Asked) → IsSynced p kept s boxes replies rest (request_frame asked) now
      → asked_now p (course_of p s replies) ≡ Some asked → IsPartial rest → IsAtEnd (connection_wire now) → ⊥
  never_ends rest now asked is waits partial end =
      goes_on p kept s boxes replies rest (request_frame asked) now is (all_sent p kept s boxes replies rest (request_frame asked) now is asked waits refl) asked waits partial end
