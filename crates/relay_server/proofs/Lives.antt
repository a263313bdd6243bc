-- What stands past a connection that ended, or that a crash cut.
use Rattle.std.proofs.Common.{◌≡◌, ⊎_elim, ℕ, zero, suc, Bool, true, false, List, [], ◌∷◌, ◌++◌, drop, Some, None, Result, Ok, Err, refl, sym, ◌∙◌, ap, append-nil}
use Rattle.std.specs.Prelude.{if◌then◌else◌}
use Rattle.dr_disk.specs.State.{DiskState, IsLawful}
use Rattle.dr_ports.specs.Wires.{Port}
use Rattle.slot_store.specs.Laws.{IsResting}
use Rattle.relay_core.specs.Boxes.{Box, after_box, answer_in, answers_of, answers_read, is_named, of_first, spec_of}
use Rattle.relay_core.specs.Streams.{boxes_after, is_last, nothing_served, served, served_within}
use Rattle.relay_core.specs.declared.limits.TheConstants.{EXCHANGE_LIMIT}
use Rattle.relay_core.specs.declared.spec.BoxSpec.{BoxSpec}
use Rattle.relay_core.proofs.KeptKeys.{spec_stays}
use Rattle.relay_wire.specs.Frames.{frames_of}
use Rattle.relay_wire.specs.Requests.{Asked, read_request}
use Rattle.relay_server.specs.Durable.{ServerNow}
use Rattle.relay_server.specs.FrameByFrame.{IsInOrder, IsMoment, IsServedInOrder, after_frames, broke_off_in, ended_behind}
use Rattle.relay_server.specs.Lives.{ArePast, GoesOn, StandsForPast}
use Rattle.relay_server.specs.Reopening.{specs_of_boxes}
use Rattle.relay_server.specs.Serving.{Serves}
use Rattle.relay_server.specs.declared.serving.Ended.{Ended}
use Rattle.relay_server.specs.declared.serving.ServeFault.{ServeFault}
use Rattle.relay_server.specs.declared.serving.ServeFault.TheVariants.{Read, Write, Store}
use Rattle.relay_server.proofs.Sent.{moment_stands}

-- ---- boxes keep what they were made by

specs_of_next : (boxes : List Box) (asked : Asked) → specs_of_boxes (answers_of boxes asked).next ≡ specs_of_boxes boxes
unfolding answers_of
specs_of_next [] asked = refl
specs_of_next (box ∷ boxes) asked = by_name (specs_of_next boxes asked) (is_named asked.name box)
  where
    by_name : specs_of_boxes (answers_of boxes asked).next ≡ specs_of_boxes boxes → (named : Bool)
        → specs_of_boxes (if named then of_first (answer_in box asked) boxes else after_box box (answers_of boxes asked)).next ≡ specs_of_boxes (box ∷ boxes)
    by_name more true = ap (λ (spec : BoxSpec). spec ∷ specs_of_boxes boxes) (spec_stays box asked)
    by_name more false = ap (λ (specs : List BoxSpec). spec_of box ∷ specs) more

specs_of_read : (boxes : List Box) (asked : Result Asked ℕ) → specs_of_boxes (answers_read boxes asked).next ≡ specs_of_boxes boxes
specs_of_read boxes (Ok asked) = specs_of_next boxes asked
specs_of_read boxes (Err kind) = refl

specs_within : (n : ℕ) (boxes : List Box) (frames : List (List ℕ)) → specs_of_boxes (served_within n boxes frames).next ≡ specs_of_boxes boxes
specs_within zero boxes frames = refl
specs_within (suc n) boxes [] = refl
specs_within (suc n) boxes (frame ∷ frames) =
    by_last (specs_within n (boxes_after boxes frame) frames) (is_last (read_request (drop 2 frame)))
    ∙ specs_of_read boxes (read_request (drop 2 frame))
  where
    by_last : specs_of_boxes (served_within n (boxes_after boxes frame) frames).next ≡ specs_of_boxes (boxes_after boxes frame) → (last : Bool)
        → specs_of_boxes (if last then nothing_served (boxes_after boxes frame) else served_within n (boxes_after boxes frame) frames).next ≡ specs_of_boxes (boxes_after boxes frame)
    by_last more true = refl
    by_last more false = more

-- ---- crashes, and connections that end

past_no_more : (boxes : List Box) (sent : List (List ℕ)) (next : List Box) → next ≡ (after_frames boxes sent).next → ArePast boxes next sent
past_no_more boxes sent next is = record { unsent = None; next_is = is ∙ ap (λ (l : List (List ℕ)). (after_frames boxes l).next) (sym (append-nil sent)) }

past_one_more : (boxes : List Box) (sent : List (List ℕ)) (frame : List ℕ) (next : List Box) → next ≡ (after_frames boxes (sent ++ frame ∷ [])).next → ArePast boxes next sent
past_one_more boxes sent frame next is = record { unsent = Some frame; next_is = is }

module _ {X Y : Type 0} (state : X → DiskState) (port : Y → Port) where
  pub past_crash : (lawful : (x : X) → IsLawful (state x)) → IsResting → (boxes : List Box) (start : X) (from : Y) (sent : List (List ℕ)) (c : List ℕ)
      → IsMoment state port boxes start from sent c → StandsForPast boxes sent c
  past_crash lawful resting boxes start from sent c moment =
      let left = moment_stands state port lawful resting boxes start from sent c moment in
      let next = (after_frames boxes left.front).next in
      record {
        next = next;
        past = ⊎_elim
            (λ all. past_no_more boxes sent next (ap (λ (l : List (List ℕ)). (after_frames boxes l).next) all))
            (λ more. past_one_more boxes sent more.0 next (ap (λ (l : List (List ℕ)). (after_frames boxes l).next) more.1))
            left.reach;
        stands = left.stands;
        made = specs_within EXCHANGE_LIMIT boxes left.front;
      }

  goes_on : (boxes next : List Box) (got : List ℕ) (start now : X) (from door : Y) → next ≡ (after_frames boxes (frames_of got)).next
      → IsInOrder state port boxes got start now from door → GoesOn state port boxes next start from
  goes_on boxes next got start now from door is (ended_behind behind disk pipe part answered exchanges still rests) = record {
    sent = frames_of got;
    behind = behind;
    disk = disk;
    pipe = pipe;
    answered = answered;
    past = past_no_more boxes (frames_of got) next is;
  }
  goes_on boxes next got start now from door is (broke_off_in frames frame put rest before after disk pipe split answered came after_is reply rests) = record {
    sent = frames;
    behind = before;
    disk = disk;
    pipe = pipe;
    answered = answered;
    past = past_one_more boxes frames frame next (is ∙ ap (λ (l : List (List ℕ)). (after_frames boxes l).next) split);
  }

next_of : (boxes next : List Box) (got : List ℕ) → next ≡ (served boxes got).next → next ≡ (after_frames boxes (frames_of got)).next
unfolding served
next_of boxes next got is = is

module _ {X Y : Type 0} (state : X → DiskState) (port : Y → Port) where
  pub past_connection : (old new : ServerNow) (start now : X) (from door : Y) (result : Result Ended ServeFault)
      → IsServedInOrder state port old new start now from door result → GoesOn state port old.boxes new.boxes start from
  past_connection old new start now from door result is =
      goes_on state port old.boxes new.boxes is.served.got start now from door
      (next_of old.boxes new.boxes is.served.got (by_result result is.served.serves)) is.in_order
    where
      by_result : (r : Result Ended ServeFault) → Serves old new (port from) (port door) (state start) (state now) is.served.got r
          → new.boxes ≡ (served old.boxes is.served.got).next
      by_result (Ok ended) s = s.0.next_is
      by_result (Err Read) s = s.0.next_is
      by_result (Err Write) s = s.2.next_is
      by_result (Err (Store call)) s = s.2.next_is
