-- Worlds stay lawful, event by event.
use Rattle.std.proofs.Common.{Err, List, None, Ok, Option, Result, Some, [], ap, arith, length, refl, true, ℕ, ◌+◌, ◌-◌, ◌∙◌, ◌∷◌, ◌≡◌, ◌≤◌}
use Rattle.std.specs.Prelude.{All, Bool, IfSome, not}
use Rattle.std.proofs.lemmas.List.Filters.{length-filter_both}
use Rattle.boxes.specs.Entries.{is_of}
use Rattle.std.proofs.lemmas.List.Elements.{All-head, All-tail, All-weaker}
use Rattle.dr_base.specs.declared.position.Position.{Position}
use Rattle.dr_base.specs.declared.position.Side.{Side}
use Rattle.kem_laws.specs.Mechanism.{Mechanism}
use Rattle.session_model.specs.declared.answer.Items.TheVariants.{Packets, Texts}
use Rattle.session_model.specs.declared.answer.Refusal.{Refusal}
use Rattle.session_model.specs.declared.answer.Which.{Which}
use Rattle.session_model.specs.declared.answer.Which.TheVariants.{OfId, Oldest}
use Rattle.session_model.specs.Leaving.{drop_check}
use Rattle.session_model.proofs.Leaving.{enough_held}
use Rattle.dr_model.specs.Conversations.Conversation.{Conversation, is_said, receipt_at}
use Rattle.dr_model.specs.Conversations.Lawful.{HasArrived, IsLawfulView}
use Rattle.std.proofs.lemmas.List.{length-drop}
use Rattle.dr_model.specs.Conversations.Posts.{posts_of}
use Rattle.dr_model.specs.Conversations.Standing.{AreDone, done_first, done_which, standing}
use Rattle.dr_model.proofs.Growth.Apart.{apart_once}
use Rattle.dr_model.proofs.Growth.Standing.{first_done, first_leave, which_done, which_leave}
use Rattle.dr_model.specs.Conversations.Views.{View, after_drop, entry_at, inbox_of, outbox_of}
use Rattle.dr_model.specs.Machines.Events.{Event, cuts, does, seeds, shows_awaiting, shows_inbox, shows_state}
use Rattle.dr_model.specs.Machines.Steps.{leaving, settled}
use Rattle.dr_model.specs.Machines.Worlds.{World, dropping_in, made_at, run_of, step_of, taking_at, taking_given, taking_made, view_of, with_view}
use Rattle.dr_model.specs.Theorems.Fairness.{IsSeedWhole}
use Rattle.dr_model.specs.Theorems.LawfulWorlds.{IsLawfulWorld}
use Rattle.dr_model.proofs.Growth.BoxSizes.{length-inbox_of, length-outbox_of, within}
use Rattle.dr_model.proofs.Receipts.Truth.{true_later}
use Rattle.dr_model.proofs.Saying.SayingLawful.{lawful_says}
use Rattle.dr_model.proofs.Taking.ArrivingLawful.{lawful_taking, with_lawful}
use Rattle.dr_model.proofs.Taking.MadePositions.{made_at-is}
use Rattle.dr_model.proofs.Worlds.CallKinds.{of_call}
use Rattle.dr_model.proofs.Worlds.CutSteps.{cut_off}
use Rattle.dr_model.proofs.Growth.SameViews.{missing_below-boxes}
use Rattle.dr_model.proofs.Worlds.WorldViews.{view_lawful}

-- a packet of a position that was said, or none
lawful_at : (k : Mechanism) (w : World) (side : Side) (at : Option Position) → IsLawfulWorld k w
    → IfSome at (λ p. is_said w.conversation p ≡ true) → IsLawfulWorld k (taking_at w side at).next
lawful_at k w side None lawful said = lawful
lawful_at k w side (Some p) lawful said = lawful_taking k w side p lawful said

-- bytes, by whether they are the packet of a text
lawful_made : (k : Mechanism) (w : World) (side : Side) (bytes : List ℕ) (made : Option Position) → IsLawfulWorld k w
    → made_at k w bytes ≡ made → IsLawfulWorld k (settled w (taking_made k w side bytes made)).next
lawful_made k w side bytes None lawful is = lawful
lawful_made k w side bytes (Some p) lawful is = lawful_taking k w side p lawful (made_at-is k w bytes p is).said

lawful_given : (k : Mechanism) (w : World) (side : Side) (given : Option (List ℕ)) → IsLawfulWorld k w
    → IsLawfulWorld k (taking_given k w side given).next
lawful_given k w side None lawful = lawful
lawful_given k w side (Some bytes) lawful = lawful_made k w side bytes (made_at k w bytes) lawful refl

-- what left the boxes matters to the boxes alone
lawful_boxes : (k : Mechanism) (c : Conversation) (side : Side) (v : View) (done : List Position) (dropped : ℕ) → IsLawfulView k c side v
    → length (standing v.arrived done) ≤ length (standing v.arrived v.done) → v.dropped ≤ dropped
    → AreDone v.arrived done → dropped ≤ length (posts_of k c side)
    → IsLawfulView k c side (record v { done = done; dropped = dropped })
lawful_boxes k c side v done dropped lawful fewer less d e =
    let after = record v { done = done; dropped = dropped } in
    record {
      side_is = lawful.side_is;
      reached = lawful.reached;
      near_end = lawful.near_end;
      waits = lawful.waits;
      arrivals = All-weaker (HasArrived c v) (HasArrived c after)
          (λ p h. record { said = h.said; peers = h.peers; reached = h.reached }) v.arrived lawful.arrivals;
      once = lawful.once;
      some = lawful.some;
      near = omega (arith, lawful.near, ap length (missing_below-boxes c v done dropped v.awaiting (v.epoch + 1)));
      done = d;
      dropped_fits = e;
      few_texts = omega (arith, lawful.few_texts, length-inbox_of c v, length-inbox_of c after, fewer);
      few_packets = omega (arith, lawful.few_packets, length-outbox_of k c v, length-outbox_of k c after);
      awaiting = lawful.awaiting;
      awaiting_said = lawful.awaiting_said;
      receipts = λ p said own. true_later c v after (receipt_at c p) (λ q opened. opened) (lawful.receipts p said own);
    }

leave_lawful : (k : Mechanism) (w : World) (which : Which) (check : Result Unit Refusal) (next : World) → IsLawfulWorld k w
    → (check ≡ Ok tt → IsLawfulWorld k next) → IsLawfulWorld k (settled w (leaving which check next)).next
leave_lawful k w which (Ok stand) next lawful h = h refl
leave_lawful k w which (Err refusal) next lawful h = lawful

-- items leave a box
lawful_drop : (k : Mechanism) (c : Conversation) (side : Side) (v : View) (which : Which) → IsLawfulView k c side v
    → drop_check which (inbox_of c v) (outbox_of k c v) ≡ Ok tt → IsLawfulView k c side (after_drop c v which)
lawful_drop k c side v (Oldest Texts n) lawful stand =
    let apart = apart_once v.arrived lawful.once in
    lawful_boxes k c side v (done_first v.arrived v.done n) v.dropped lawful
    (omega (arith, ap length (first_leave v.arrived v.done n apart), length-drop n (standing v.arrived v.done))) (omega arith)
    (first_done v.arrived v.done n apart lawful.done) lawful.dropped_fits
lawful_drop k c side v (Oldest Packets n) lawful stand =
    lawful_boxes k c side v v.done (v.dropped + n) lawful (omega arith) (omega arith) lawful.done
    (within n (length (outbox_of k c v)) v.dropped (length (posts_of k c side))
    (length-outbox_of k c v ∙ ap (λ s. length (posts_of k c s) - v.dropped) lawful.side_is)
    lawful.dropped_fits (enough_held n (length (outbox_of k c v)) stand))
lawful_drop k c side v (OfId id) lawful stand =
    let goes : Position → Bool = λ p. is_of id (entry_at c p) in
    let stood = standing v.arrived v.done in
    lawful_boxes k c side v (done_which goes v.arrived v.done) v.dropped lawful
    (omega (arith, ap length (which_leave goes v.arrived v.done), length-filter_both goes (λ p. not (goes p)) (λ _. refl) stood)) (omega arith)
    (which_done goes v.arrived v.done (apart_once v.arrived lawful.once) lawful.done) lawful.dropped_fits

lawful_left : (k : Mechanism) (w : World) (side : Side) (which : Which) → IsLawfulWorld k w
    → IsLawfulWorld k (settled w (dropping_in k w side which)).next
lawful_left k w side which lawful =
    let c = w.conversation in
    let v = view_of w side in
    let after = after_drop c v which in
    leave_lawful k w which (drop_check which (inbox_of c v) (outbox_of k c v)) (with_view w side after) lawful
    (λ stand. with_lawful k w side after lawful (lawful_drop k c side v which (view_lawful k w side lawful) stand))

-- any event
pub lawful_next : (k : Mechanism) (w : World) (h : Event) → IsLawfulWorld k w → IsSeedWhole h
    → IsLawfulWorld k (step_of k w h).next
lawful_next k w (seeds seed) lawful whole =
    record { conversation = lawful.conversation; first = lawful.first; second = lawful.second; given = whole }
lawful_next k w (does side call) lawful whole =
    of_call k w side (λ made. IsLawfulWorld k made.next) (record {
      content = λ content. lawful_says k w side content lawful;
      packet = λ at said. lawful_at k w side at lawful said;
      bytes = λ given. lawful_given k w side given lawful;
      drop = λ which. lawful_left k w side which lawful;
    }) call
lawful_next k w (shows_inbox side) lawful whole = lawful
lawful_next k w (shows_state side) lawful whole = lawful
lawful_next k w (shows_awaiting side) lawful whole = lawful
lawful_next k w (cuts took h) lawful whole =
    let next = lawful_next k w h lawful whole in
    cut_off (λ made. IsLawfulWorld k made.next) (record w { draws = (step_of k w h).next.draws }) took (step_of k w h) next
    (record { conversation = lawful.conversation; first = lawful.first; second = lawful.second; given = next.given }) next

-- and any run
pub lawful_run : (k : Mechanism) (w : World) (hs : List Event) → IsLawfulWorld k w → All IsSeedWhole hs
    → IsLawfulWorld k (run_of k w hs)
lawful_run k w [] lawful whole = lawful
lawful_run k w (h ∷ hs) lawful whole =
    lawful_run k (step_of k w h).next hs (lawful_next k w h lawful (All-head IsSeedWhole h hs whole))
    (All-tail IsSeedWhole h hs whole)
