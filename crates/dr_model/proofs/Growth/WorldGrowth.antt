-- What happens to the views of a world.
use Rattle.std.proofs.Common.{◌≡◌, ℕ, Bool, true, false, List, [], ◌∷◌, ◌++◌, length, Option, Some, None, Result, Ok, Err, refl}
use Rattle.std.specs.List.{list_any}
use Rattle.std.specs.Prelude.{if◌then◌else◌, nat_le, nat_lt, is_none}
use Rattle.std.proofs.lemmas.Bool.{cond_both}
use Rattle.dr_base.specs.declared.limits.TheConstants.{KEPT_LIMIT, INBOX_LIMIT}
use Rattle.dr_base.specs.Position.{is_own, is_at}
use Rattle.dr_base.specs.declared.position.Position.{Position}
use Rattle.dr_base.specs.declared.position.Side.{Side}
use Rattle.dr_base.specs.declared.position.Side.TheVariants.{First, Second}
use Rattle.kem_laws.specs.Mechanism.{Mechanism}
use Rattle.session_model.specs.Contents.{Content}
use Rattle.session_model.specs.declared.answer.Answer.{Answer}
use Rattle.session_model.specs.declared.answer.Answer.TheVariants.{Dropped, Opened, Nothing, Refused}
use Rattle.session_model.specs.Leaving.{drop_check}
use Rattle.session_model.specs.declared.answer.Items.TheVariants.{Packets, Texts}
use Rattle.session_model.specs.declared.answer.Refusal.{Refusal}
use Rattle.session_model.specs.declared.answer.Refusal.TheVariants.{NoPair, OwnPacket, Spent, SkipLimit, InboxFull}
use Rattle.session_model.specs.declared.answer.Which.{Which}
use Rattle.session_model.specs.declared.answer.Which.TheVariants.{OfId, Oldest}
use Rattle.dr_model.specs.Conversations.Conversation.{Conversation}
use Rattle.dr_model.specs.Conversations.ViewStates.{state_of}
use Rattle.dr_model.specs.Conversations.Views.{View, after_drop, has_opened, after_opening, missing_of}
use Rattle.dr_model.specs.Machines.Draws.{Draws, next_seed, after_draw}
use Rattle.dr_model.specs.Machines.Events.{Event, cuts, does, seeds, shows_awaiting, shows_inbox, shows_state}
use Rattle.dr_model.specs.Machines.Steps.{Shown, Step, leaving, places, settled, step, texts}
use Rattle.dr_model.specs.Machines.Worlds.{World, view_of, with_view, dropping_in, inbox_in, outbox_in, may_say, said_here, said_next, saying_in, taking_in, taking_at, made_at, refusal_of, taking_made, taking_given, step_of}
use Rattle.dr_model.proofs.Saying.SayingFollows.{drawn_in}
use Rattle.dr_model.proofs.Worlds.CallKinds.{of_call}
use Rattle.dr_model.proofs.Worlds.CutSteps.{cut_off}

-- the second list is the first, or has at its end one position more, which wasn't among them
pub data Gains (ps qs : List Position) : Type 0 where
  same : qs ≡ ps → Gains ps qs
  more : (p : Position) → list_any (is_at p) ps ≡ false → qs ≡ ps ++ p ∷ [] → Gains ps qs

-- the conversation and both views are as they were
abbrev pub IsUnchanged : World → World → Type 0
IsUnchanged w next = (next.conversation ≡ w.conversation) × (next.first ≡ w.first) × (next.second ≡ w.second)

-- with a step a side opens at most one position, a new one, and a refusal changes nothing
pub record IsSound (w : World) (made : Step World) : Type 0 where
  pub gains : (side : Side) → Gains (view_of w side).arrived (view_of made.next side).arrived
  pub refused : (refusal : Refusal) → made.answer ≡ Refused refusal → IsUnchanged w made.next

-- the same of a result, once it is settled
abbrev IsSettled : World → Result (Step World) Refusal → Type 0
IsSettled w r = IsSound w (settled w r)

-- a step that leaves the world is sound
still_sound : (w : World) (answer : Answer) (shown : Shown)
    → IsSound w (record { answer = answer; shown = shown; next = w })
still_sound w answer shown = record { gains = λ side. same refl; refused = λ _ _. (refl, refl, refl) }

-- and so is a refusal
err_sound : (w : World) (refusal : Refusal) → IsSettled w (Err refusal)
err_sound w refusal = still_sound w (Refused refusal) (texts [])

-- a test that refuses is sound, if what comes where it fails is
unless_sound : (w : World) (test : Bool) (refusal : Refusal) (r : Result (Step World) Refusal)
    → (test ≡ false → IsSettled w r) → IsSettled w (if test then Err refusal else r)
unless_sound w test refusal r sound = cond_both test (Err refusal) r (IsSettled w) (λ _. err_sound w refusal) sound

-- what leaves leaves soundly, if the step does where the check allows it
leaving_sound : (w : World) (which : Which) (check : Result Unit Refusal) (next : World)
    → IsSound w (step (Dropped which) next) → IsSettled w (leaving which check next)
leaving_sound w which (Ok stand) next sound = sound
leaving_sound w which (Err refusal) next sound = err_sound w refusal

-- ---- one side's view changes

-- with the one view that changes
with_view_gains : (w : World) (side : Side) (v : View) (other : Side) → Gains (view_of w side).arrived v.arrived
    → Gains (view_of w other).arrived (view_of (with_view w side v) other).arrived
with_view_gains w First v First gains = gains
with_view_gains w First v Second gains = same refl
with_view_gains w Second v First gains = same refl
with_view_gains w Second v Second gains = gains

-- items leave a box
same_arrived : (c : Conversation) (v : View) (which : Which) → (after_drop c v which).arrived ≡ v.arrived
same_arrived c v (Oldest Texts n) = refl
same_arrived c v (Oldest Packets n) = refl
same_arrived c v (OfId id) = refl

left_sound : (k : Mechanism) (w : World) (side : Side) (which : Which) → IsSettled w (dropping_in k w side which)
left_sound k w side which =
    let after = after_drop w.conversation (view_of w side) which in
    leaving_sound w which (drop_check which (inbox_in w side) (outbox_in k w side)) (with_view w side after) (record {
      gains = λ other. with_view_gains w side after other (same (same_arrived w.conversation (view_of w side) which));
      refused = λ refusal e. cc;
    })

-- ---- a packet is taken

-- the packet of a position is opened
opened_sound : (w : World) (side : Side) (p : Position) → has_opened (view_of w side) p ≡ false
    → IsSettled w (Ok (step (Opened p) (with_view w side (after_opening w.conversation (view_of w side) p))))
opened_sound w side p new = record {
  gains = λ other. with_view_gains w side (after_opening w.conversation (view_of w side) p) other (more p new refl);
  refused = λ refusal e. cc;
}

-- or refused
taking_sound : (w : World) (side : Side) (p : Position) → IsSettled w (taking_in w side p)
taking_sound w side p =
    let missing = length (missing_of w.conversation (after_opening w.conversation (view_of w side) p)) in
    unless_sound w (is_own side p.epoch) (OwnPacket p.epoch) _
    (λ _. unless_sound w (has_opened (view_of w side) p) (Spent p) _
    (λ new. unless_sound w (nat_lt KEPT_LIMIT missing) (SkipLimit missing) _
    (λ _. unless_sound w (nat_le INBOX_LIMIT (length (inbox_in w side))) InboxFull _ (λ _. opened_sound w side p new))))

-- or the network holds no such packet
at_sound : (w : World) (side : Side) (p : Option Position) → IsSound w (taking_at w side p)
at_sound w side (Some p) = taking_sound w side p
at_sound w side None = still_sound w Nothing (texts [])

-- bytes are taken
made_sound : (k : Mechanism) (w : World) (side : Side) (bytes : List ℕ) (p : Option Position)
    → IsSettled w (taking_made k w side bytes p)
made_sound k w side bytes (Some p) = taking_sound w side p
made_sound k w side bytes None = err_sound w (refusal_of k (state_of k w.conversation (view_of w side)) bytes)

-- or the network has none to give
given_sound : (k : Mechanism) (w : World) (side : Side) (bytes : Option (List ℕ)) → IsSound w (taking_given k w side bytes)
given_sound k w side (Some bytes) = made_sound k w side bytes (made_at k w bytes)
given_sound k w side None = still_sound w Nothing (texts [])

-- ---- a text is said

-- nothing arrives in another conversation, and where draws are made
talk_gains : (w : World) (conversation : Conversation) (draws : Draws) (side : Side)
    → Gains (view_of w side).arrived (view_of (record w { conversation = conversation; draws = draws }) side).arrived
talk_gains w conversation draws First = same refl
talk_gains w conversation draws Second = same refl

-- nor where a side says a text, in its epoch or in the next
here_gains : (w : World) (side : Side) (content : Content) (other : Side)
    → Gains (view_of w other).arrived (view_of (said_here w side content).next other).arrived
here_gains w First content First = same refl
here_gains w First content Second = same refl
here_gains w Second content First = same refl
here_gains w Second content Second = same refl

turn_gains : (w : World) (side : Side) (seed : List ℕ) (content : Content) (other : Side)
    → Gains (view_of w other).arrived (view_of (said_next (drawn_in w) side seed content).next other).arrived
turn_gains w First seed content First = same refl
turn_gains w First seed content Second = same refl
turn_gains w Second seed content First = same refl
turn_gains w Second seed content Second = same refl

-- in the side's epoch
here_sound : (w : World) (side : Side) (content : Content) → IsSound w (said_here w side content)
here_sound w side content = record { gains = here_gains w side content; refused = λ refusal e. cc }

-- in its next one, with a draw
next_sound : (w : World) (side : Side) (seed : List ℕ) (content : Content) (none : Bool)
    → IsSound w (if none then settled (drawn_in w) (Err NoPair) else said_next (drawn_in w) side seed content)
next_sound w side seed content none =
    cond_both none (settled (drawn_in w) (Err NoPair)) (said_next (drawn_in w) side seed content) (IsSound w)
    (λ _. record { gains = talk_gains w w.conversation (after_draw w.draws); refused = λ _ _. (refl, refl, refl) })
    (λ _. record { gains = turn_gains w side seed content; refused = λ refusal e. cc })

-- or refused
saying_sound : (k : Mechanism) (w : World) (side : Side) (content : Content) (r : Result Bool Refusal)
    → IsSound w (saying_in k w side content r)
saying_sound k w side content (Err refusal) = err_sound w refusal
saying_sound k w side content (Ok false) = here_sound w side content
saying_sound k w side content (Ok true) =
    let seed = next_seed w.conversation.key w.draws in next_sound w side seed content (is_none (k.meaning.pair_of seed))

-- ---- any event

-- each is sound
pub step_sound : (k : Mechanism) (w : World) (h : Event) → IsSound w (step_of k w h)
step_sound k w (seeds seed) =
    record { gains = talk_gains w w.conversation (record w.draws { given = Some seed }); refused = λ refusal e. cc }
step_sound k w (does side call) =
    of_call k w side (IsSound w) (record {
      content = λ content. saying_sound k w side content (may_say k w side content);
      packet = λ at said. at_sound w side at;
      bytes = given_sound k w side;
      drop = left_sound k w side;
    }) call
step_sound k w (shows_inbox side) = still_sound w _ (texts (inbox_in w side))
step_sound k w (shows_awaiting side) = still_sound w _ (places (view_of w side).awaiting)
step_sound k w (shows_state side) = still_sound w _ (texts [])
step_sound k w (cuts took h) =
    let sound = step_sound k w h in
    let draws = (step_of k w h).next.draws in
    cut_off (IsSound w) (record w { draws = draws }) took (step_of k w h)
    (record { gains = sound.gains; refused = λ refusal e. cc })
    (record { gains = talk_gains w w.conversation draws; refused = λ refusal e. cc })
    sound
