-- A packet and its text stay, whatever happens.
use Rattle.std.proofs.Common.{◌≡◌, ℕ, ◌+◌, ◌≤◌, true, false, Bool, nat_le, nat_lt, List, [], ◌++◌, ◌∷◌, length, Option, Some, None, Result, Ok, Err, refl, sym, subst, arith, if◌then◌else◌}
use Rattle.std.specs.Prelude.{All, is_none}
use Rattle.bodies.specs.Bodies.{Body}
use Rattle.dr_base.specs.declared.limits.TheConstants.{KEPT_LIMIT, INBOX_LIMIT}
use Rattle.dr_base.specs.Position.{is_own}
use Rattle.dr_base.specs.declared.position.Position.{Position}
use Rattle.dr_base.specs.declared.position.Side.{Side}
use Rattle.dr_base.specs.declared.position.Side.TheVariants.{First, Second}
use Rattle.kem_laws.specs.Mechanism.{Mechanism}
use Rattle.session_model.specs.Contents.{Content}
use Rattle.session_model.specs.Leaving.{drop_check}
use Rattle.session_model.specs.declared.answer.Answer.TheVariants.{Opened}
use Rattle.session_model.specs.declared.answer.Refusal.{Refusal}
use Rattle.session_model.specs.declared.answer.Refusal.TheVariants.{NoPair, OwnPacket, Spent, SkipLimit, InboxFull}
use Rattle.session_model.specs.declared.answer.Which.{Which}
use Rattle.dr_model.specs.Conversations.Conversation.{Conversation, is_said, with_text, with_turn}
use Rattle.dr_model.specs.Conversations.Posts.{post_at}
use Rattle.dr_model.specs.Conversations.Receipts.{body_in}
use Rattle.dr_model.specs.Conversations.Views.{View, after_drop, has_opened, after_opening, missing_of, entry_at}
use Rattle.dr_model.specs.Machines.Draws.{next_seed}
use Rattle.dr_model.specs.Machines.Events.{Event, cuts, does, seeds, shows_awaiting, shows_inbox, shows_state}
use Rattle.dr_model.specs.Machines.Steps.{Step, leaving, step, settled}
use Rattle.dr_model.specs.Machines.Worlds.{World, said_here, view_of, with_view, dropping_in, inbox_in, outbox_in, may_say, said_next, saying_in, taking_in, taking_at, made_at, taking_made, taking_given, step_of}
use Rattle.dr_model.specs.Theorems.LawfulWorlds.{IsLawfulWorld}
use Rattle.dr_model.proofs.Growth.Growing.{grown, is_said-grown, entry_at-grown, said-begun}
use Rattle.dr_model.proofs.Growth.TurnGrowth.{SameTurns, post_at-grown, turns_same, turns_stay}
use Rattle.dr_model.proofs.Saying.SayingFollows.{drawn_in}
use Rattle.dr_model.proofs.Worlds.CallKinds.{of_call}
use Rattle.dr_model.proofs.Worlds.CutSteps.{cut_off}
use Rattle.dr_model.proofs.Worlds.WorldViews.{view_lawful}

-- ---- what happens to the conversation

-- a step that leaves it
abbrev Leaves : World → Step World → Type 0
Leaves w made = made.next.conversation ≡ w.conversation

pub with_view_leaves : (w : World) (side : Side) (v : View) → (with_view w side v).conversation ≡ w.conversation
with_view_leaves w First v = refl
with_view_leaves w Second v = refl

-- a refusal does, and so does what comes where no test refuses
steps_leave : (w : World) (a b c d : Bool) (p q r s : Refusal) (made : Step World) → Leaves w made
    → Leaves w (settled w (if a then Err p else (if b then Err q else (if c then Err r else (if d then Err s else Ok made)))))
steps_leave w true b c d p q r s made h = refl
steps_leave w false true c d p q r s made h = refl
steps_leave w false false true d p q r s made h = refl
steps_leave w false false false true p q r s made h = refl
steps_leave w false false false false p q r s made h = h

leave_leaves : (w : World) (which : Which) (check : Result Unit Refusal) (next : World)
    → next.conversation ≡ w.conversation → Leaves w (settled w (leaving which check next))
leave_leaves w which (Ok stand) next h = h
leave_leaves w which (Err refusal) next h = refl

-- packets are taken
taking_leaves : (w : World) (side : Side) (p : Position) → Leaves w (settled w (taking_in w side p))
taking_leaves w side p =
    let opened = after_opening w.conversation (view_of w side) p in
    let missing = length (missing_of w.conversation opened) in
    steps_leave w (is_own side p.epoch) (has_opened (view_of w side) p) (nat_lt KEPT_LIMIT missing)
    (nat_le INBOX_LIMIT (length (inbox_in w side)))
    (OwnPacket p.epoch) (Spent p) (SkipLimit missing) InboxFull (step (Opened p) (with_view w side opened))
    (with_view_leaves w side opened)

at_leaves : (w : World) (side : Side) (p : Option Position) → Leaves w (taking_at w side p)
at_leaves w side (Some p) = taking_leaves w side p
at_leaves w side None = refl

made_leaves : (k : Mechanism) (w : World) (side : Side) (bytes : List ℕ) (p : Option Position)
    → Leaves w (settled w (taking_made k w side bytes p))
made_leaves k w side bytes (Some p) = taking_leaves w side p
made_leaves k w side bytes None = refl

given_leaves : (k : Mechanism) (w : World) (side : Side) (bytes : Option (List ℕ)) → Leaves w (taking_given k w side bytes)
given_leaves k w side (Some bytes) = made_leaves k w side bytes (made_at k w bytes)
given_leaves k w side None = refl

-- items leave a box
left_leaves : (k : Mechanism) (w : World) (side : Side) (which : Which) → Leaves w (settled w (dropping_in k w side which))
left_leaves k w side which =
    let after = after_drop w.conversation (view_of w side) which in
    leave_leaves w which (drop_check which (inbox_in w side) (outbox_in k w side)) (with_view w side after)
    (with_view_leaves w side after)

-- a text is said, or refused
here_keeps : (w : World) (side : Side) (content : Content) (P : Conversation → Type 0)
    → P (with_text w.conversation (view_of w side).epoch (body_in w.conversation (view_of w side) content))
    → P (said_here w side content).next.conversation
here_keeps w First content P here = here
here_keeps w Second content P here = here

next_keeps : (w : World) (side : Side) (seed : List ℕ) (content : Content) (none : Bool) (P : Conversation → Type 0) → P w.conversation
    → P (with_turn w.conversation seed ((view_of w side).epoch + 1) (body_in w.conversation (view_of w side) content))
    → P (if none then settled (drawn_in w) (Err NoPair) else said_next (drawn_in w) side seed content).next.conversation
next_keeps w side seed content true P still next = still
next_keeps w First seed content false P still next = next
next_keeps w Second seed content false P still next = next

saying_keeps : (k : Mechanism) (w : World) (side : Side) (content : Content) (r : Result Bool Refusal)
    (P : Conversation → Type 0) → P w.conversation
    → P (with_text w.conversation (view_of w side).epoch (body_in w.conversation (view_of w side) content))
    → ((seed : List ℕ)
    → P (with_turn w.conversation seed ((view_of w side).epoch + 1) (body_in w.conversation (view_of w side) content)))
    → P (saying_in k w side content r).next.conversation
saying_keeps k w side content (Err refusal) P still here next = still
saying_keeps k w side content (Ok false) P still here next = here_keeps w side content P here
saying_keeps k w side content (Ok true) P still here next =
    let seed = next_seed w.conversation.key w.draws in
    next_keeps w side seed content (is_none (k.meaning.pair_of seed)) P still (next seed)

-- so a property of the conversation holds after a step, if one text more keeps it
pub step_keeps : (k : Mechanism) (w : World) (h : Event) (P : Conversation → Type 0) → P w.conversation
    → ((side : Side) (body : Body) → P (with_text w.conversation (view_of w side).epoch body))
    → ((side : Side) (seed : List ℕ) (body : Body) → P (with_turn w.conversation seed ((view_of w side).epoch + 1) body))
    → P (step_of k w h).next.conversation
step_keeps k w (seeds seed) P still here next = still
step_keeps k w (does side call) P still here next =
    of_call k w side (λ made. P made.next.conversation) (record {
      content = λ content.
          let body = body_in w.conversation (view_of w side) content in
          saying_keeps k w side content (may_say k w side content) P still (here side body)
          (λ seed. next side seed body);
      packet = λ at said. subst P (sym (at_leaves w side at)) still;
      bytes = λ given. subst P (sym (given_leaves k w side given)) still;
      drop = λ which. subst P (sym (left_leaves k w side which)) still;
    }) call
step_keeps k w (shows_inbox side) P still here next = still
step_keeps k w (shows_state side) P still here next = still
step_keeps k w (shows_awaiting side) P still here next = still
step_keeps k w (cuts took h) P still here next =
    let kept = step_keeps k w h P still here next in
    cut_off (λ made. P made.next.conversation) (record w { draws = (step_of k w h).next.draws }) took (step_of k w h) kept
    still kept

-- ---- what was said

pub texts_stay : (k : Mechanism) (w : World) (h : Event) (p : Position) → is_said w.conversation p ≡ true
    → entry_at (step_of k w h).next.conversation p ≡ entry_at w.conversation p
texts_stay k w h p said =
    let c = w.conversation in
    step_keeps k w h (λ d. entry_at d p ≡ entry_at c p) refl
    (λ side body. entry_at-grown c c.seeds (view_of w side).epoch body p said)
    (λ side seed body. entry_at-grown c (c.seeds ++ seed ∷ []) ((view_of w side).epoch + 1) body p said)

-- a packet is said and stays
pub post_keeps : (k : Mechanism) (c : Conversation) (more : List (List ℕ)) (epoch : ℕ) (body : Body) (p : Position)
    → SameTurns k c.key c.seeds more
    → length c.seeds ≤ epoch + 1 → All (λ s. s.epoch ≤ length c.seeds) c.said → is_said c p ≡ true
    → (is_said (grown c more epoch body) p ≡ true) × (post_at k (grown c more epoch body) p ≡ post_at k c p)
post_keeps k c more epoch body p same late begun said = (
  is_said-grown c more epoch body p said,
  post_at-grown k c more epoch body p same late (said-begun c (length c.seeds) p begun said) said,
)

pub packets_stay : (k : Mechanism) (w : World) (h : Event) (p : Position) → IsLawfulWorld k w
    → is_said w.conversation p ≡ true
    → (is_said (step_of k w h).next.conversation p ≡ true) × (post_at k (step_of k w h).next.conversation p ≡ post_at k w.conversation p)
packets_stay k w h p lawful said =
    let c = w.conversation in
    step_keeps k w h (λ d. (is_said d p ≡ true) × (post_at k d p ≡ post_at k c p)) (said, refl)
    (λ side body. post_keeps k c c.seeds (view_of w side).epoch body p (turns_same k c.key c.seeds)
    (view_lawful k w side lawful).near_end lawful.conversation.begun said)
    (λ side seed body. post_keeps k c (c.seeds ++ seed ∷ []) ((view_of w side).epoch + 1) body p
    (turns_stay k c.key c.seeds seed)
    (let view = view_lawful k w side lawful in omega arith) lawful.conversation.begun said)
