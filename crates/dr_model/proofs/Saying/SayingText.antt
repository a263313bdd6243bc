-- A side says a text in an epoch of its own.
use Rattle.std.proofs.Common.{◌≡◌, ℕ, ◌+◌, ◌-◌, ◌≤◌, true, false, nat_le, List, [], ◌∷◌, ◌++◌, length, drop, Some, Ok, refl, sym, ◌∙◌, ap, ap₂, if◌then◌else◌, arith}
use Rattle.std.specs.Prelude.{All}
use Rattle.std.proofs.lemmas.Bool.{cond-true, cond-false}
use Rattle.std.proofs.lemmas.List.{drop-append-le}
use Rattle.bodies.specs.Bodies.{Body}
use Rattle.bodies.specs.Formats.{version_of}
use Rattle.boxes.specs.Entries.{Entry}
use Rattle.boxes.specs.Posts.{Post}
use Rattle.dr_base.specs.Position.{is_own, side_of}
use Rattle.dr_base.specs.declared.position.Side.{Side}
use Rattle.fs_aead.specs.Chain.{chain_message_key, chain_of, next_chain, message_key}
use Rattle.fs_aead.proofs.Streams.{chain_of-suc, message_key-suc}
use Rattle.kem_laws.specs.Mechanism.{Mechanism}
use Rattle.session_model.specs.Contents.{Content}
use Rattle.session_model.specs.Clients.{Client, accept_send, say_on}
use Rattle.session_model.specs.Saying.{draft_own, draft_phase, draft_send}
use Rattle.session_model.specs.Schedule.{session_of}
use Rattle.session_model.specs.Sealing.{posted}
use Rattle.session_model.specs.States.{in_own, in_peers, State}
use Rattle.session_model.specs.Turns.{Turn}
use Rattle.dr_model.specs.Conversations.Conversation.{Conversation, count_of, next_position, previous_of, with_text}
use Rattle.dr_model.specs.Conversations.Lawful.{HasArrived}
use Rattle.dr_model.specs.Conversations.Formats.{side_format}
use Rattle.dr_model.specs.Conversations.Posts.{post_at, posts_of, turn_of_epoch}
use Rattle.dr_model.specs.Conversations.ViewStates.{client_at, view_own, view_phase, previous_in, state_of}
use Rattle.dr_model.specs.Conversations.Receipts.{body_in}
use Rattle.dr_model.specs.Conversations.Views.{View, after_text, outbox_of}
use Rattle.dr_model.proofs.Growth.Growing.{grown, previous-grown, body_at-new}
use Rattle.dr_model.proofs.Growth.GrowingStates.{inbox-grown, own_with, same_state}
use Rattle.dr_model.proofs.Growth.GrowingViews.{kept-grown, receiving-grown}
use Rattle.dr_model.proofs.Growth.SameViews.{kept-waiting}
use Rattle.dr_model.proofs.Growth.Texts.{count-here}
use Rattle.dr_model.proofs.Growth.TurnGrowth.{SameTurns, posts_of-grown, turns_same}
use Rattle.dr_model.proofs.Saying.OwnSide.{own_side}
use Rattle.dr_model.proofs.Saying.SaidBodies.{same_body}

-- what a side holds of an own epoch, and of a peer's
pub phase_own : (k : Mechanism) (c : Conversation) (v : View) → is_own v.side v.epoch ≡ true
    → view_phase k c v ≡ in_own (view_own k c v)
phase_own k c v own =
    cond-true (is_own v.side v.epoch) (in_own (view_own k c v)) (in_peers (turn_of_epoch k c v.epoch).public) own

pub phase_peers : (k : Mechanism) (c : Conversation) (v : View) → is_own v.side v.epoch ≡ false
    → view_phase k c v ≡ in_peers (turn_of_epoch k c v.epoch).public
phase_peers k c v peers =
    cond-false (is_own v.side v.epoch) (in_own (view_own k c v)) (in_peers (turn_of_epoch k c v.epoch).public) peers

-- how many texts its last own epoch had, in an own epoch and in a peer's
pub previous_own : (c : Conversation) (v : View) → is_own v.side v.epoch ≡ true → previous_in c v ≡ previous_of c v.epoch
previous_own c v own =
    cond-true (is_own v.side v.epoch) (previous_of c v.epoch) (if nat_le 1 v.epoch then count_of c (v.epoch - 1) else 0) own

pub previous_peers : (c : Conversation) (v : View) → is_own v.side v.epoch ≡ false
    → previous_in c v ≡ (if nat_le 1 v.epoch then count_of c (v.epoch - 1) else 0)
previous_peers c v peers =
    cond-false (is_own v.side v.epoch) (previous_of c v.epoch)
    (if nat_le 1 v.epoch then count_of c (v.epoch - 1) else 0) peers

-- ---- what it keeps then

-- one key more was given
own_next : (turn : Turn) (n m : ℕ) → m ≡ n + 1
    → own_with turn m
    ≡ record { secret = turn.secret; agreement = turn.agreement; chain = next_chain (chain_of turn.stream n); sent = n + 1 }
own_next turn n m more =
    ap (own_with turn) more
    ∙ ap (λ (chain : List ℕ). record { secret = turn.secret; agreement = turn.agreement; chain = chain; sent = n + 1 })
    (chain_of-suc turn.stream n)

-- the view once it has said the next one
abbrev pub said_view : Conversation → View → View
said_view c v = after_text v (next_position c.said v.epoch)

state_own : (k : Mechanism) (c : Conversation) (v : View) (body : Body) → is_own v.side v.epoch ≡ true
    → v.epoch ≤ length c.seeds
    → (draft_own (state_of k c v) (view_own k c v) body).next ≡ state_of k (with_text c v.epoch body) (said_view c v)
state_own k c v body own within =
    let d = with_text c v.epoch body in
    let same = turns_same k c.key c.seeds in
    sym (same_state v.side (side_format c.formats v.side) (session_of c.key) v.epoch _ _ _ _ _ _ _ _ _ _
    (said_view c v).awaiting
    refl
    (phase_own k d v own ∙ ap in_own
    (own_next (turn_of_epoch k c v.epoch) (count_of c v.epoch) (count_of d v.epoch) (count-here c.said v.epoch body)))
    (previous_own d v own ∙ previous-grown c c.seeds v.epoch body v.epoch (omega arith) ∙ sym (previous_own c v own))
    (receiving-grown k c c.seeds v.epoch body v same (omega arith) within)
    (kept-waiting k d v (said_view c v).awaiting ∙ kept-grown k c c.seeds v.epoch body v same (omega arith) within))

-- ---- its packet

post_own : (k : Mechanism) (c : Conversation) (v : View) (body : Body) → is_own v.side v.epoch ≡ true
    → (draft_own (state_of k c v) (view_own k c v) body).post ≡ post_at k (with_text c v.epoch body)
    (next_position c.said v.epoch)
post_own k c v body own =
    let d = with_text c v.epoch body in
    let turn = turn_of_epoch k c v.epoch in
    let make : Side → ℕ → List ℕ → Body → Post = λ side previous key said. posted (version_of (side_format c.formats side)) (session_of c.key)
    (next_position c.said v.epoch) previous turn.agreement key said in
    ap (λ side. make side (previous_in c v) (chain_message_key (view_own k c v).chain) body) (sym (own_side v.side v.epoch own))
    ∙ ap₂ (λ previous key. make (side_of v.epoch) previous key body)
    (previous_own c v own ∙ sym (previous-grown c c.seeds v.epoch body v.epoch (omega arith)))
    (sym (message_key-suc turn.stream (count_of c v.epoch)))
    ∙ ap (make (side_of v.epoch) (previous_of d v.epoch) (message_key turn.stream (count_of c v.epoch + 1)))
    (sym (body_at-new c c.seeds v.epoch body))

-- it stands in the outbox
pub outbox_own : (k : Mechanism) (c : Conversation) (seeds : List (List ℕ)) (epoch : ℕ) (body : Body) (v : View)
    → SameTurns k c.key c.seeds seeds
    → length c.seeds ≤ epoch + 1 → All (λ s. s.epoch ≤ length c.seeds) c.said → is_own v.side epoch ≡ true
    → v.dropped ≤ length (posts_of k c v.side)
    → outbox_of k (grown c seeds epoch body) v ≡ outbox_of k c v ++ post_at k (grown c seeds epoch body)
    (next_position c.said epoch) ∷ []
outbox_own k c seeds epoch body v same late begun own fits =
    let d = grown c seeds epoch body in
    let post = post_at k d (next_position c.said epoch) in
    ap (drop v.dropped)
    (posts_of-grown k c seeds epoch body v.side same late begun
    ∙ ap (λ ps. posts_of k c v.side ++ ps) (cond-true (is_own v.side epoch) (post ∷ []) [] own))
    ∙ drop-append-le v.dropped (posts_of k c v.side) (post ∷ []) fits

-- ---- what its session drafts, and its client answers

pub draft_send-own : (k : Mechanism) (c : Conversation) (v : View) (content : Content) (seed : List ℕ) → is_own v.side v.epoch ≡ true
    → v.epoch ≤ length c.seeds
    → draft_send k (state_of k c v) content seed
    ≡ Some (record {
      post = post_at k (with_text c v.epoch (body_in c v content)) (next_position c.said v.epoch);
      next = state_of k (with_text c v.epoch (body_in c v content)) (said_view c v);
    })
unfolding draft_send
draft_send-own k c v content seed own within =
    let body = body_in c v content in
    ap₂ (λ (said : Body) phase. draft_phase k (state_of k c v) said seed phase) (same_body k c v content) (phase_own k c v own)
    ∙ ap₂ (λ (post : Post) (next : State). Some (record { post = post; next = next })) (post_own k c v body own)
    (state_own k c v body own within)

-- a draft that is accepted
pub accepted : (client : Client) (post : Post) (state : State) (inbox : List Entry) (outbox : List Post) → client.inbox ≡ inbox
    → outbox ≡ client.outbox ++ post ∷ []
    → accept_send client (Some (record { post = post; next = state }))
    ≡ Ok (record { post = post; next = record client { state = state; inbox = inbox; outbox = outbox } })
accepted client post state inbox outbox i o =
    ap₂ (λ a b. Ok (record { post = post; next = record client { state = state; inbox = a; outbox = b } })) i (sym o)

pub say_on-own : (k : Mechanism) (c : Conversation) (v : View) (content : Content) → is_own v.side v.epoch ≡ true
    → v.epoch ≤ length c.seeds
    → length c.seeds ≤ v.epoch + 1 → All (λ s. s.epoch ≤ length c.seeds) c.said → All (HasArrived c v) v.arrived
    → v.dropped ≤ length (posts_of k c v.side)
    → say_on k (client_at k c v) content []
    ≡ Ok (record {
      post = post_at k (with_text c v.epoch (body_in c v content)) (next_position c.said v.epoch);
      next = client_at k (with_text c v.epoch (body_in c v content)) (said_view c v);
    })
say_on-own k c v content own within late begun arrivals fits =
    let body = body_in c v content in
    ap (accept_send (client_at k c v)) (draft_send-own k c v content [] own within)
    ∙ accepted (client_at k c v) _ _ _ _
    (sym (inbox-grown c c.seeds v.epoch body v arrivals))
    (outbox_own k c c.seeds v.epoch body v (turns_same k c.key c.seeds) late begun own fits)
