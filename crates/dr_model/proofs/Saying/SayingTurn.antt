-- A side says a text in a peer's epoch: its next epoch begins.
use Rattle.std.proofs.Common.{◌≡◌, ℕ, ◌+◌, ◌≤◌, true, false, List, [], ◌∷◌, ◌++◌, length, Option, Some, None, Ok, Err, sym, ◌∙◌, ap, ap₂, add-one, arith}
use Rattle.std.specs.Prelude.{All, is_some, option_map, slice_index_or}
use Rattle.std.proofs.Math.Seq.{get_or-append_seam}
use Rattle.bodies.specs.Bodies.{Body}
use Rattle.bodies.specs.Formats.{version_of}
use Rattle.boxes.specs.Posts.{Post}
use Rattle.dr_base.specs.Position.{is_own, side_of}
use Rattle.dr_base.specs.declared.position.Side.{Side}
use Rattle.dr_base.specs.declared.position.Position.{Position}
use Rattle.dr_base.proofs.Parity.{own_after}
use Rattle.fs_aead.specs.Chain.{next_chain, chain_message_key, message_key}
use Rattle.fs_aead.proofs.Streams.{chain_of-zero, chain_of-suc, message_key-suc}
use Rattle.kem_laws.specs.Mechanism.{Mechanism}
use Rattle.session_model.specs.Contents.{Content}
use Rattle.session_model.specs.Clients.{accept_send, say_on}
use Rattle.session_model.specs.Saying.{SendDraft, draft_turn, draft_phase, draft_send}
use Rattle.session_model.specs.Schedule.{session_of}
use Rattle.session_model.specs.Sealing.{posted}
use Rattle.session_model.specs.States.{State, in_own}
use Rattle.session_model.specs.Turns.{Turn, next_turn, turn_at, pair_at}
use Rattle.session_model.specs.declared.answer.Refusal.TheVariants.{NoPair}
use Rattle.dr_model.specs.Conversations.Conversation.{Conversation, count_of, next_position, previous_of, body_at, with_turn}
use Rattle.dr_model.specs.Conversations.Lawful.{HasArrived}
use Rattle.dr_model.specs.Conversations.Formats.{side_format}
use Rattle.dr_model.specs.Conversations.Posts.{post_at, posts_of, turn_of_epoch}
use Rattle.dr_model.specs.Conversations.ViewStates.{client_at, previous_in, state_of}
use Rattle.dr_model.specs.Conversations.Receipts.{body_in}
use Rattle.dr_model.specs.Conversations.Views.{View, after_turn}
use Rattle.dr_model.proofs.Growth.Growing.{grown, body_at-new}
use Rattle.dr_model.proofs.Growth.GrowingStates.{inbox-grown, own_with, same_state}
use Rattle.dr_model.proofs.Growth.Texts.{count-here, bodies_of-beyond}
use Rattle.dr_model.proofs.Growth.TurnGrowth.{turns_stay}
use Rattle.dr_model.proofs.Growth.TurnedViews.{kept-turned, receiving-turned, previous-turned}
use Rattle.dr_model.proofs.Saying.OwnSide.{own_side}
use Rattle.dr_model.proofs.Saying.SaidBodies.{same_body}
use Rattle.dr_model.proofs.Saying.SayingText.{phase_own, phase_peers, previous_own, previous_peers, outbox_own, accepted}
use Rattle.dr_model.proofs.Worlds.TurnSizes.{some_pair}

-- the conversation with the turn
abbrev turned_talk : Conversation → View → List ℕ → Body → Conversation
turned_talk c v seed body = with_turn c seed (v.epoch + 1) body

-- ---- the new epoch

-- its keys
pub turn_new : (k : Mechanism) (key : List ℕ) (seeds : List (List ℕ)) (seed : List ℕ) (n : ℕ) → n ≡ length seeds
    → turn_at k key (seeds ++ seed ∷ []) (n + 1) ≡ next_turn k (turn_at k key seeds n) seed
unfolding turn_at
turn_new k key seeds seed n last =
    ap (turn_at k key (seeds ++ seed ∷ [])) (add-one n)
    ∙ ap₂ (next_turn k) (turns_stay k key seeds seed n (omega arith))
    (ap (λ i. slice_index_or (seeds ++ seed ∷ []) i []) last ∙ get_or-append_seam seeds seed [] [])

-- it had no text
pub none_yet : (c : Conversation) (n : ℕ) → All (λ s. s.epoch ≤ length c.seeds) c.said → n ≡ length c.seeds
    → count_of c (n + 1) ≡ 0
none_yet c n begun last = ap length (bodies_of-beyond c.said (length c.seeds) (n + 1) begun (omega arith))

-- and so this is its first
pub first_place : (c : Conversation) (n : ℕ) → All (λ s. s.epoch ≤ length c.seeds) c.said → n ≡ length c.seeds
    → next_position c.said (n + 1) ≡ record { epoch = n + 1; index = 1 }
first_place c n begun last = ap (λ count. record { epoch = n + 1; index = count + 1 }) (none_yet c n begun last)

pub first_count : (c : Conversation) (seeds : List (List ℕ)) (n : ℕ) (body : Body)
    → All (λ s. s.epoch ≤ length c.seeds) c.said → n ≡ length c.seeds
    → count_of (grown c seeds (n + 1) body) (n + 1) ≡ 1
first_count c seeds n body begun last = count-here c.said (n + 1) body ∙ ap (λ count. count + 1) (none_yet c n begun last)

-- ---- what the side keeps then

-- the draft of a seed that has a pair
abbrev turn_draft : Mechanism → Conversation → View → Body → List ℕ → SendDraft
turn_draft k c v body seed =
    let turn = turn_of_epoch k c v.epoch in
    draft_turn (state_of k c v) body (
      (pair_at k seed).1,
      (k.meaning.encap_of turn.public seed).0 ++ (pair_at k seed).0,
      (k.meaning.encap_of turn.public seed).1,
    )

-- one key of the new stream was given
own_first : (turn other : Turn) (n : ℕ) → turn ≡ other → n ≡ 1
    → own_with turn n
    ≡ record { secret = other.secret; agreement = other.agreement; chain = next_chain other.stream; sent = 1 }
own_first turn other n same one =
    ap₂ own_with same one
    ∙ ap (λ (chain : List ℕ). record { secret = other.secret; agreement = other.agreement; chain = chain; sent = 1 })
    (chain_of-suc other.stream 0 ∙ ap next_chain (chain_of-zero other.stream))

state_turn : (k : Mechanism) (c : Conversation) (v : View) (body : Body) (seed : List ℕ) → is_own v.side v.epoch ≡ false
    → v.epoch ≡ length c.seeds
    → All (λ s. s.epoch ≤ length c.seeds) c.said
    → (turn_draft k c v body seed).next ≡ state_of k (turned_talk c v seed body) (after_turn v)
state_turn k c v body seed peers last begun =
    let d = turned_talk c v seed body in
    let same = turns_stay k c.key c.seeds seed in
    let new = turn_new k c.key c.seeds seed v.epoch last in
    let own = own_after v.side v.epoch peers in
    sym (same_state v.side (side_format c.formats v.side) (session_of c.key) (v.epoch + 1) _ _ _ _ _ _ _ _ _ _
    (after_turn v).awaiting
    (ap (λ (turn : Turn). turn.root) new)
    (phase_own k d (after_turn v) own
    ∙ ap in_own (own_first (turn_of_epoch k d (v.epoch + 1)) (next_turn k (turn_of_epoch k c v.epoch) seed)
    (count_of d (v.epoch + 1)) new
    (first_count c (c.seeds ++ seed ∷ []) v.epoch body begun last)))
    (previous_own d (after_turn v) own ∙ previous-turned c (c.seeds ++ seed ∷ []) body v ∙ sym (previous_peers c v peers))
    (receiving-turned k c (c.seeds ++ seed ∷ []) body v same peers (omega arith))
    (kept-turned k c (c.seeds ++ seed ∷ []) body v same peers (omega arith)))

-- ---- its packet

post_turn : (k : Mechanism) (c : Conversation) (v : View) (body : Body) (seed : List ℕ) → is_own v.side v.epoch ≡ false
    → v.epoch ≡ length c.seeds
    → All (λ s. s.epoch ≤ length c.seeds) c.said
    → (turn_draft k c v body seed).post ≡ post_at k (turned_talk c v seed body) (next_position c.said (v.epoch + 1))
post_turn k c v body seed peers last begun =
    let d = turned_talk c v seed body in
    let turn = next_turn k (turn_of_epoch k c v.epoch) seed in
    let first : Position = record { epoch = v.epoch + 1; index = 1 } in
    let place = first_place c v.epoch begun last in
    let make : Side → ℕ → List ℕ → List ℕ → Body → Post = λ side previous agreement key said. posted (version_of (side_format c.formats side))
    (session_of c.key) first previous agreement key said in
    ap (λ side. make side (previous_in c v) turn.agreement (chain_message_key turn.stream) body)
    (sym (own_side v.side (v.epoch + 1) (own_after v.side v.epoch peers)))
    ∙ ap₂ (λ previous key. make (side_of (v.epoch + 1)) previous turn.agreement key body)
    (previous_peers c v peers ∙ sym (previous-turned c (c.seeds ++ seed ∷ []) body v))
    (ap chain_message_key (sym (chain_of-zero turn.stream)) ∙ sym (message_key-suc turn.stream 0))
    ∙ ap₂ (λ (t : Turn) said. make (side_of (v.epoch + 1)) (previous_of d (v.epoch + 1)) t.agreement (message_key t.stream 1) said)
    (sym (turn_new k c.key c.seeds seed v.epoch last))
    (sym (body_at-new c (c.seeds ++ seed ∷ []) (v.epoch + 1) body) ∙ ap (body_at d) place)
    ∙ ap (post_at k d) (sym place)

-- ---- what its session drafts, and its client answers

-- the draft, by the pair of the seed
draft_by : (k : Mechanism) (c : Conversation) (v : View) (content : Content) (seed : List ℕ) (pair : Option (List ℕ × List ℕ))
    → k.meaning.pair_of seed ≡ pair → is_own v.side v.epoch ≡ false
    → draft_send k (state_of k c v) content seed
    ≡ (let sealed = k.meaning.encap_of (turn_of_epoch k c v.epoch).public seed in
    option_map (draft_turn (state_of k c v) (body_in c v content))
    (option_map (λ pair. (pair.1, sealed.0 ++ pair.0, sealed.1)) pair))
unfolding draft_send
draft_by k c v content seed pair is peers =
    let sealed = k.meaning.encap_of (turn_of_epoch k c v.epoch).public seed in
    ap₂ (λ (said : Body) phase. draft_phase k (state_of k c v) said seed phase) (same_body k c v content) (phase_peers k c v peers)
    ∙ ap (λ pair. option_map (draft_turn (state_of k c v) (body_in c v content))
    (option_map (λ pair. (pair.1, sealed.0 ++ pair.0, sealed.1)) pair)) is

pub draft_send-turn : (k : Mechanism) (c : Conversation) (v : View) (content : Content) (seed : List ℕ)
    → is_some (k.meaning.pair_of seed) ≡ true → is_own v.side v.epoch ≡ false
    → v.epoch ≡ length c.seeds → All (λ s. s.epoch ≤ length c.seeds) c.said
    → draft_send k (state_of k c v) content seed
    ≡ Some (record {
      post = post_at k (with_turn c seed (v.epoch + 1) (body_in c v content)) (next_position c.said (v.epoch + 1));
      next = state_of k (with_turn c seed (v.epoch + 1) (body_in c v content)) (after_turn v);
    })
draft_send-turn k c v content seed pairs peers last begun =
    draft_by k c v content seed (Some (pair_at k seed)) (some_pair (k.meaning.pair_of seed) pairs) peers
    ∙ ap₂ (λ (post : Post) (next : State). Some (record { post = post; next = next }))
    (post_turn k c v (body_in c v content) seed peers last begun) (state_turn k c v (body_in c v content) seed peers last begun)

pub draft_send-none : (k : Mechanism) (c : Conversation) (v : View) (content : Content) (seed : List ℕ) → k.meaning.pair_of seed ≡ None
    → is_own v.side v.epoch ≡ false
    → draft_send k (state_of k c v) content seed ≡ None
draft_send-none k c v content seed none peers = draft_by k c v content seed None none peers

pub say_on-turn : (k : Mechanism) (c : Conversation) (v : View) (content : Content) (seed : List ℕ)
    → is_some (k.meaning.pair_of seed) ≡ true → is_own v.side v.epoch ≡ false
    → v.epoch ≡ length c.seeds → All (λ s. s.epoch ≤ length c.seeds) c.said → All (HasArrived c v) v.arrived
    → v.dropped ≤ length (posts_of k c v.side)
    → say_on k (client_at k c v) content seed
    ≡ Ok (record {
      post = post_at k (with_turn c seed (v.epoch + 1) (body_in c v content)) (next_position c.said (v.epoch + 1));
      next = client_at k (with_turn c seed (v.epoch + 1) (body_in c v content)) (after_turn v);
    })
say_on-turn k c v content seed pairs peers last begun arrivals fits =
    let more = c.seeds ++ seed ∷ [] in
    let body = body_in c v content in
    ap (accept_send (client_at k c v)) (draft_send-turn k c v content seed pairs peers last begun)
    ∙ accepted (client_at k c v) _ _ _ _
    (sym (inbox-grown c more (v.epoch + 1) body v arrivals))
    (outbox_own k c more (v.epoch + 1) body v (turns_stay k c.key c.seeds seed) (omega arith) begun
    (own_after v.side v.epoch peers) fits)

pub say_on-none : (k : Mechanism) (c : Conversation) (v : View) (content : Content) (seed : List ℕ) → k.meaning.pair_of seed ≡ None
    → is_own v.side v.epoch ≡ false
    → say_on k (client_at k c v) content seed ≡ Err NoPair
say_on-none k c v content seed none peers = ap (accept_send (client_at k c v)) (draft_send-none k c v content seed none peers)
