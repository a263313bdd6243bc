-- What a side keeps while the other side says a text: the same.
use Rattle.std.proofs.Common.{◌≡◌, ℕ, ◌+◌, ◌-◌, ◌≤◌, true, false, Bool, nat_le, List, [], ◌∷◌, ◌++◌, length, drop, Option, refl, ◌∙◌, ap, ap₂, append-nil, if◌then◌else◌, arith}
use Rattle.std.specs.Prelude.{All, not}
use Rattle.std.proofs.lemmas.Bool.{cond-false}
use Rattle.std.proofs.lemmas.Bool.Decides.{nat_tests}
use Rattle.bodies.specs.Bodies.{Body}
use Rattle.boxes.specs.Entries.{Entry}
use Rattle.boxes.specs.Posts.{Post}
use Rattle.bodies.specs.declared.format.Format.{Format}
use Rattle.dr_base.specs.Position.{is_own}
use Rattle.dr_base.specs.declared.key.Kept.{Kept}
use Rattle.dr_base.specs.declared.position.Position.{Position}
use Rattle.dr_base.specs.declared.position.Side.{Side}
use Rattle.dr_base.proofs.Parity.{own_before, own_other}
use Rattle.fs_aead.specs.Chain.{chain_of}
use Rattle.kem_laws.specs.Mechanism.{Mechanism}
use Rattle.session_model.specs.Clients.{Client}
use Rattle.session_model.specs.Schedule.{session_of}
use Rattle.session_model.specs.States.{Own, Phase, in_own, in_peers, Reception, State}
use Rattle.session_model.specs.Turns.{Turn}
use Rattle.dr_model.specs.Conversations.Conversation.{Conversation, count_of, next_position, previous_of}
use Rattle.dr_model.specs.Conversations.Lawful.{HasArrived}
use Rattle.dr_model.specs.Conversations.Posts.{post_at, posts_of, turn_of_epoch}
use Rattle.dr_model.specs.Conversations.ViewStates.{client_at, view_phase, previous_in, state_of}
use Rattle.dr_model.specs.Conversations.Formats.{side_format}
use Rattle.dr_model.specs.Conversations.Standing.{is_in, standing}
use Rattle.dr_model.specs.Conversations.Views.{View, entry_at, inbox_of, outbox_of}
use Rattle.std.proofs.lemmas.List.Elements.{All-filter, All-weaker}
use Rattle.dr_model.proofs.Growth.Growing.{grown, count-grown, entry_at-grown, previous-grown}
use Rattle.dr_model.proofs.Growth.GrowingViews.{kept-grown, receiving-grown}
use Rattle.dr_model.proofs.Growth.TurnGrowth.{SameTurns, map-same, posts_of-grown}

-- a state by its parts
abbrev pub state_with : Side → Format → List ℕ → ℕ → List ℕ → Phase → ℕ → Option Reception → List Kept
    → List Position → State
state_with side format session epoch root phase previous receiving kept awaiting = record {
  side = side;
  format = format;
  session = session;
  root = root;
  epoch = epoch;
  phase = phase;
  previous = previous;
  receiving = receiving;
  kept = kept;
  awaiting = awaiting;
}

-- with the same parts it is the same
pub same_state : (side : Side) (format : Format) (session : List ℕ) (epoch : ℕ) (root other_root : List ℕ) (phase other_phase : Phase)
    (previous other_previous : ℕ)
    (receiving other_receiving : Option Reception) (kept other_kept : List Kept) (awaiting : List Position)
    → root ≡ other_root → phase ≡ other_phase → previous ≡ other_previous → receiving ≡ other_receiving → kept ≡ other_kept
    → state_with side format session epoch root phase previous receiving kept awaiting
    ≡ state_with side format session epoch other_root other_phase other_previous other_receiving other_kept awaiting
same_state side format session epoch root other_root phase other_phase previous other_previous receiving other_receiving kept other_kept awaiting r p n o ks =
    ap₂ (λ a b. state_with side format session epoch a b previous receiving kept awaiting) r p
    ∙ ap₂ (λ a b. state_with side format session epoch other_root other_phase a b kept awaiting) n o
    ∙ ap (λ ks. state_with side format session epoch other_root other_phase other_previous other_receiving ks awaiting) ks

-- an own epoch's keys, of which this many were given
abbrev pub own_with : Turn → ℕ → Own
own_with turn sent =
    record { secret = turn.secret; agreement = turn.agreement; chain = chain_of turn.stream sent; sent = sent }

-- a phase by its parts
abbrev pub phase_with : Bool → Turn → ℕ → Phase
phase_with own turn sent = if own then in_own (own_with turn sent) else in_peers turn.public

same_phase : (own : Bool) (turn other : Turn) (m n : ℕ) → turn ≡ other → (own ≡ true → m ≡ n)
    → phase_with own turn m ≡ phase_with own other n
same_phase true turn other m n t same = ap₂ (λ a b. in_own (own_with a b)) t (same refl)
same_phase false turn other m n t same = ap (λ (a : Turn). in_peers a.public) t

-- where the text isn't the side's, what it holds of its epoch stays
pub phase-grown : (k : Mechanism) (c : Conversation) (seeds : List (List ℕ)) (epoch : ℕ) (body : Body) (v : View)
    → SameTurns k c.key c.seeds seeds
    → v.epoch ≤ length c.seeds → is_own v.side epoch ≡ false → view_phase k (grown c seeds epoch body) v ≡ view_phase k c v
phase-grown k c seeds epoch body v same within peers =
    let d = grown c seeds epoch body in
    same_phase (is_own v.side v.epoch) (turn_of_epoch k d v.epoch) (turn_of_epoch k c v.epoch) (count_of d v.epoch)
    (count_of c v.epoch) (same v.epoch within)
    (λ own. count-grown c seeds epoch body v.epoch (own_other v.side v.epoch epoch own peers))

-- how many texts it said before
previous_by : (own later : Bool) (a b m n : ℕ) → a ≡ b → (own ≡ false → later ≡ true → m ≡ n)
    → (if own then a else (if later then m else 0)) ≡ (if own then b else (if later then n else 0))
previous_by true later a b m n first second = first
previous_by false true a b m n first second = second refl refl
previous_by false false a b m n first second = refl

one_least : (n : ℕ) → nat_le 1 n ≡ true → 1 ≤ n
one_least n h = grind (arith, nat_tests)

pub previous_in-grown : (c : Conversation) (seeds : List (List ℕ)) (epoch : ℕ) (body : Body) (v : View)
    → v.epoch ≤ epoch + 1
    → is_own v.side epoch ≡ false → previous_in (grown c seeds epoch body) v ≡ previous_in c v
previous_in-grown c seeds epoch body v near peers =
    let d = grown c seeds epoch body in
    previous_by (is_own v.side v.epoch) (nat_le 1 v.epoch) (previous_of d v.epoch) (previous_of c v.epoch)
    (count_of d (v.epoch - 1)) (count_of c (v.epoch - 1))
    (previous-grown c seeds epoch body v.epoch near)
    (λ not_own later. count-grown c seeds epoch body (v.epoch - 1)
    (own_other v.side (v.epoch - 1) epoch (own_before v.side v.epoch (one_least v.epoch later) not_own) peers))

-- its whole state
pub state-grown : (k : Mechanism) (c : Conversation) (seeds : List (List ℕ)) (epoch : ℕ) (body : Body) (v : View)
    → SameTurns k c.key c.seeds seeds
    → v.epoch ≤ epoch + 1 → v.epoch ≤ length c.seeds → is_own v.side epoch ≡ false
    → state_of k (grown c seeds epoch body) v ≡ state_of k c v
state-grown k c seeds epoch body v same near within peers =
    same_state v.side (side_format c.formats v.side) (session_of c.key) v.epoch _ _ _ _ _ _ _ _ _ _ v.awaiting
    (ap (λ (turn : Turn). turn.root) (same v.epoch within))
    (phase-grown k c seeds epoch body v same within peers)
    (previous_in-grown c seeds epoch body v near peers)
    (receiving-grown k c seeds epoch body v same near within)
    (kept-grown k c seeds epoch body v same near within)

-- ---- its boxes

-- the texts in its inbox
pub inbox-grown : (c : Conversation) (seeds : List (List ℕ)) (epoch : ℕ) (body : Body) (v : View)
    → All (HasArrived c v) v.arrived
    → inbox_of (grown c seeds epoch body) v ≡ inbox_of c v
inbox-grown c seeds epoch body v arrivals =
    map-same (entry_at (grown c seeds epoch body)) (entry_at c) (standing v.arrived v.done)
    (All-weaker (HasArrived c v) (λ p. entry_at (grown c seeds epoch body) p ≡ entry_at c p)
    (λ p has. entry_at-grown c seeds epoch body p has.said) (standing v.arrived v.done)
    (All-filter (λ p. not (is_in v.done p)) (HasArrived c v) v.arrived arrivals))

-- the packets of the other side are none of its own
pub posts_of-peer : (k : Mechanism) (c : Conversation) (seeds : List (List ℕ)) (epoch : ℕ) (body : Body) (side : Side)
    → SameTurns k c.key c.seeds seeds
    → length c.seeds ≤ epoch + 1 → All (λ s. s.epoch ≤ length c.seeds) c.said → is_own side epoch ≡ false
    → posts_of k (grown c seeds epoch body) side ≡ posts_of k c side
posts_of-peer k c seeds epoch body side same late begun peers =
    posts_of-grown k c seeds epoch body side same late begun
    ∙ ap (λ ps. posts_of k c side ++ ps)
    (cond-false (is_own side epoch) (post_at k (grown c seeds epoch body) (next_position c.said epoch) ∷ []) [] peers)
    ∙ append-nil (posts_of k c side)

-- all that its client keeps
pub client-grown : (k : Mechanism) (c : Conversation) (seeds : List (List ℕ)) (epoch : ℕ) (body : Body) (v : View)
    → SameTurns k c.key c.seeds seeds
    → v.epoch ≤ epoch + 1 → v.epoch ≤ length c.seeds → length c.seeds ≤ epoch + 1 → is_own v.side epoch ≡ false
    → All (λ s. s.epoch ≤ length c.seeds) c.said → All (HasArrived c v) v.arrived
    → client_at k (grown c seeds epoch body) v ≡ client_at k c v
client-grown k c seeds epoch body v same near within late peers begun arrivals =
    let make : State → List Entry → List Post → Client = λ state inbox outbox. record (client_at k c v) { state = state; inbox = inbox; outbox = outbox } in
    ap₂ (λ state inbox. make state inbox (outbox_of k (grown c seeds epoch body) v))
    (state-grown k c seeds epoch body v same near within peers) (inbox-grown c seeds epoch body v arrivals)
    ∙ ap (λ posts. make (state_of k c v) (inbox_of c v) (drop v.dropped posts))
    (posts_of-peer k c seeds epoch body v.side same late begun peers)
