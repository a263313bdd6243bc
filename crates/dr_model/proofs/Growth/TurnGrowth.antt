-- The packets of a conversation that grows: those of what was said stay, and one more comes.
use Rattle.std.proofs.Common.{◌≡◌, ℕ, zero, suc, ◌+◌, ◌≤◌, true, false, Bool, List, [], ◌∷◌, ◌++◌, length, filter, map, refl, ◌∙◌, ap, ap₂, if◌then◌else◌, arith}
use Rattle.std.specs.Prelude.{All}
use Rattle.std.proofs.lemmas.List.{get_or_append_left, map-append}
use Rattle.std.proofs.lemmas.List.Elements.{All-filter, All-head, All-tail, All-weaker}
use Rattle.bodies.specs.Bodies.{Body}
use Rattle.boxes.specs.Posts.{Post}
use Rattle.dr_base.specs.Position.{is_own}
use Rattle.dr_base.specs.declared.position.Position.{Position}
use Rattle.dr_base.specs.declared.position.Side.{Side}
use Rattle.fs_aead.specs.Chain.{message_key}
use Rattle.kem_laws.specs.Mechanism.{Mechanism}
use Rattle.session_model.specs.Schedule.{session_of}
use Rattle.session_model.specs.Sealing.{posted}
use Rattle.session_model.specs.Turns.{Turn, next_turn, turn_at}
use Rattle.dr_model.specs.Conversations.Conversation.{Conversation, is_said, next_position, positions, previous_of, body_at}
use Rattle.dr_model.specs.Conversations.Posts.{turn_of_epoch, key_of, post_at, posts, posts_of, epoch_version}
use Rattle.dr_model.proofs.Growth.Growing.{grown, body_at-grown, previous-grown, positions-grown, positions-said, own_positions-grown, said-begun}

-- the epochs of these seeds have the same keys under other ones
abbrev pub SameTurns : Mechanism → List ℕ → List (List ℕ) → List (List ℕ) → Type 0
SameTurns k key seeds more = (t : ℕ) → t ≤ length seeds → turn_at k key more t ≡ turn_at k key seeds t

-- with no seed more
pub turns_same : (k : Mechanism) (key : List ℕ) (seeds : List (List ℕ)) → SameTurns k key seeds seeds
turns_same k key seeds t h = refl

-- and with one seed more
pub turns_stay : (k : Mechanism) (key : List ℕ) (seeds : List (List ℕ)) (seed : List ℕ)
    → SameTurns k key seeds (seeds ++ seed ∷ [])
unfolding turn_at
turns_stay k key seeds seed zero h = refl
turns_stay k key seeds seed (suc t) h =
    ap₂ (next_turn k) (turns_stay k key seeds seed t (omega arith)) (get_or_append_left seeds (seed ∷ []) [] t (omega arith))

-- the key of a position
pub key_of-grown : (k : Mechanism) (c : Conversation) (seeds : List (List ℕ)) (epoch : ℕ) (body : Body) (p : Position)
    → SameTurns k c.key c.seeds seeds
    → p.epoch ≤ length c.seeds → key_of k (grown c seeds epoch body) p ≡ key_of k c p
key_of-grown k c seeds epoch body p same within =
    ap (λ (turn : Turn). record { position = p; key = record { bytes = message_key turn.stream p.index } })
    (same p.epoch within)

-- the packet of what was said
pub post_at-grown : (k : Mechanism) (c : Conversation) (seeds : List (List ℕ)) (epoch : ℕ) (body : Body) (p : Position)
    → SameTurns k c.key c.seeds seeds
    → length c.seeds ≤ epoch + 1 → p.epoch ≤ length c.seeds → is_said c p ≡ true
    → post_at k (grown c seeds epoch body) p ≡ post_at k c p
post_at-grown k c seeds epoch body p same late within said =
    let make : ℕ → Turn → Body → Post = λ previous turn said. posted (epoch_version c p.epoch) (session_of c.key) p previous turn.agreement
    (message_key turn.stream p.index) said in
    ap₂ (λ previous turn. make previous turn (body_at (grown c seeds epoch body) p))
    (previous-grown c seeds epoch body p.epoch (omega arith)) (same p.epoch within)
    ∙ ap (make (previous_of c p.epoch) (turn_of_epoch k c p.epoch)) (body_at-grown c seeds epoch body p said)

-- two functions that agree on each element
pub map-same : {X Y : Type 0} (f g : X → Y) (xs : List X) → All (λ x. f x ≡ g x) xs → map f xs ≡ map g xs
map-same f g [] same = refl
map-same f g (x ∷ xs) same =
    ap₂ (λ y ys. y ∷ ys) (All-head (λ x. f x ≡ g x) x xs same) (map-same f g xs (All-tail (λ x. f x ≡ g x) x xs same))

-- the packets of these positions
posts_stay : (k : Mechanism) (c : Conversation) (seeds : List (List ℕ)) (epoch : ℕ) (body : Body)
    → SameTurns k c.key c.seeds seeds
    → length c.seeds ≤ epoch + 1 → All (λ s. s.epoch ≤ length c.seeds) c.said
    → All (λ p. post_at k (grown c seeds epoch body) p ≡ post_at k c p) (positions c)
posts_stay k c seeds epoch body same late begun =
    All-weaker (λ p. is_said c p ≡ true) (λ p. post_at k (grown c seeds epoch body) p ≡ post_at k c p)
    (λ p said. post_at-grown k c seeds epoch body p same late (said-begun c (length c.seeds) p begun said) said)
    (positions c) (positions-said c)

-- one packet more
pub posts-grown : (k : Mechanism) (c : Conversation) (seeds : List (List ℕ)) (epoch : ℕ) (body : Body)
    → SameTurns k c.key c.seeds seeds
    → length c.seeds ≤ epoch + 1 → All (λ s. s.epoch ≤ length c.seeds) c.said
    → posts k (grown c seeds epoch body) ≡ posts k c ++ post_at k (grown c seeds epoch body)
    (next_position c.said epoch) ∷ []
posts-grown k c seeds epoch body same late begun =
    let d = grown c seeds epoch body in
    ap (map (post_at k d)) (positions-grown c seeds epoch body)
    ∙ map-append (post_at k d) (positions c) (next_position c.said epoch ∷ [])
    ∙ ap (λ front. front ++ post_at k d (next_position c.said epoch) ∷ [])
    (map-same (post_at k d) (post_at k c) (positions c) (posts_stay k c seeds epoch body same late begun))

-- those of a side, where the text is its own or the other's
own_or_none : (k : Mechanism) (d : Conversation) (p : Position) (own : Bool)
    → map (post_at k d) (if own then p ∷ [] else []) ≡ (if own then post_at k d p ∷ [] else [])
own_or_none k d p true = refl
own_or_none k d p false = refl

pub posts_of-grown : (k : Mechanism) (c : Conversation) (seeds : List (List ℕ)) (epoch : ℕ) (body : Body) (side : Side)
    → SameTurns k c.key c.seeds seeds
    → length c.seeds ≤ epoch + 1 → All (λ s. s.epoch ≤ length c.seeds) c.said
    → posts_of k (grown c seeds epoch body) side
    ≡ posts_of k c side ++
    (if is_own side epoch then post_at k (grown c seeds epoch body) (next_position c.said epoch) ∷ [] else [])
posts_of-grown k c seeds epoch body side same late begun =
    let d = grown c seeds epoch body in
    let own : Position → Bool = λ p. is_own side p.epoch in
    ap (map (post_at k d)) (own_positions-grown c seeds epoch body side)
    ∙ map-append (post_at k d) (filter own (positions c)) (if is_own side epoch then next_position c.said epoch ∷ [] else [])
    ∙ ap₂ (λ front behind. front ++ behind)
    (map-same (post_at k d) (post_at k c) (filter own (positions c))
    (All-filter own (λ p. post_at k d p ≡ post_at k c p) (positions c) (posts_stay k c seeds epoch body same late begun)))
    (own_or_none k d (next_position c.said epoch) (is_own side epoch))
