-- What the network holds: the packet of each position that was said, and no other.
use Rattle.std.proofs.Common.{Bool, List, None, Option, Some, [], ap, false, filter, if◌then◌else◌, map, nat_le, not, refl, suc, true, zero, ℕ, ◌-◌, ◌∙◌, ◌∷◌, ◌≡◌}
use Rattle.std.specs.Prelude.{find, slice_get, option_map}
use Rattle.boxes.specs.Posts.{Post}
use Rattle.dr_base.specs.Position.{is_own, is_at}
use Rattle.dr_base.specs.declared.position.Position.{Position}
use Rattle.dr_base.specs.declared.position.Side.{Side}
use Rattle.kem_laws.specs.Mechanism.{Mechanism}
use Rattle.dr_model.specs.Conversations.Conversation.{Conversation, positions}
use Rattle.dr_model.specs.Conversations.Posts.{post_at, posts}
use Rattle.dr_model.specs.Machines.Network.{held_at, held_nth, is_from_peer}
use Rattle.dr_model.specs.Machines.Worlds.{nth_of_peer, said_at}
use Rattle.dr_model.proofs.Taking.AllPositions.{find-position}
use Rattle.dr_model.proofs.Taking.MadePositions.{position-post_at}

found : (k : Mechanism) (c : Conversation) (p q : Position) (b : Bool) (x : Option Post) (y : Option Position)
    → x ≡ option_map (post_at k c) y
    → (if b then Some (post_at k c q) else x) ≡ option_map (post_at k c) (if b then Some q else y)
found k c p q true x y e = refl
found k c p q false x y e = e

-- among packets as among positions
find-posts : (k : Mechanism) (c : Conversation) (p : Position) (ps : List Position)
    → find (λ post. is_at p post.position) (map (post_at k c) ps) ≡ option_map (post_at k c) (find (is_at p) ps)
find-posts k c p [] = refl
find-posts k c p (q ∷ ps) =
    ap (λ at. if is_at p at then Some (post_at k c q) else find (λ post. is_at p post.position) (map (post_at k c) ps))
    (position-post_at k c q)
    ∙ found k c p q (is_at p q) _ (find (is_at p) ps) (find-posts k c p ps)

bytes_of : (o : Option Position) (k : Mechanism) (c : Conversation)
    → option_map (λ (post : Post). post.packet) (option_map (post_at k c) o) ≡ option_map (λ q. (post_at k c q).packet) o
bytes_of None k c = refl
bytes_of (Some q) k c = refl

-- the first packet under a position is that of the position, if it was said
pub find-said : (k : Mechanism) (c : Conversation) (p : Position)
    → find (λ post. is_at p post.position) (posts k c) ≡ option_map (post_at k c) (said_at c p)
find-said k c p = find-posts k c p (positions c) ∙ ap (option_map (post_at k c)) (find-position c p)

-- the network holds the packet of each position that was said
pub held_at-posts : (k : Mechanism) (c : Conversation) (p : Position)
    → held_at (posts k c) p ≡ option_map (λ q. (post_at k c q).packet) (said_at c p)
held_at-posts k c p = ap (option_map (λ (post : Post). post.packet)) (find-said k c p) ∙ bytes_of (said_at c p) k c

filter-step : {X Y : Type 0} (f : X → Y) (x : X) (xs : List X) (ys : List Y) (b : Bool) → ys ≡ map f xs
    → (if b then f x ∷ ys else ys) ≡ map f (if b then x ∷ xs else xs)
filter-step f x xs ys true e = ap (λ zs. f x ∷ zs) e
filter-step f x xs ys false e = e

filter-posts : (k : Mechanism) (c : Conversation) (side : Side) (ps : List Position)
    → filter (is_from_peer side) (map (post_at k c) ps) ≡ map (post_at k c) (filter (λ p. not (is_own side p.epoch)) ps)
filter-posts k c side [] = refl
filter-posts k c side (p ∷ ps) =
    ap (λ (at : Position). if not (is_own side at.epoch) then post_at k c p ∷ filter (is_from_peer side)
    (map (post_at k c) ps) else filter (is_from_peer side) (map (post_at k c) ps)) (position-post_at k c p)
    ∙ filter-step (post_at k c) p (filter (λ q. not (is_own side q.epoch)) ps) _ (not (is_own side p.epoch))
    (filter-posts k c side ps)

get-map : {X Y : Type 0} (f : X → Y) (xs : List X) (n : ℕ) → slice_get (map f xs) n ≡ option_map f (slice_get xs n)
get-map f [] n = refl
get-map f (x ∷ xs) zero = refl
get-map f (x ∷ xs) (suc n) = get-map f xs n

guarded : (k : Mechanism) (c : Conversation) (b : Bool) (x : Option Position)
    → (if b then option_map (λ q. (post_at k c q).packet) x else None)
    ≡ option_map (λ q. (post_at k c q).packet) (if b then x else None)
guarded k c true x = refl
guarded k c false x = refl

-- and counts the peer's packets as the positions are counted
pub held_nth-posts : (k : Mechanism) (c : Conversation) (side : Side) (n : ℕ)
    → held_nth (posts k c) side n ≡ option_map (λ q. (post_at k c q).packet) (nth_of_peer c side n)
held_nth-posts k c side n =
    ap (λ x. if nat_le 1 n then option_map (λ (post : Post). post.packet) x else None)
    (ap (λ xs. slice_get xs (n - 1)) (filter-posts k c side (positions c))
    ∙ get-map (post_at k c) (filter (λ p. not (is_own side p.epoch)) (positions c)) (n - 1))
    ∙ ap (λ x. if nat_le 1 n then x else None)
    (bytes_of (slice_get (filter (λ p. not (is_own side p.epoch)) (positions c)) (n - 1)) k c)
    ∙ guarded k c (nat_le 1 n) (slice_get (filter (λ p. not (is_own side p.epoch)) (positions c)) (n - 1))
