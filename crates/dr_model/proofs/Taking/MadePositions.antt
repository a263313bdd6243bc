-- Bytes that are the packet of a text give its position.
use Rattle.std.proofs.Common.{◌≡◌, ℕ, Bool, true, false, nat_eq, List, [], ◌∷◌, map, Option, Some, refl, sym, ◌∙◌, subst, if◌then◌else◌}
use Rattle.std.specs.Cmp.Lexicographic.{pointwise, same_text}
use Rattle.std.specs.Prelude.{All, find, option_map}
use Rattle.std.proofs.lemmas.List.Elements.{All-head, All-tail}
use Rattle.boxes.specs.Posts.{Post}
use Rattle.dr_base.specs.declared.position.Position.{Position}
use Rattle.kem_laws.specs.Mechanism.{Mechanism}
use Rattle.session_model.specs.Sealing.{posted}
use Rattle.dr_model.specs.Conversations.Conversation.{Conversation, is_said, positions}
use Rattle.dr_model.specs.Conversations.Posts.{post_at}
use Rattle.dr_model.specs.Machines.Worlds.{World, made_at}
use Rattle.dr_model.proofs.Growth.Growing.{positions-said}

-- bytes that are the packet of a text's position
pub record IsMade (k : Mechanism) (c : Conversation) (bytes : List ℕ) (p : Position) : Type 0 where
  pub said : is_said c p ≡ true
  pub same : bytes ≡ (post_at k c p).packet

-- a packet stands under its position
pub position-post_at : (k : Mechanism) (c : Conversation) (p : Position) → (post_at k c p).position ≡ p
unfolding posted
position-post_at k c p = refl

-- it is the first packet, or one of the others
made_first : (k : Mechanism) (c : Conversation) (bytes : List ℕ) (q p : Position) (b : Bool) (rest : Option Post)
    → pointwise nat_eq (post_at k c q).packet bytes ≡ b → is_said c q ≡ true
    → (option_map (λ (post : Post). post.position) rest ≡ Some p → IsMade k c bytes p)
    → option_map (λ (post : Post). post.position) (if b then Some (post_at k c q) else rest) ≡ Some p → IsMade k c bytes p
made_first k c bytes q p true rest is said later found =
    let some : Some (post_at k c q).position ≡ Some p = found in
    let at : (post_at k c q).position ≡ p = cc in
    subst (IsMade k c bytes) (sym (position-post_at k c q) ∙ at)
    (record { said = said; same = sym (same_text (post_at k c q).packet bytes (sym is)) })
made_first k c bytes q p false rest is said later found = later found

made_among : (k : Mechanism) (c : Conversation) (bytes : List ℕ) (p : Position) (ps : List Position)
    → All (λ q. is_said c q ≡ true) ps
    → option_map (λ (post : Post). post.position) (find (λ post. pointwise nat_eq post.packet bytes) (map (post_at k c) ps))
    ≡ Some p → IsMade k c bytes p
made_among k c bytes p [] said found = cc
made_among k c bytes p (q ∷ rest) said found =
    made_first k c bytes q p (pointwise nat_eq (post_at k c q).packet bytes)
    (find (λ post. pointwise nat_eq post.packet bytes) (map (post_at k c) rest)) refl
    (All-head (λ r. is_said c r ≡ true) q rest said)
    (made_among k c bytes p rest (All-tail (λ r. is_said c r ≡ true) q rest said)) found

-- the position that is found is that of a text with this packet
pub made_at-is : (k : Mechanism) (w : World) (bytes : List ℕ) (p : Position) → made_at k w bytes ≡ Some p
    → IsMade k w.conversation bytes p
made_at-is k w bytes p found =
    made_among k w.conversation bytes p (positions w.conversation) (positions-said w.conversation) found
