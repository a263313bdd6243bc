-- One position has one packet.
use Rattle.std.proofs.Common.{Bool, List, None, Some, ap, map, refl, subst, suc, sym, true, zero, ℕ, ◌∙◌, ◌∷◌, ◌≡◌, ◌≤◌, []}
use Rattle.std.specs.Prelude.{All, filter, slice_get, slice_index_or}
use Rattle.std.proofs.lemmas.List.Elements.{All-drop, All-filter, All-head, All-map, All-tail}
use Rattle.dr_model.proofs.Taking.MadePositions.{position-post_at}
use Rattle.boxes.specs.Posts.{Post}
use Rattle.dr_base.specs.Position.{is_own}
use Rattle.dr_base.specs.declared.position.Position.{Position}
use Rattle.dr_base.specs.declared.position.Side.{Side}
use Rattle.dr_disk.specs.State.{DiskState}
use Rattle.kem_laws.specs.Mechanism.{Mechanism}
use Rattle.dr_model.specs.Conversations.Conversation.{Conversation, is_said, positions}
use Rattle.dr_model.specs.Conversations.Posts.{post_at}
use Rattle.dr_model.specs.Conversations.Views.{View, outbox_of}
use Rattle.dr_model.specs.Machines.WorldSides.{kept_in}
use Rattle.dr_model.specs.Machines.Worlds.{World, view_of}
use Rattle.dr_model.specs.Theorems.LawfulWorlds.{IsLawfulWorld}
use Rattle.dr_model.proofs.Growth.Growing.{positions-said}
use Rattle.dr_model.proofs.Worlds.LastingPackets.{packets_last}
use Rattle.client.specs.Cells.{Cell}
use Rattle.client.specs.Moments.{AreLinkedInCell, IsLater, Known}
use Rattle.client.proofs.Later.{lawful_at}
use Rattle.client.proofs.Standing.{first_later, later}

-- an item of the outbox is the packet of a text that was said
pub record IsPosted (k : Mechanism) (c : Conversation) (item : Post) : Type 0 where
  pub place : Position
  pub said : is_said c place ≡ true
  pub is : item ≡ post_at k c place

pub posted_all : (k : Mechanism) (c : Conversation) (v : View) → All (IsPosted k c) (outbox_of k c v)
posted_all k c v =
    let own : Position → Bool = λ p. is_own v.side p.epoch in
    All-drop (IsPosted k c) v.dropped (map (post_at k c) (filter own (positions c)))
    (All-map (IsPosted k c) (post_at k c) (filter own (positions c))
    (λ i d inside. record {
      place = slice_index_or (filter own (positions c)) i d;
      said = All-filter own (λ p. is_said c p ≡ true) (positions c) (positions-said c) i d inside;
      is = refl;
    }))

pub got : {X : Type 0} (P : X → Type 0) (xs : List X) (n : ℕ) (x : X) → All P xs → slice_get xs n ≡ Some x → P x
got P [] n x all is = absurd (let e : None ≡ Some x = is in cc)
got P (y ∷ ys) zero x all is = subst P (let e : Some y ≡ Some x = is in cc) (All-head P y ys all)
got P (y ∷ ys) (suc n) x all is = got P ys n x (All-tail P y ys all) is

-- in a world, and in a later one
same_packet : (k : Mechanism) (w last : World) (side : Side) (post after : Post) → IsLawfulWorld k w → IsLater k w last
    → IsPosted k w.conversation post → IsPosted k last.conversation after → post.position ≡ after.position → after ≡ post
same_packet k w last side post after lawful later a b same =
    let c = w.conversation in
    let d = last.conversation in
    let one : a.place ≡ b.place =
    sym (ap (λ (i : Post). i.position) a.is ∙ position-post_at k c a.place)
    ∙ same ∙ (ap (λ (i : Post). i.position) b.is ∙ position-post_at k d b.place) in
    let stays : post_at k d a.place ≡ post_at k c a.place =
    ap (λ (v : World). post_at k v.conversation a.place) (sym later.leads)
    ∙ (packets_last k w later.events a.place lawful later.whole a.said).1 in
    b.is ∙ ap (post_at k d) (sym one) ∙ stays ∙ sym a.is

pub one_packet : (cell : Cell) {X : Type 0} (state : X → DiskState) (xs : List X) (k : Mechanism)
    (side : Side) (first : World)
    (known : ℕ → Known) → IsLawfulWorld k first → AreLinkedInCell cell state xs k side first known
    → (n m : ℕ) (b : X) → n ≤ m → slice_get xs m ≡ Some b → (at again : ℕ) (post after : Post)
    → slice_get (kept_in k (known n).last side).outbox at ≡ Some post
    → slice_get (kept_in k (known m).last side).outbox again ≡ Some after
    → post.position ≡ after.position → after ≡ post
one_packet cell state xs k side first known lawful linked n m b le is at again post after here there same =
    let w = (known n).last in
    let last = (known m).last in
    same_packet k w last side post after (lawful_at k first w lawful (first_later cell state xs k side first known linked n m b le is))
    (later cell state xs k side first known linked n m b le is)
    (got (IsPosted k w.conversation) (kept_in k w side).outbox at post (posted_all k w.conversation (view_of w side)) here)
    (got (IsPosted k last.conversation) (kept_in k last side).outbox again after
    (posted_all k last.conversation (view_of last side)) there)
    same
