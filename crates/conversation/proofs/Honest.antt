-- A packet that either side had in its outbox is forged in no later world.
use Rattle.std.proofs.Common.{List, Some, ap, subst, sym, ℕ, ◌∙◌, ◌≡◌, ◌≤◌}
use Rattle.std.specs.Prelude.{All, Contains, slice_get}
use Rattle.std.proofs.lemmas.List.Elements.{All-map, All-weaker}
use Rattle.boxes.specs.Posts.{Post}
use Rattle.dr_base.specs.declared.position.Side.{Side}
use Rattle.dr_disk.specs.State.{DiskState}
use Rattle.dr_model.specs.Machines.WorldSides.{kept_in}
use Rattle.dr_model.specs.Machines.Worlds.{World, view_of}
use Rattle.dr_model.specs.Theorems.Fairness.{IsUnforged}
use Rattle.dr_model.specs.Theorems.Headline.{Headline}
use Rattle.dr_model.specs.Theorems.LawfulWorlds.{IsLawfulWorld}
use Rattle.dr_model.proofs.Taking.PacketsApart.{real}
use Rattle.kem_laws.specs.Mechanism.{Mechanism}
use Rattle.client.specs.Cells.{client_cell}
use Rattle.client.specs.Moments.{AreLinked, IsAmongKnown}
use Rattle.client.specs.Syncing.Parties.{waiting}
use Rattle.client.proofs.Later.{lawful_at}
use Rattle.client.proofs.OnePacket.{IsPosted, posted_all}
use Rattle.client.proofs.Standing.{among, first_later}
use Rattle.conversation.specs.HandedOut.{IsPacketOf}
use Rattle.conversation.specs.Joints.{Joint, known_in}
use Rattle.conversation.specs.Kept.{Keeps}
use Rattle.conversation.proofs.Held.{later_known}
use Rattle.conversation.proofs.Lasting.{keeps}

-- what was said in a world is real in a later one
posted_real : (k : Mechanism) (w v : World) (taker : Side) (post : Post) → Keeps k taker w v
    → IsPosted k w.conversation post → IsUnforged k v taker post.packet
posted_real k w v taker post kept is =
    let there = kept.said is.place is.said in
    subst (λ (i : Post). IsUnforged k v taker i.packet) (there.2 ∙ sym is.is)
    (real k v taker is.place kept.lawful there.0)

pub waiting_real : (k : Mechanism) (w v : World) (side taker : Side) → Keeps k taker w v
    → All (IsUnforged k v taker) (waiting (kept_in k w side))
waiting_real k w v side taker kept =
    All-map (IsUnforged k v taker) (λ (post : Post). post.packet) (kept_in k w side).outbox
    (All-weaker (IsPosted k w.conversation) (λ post. IsUnforged k v taker post.packet)
    (λ post is. posted_real k w v taker post kept is) (kept_in k w side).outbox
    (posted_all k w.conversation (view_of w side)))

-- and stands there, at its position
pub waiting_said : (k : Mechanism) (w v : World) (side taker : Side) → Keeps k taker w v
    → All (IsPacketOf k v) (waiting (kept_in k w side))
waiting_said k w v side taker kept =
    All-map (IsPacketOf k v) (λ (post : Post). post.packet) (kept_in k w side).outbox
    (All-weaker (IsPosted k w.conversation) (λ post. IsPacketOf k v post.packet)
    (λ post is. let there = kept.said is.place is.said in record {
      place = is.place;
      said = there.0;
      is = ap (λ (i : Post). i.packet) (there.2 ∙ sym is.is);
    }) (kept_in k w side).outbox (posted_all k w.conversation (view_of w side)))

pub real_later : (k : Mechanism) (w v : World) (side taker : Side) (post : Post)
    → Keeps k taker w v → Contains (kept_in k w side).outbox post → IsUnforged k v taker post.packet
real_later k w v side taker post kept stands =
    posted_real k w v taker post kept
    (among (IsPosted k w.conversation) (kept_in k w side).outbox post
    (posted_all k w.conversation (view_of w side)) stands)

module _ {X : Type 0} (state : X → DiskState) (k : Mechanism) (laws : Headline k) (taker : Side)
    (xs : List X) (w : World) (lawful : IsLawfulWorld k w) (joints : ℕ → Joint)
    (linked : AreLinked state xs k taker w (λ n. known_in k taker (joints n))) where
  pub honest_later : (n m : ℕ) (b : X) (side : Side) (post : Post) (v : World) → n ≤ m
      → slice_get xs m ≡ Some b → Contains (kept_in k (joints n).world side).outbox post
      → IsAmongKnown (known_in k taker (joints m)) v → IsUnforged k v taker post.packet
  honest_later n m b side post v le is stands which =
      let sound = lawful_at k w (joints n).world lawful
      (first_later client_cell state xs k taker w (λ n. known_in k taker (joints n)) linked n m b le
      is) in
      real_later k (joints n).world v side taker post
      (keeps k laws taker (joints n).world v sound
      (later_known state k laws taker xs w lawful joints linked n m b v le is which)) stands
