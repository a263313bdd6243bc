-- A client that opens again, and the same in the world that both sides stand for.
use Rattle.std.proofs.Common.{List, None, Option, Some, ap, ap₂, append-nil, arith, length, refl, subst, sym, true, ◌++◌, ◌∙◌, ◌≡◌, ℕ}
use Rattle.std.specs.Prelude.{IfSome, option_map}
use Rattle.boxes.specs.Posts.{Post}
use Rattle.dr_base.specs.Position.{peer_of}
use Rattle.dr_base.specs.declared.position.Side.{Side}
use Rattle.dr_base.specs.declared.position.Side.TheVariants.{First, Second}
use Rattle.dr_model.specs.Conversations.Posts.{posts}
use Rattle.dr_model.specs.Machines.Acts.{Act}
use Rattle.dr_model.specs.Machines.WorldActs.{act_in}
use Rattle.dr_model.specs.Machines.Sides.{Sides, client_of}
use Rattle.dr_model.specs.Machines.Worlds.{World}
use Rattle.dr_model.specs.Machines.WorldSides.{kept_in, sides_of}
use Rattle.dr_model.specs.Theorems.LawfulWorlds.{IsLawfulWorld}
use Rattle.dr_model.proofs.Worlds.WorldViews.{client_of-kept}
use Rattle.kem_laws.specs.Mechanism.{IsLawfulMechanism, Mechanism}
use Rattle.session_model.specs.Clients.{Client}
use Rattle.duet.specs.Gathering.{gathers}
use Rattle.duet.specs.Outcomes.{SidesPlayed, WorldBeside, act_done_in, opened, lines_alone}
use Rattle.duet.specs.Replies.{open_line}
use Rattle.parties.specs.Shuts.{Shut}
use Rattle.duet.specs.Shuts.{Shuts, shut_of, with_shut}
use Rattle.duet.proofs.FailsFollow.{other_shut, own_shut, redrawn, redrawn_keeps}
use Rattle.duet.proofs.Gathering.{none_newest}
use Rattle.duet.proofs.HeldBack.{done_lawful, key_stays, newest, other_kept, own_kept, posts_grow, said_on_way}
use Rattle.duet.proofs.Moving.{if_any, if_none, one_of}
use Rattle.duet.proofs.SaidBoxes.{IsHeldBack, IsHonest, IsLeft, IsSaidPacket, KeepsShut, boxes_weaker, left_stays}
use Rattle.duet.proofs.SeenBeside.{left_in, seen_beside, seen_played, seen_same, seen_shut, seen_shuts, shut_seen}

-- ---- both sides

sides_first : (k : Mechanism) (w next : World) (left : Client) → next.conversation.key ≡ w.conversation.key
    → kept_in k next First ≡ left → kept_in k next Second ≡ kept_in k w Second
    → posts k next.conversation ≡ posts k w.conversation ++ newest (kept_in k w First) left
    → sides_of k (redrawn next w.draws) ≡ gathers (sides_of k w) First left
sides_first k w next left key own other grows =
    let make : List ℕ → Client → Client → List Post → Sides =
    λ key first second held. record { key = key; first = first; second = second; posts = held; draws = w.draws } in
    ap₂ (λ (a : List ℕ) (b : Client). make a b (kept_in k next Second) (posts k next.conversation)) key own
    ∙ ap₂ (λ (c : Client) (d : List Post). make w.conversation.key left c d) other grows

sides_second : (k : Mechanism) (w next : World) (left : Client) → next.conversation.key ≡ w.conversation.key
    → kept_in k next Second ≡ left → kept_in k next First ≡ kept_in k w First
    → posts k next.conversation ≡ posts k w.conversation ++ newest (kept_in k w Second) left
    → sides_of k (redrawn next w.draws) ≡ gathers (sides_of k w) Second left
sides_second k w next left key own other grows =
    let make : List ℕ → Client → Client → List Post → Sides =
    λ key first second held. record { key = key; first = first; second = second; posts = held; draws = w.draws } in
    ap₂ (λ (a : List ℕ) (b : Client). make a (kept_in k next First) b (posts k next.conversation)) key own
    ∙ ap₂ (λ (c : Client) (d : List Post). make w.conversation.key c left d) other grows

sides_by : (k : Mechanism) (w next : World) (side : Side) (left : Client) → next.conversation.key ≡ w.conversation.key
    → kept_in k next side ≡ left → kept_in k next (peer_of side) ≡ kept_in k w (peer_of side)
    → posts k next.conversation ≡ posts k w.conversation ++ newest (kept_in k w side) left
    → sides_of k (redrawn next w.draws) ≡ gathers (sides_of k w) side left
sides_by k w next First left key own other grows = sides_first k w next left key own other grows
sides_by k w next Second left key own other grows = sides_second k w next left key own other grows

gathers_idle : (s : Sides) (side : Side) → gathers s side (client_of s side) ≡ s
gathers_idle s First =
    ap (λ (more : List Post). let t : Sides = record s { posts = s.posts ++ more } in t)
    (none_newest (length s.first.outbox) s.first.outbox (omega arith))
    ∙ ap (λ (held : List Post). let t : Sides = record s { posts = held } in t) (append-nil s.posts)
gathers_idle s Second =
    ap (λ (more : List Post). let t : Sides = record s { posts = s.posts ++ more } in t)
    (none_newest (length s.second.outbox) s.second.outbox (omega arith))
    ∙ ap (λ (held : List Post). let t : Sides = record s { posts = held } in t) (append-nil s.posts)

-- ---- an opening

without_shut : (k : Mechanism) (w : World) (shuts : Shuts (Option Act)) (side : Side)
    → with_shut (seen_shuts k w shuts) side None ≡ seen_shuts k w (with_shut shuts side None)
without_shut k w shuts First = refl
without_shut k w shuts Second = refl

module _ (k : Mechanism) (s : WorldBeside) (side : Side) (law : IsLawfulMechanism k) (honest : IsHonest k s) where
  abbrev w : World
  w = s.ends

  -- what the world comes to: what the side keeps, what the other keeps, what was said, and that it is lawful
  record Opens (left : Option Act) : Type 0 where
    sides : sides_of k (act_done_in k w side left) ≡ gathers (sides_of k w) side (left_in k w side left)
    other : kept_in k (act_done_in k w side left) (peer_of side) ≡ kept_in k w (peer_of side)
    said : (packet : List ℕ) → IsSaidPacket k w packet → IsSaidPacket k (act_done_in k w side left) packet
    lawful : IsLawfulWorld k (act_done_in k w side left)

  opens : (left : Option Act) → IfSome left (IsHeldBack k w side) → Opens left
  opens None held = record {
    sides = sym (ap (λ (c : Client). gathers (sides_of k w) side c) (sym (client_of-kept k w side)) ∙ gathers_idle (sides_of k w) side);
    other = refl;
    said = λ packet is. is;
    lawful = honest.lawful;
  }
  opens (Some act) held =
      let next = (act_in k w side act).next in record {
        sides = sides_by k w next side (left_in k w side (Some act)) (key_stays k w side law honest.lawful act held)
            (own_kept k w side law honest.lawful act held) (other_kept k w side law honest.lawful act held)
            (posts_grow k w side law honest.lawful act held);
        other = redrawn_keeps k next w.draws (peer_of side) ∙ other_kept k w side law honest.lawful act held;
        said = said_on_way k w side law honest.lawful act held;
        lawful = done_lawful k w side law honest.lawful act held;
      }

  -- the side that has opened has nothing left
  abbrev Unmoved : World → Side → Type 0
  Unmoved next y = kept_in k next y ≡ kept_in k w y

  rest_keeps : (left : Option Act) → Opens left → KeepsShut k (with_shut s.shuts side None) w (act_done_in k w side left)
  rest_keeps left is = λ x.
      let next = act_done_in k w side left in
      one_of (λ (y : Side). IfSome (shut_of (with_shut s.shuts side None) y) (λ _. Unmoved next y)) side x
      (if_none (λ _. Unmoved next side) (shut_of (with_shut s.shuts side None) side) (own_shut s.shuts side None))
      (if_any (Unmoved next (peer_of side)) (shut_of (with_shut s.shuts side None) (peer_of side)) is.other)

  opened_follows : (shut : Option (Shut (Option Act))) → IfSome shut (IsLeft k w side)
      → opened side (seen_beside k s) (gathers (sides_of k w) side) (option_map (seen_shut k w side) shut)
      ≡ seen_played k (opened side s (act_done_in k w side) shut)
  opened_follows None left = refl
  opened_follows (Some shut) left =
      let is = opens shut.left left in
      ap₂ (λ (ends : Sides) (shuts : Shuts Client). let played : SidesPlayed =
      lines_alone (open_line side true) (record (seen_beside k s) { ends = ends; shuts = shuts }) in played)
      (sym is.sides)
      (without_shut k w s.shuts side
      ∙ sym (seen_same k w (act_done_in k w side shut.left) (with_shut s.shuts side None) (rest_keeps shut.left is)))

  opened_honest : (shut : Option (Shut (Option Act))) → IfSome shut (IsLeft k w side)
      → IsHonest k (opened side s (act_done_in k w side) shut).next
  opened_honest None left = honest
  opened_honest (Some shut) left =
      let is = opens shut.left left in
      let next = act_done_in k w side shut.left in
      let keeps = rest_keeps shut.left is in record {
        lawful = is.lawful;
        boxes = boxes_weaker (IsSaidPacket k w) (IsSaidPacket k next) is.said s.boxes honest.boxes;
        shuts = λ x.
            left_stays k w next x is.said (shut_of (with_shut s.shuts side None) x) (keeps x)
            (one_of (λ (y : Side). IfSome (shut_of (with_shut s.shuts side None) y) (IsLeft k w y)) side x
            (if_none (IsLeft k w side) (shut_of (with_shut s.shuts side None) side) (own_shut s.shuts side None))
            (subst (λ o. IfSome o (IsLeft k w (peer_of side))) (sym (other_shut s.shuts side None)) (honest.shuts (peer_of side))));
      }

  pub opens_follow : opened side (seen_beside k s) (gathers (sides_of k w) side) (shut_of (seen_shuts k w s.shuts) side)
      ≡ seen_played k (opened side s (act_done_in k w side) (shut_of s.shuts side))
  opens_follow =
      ap (opened side (seen_beside k s) (gathers (sides_of k w) side)) (shut_seen k w s.shuts side)
      ∙ opened_follows (shut_of s.shuts side) (honest.shuts side)

  pub opens_honest : IsHonest k (opened side s (act_done_in k w side) (shut_of s.shuts side)).next
  opens_honest = opened_honest (shut_of s.shuts side) (honest.shuts side)
