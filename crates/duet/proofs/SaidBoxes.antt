-- The boxes of a script's relay hold packets that were said, and no others.
use Rattle.std.proofs.Common.{Bool, List, None, Option, Some, [], ap, length, false, refl, subst, sym, true, ◌∙◌, ◌∷◌, ◌+◌, ◌≡◌}
use Rattle.std.specs.Prelude.{All, IfSome, filter, if◌then◌else◌, is_some, not, ⊤, ◌==◌, ℕ}
use Rattle.std.proofs.lemmas.List.Elements.{All-cons, All-drop, All-filter, All-head, All-map, All-push, All-tail, All-weaker}
use Rattle.boxes.specs.Posts.{Post}
use Rattle.dr_base.specs.Position.{is_own}
use Rattle.dr_base.specs.declared.position.Position.{Position}
use Rattle.dr_base.specs.declared.position.Side.{Side}
use Rattle.dr_model.specs.Conversations.Conversation.{is_said, positions}
use Rattle.dr_model.specs.Conversations.Posts.{post_at, posts_of}
use Rattle.dr_model.specs.Machines.Acts.{Act, needs_seed, saying, taking}
use Rattle.dr_model.specs.Machines.Events.{Event}
use Rattle.dr_model.specs.Machines.WorldSides.{kept_in}
use Rattle.dr_model.specs.Machines.Worlds.{World, outbox_in, step_of, view_of}
use Rattle.dr_model.specs.Theorems.Fairness.{IsSeedWhole, IsUnforged}
use Rattle.dr_model.specs.Theorems.LawfulWorlds.{IsLawfulWorld}
use Rattle.dr_model.proofs.Growth.Growing.{positions-said}
use Rattle.dr_model.proofs.Growth.SaidStays.{packets_stay}
use Rattle.dr_model.proofs.Taking.PacketsApart.{real}
use Rattle.dr_model.proofs.Worlds.LawfulWorlds.{lawful_next}
use Rattle.kem_laws.specs.Mechanism.{Mechanism}
use Rattle.relay_core.specs.Boxes.{Answer, Box, Kept, answer_in, answer_of, answers_of, becomes, after_box, has_number, is_full, is_named, of_first, stays, with_packet, without_number}
use Rattle.relay_core.proofs.Judged.{IsAnswered, is_answered, is_denied, is_served}
use Rattle.relay_wire.specs.Replies.{absent, acked, box_full, stored}
use Rattle.relay_wire.specs.Requests.{Asked, Asking, acks, fetches, posts}
use Rattle.session_model.specs.Clients.{Client, say_check}
use Rattle.client.specs.Syncing.Parties.{waiting}
use Rattle.duet.specs.Outcomes.{WorldBeside}
use Rattle.parties.specs.Shuts.{Shut}
use Rattle.duet.specs.Shuts.{Shuts, shut_of}

-- ---- packets that were said

-- the bytes are those of the packet of a text that was said
pub record IsSaidPacket (k : Mechanism) (w : World) (packet : List ℕ) : Type 0 where
  pub position : Position
  pub said : is_said w.conversation position ≡ true
  pub same : packet ≡ (post_at k w.conversation position).packet

-- nobody forged their tag
pub unforged : (k : Mechanism) (w : World) (side : Side) (packet : List ℕ) → IsLawfulWorld k w → IsSaidPacket k w packet
    → IsUnforged k w side packet
unforged k w side packet lawful is = subst (IsUnforged k w side) (sym is.same) (real k w side is.position lawful is.said)

-- whatever happens, they stay so
pub said_stays : (k : Mechanism) (w : World) (event : Event) (packet : List ℕ) → IsLawfulWorld k w → IsSaidPacket k w packet
    → IsSaidPacket k (step_of k w event).next packet
said_stays k w event packet lawful is =
    let stay = packets_stay k w event is.position lawful is.said in
    record { position = is.position; said = stay.0; same = is.same ∙ ap (λ (post : Post). post.packet) (sym stay.1) }

-- and an outbox holds no others
pub outbox_said : (k : Mechanism) (w : World) (side : Side) → All (IsSaidPacket k w) (waiting (kept_in k w side))
outbox_said k w side =
    let c = w.conversation in
    let v = view_of w side in
    let own : Position → Bool = λ p. is_own v.side p.epoch in
    let Said : Post → Type 0 = λ post. IsSaidPacket k w post.packet in
    All-map (IsSaidPacket k w) (λ (post : Post). post.packet) (outbox_in k w side)
    (All-drop Said v.dropped (posts_of k c v.side)
    (All-map Said (post_at k c) (filter own (positions c))
    (All-filter own (λ p. Said (post_at k c p)) (positions c)
    (All-weaker (λ p. is_said c p ≡ true) (λ p. Said (post_at k c p))
    (λ p said. record { position = p; said = said; same = refl }) (positions c) (positions-said c)))))

-- ---- boxes of such packets

-- each packet of the box is such a one
abbrev pub HoldsOnly : (List ℕ → Type 0) → Box → Type 0
HoldsOnly Is box = All (λ (kept : Kept). Is kept.packet) box.packets

-- a request that posts a packet posts such a one
abbrev pub AsksOnly : (List ℕ → Type 0) → Asking → Type 0
AsksOnly Is (posts packet) = Is packet
AsksOnly Is fetches = ⊤
AsksOnly Is (acks number) = ⊤

module _ (Is : List ℕ → Type 0) where
  either_holds : (test : Bool) (a b : Answer) → HoldsOnly Is a.next → HoldsOnly Is b.next → HoldsOnly Is (if test then a else b).next
  either_holds true a b one two = one
  either_holds false a b one two = two

  answer_holds : (box : Box) (ask : Asking) → HoldsOnly Is box → AsksOnly Is ask → HoldsOnly Is (answer_of box ask).next
  unfolding answer_of
  answer_holds box (posts packet) holds is =
      either_holds (is_full box) (stays box_full box) (becomes (stored (box.last + 1)) (with_packet box packet)) holds
      (All-push (λ (kept : Kept). Is kept.packet) box.packets (record { number = box.last + 1; packet = packet }) holds is)
  answer_holds box fetches holds is = holds
  answer_holds box (acks number) holds is =
      either_holds (has_number number box.packets) (becomes acked (without_number box number)) (stays (absent number) box)
      (All-filter (λ (kept : Kept). not (kept.number == number)) (λ (kept : Kept). Is kept.packet) box.packets holds) holds

  -- whoever asks
  answer_holds_in : (box : Box) (asked : Asked) → HoldsOnly Is box → AsksOnly Is asked.ask → HoldsOnly Is (answer_in box asked).next
  answer_holds_in box asked holds is = by_answer (is_answered box asked)
    where
      by_answer : IsAnswered box asked (answer_in box asked) → HoldsOnly Is (answer_in box asked).next
      by_answer (is_served reply packets) =
          subst (All (λ (kept : Kept). Is kept.packet)) (sym packets) (answer_holds box asked.ask holds is)
      by_answer (is_denied rule last still) = subst (λ (a : Answer). HoldsOnly Is a.next) (sym still) holds

  -- the relay keeps them so
  pub relay_holds : (boxes : List Box) (asked : Asked) → All (HoldsOnly Is) boxes → AsksOnly Is asked.ask
      → All (HoldsOnly Is) (answers_of boxes asked).next
  unfolding answers_of
  relay_holds [] asked hold is = hold
  relay_holds (box ∷ boxes) asked hold is = by_name (is_named asked.name box) (relay_holds boxes asked rest is)
    where
      first : HoldsOnly Is box
      first = All-head (HoldsOnly Is) box boxes hold

      rest : All (HoldsOnly Is) boxes
      rest = All-tail (HoldsOnly Is) box boxes hold

      by_name : (named : Bool) → All (HoldsOnly Is) (answers_of boxes asked).next
          → All (HoldsOnly Is) (if named then of_first (answer_in box asked) boxes else after_box box (answers_of boxes asked)).next
      by_name true more = All-cons (HoldsOnly Is) (answer_in box asked).next boxes (answer_holds_in box asked first is) rest
      by_name false more = All-cons (HoldsOnly Is) box (answers_of boxes asked).next first more

-- boxes of packets that are one thing hold packets that are another, where that follows
pub boxes_weaker : (Is Are : List ℕ → Type 0) → ((packet : List ℕ) → Is packet → Are packet) → (boxes : List Box) → All (HoldsOnly Is) boxes
    → All (HoldsOnly Are) boxes
boxes_weaker Is Are follows =
    All-weaker (HoldsOnly Is) (HoldsOnly Are)
    (λ box. All-weaker (λ (kept : Kept). Is kept.packet) (λ (kept : Kept). Are kept.packet) (λ kept. follows kept.packet) box.packets)

-- ---- a world, and what stands beside it

-- what a closed side is to do when it opens is what it can do
abbrev pub IsHeldBack : Mechanism → World → Side → Act → Type 0
IsHeldBack k w side (saying content draw) =
    (is_some draw ≡ needs_seed (say_check (kept_in k w side) content)) × IfSome draw (λ seed. length seed ≡ 32)
IsHeldBack k w side (taking bytes) = IsSaidPacket k w bytes
IsHeldBack k w side _ = ⊤

abbrev pub IsLeft : Mechanism → World → Side → Shut (Option Act) → Type 0
IsLeft k w side shut = IfSome shut.left (IsHeldBack k w side)

-- the world is lawful, the boxes hold packets that were said in it, and so are those that are held back
pub record IsHonest (k : Mechanism) (s : WorldBeside) : Type 0 where
  pub lawful : IsLawfulWorld k s.ends
  pub boxes : All (HoldsOnly (IsSaidPacket k s.ends)) s.boxes
  pub shuts : (side : Side) → IfSome (shut_of s.shuts side) (IsLeft k s.ends side)

-- each closed side keeps what it kept
abbrev pub KeepsShut : Mechanism → Shuts (Option Act) → World → World → Type 0
KeepsShut k shuts w next = (side : Side) → IfSome (shut_of shuts side) (λ _. kept_in k next side ≡ kept_in k w side)

module _ (k : Mechanism) (w next : World) (side : Side) (said : (packet : List ℕ) → IsSaidPacket k w packet → IsSaidPacket k next packet) where
  held_stays : (act : Act) → kept_in k next side ≡ kept_in k w side → IsHeldBack k w side act → IsHeldBack k next side act
  held_stays (saying content draw) same held =
      (held.0 ∙ ap (λ (c : Client). needs_seed (say_check c content)) (sym same), held.1)
  held_stays (taking bytes) same held = said bytes held
  held_stays act same held = tt

  act_stays : (o : Option Act) → kept_in k next side ≡ kept_in k w side → IfSome o (IsHeldBack k w side)
      → IfSome o (IsHeldBack k next side)
  act_stays None same held = tt
  act_stays (Some act) same held = held_stays act same held

  pub left_stays : (o : Option (Shut (Option Act))) → IfSome o (λ _. kept_in k next side ≡ kept_in k w side)
      → IfSome o (IsLeft k w side) → IfSome o (IsLeft k next side)
  left_stays None same left = tt
  left_stays (Some shut) same left = act_stays shut.left same left

-- what happens to the world leaves it so, where closed sides keep what they kept
pub honest_next : (k : Mechanism) (s : WorldBeside) (event : Event) → IsHonest k s → IsSeedWhole event
    → KeepsShut k s.shuts s.ends (step_of k s.ends event).next
    → IsHonest k (record s { ends = (step_of k s.ends event).next })
honest_next k s event honest whole keeps =
    let next = (step_of k s.ends event).next in
    let said : (packet : List ℕ) → IsSaidPacket k s.ends packet → IsSaidPacket k next packet = λ packet. said_stays k s.ends event packet honest.lawful in record {
      lawful = lawful_next k s.ends event honest.lawful whole;
      boxes = boxes_weaker (IsSaidPacket k s.ends) (IsSaidPacket k next) said s.boxes honest.boxes;
      shuts = λ side. left_stays k s.ends next side said (shut_of s.shuts side) (keeps side) (honest.shuts side);
    }
