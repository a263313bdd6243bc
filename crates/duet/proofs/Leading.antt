-- The act that an event of a side is.
use Rattle.std.proofs.Common.{Bool, Err, List, None, Ok, Option, Result, Some, [], ap, false, map, refl, subst, sym, true, ◌∙◌, ◌∷◌, ◌≡◌, ℕ}
use Rattle.std.specs.Cmp.Lexicographic.{pointwise}
use Rattle.std.specs.Prelude.{All, IfSome, find, if◌then◌else◌, is_some, length, nat_eq, option_map}
use Rattle.std.proofs.lemmas.List.Elements.{All-head, All-tail}
use Rattle.std.proofs.lemmas.Slice.Eq.{bytes_eq-Decides}
use Rattle.boxes.specs.Posts.{Post}
use Rattle.dr_base.specs.declared.position.Position.{Position}
use Rattle.dr_base.specs.declared.position.Side.{Side}
use Rattle.dr_base.specs.declared.position.Side.TheVariants.{First, Second}
use Rattle.dr_model.specs.Conversations.Conversation.{is_said, positions}
use Rattle.dr_model.specs.Conversations.Posts.{post_at, posts}
use Rattle.dr_model.specs.Machines.Acts.{Act, act_on, needs_seed, said_by, saying_by, taking}
use Rattle.dr_model.specs.Machines.Draws.{after_draw, next_seed}
use Rattle.dr_model.specs.Machines.Events.{Event, PacketSource, SideCall, cuts, does, of_bytes, of_flip, of_number, of_position, says, seeds, shows_awaiting, shows_inbox, shows_state, takes}
use Rattle.dr_model.specs.Machines.Network.{flipped_at}
use Rattle.dr_model.specs.Machines.Sides.{Sides, act_of, acted_on, called_on, client_of, draw_for, said_on, saying_on, step_on}
use Rattle.dr_model.specs.Machines.Steps.{Step, has_effect, settled}
use Rattle.dr_model.specs.Machines.Worlds.{World, called_in, made_at, nth_of_peer, step_of, taking_given, taking_made, taking_of}
use Rattle.dr_model.specs.Machines.WorldSides.{sides_of}
use Rattle.dr_model.specs.Theorems.LawfulWorlds.{IsLawfulWorld}
use Rattle.dr_model.proofs.Acting.Keeping.{settled_kept}
use Rattle.dr_model.proofs.Growth.Growing.{positions-said}
use Rattle.dr_model.proofs.Saying.SayingLawful.{length-next_seed}
use Rattle.dr_model.proofs.Taking.NetworkPosts.{held_at-posts, held_nth-posts}
use Rattle.dr_model.proofs.Worlds.CallKinds.{nth_said}
use Rattle.dr_model.proofs.Worlds.WorldViews.{client_of-kept}
use Rattle.kem_laws.specs.Mechanism.{Mechanism}
use Rattle.session_model.specs.Contents.{Content}
use Rattle.session_model.specs.Clients.{Client, SaidText, say_check, say_on}
use Rattle.session_model.specs.declared.answer.Refusal.{Refusal}
use Rattle.scripts.specs.Sides.{acting_side}
use Rattle.duet.specs.Shuts.{act_of_event}
use Rattle.duet.proofs.Moving.{drawn_same}
use Rattle.duet.proofs.SaidBoxes.{IsHeldBack, IsSaidPacket}
use Rattle.duet.proofs.SeenBeside.{left_in}
use Rattle.duet.proofs.Showing.{uncut}

-- ---- where it leads

abbrev left_on : Mechanism → Sides → Side → Option Act → Client
left_on k s side None = client_of s side
left_on k s side (Some act) = (settled (client_of s side) (act_on k (client_of s side) act)).next

said_next : (s : Sides) (side : Side) (r : Result SaidText Refusal)
    → (settled (client_of s side) (said_by r)).next ≡ client_of (said_on s side r).next side
said_next s First (Ok said) = refl
said_next s Second (Ok said) = refl
said_next s side (Err refusal) = refl

saying_leads : (k : Mechanism) (s : Sides) (side : Side) (content : Content) (r : Result Bool Refusal)
    → (settled (client_of s side) (saying_by k (client_of s side) content (draw_for s r) r)).next
    ≡ client_of (saying_on k s side content r).next side
saying_leads k s side content (Err refusal) = refl
saying_leads k s side content (Ok false) = said_next s side (say_on k (client_of s side) content [])
saying_leads k s side content (Ok true) =
    let said = say_on k (client_of s side) content (next_seed s.key s.draws) in
    ap (λ (c : Client). (settled c (said_by said)).next) (sym (drawn_same s side (after_draw s.draws)))
    ∙ said_next (record s { draws = after_draw s.draws }) side said

acted_leads : (k : Mechanism) (s : Sides) (side : Side) (act : Option Act)
    → left_on k s side act ≡ client_of (acted_on k s side act).next side
acted_leads k s side None = refl
acted_leads k s side (Some act) =
    sym (ap (λ (made : Step Client). made.next) (settled_kept s side (act_on k (client_of s side) act)))

called_leads : (k : Mechanism) (s : Sides) (side : Side) (call : SideCall)
    → left_on k s side (act_of s side call) ≡ client_of (called_on k s side call).next side
called_leads k s side (says content) = saying_leads k s side content (say_check (client_of s side) content)
called_leads k s side call = acted_leads k s side (act_of s side call)

leads_on : (k : Mechanism) (s : Sides) (event : Event) → has_effect (step_on k s event).answer ≡ true
    → left_on k s (acting_side event) (act_of_event s event) ≡ client_of (step_on k s event).next (acting_side event)
leads_on k s (seeds seed) effect = refl
leads_on k s (does side call) effect = called_leads k s side call
leads_on k s (shows_inbox side) effect = refl
leads_on k s (shows_awaiting side) effect = refl
leads_on k s (shows_state side) effect = refl
leads_on k s (cuts took event) effect =
    let made = step_on k s event in
    absurd (uncut k s (record s { draws = made.next.draws }) took made (has_effect made.answer) refl effect)

left_seen : (k : Mechanism) (w : World) (side : Side) (left : Option Act) → left_on k (sides_of k w) side left ≡ left_in k w side left
left_seen k w side None = client_of-kept k w side
left_seen k w side (Some act) = ap (λ (c : Client). (settled c (act_on k c act)).next) (client_of-kept k w side)

-- in a world, by what both sides make of it
pub leads : (k : Mechanism) (w : World) (event : Event) (next : Client) → has_effect (step_on k (sides_of k w) event).answer ≡ true
    → client_of (step_on k (sides_of k w) event).next (acting_side event) ≡ next
    → left_in k w (acting_side event) (act_of_event (sides_of k w) event) ≡ next
leads k w event next effect is =
    sym (left_seen k w (acting_side event) (act_of_event (sides_of k w) event)) ∙ leads_on k (sides_of k w) event effect ∙ is

-- ---- what the side can do

module _ (k : Mechanism) (w : World) (side : Side) where
  needs_draw : (s : Sides) (r : Result Bool Refusal) → is_some (draw_for s r) ≡ needs_seed r
  needs_draw s (Ok true) = refl
  needs_draw s (Ok false) = refl
  needs_draw s (Err refusal) = refl

  draw_whole : (r : Result Bool Refusal) → IsLawfulWorld k w → IfSome (draw_for (sides_of k w) r) (λ seed. length seed ≡ 32)
  draw_whole (Ok true) lawful = length-next_seed w.conversation.key w.draws lawful.given
  draw_whole (Ok false) lawful = tt
  draw_whole (Err refusal) lawful = tt

  -- the packets that the network holds were said
  at_held : (p : Position) (b : Bool) → is_said w.conversation p ≡ b
      → IfSome (option_map taking (option_map (λ q. (post_at k w.conversation q).packet) (if b then Some p else None))) (IsHeldBack k w side)
  at_held p true said = record { position = p; said = said; same = refl }
  at_held p false said = tt

  nth_held : (o : Option Position) → IfSome o (λ p. is_said w.conversation p ≡ true)
      → IfSome (option_map taking (option_map (λ q. (post_at k w.conversation q).packet) o)) (IsHeldBack k w side)
  nth_held None said = tt
  nth_held (Some p) said = record { position = p; said = said; same = refl }

  -- bytes that are found among them were said too
  module _ (bytes : List ℕ) where
    found_said : (ps : List Position) → All (λ p. is_said w.conversation p ≡ true) ps
        → IfSome (find (λ post. pointwise nat_eq post.packet bytes) (map (post_at k w.conversation) ps)) (λ _. IsSaidPacket k w bytes)
    found_said [] said = tt
    found_said (p ∷ ps) said =
        let Said : Position → Type 0 = λ q. is_said w.conversation q ≡ true in
        by_test (pointwise nat_eq (post_at k w.conversation p).packet bytes) refl (All-head Said p ps said)
        (found_said ps (All-tail Said p ps said))
      where
        by_test : (b : Bool) → pointwise nat_eq (post_at k w.conversation p).packet bytes ≡ b → is_said w.conversation p ≡ true
            → IfSome (find (λ post. pointwise nat_eq post.packet bytes) (map (post_at k w.conversation) ps)) (λ _. IsSaidPacket k w bytes)
            → IfSome (if b then Some (post_at k w.conversation p) else find (λ post. pointwise nat_eq post.packet bytes) (map (post_at k w.conversation) ps)) (λ _. IsSaidPacket k w bytes)
        by_test true same is later =
            record { position = p; said = is; same = sym ((bytes_eq-Decides (post_at k w.conversation p).packet bytes).0 same) }
        by_test false same is later = later

    by_place : (o : Option Post) (p : Position) → IfSome o (λ _. IsSaidPacket k w bytes)
        → option_map (λ (post : Post). post.position) o ≡ Some p → IsSaidPacket k w bytes
    by_place None p said is = absurd (let e : None ≡ Some p = is in cc)
    by_place (Some post) p said is = said

    made_held : (o : Option Position) → made_at k w bytes ≡ o → has_effect (settled w (taking_made k w side bytes o)).answer ≡ true
        → IsSaidPacket k w bytes
    made_held None made effect = absurd (let e : false ≡ true = effect in cc)
    made_held (Some p) made effect =
        by_place (find (λ post. pointwise nat_eq post.packet bytes) (posts k w.conversation)) p
        (found_said (positions w.conversation) (positions-said w.conversation)) made

  given_held : (given : Option (List ℕ)) → has_effect (taking_given k w side given).answer ≡ true
      → IfSome (option_map taking given) (IsHeldBack k w side)
  given_held None effect = tt
  given_held (Some bytes) effect = made_held bytes (made_at k w bytes) refl effect

-- a packet that had an effect was said
source_held : (k : Mechanism) (w : World) (side : Side) (source : PacketSource)
    → has_effect (taking_of k w side source).answer ≡ true
    → IfSome (act_of (sides_of k w) side (takes source)) (IsHeldBack k w side)
source_held k w side (of_position p) effect =
    subst (λ o. IfSome (option_map taking o) (IsHeldBack k w side)) (sym (held_at-posts k w.conversation p))
    (at_held k w side p (is_said w.conversation p) refl)
source_held k w side (of_number nth) effect =
    subst (λ o. IfSome (option_map taking o) (IsHeldBack k w side)) (sym (held_nth-posts k w.conversation side nth))
    (nth_held k w side (nth_of_peer w.conversation side nth) (nth_said w.conversation side nth))
source_held k w side (of_flip p bit) effect = given_held k w side (flipped_at (posts k w.conversation) p bit) effect
source_held k w side (of_bytes bytes) effect = given_held k w side (Some bytes) effect

call_held : (k : Mechanism) (w : World) (side : Side) (call : SideCall) → IsLawfulWorld k w
    → has_effect (called_in k w side call).answer ≡ true
    → IfSome (act_of (sides_of k w) side call) (IsHeldBack k w side)
call_held k w side (says content) lawful effect =
    let check = say_check (client_of (sides_of k w) side) content in (
      needs_draw k w side (sides_of k w) check ∙ ap (λ (c : Client). needs_seed (say_check c content)) (client_of-kept k w side),
      draw_whole k w side check lawful,
    )
call_held k w side (takes source) lawful effect = source_held k w side source effect
call_held k w side call lawful effect = tt

-- an event that took effect is an act that its side can do
pub held_back : (k : Mechanism) (w : World) (event : Event) → IsLawfulWorld k w → has_effect (step_of k w event).answer ≡ true
    → IfSome (act_of_event (sides_of k w) event) (IsHeldBack k w (acting_side event))
held_back k w (does side call) lawful effect = call_held k w side call lawful effect
held_back k w event lawful effect = tt
