-- A call in which a disk fails once, and the same in the world that both sides stand for.
use Rattle.std.proofs.Common.{Bool, List, None, Option, Some, ap, ap₂, false, if◌then◌else◌, refl, subst, sym, true, ◌∙◌, ◌≡◌, ℕ}
use Rattle.std.specs.Prelude.{IfSome, nat_le, ◌&&◌, ◌-◌}
use Rattle.dr_base.specs.Position.{peer_of}
use Rattle.dr_base.specs.declared.position.Side.{Side}
use Rattle.dr_base.specs.declared.position.Side.TheVariants.{First, Second}
use Rattle.dr_disk.specs.declared.call.Call.{Call}
use Rattle.dr_model.specs.Conversations.Conversation.{Conversation, is_said}
use Rattle.dr_model.specs.Conversations.Posts.{post_at}
use Rattle.dr_model.specs.Machines.Acts.{Act}
use Rattle.dr_model.specs.Machines.Draws.{Draws}
use Rattle.dr_model.specs.Machines.Events.{Event}
use Rattle.dr_model.specs.Machines.Sides.{Sides, client_of, step_on}
use Rattle.dr_model.specs.Machines.Steps.{Step, has_effect}
use Rattle.dr_model.specs.Machines.Worlds.{World, step_of}
use Rattle.dr_model.specs.Machines.WorldSides.{kept_in, sides_of}
use Rattle.dr_model.specs.Theorems.Fairness.{IsFair}
use Rattle.dr_model.specs.Theorems.LawfulWorlds.{IsLawfulWorld}
use Rattle.dr_model.proofs.Worlds.Following.{step_follows}
use Rattle.dr_model.proofs.Worlds.SeenWorlds.{seen_world}
use Rattle.dr_model.proofs.Worlds.WorldViews.{client_of-kept}
use Rattle.kem_laws.specs.Mechanism.{IsLawfulMechanism, Mechanism}
use Rattle.session_model.specs.Clients.{Client}
use Rattle.session_model.specs.declared.answer.Answer.{Answer}
use Rattle.client.specs.Outcomes.{replacing_call, replacing_calls}
use Rattle.scripts.specs.Sides.{acting_side}
use Rattle.duet.specs.Outcomes.{SidesPlayed, WorldBeside, acted, failed, failed_in, failed_on, lines_alone}
use Rattle.duet.specs.Replies.{failed_line, reply_of}
use Rattle.parties.specs.Shuts.{Shut, failing_call, is_shown, left_of}
use Rattle.duet.specs.Shuts.{Shuts, act_of_event, shut_of, with_shut}
use Rattle.duet.proofs.Leading.{held_back, leads}
use Rattle.duet.proofs.Moving.{one_of}
use Rattle.duet.proofs.SaidBoxes.{IsHeldBack, IsHonest, IsLeft, IsSaidPacket, KeepsShut, boxes_weaker, left_stays}
use Rattle.duet.proofs.SeenBeside.{left_in, seen_beside, seen_played, seen_same, seen_shuts}

-- ---- closed sides

pub own_shut : {L : Type 0} (shuts : Shuts L) (side : Side) (shut : Option (Shut L)) → shut_of (with_shut shuts side shut) side ≡ shut
own_shut shuts First shut = refl
own_shut shuts Second shut = refl

pub other_shut : {L : Type 0} (shuts : Shuts L) (side : Side) (shut : Option (Shut L))
    → shut_of (with_shut shuts side shut) (peer_of side) ≡ shut_of shuts (peer_of side)
other_shut shuts First shut = refl
other_shut shuts Second shut = refl

-- the world with other draws
abbrev pub redrawn : World → Draws → World
redrawn w draws = record w { draws = draws }

-- in it a side keeps the same
pub redrawn_keeps : (k : Mechanism) (w : World) (draws : Draws) (side : Side) → kept_in k (redrawn w draws) side ≡ kept_in k w side
redrawn_keeps k w draws First = refl
redrawn_keeps k w draws Second = refl

-- and the same was said in a world of the same conversation
pub said_over : (k : Mechanism) (w next : World) (packet : List ℕ) → w.conversation ≡ next.conversation → IsSaidPacket k w packet
    → IsSaidPacket k next packet
said_over k w next packet over is = record {
  position = is.position;
  said = subst (λ (c : Conversation). is_said c is.position ≡ true) over is.said;
  same = is.same ∙ ap (λ (c : Conversation). (post_at k c is.position).packet) over;
}

-- a side that is closed, as both sides see it
shut_seen : (k : Mechanism) (w : World) (draws : Draws) (shuts : Shuts (Option Act)) (side : Side) (call : Call) (left : Client)
    (act : Option Act) → left ≡ left_in k w side act
    → with_shut (seen_shuts k w shuts) side (Some (record { call = call; left = left }))
    ≡ seen_shuts k (redrawn w draws) (with_shut shuts side (Some (record { call = call; left = act })))
shut_seen k w draws shuts First call left None is =
    ap (λ (c : Client). let seen : Shuts Client = record (seen_shuts k w shuts) { first = Some (record { call = call; left = c }) } in seen) is
shut_seen k w draws shuts Second call left None is =
    ap (λ (c : Client). let seen : Shuts Client = record (seen_shuts k w shuts) { second = Some (record { call = call; left = c }) } in seen) is
shut_seen k w draws shuts First call left (Some act) is =
    ap (λ (c : Client). let seen : Shuts Client = record (seen_shuts k w shuts) { first = Some (record { call = call; left = c }) } in seen) is
shut_seen k w draws shuts Second call left (Some act) is =
    ap (λ (c : Client). let seen : Shuts Client = record (seen_shuts k w shuts) { second = Some (record { call = call; left = c }) } in seen) is

-- ---- an event that takes place

-- the lines of a step don't show where it leads
pub same_acted : (k : Mechanism) (s : WorldBeside) (event : Event) → KeepsShut k s.shuts s.ends (step_of k s.ends event).next
    → step_on k (sides_of k s.ends) event ≡ seen_world k (step_of k s.ends event)
    → acted event (seen_beside k s) (step_on k (sides_of k s.ends) event) ≡ seen_played k (acted event s (step_of k s.ends event))
unfolding reply_of
same_acted k s event keeps same =
    let made = step_of k s.ends event in
    let shown = seen_played k (acted event s made) in
    ap (acted event (seen_beside k s)) same
    ∙ ap (λ (shuts : Shuts Client). let played : SidesPlayed = record shown { next = record shown.next { shuts = shuts } } in played)
    (sym (seen_same k s.ends made.next s.shuts keeps))

-- ---- a call that fails

-- it took effect
took_effect : (n : ℕ) (answer : Answer) (before after : Client) (call : Call) → failing_call n answer before after ≡ Some call
    → has_effect answer ≡ true
unfolding failing_call
took_effect n answer before after call is = by_test (has_effect answer) is
  where
    by_test : (b : Bool)
        → (if b && nat_le n (replacing_calls before after) then Some (replacing_call before after (n - 1)) else None) ≡ Some call
        → b ≡ true
    by_test true same = refl
    by_test false same = cc

module _ (k : Mechanism) (s : WorldBeside) (n : ℕ) (event : Event) (law : IsLawfulMechanism k) (lawful : IsLawfulWorld k s.ends)
    (fair : IsFair k s.ends event) where
  abbrev w : World
  w = s.ends

  abbrev side : Side
  side = acting_side event

  abbrev seen : Sides
  seen = sides_of k w

  abbrev made : Step World
  made = step_of k w event

  abbrev before : Client
  before = kept_in k w side

  abbrev after : Client
  after = kept_in k made.next side

  abbrev next_left : Option Act
  next_left = left_of n before after (act_of_event seen event) None

  abbrev shut_world : Call → WorldBeside
  shut_world call = record s {
    ends = redrawn w made.next.draws;
    shuts = with_shut s.shuts side (Some (record { call = call; left = next_left }));
  }

  follows : step_on k seen event ≡ seen_world k made
  follows = step_follows k w event law lawful fair

  -- what the next opening finds
  left_alike : has_effect made.answer ≡ true → left_of n before after after before ≡ left_in k w side next_left
  left_alike effect = by_test (is_shown n before after)
    where
      leading : left_in k w side (act_of_event seen event) ≡ after
      leading =
          leads k w event after (ap (λ (m : Step Sides). has_effect m.answer) follows ∙ effect)
          (ap (λ (m : Step Sides). client_of m.next side) follows ∙ client_of-kept k made.next side)

      by_test : (b : Bool) → (if b then after else before) ≡ left_in k w side (if b then act_of_event seen event else None)
      by_test true = sym leading
      by_test false = refl

  abbrev played_on : Step Sides → Client → Client → SidesPlayed
  played_on step old new =
      failed event (seen_beside k s) step (record seen { draws = step.next.draws }) (left_of n old new new old)
      (failing_call n step.answer old new)

  alike : (fault : Option Call) → failing_call n made.answer before after ≡ fault → KeepsShut k s.shuts w made.next
      → failed event (seen_beside k s) (seen_world k made) (record seen { draws = made.next.draws }) (left_of n before after after before) fault
      ≡ seen_played k (failed event s made (redrawn w made.next.draws) next_left fault)
  alike None is keeps = ap (acted event (seen_beside k s)) (sym follows) ∙ same_acted k s event keeps follows
  alike (Some call) is keeps =
      ap (λ (shuts : Shuts Client). let played : SidesPlayed = lines_alone (failed_line side call)
      (record (seen_beside k s) { ends = record seen { draws = made.next.draws }; shuts = shuts }) in played)
      (shut_seen k w made.next.draws s.shuts side call (left_of n before after after before) next_left
      (left_alike (took_effect n made.answer before after call is)))

  pub fails_follow : KeepsShut k s.shuts w made.next → failed_on k (seen_beside k s) n event ≡ seen_played k (failed_in k s n event)
  fails_follow keeps =
      ap (λ (m : Step Sides). played_on m (client_of seen side) (client_of m.next side)) follows
      ∙ ap₂ (played_on (seen_world k made)) (client_of-kept k w side) (client_of-kept k made.next side)
      ∙ alike (failing_call n made.answer before after) refl keeps

  -- ---- and what stands then is honest

  closed_honest : IsHonest k s → (whole : IsHonest k (record s { ends = made.next })) → (call : Call) → has_effect made.answer ≡ true
      → IsHonest k (shut_world call)
  closed_honest honest whole call effect =
      let next = redrawn w made.next.draws in
      let said : (packet : List ℕ) → IsSaidPacket k w packet → IsSaidPacket k next packet = λ packet. said_over k w next packet refl in
      let shut : Shut (Option Act) = record { call = call; left = next_left } in record {
        lawful = record {
          conversation = lawful.conversation;
          first = lawful.first;
          second = lawful.second;
          given = whole.lawful.given;
        };
        boxes = boxes_weaker (IsSaidPacket k w) (IsSaidPacket k next) said s.boxes honest.boxes;
        shuts = λ x.
            one_of (λ (y : Side). IfSome (shut_of (with_shut s.shuts side (Some shut)) y) (IsLeft k next y)) side x
            (subst (λ o. IfSome o (IsLeft k next side)) (sym (own_shut s.shuts side (Some shut)))
            (left_stays k w next side said (Some shut) (redrawn_keeps k w made.next.draws side) own))
            (subst (λ o. IfSome o (IsLeft k next (peer_of side))) (sym (other_shut s.shuts side (Some shut)))
            (left_stays k w next (peer_of side) said (shut_of s.shuts (peer_of side)) (keeps_any (shut_of s.shuts (peer_of side)))
            (honest.shuts (peer_of side))));
      }
    where
      keeps_any : (o : Option (Shut (Option Act)))
          → IfSome o (λ _. kept_in k (redrawn w made.next.draws) (peer_of side) ≡ kept_in k w (peer_of side))
      keeps_any None = tt
      keeps_any (Some x) = redrawn_keeps k w made.next.draws (peer_of side)

      own : IfSome next_left (IsHeldBack k w side)
      own = by_test (is_shown n before after)
        where
          by_test : (b : Bool) → IfSome (if b then act_of_event seen event else None) (IsHeldBack k w side)
          by_test true = held_back k w event lawful effect
          by_test false = tt

  stays_honest : IsHonest k s → IsHonest k (record s { ends = made.next }) → (fault : Option Call)
      → failing_call n made.answer before after ≡ fault
      → IsHonest k (failed event s made (redrawn w made.next.draws) next_left fault).next
  stays_honest honest whole None is = whole
  stays_honest honest whole (Some call) is = closed_honest honest whole call (took_effect n made.answer before after call is)

  pub fails_honest : IsHonest k s → IsHonest k (record s { ends = made.next }) → IsHonest k (failed_in k s n event).next
  fails_honest honest whole = stays_honest honest whole (failing_call n made.answer before after) refl
