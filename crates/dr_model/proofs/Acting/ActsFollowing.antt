-- What a side makes of an act is what the machine does.
use Rattle.std.proofs.Common.{◌≡◌, ℕ, true, List, length, Option, Some, None, refl, sym, ◌∙◌, ap}
use Rattle.std.specs.Prelude.{is_some}
use Rattle.dr_base.specs.Position.{peer_of}
use Rattle.dr_base.specs.declared.position.Side.{Side}
use Rattle.dr_base.specs.declared.position.Side.TheVariants.{First, Second}
use Rattle.kem_laws.specs.Mechanism.{IsLawfulMechanism, Mechanism}
use Rattle.session_model.specs.Clients.{Client, say_check}
use Rattle.session_model.specs.Contents.{Content}
use Rattle.session_model.specs.declared.answer.Which.{Which}
use Rattle.session_model.specs.declared.answer.Which.TheVariants.{OfId, Oldest}
use Rattle.dr_model.specs.Machines.Acts.{Act, act_on, dropping, needs_seed, saying, taking}
use Rattle.dr_model.specs.Machines.Sides.{Sides, called_on, client_of, settled_on, step_on}
use Rattle.dr_model.specs.Machines.Steps.{Step, settled}
use Rattle.dr_model.specs.Machines.WorldActs.{act_in, drop_call, event_of, kept_by, with_draw, world_for}
use Rattle.dr_model.specs.Machines.WorldSides.{kept_in, sides_of}
use Rattle.dr_model.specs.Machines.Worlds.{World}
use Rattle.dr_model.specs.Theorems.Acting.{IsDrawn, IsFairAct}
use Rattle.dr_model.specs.Theorems.Fairness.{IsFair, IsUnforgedCall}
use Rattle.dr_model.specs.Theorems.LawfulWorlds.{IsLawfulWorld}
use Rattle.dr_model.proofs.Acting.Keeping.{Leaves, kept_on, saying_kept, saying_leaves, settled_kept, settled_leaves}
use Rattle.dr_model.proofs.Saying.SayingChecks.{same_check}
use Rattle.dr_model.proofs.Worlds.Following.{step_follows}
use Rattle.dr_model.proofs.Worlds.LawfulWorlds.{lawful_next}
use Rattle.dr_model.proofs.Worlds.WorldViews.{client_of-kept}

-- ---- the event of an act

-- with the draw for it the world is lawful
lawful_draw : (k : Mechanism) (w : World) (side : Side) (content : Content) (draw : Option (List ℕ)) → IsLawfulWorld k w
    → IsDrawn k w side content draw → IsLawfulWorld k (with_draw w draw)
lawful_draw k w side content None lawful drawn = lawful
lawful_draw k w side content (Some seed) lawful drawn = record {
  conversation = lawful.conversation;
  first = lawful.first;
  second = lawful.second;
  given = drawn.whole;
}

pub lawful_for : (k : Mechanism) (w : World) (side : Side) (act : Act) → IsLawfulWorld k w → IsFairAct k w side act
    → IsLawfulWorld k (world_for w act)
lawful_for k w side (saying content draw) lawful fair = lawful_draw k w side content draw lawful fair
lawful_for k w side act lawful fair = lawful

-- the call by which items leave makes up no bytes
drop_unforged : (k : Mechanism) (w : World) (side : Side) (which : Which) → IsUnforgedCall k w side (drop_call which)
drop_unforged k w side (Oldest items n) = tt
drop_unforged k w side (OfId id) = tt

-- and both sides make of it what the one does by itself
pub drop_called : (k : Mechanism) (s : Sides) (side : Side) (which : Which)
    → called_on k s side (drop_call which) ≡ settled_on s side (act_on k (client_of s side) (dropping which))
drop_called k s side (Oldest items n) = refl
drop_called k s side (OfId id) = refl

-- so the event is fair
pub fair_event : (k : Mechanism) (w : World) (side : Side) (act : Act) → IsFairAct k w side act
    → IsFair k (world_for w act) (event_of side act)
fair_event k w side (saying content draw) fair = record { unforged = tt; whole = tt }
fair_event k w side (taking bytes) fair = record { unforged = fair; whole = tt }
fair_event k w side (dropping which) fair = record { unforged = drop_unforged k w side which; whole = tt }

pub lawful_act : (k : Mechanism) (w : World) (side : Side) (act : Act) → IsLawfulWorld k w → IsFairAct k w side act
    → IsLawfulWorld k (act_in k w side act).next
lawful_act k w side act lawful fair =
    lawful_next k (world_for w act) (event_of side act) (lawful_for k w side act lawful fair) (fair_event k w side act fair).whole

-- ---- what a side keeps

-- whatever was drawn
draw_keeps : (k : Mechanism) (w : World) (side : Side) (draw : Option (List ℕ))
    → kept_in k (with_draw w draw) side ≡ kept_in k w side
draw_keeps k w side None = refl
draw_keeps k w First (Some seed) = refl
draw_keeps k w Second (Some seed) = refl

pub act_keeps : (k : Mechanism) (w : World) (side : Side) (act : Act)
    → client_of (sides_of k (world_for w act)) side ≡ kept_in k w side
act_keeps k w side (saying content draw) = client_of-kept k (with_draw w draw) side ∙ draw_keeps k w side draw
act_keeps k w side act = client_of-kept k w side

-- the draw is the next one
pub draw_given : (k : Mechanism) (w : World) (draw : Option (List ℕ)) → is_some draw ≡ true
    → (sides_of k (with_draw w draw)).draws.given ≡ draw
draw_given k w (Some seed) some = refl
draw_given k w None some = cc

-- whether a text needs a seed doesn't depend on it
pub same_need : (k : Mechanism) (w : World) (side : Side) (content : Content) (draw : Option (List ℕ)) → IsLawfulWorld k w
    → IsDrawn k w side content draw
    → is_some draw ≡ needs_seed (say_check (client_of (sides_of k (with_draw w draw)) side) content)
same_need k w side content draw lawful drawn =
    drawn.needed ∙ sym (ap needs_seed (same_check k w side content lawful))
    ∙ sym (ap (λ (client : Client). needs_seed (say_check client content))
    (client_of-kept k (with_draw w draw) side ∙ draw_keeps k w side draw ∙ sym (client_of-kept k w side)))

-- what the side makes of the event
acted : (k : Mechanism) (w : World) (side : Side) (act : Act) → IsLawfulWorld k w → IsFairAct k w side act
    → kept_on side (step_on k (sides_of k (world_for w act)) (event_of side act))
    ≡ settled (client_of (sides_of k (world_for w act)) side) (act_on k (client_of (sides_of k (world_for w act)) side) act)
acted k w side (saying content draw) lawful fair =
    let s = sides_of k (with_draw w draw) in
    saying_kept k s side content draw (say_check (client_of s side) content)
    (same_need k w side content draw lawful fair) (draw_given k w draw)
acted k w side (taking bytes) lawful fair =
    settled_kept (sides_of k w) side (act_on k (client_of (sides_of k w) side) (taking bytes))
acted k w side (dropping which) lawful fair =
    let s = sides_of k w in
    ap (kept_on side) (drop_called k s side which) ∙ settled_kept s side (act_on k (client_of s side) (dropping which))

pub act_follows : (k : Mechanism) (w : World) (side : Side) (act : Act) → IsLawfulMechanism k → IsLawfulWorld k w
    → IsFairAct k w side act
    → settled (kept_in k w side) (act_on k (kept_in k w side) act) ≡ kept_by k side (act_in k w side act)
act_follows k w side act law lawful fair =
    sym (ap (λ (client : Client). settled client (act_on k client act)) (act_keeps k w side act))
    ∙ sym (acted k w side act lawful fair)
    ∙ ap (kept_on side) (step_follows k (world_for w act) (event_of side act) law (lawful_for k w side act lawful fair)
    (fair_event k w side act fair))
    ∙ ap (λ (client : Client). record {
      answer = (act_in k w side act).answer;
      shown = (act_in k w side act).shown;
      next = client;
    })
    (client_of-kept k (act_in k w side act).next side)

-- ---- what the other side keeps

event_leaves : (k : Mechanism) (s : Sides) (side : Side) (act : Act) → Leaves side s (step_on k s (event_of side act))
event_leaves k s side (saying content draw) = saying_leaves k s side content (say_check (client_of s side) content)
event_leaves k s side (taking bytes) = settled_leaves s side (act_on k (client_of s side) (taking bytes))
event_leaves k s side (dropping which) =
    ap (λ (made : Step Sides). client_of made.next (peer_of side)) (drop_called k s side which)
    ∙ settled_leaves s side (act_on k (client_of s side) (dropping which))

pub act_leaves : (k : Mechanism) (w : World) (side : Side) (act : Act) → IsLawfulMechanism k → IsLawfulWorld k w
    → IsFairAct k w side act
    → kept_in k (act_in k w side act).next (peer_of side) ≡ kept_in k w (peer_of side)
act_leaves k w side act law lawful fair =
    sym (client_of-kept k (act_in k w side act).next (peer_of side))
    ∙ sym (ap (λ (made : Step Sides). client_of made.next (peer_of side))
    (step_follows k (world_for w act) (event_of side act) law (lawful_for k w side act lawful fair)
    (fair_event k w side act fair)))
    ∙ event_leaves k (sides_of k (world_for w act)) side act
    ∙ act_keeps k w (peer_of side) act
