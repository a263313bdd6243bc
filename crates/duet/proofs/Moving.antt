-- Whose client moves, and whose stays as it is.
use Rattle.std.proofs.Common.{Bool, None, Option, Some, ap, false, if◌then◌else◌, refl, sym, true, ◌∙◌, ◌≡◌}
use Rattle.std.specs.Prelude.{IfSome}
use Rattle.dr_base.specs.Position.{peer_of}
use Rattle.dr_base.specs.declared.position.Side.{Side}
use Rattle.dr_base.specs.declared.position.Side.TheVariants.{First, Second}
use Rattle.dr_model.specs.Machines.Draws.{Draws}
use Rattle.dr_model.specs.Machines.Events.{Event, SideCall, cuts, does, says, seeds, shows_awaiting, shows_inbox, shows_state}
use Rattle.dr_model.specs.Machines.Sides.{Sides, act_of, acted_on, called_on, client_of, step_on}
use Rattle.dr_model.specs.Machines.Steps.{Step, has_effect, step}
use Rattle.dr_model.specs.Machines.Worlds.{World, step_of}
use Rattle.dr_model.specs.Machines.WorldSides.{kept_in, sides_of}
use Rattle.dr_model.specs.Theorems.Fairness.{IsFair}
use Rattle.dr_model.specs.Theorems.LawfulWorlds.{IsLawfulWorld}
use Rattle.dr_model.proofs.Acting.Keeping.{saying_leaves, settled_leaves}
use Rattle.dr_model.proofs.Worlds.Following.{step_follows}
use Rattle.dr_model.proofs.Worlds.WorldViews.{client_of-kept}
use Rattle.kem_laws.specs.Mechanism.{IsLawfulMechanism, Mechanism}
use Rattle.session_model.specs.Clients.{say_check}
use Rattle.session_model.specs.declared.answer.Answer.TheVariants.{Stopped}
use Rattle.scripts.specs.Sides.{acting_side}
use Rattle.duet.specs.Shuts.{Shuts, asks_open, shut_of}
use Rattle.dr_model.specs.Machines.Acts.{Act, act_on}
use Rattle.duet.proofs.SaidBoxes.{KeepsShut}

-- a side is the one or the other
pub one_of : (P : Side → Type 0) (own side : Side) → P own → P (peer_of own) → P side
one_of P First First mine others = mine
one_of P First Second mine others = others
one_of P Second First mine others = others
one_of P Second Second mine others = mine

pub if_none : {T : Type 0} (P : T → Type 0) (o : Option T) → o ≡ None → IfSome o P
if_none P None is = tt
if_none P (Some x) is = absurd (let e : Some x ≡ None = is in cc)

pub if_any : {T : Type 0} (Q : Type 0) (o : Option T) → Q → IfSome o (λ _. Q)
if_any Q None q = tt
if_any Q (Some x) q = q

-- ---- an event, on both sides

pub drawn_same : (s : Sides) (side : Side) (draws : Draws) → client_of (record s { draws = draws }) side ≡ client_of s side
drawn_same s First draws = refl
drawn_same s Second draws = refl

acted_leaves : (k : Mechanism) (s : Sides) (side : Side) (act : Option Act)
    → client_of (acted_on k s side act).next (peer_of side) ≡ client_of s (peer_of side)
acted_leaves k s side None = refl
acted_leaves k s side (Some act) = settled_leaves s side (act_on k (client_of s side) act)

called_leaves : (k : Mechanism) (s : Sides) (side : Side) (call : SideCall)
    → client_of (called_on k s side call).next (peer_of side) ≡ client_of s (peer_of side)
called_leaves k s side (says content) = saying_leaves k s side content (say_check (client_of s side) content)
called_leaves k s side call = acted_leaves k s side (act_of s side call)

cut_keeps : (s : Sides) (side : Side) (took : Bool) (made : Step Sides) (effect : Bool)
    → client_of made.next side ≡ client_of s side
    → client_of (if effect then step Stopped (if took then made.next else record s { draws = made.next.draws }) else made).next side
    ≡ client_of s side
cut_keeps s side took made false same = same
cut_keeps s side true made true same = same
cut_keeps s side false made true same = drawn_same s side made.next.draws

-- it leaves the other side's client
others_keep : (k : Mechanism) (s : Sides) (event : Event)
    → client_of (step_on k s event).next (peer_of (acting_side event)) ≡ client_of s (peer_of (acting_side event))
others_keep k s (seeds seed) = refl
others_keep k s (does side call) = called_leaves k s side call
others_keep k s (shows_inbox side) = refl
others_keep k s (shows_awaiting side) = refl
others_keep k s (shows_state side) = refl
others_keep k s (cuts took event) =
    let made = step_on k s event in
    cut_keeps s (peer_of (acting_side event)) took made (has_effect made.answer) (others_keep k s event)

-- one that asks for no open client leaves both
idle_keeps : (k : Mechanism) (s : Sides) (event : Event) (side : Side) → asks_open event ≡ false
    → client_of (step_on k s event).next side ≡ client_of s side
idle_keeps k s (seeds seed) First idle = refl
idle_keeps k s (seeds seed) Second idle = refl
idle_keeps k s (shows_inbox own) side idle = refl
idle_keeps k s (shows_state own) side idle = refl
idle_keeps k s (shows_awaiting own) side idle = cc
idle_keeps k s (does own call) side idle = cc
idle_keeps k s (cuts took event) side idle = cc

-- ---- and in a world

module _ (k : Mechanism) (w : World) (event : Event) (law : IsLawfulMechanism k) (lawful : IsLawfulWorld k w) (fair : IsFair k w event) where
  in_world : (side : Side) → client_of (step_on k (sides_of k w) event).next side ≡ client_of (sides_of k w) side
      → kept_in k (step_of k w event).next side ≡ kept_in k w side
  in_world side same =
      sym (client_of-kept k (step_of k w event).next side)
      ∙ sym (ap (λ (made : Step Sides). client_of made.next side) (step_follows k w event law lawful fair))
      ∙ same ∙ client_of-kept k w side

  abbrev Unmoved : Side → Type 0
  Unmoved side = kept_in k (step_of k w event).next side ≡ kept_in k w side

  -- the closed sides keep what they kept, where the side that moves is open
  pub keeps_shut : (shuts : Shuts (Option Act)) → (asks_open event ≡ true → shut_of shuts (acting_side event) ≡ None)
      → KeepsShut k shuts w (step_of k w event).next
  keeps_shut shuts moves = λ side. by_test (asks_open event) refl side
    where
      by_test : (b : Bool) → asks_open event ≡ b → (side : Side) → IfSome (shut_of shuts side) (λ _. Unmoved side)
      by_test false idle side = if_any (Unmoved side) (shut_of shuts side) (in_world side (idle_keeps k (sides_of k w) event side idle))
      by_test true asks side =
          let own = acting_side event in
          one_of (λ (x : Side). IfSome (shut_of shuts x) (λ _. Unmoved x)) own side
          (if_none (λ _. Unmoved own) (shut_of shuts own) (moves asks))
          (if_any (Unmoved (peer_of own)) (shut_of shuts (peer_of own)) (in_world (peer_of own) (others_keep k (sides_of k w) event)))
