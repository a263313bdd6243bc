-- Both sides, of which one opens again.
use Rattle.std.proofs.Common.{None, Option, Some, List, ap, subst, sym, ℕ, ◌≡◌}
use Rattle.std.specs.Prelude.{IfSome}
use Rattle.boxes.specs.Posts.{Post}
use Rattle.dr_base.specs.declared.position.Side.{Side}
use Rattle.dr_base.specs.declared.position.Side.TheVariants.{First, Second}
use Rattle.dr_model.specs.Machines.Draws.{Draws}
use Rattle.dr_model.specs.Machines.Sides.{with_client}
use Rattle.relay_core.specs.Boxes.{Box}
use Rattle.session_model.specs.Clients.{Client}
use Rattle.duet.specs.Held.{DuetNow, duet_now}
use Rattle.parties.specs.Shuts.{PartyNow, Shut, open_party}
use Rattle.duet.specs.Shuts.{shut_of, with_shut}

-- the side opens to what was left of it
abbrev pub OpensSide : DuetNow → Side → DuetNow → Type 0
OpensSide old side new =
    IfSome (shut_of old.shuts side) (λ shut. new
    ≡ record old {
      sides = with_client old.sides side shut.left;
      shuts = with_shut old.shuts side None;
    })

module _ (key : List ℕ) (posts : List Post) (draws : Draws) (boxes : List Box) (room : ℕ) where
  abbrev Now : PartyNow → PartyNow → DuetNow
  Now first second = duet_now key first second posts draws boxes room

  with_first : (first second opened : PartyNow) (left : Option (Shut Client))
      → IfSome left (λ shut. opened ≡ open_party shut.left)
      → IfSome left (λ shut. Now opened second ≡ Now (open_party shut.left) second)
  with_first first second opened None is = is
  with_first first second opened (Some shut) is = ap (λ p. Now p second) is

  with_second : (first second opened : PartyNow) (left : Option (Shut Client))
      → IfSome left (λ shut. opened ≡ open_party shut.left)
      → IfSome left (λ shut. Now first opened ≡ Now first (open_party shut.left))
  with_second first second opened None is = is
  with_second first second opened (Some shut) is = ap (λ p. Now first p) is

  module _ (old : DuetNow) (side : Side) (first second opened : PartyNow) (closed pair : PartyNow × PartyNow)
      (view : Now first second ≡ old) (opens : IfSome closed.0.shut (λ shut. opened ≡ open_party shut.left)) where
    pub opens_first : side ≡ First → closed ≡ (first, second) → pair ≡ (opened, closed.1)
        → OpensSide old side (Now pair.0 pair.1)
    opens_first own parties both =
        subst (λ (o : DuetNow). OpensSide o side (Now pair.0 pair.1)) view
        (subst (λ (s : Side). OpensSide (Now first second) s (Now pair.0 pair.1)) (sym own)
        (subst (λ (q : PartyNow × PartyNow). OpensSide (Now first second) First (Now q.0 q.1)) (sym both)
        (subst (λ (q : PartyNow × PartyNow). OpensSide (Now q.0 q.1) First (Now opened closed.1)) parties
        (with_first closed.0 closed.1 opened closed.0.shut opens))))

    pub opens_second : side ≡ Second → closed ≡ (second, first) → pair ≡ (closed.1, opened)
        → OpensSide old side (Now pair.0 pair.1)
    opens_second own parties both =
        subst (λ (o : DuetNow). OpensSide o side (Now pair.0 pair.1)) view
        (subst (λ (s : Side). OpensSide (Now first second) s (Now pair.0 pair.1)) (sym own)
        (subst (λ (q : PartyNow × PartyNow). OpensSide (Now first second) Second (Now q.0 q.1)) (sym both)
        (subst (λ (q : PartyNow × PartyNow). OpensSide (Now q.1 q.0) Second (Now closed.1 opened)) parties
        (with_second closed.1 closed.0 opened closed.0.shut opens))))
