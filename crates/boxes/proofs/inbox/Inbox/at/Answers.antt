use Rattle.std.proofs.Common.{◌≡◌, ℕ, false, true, None, Some, refl, ap, ap₂, ◌∙◌, arith}
use Rattle.boxes.specs.Entries.{as_entry, entry_with}
use Rattle.dr_base.specs.declared.position.Position.{Position}
use Rattle.boxes.proofs.Shown.{shown-at, shown-length}
use Rattle.boxes.proofs.inbox.Inbox.at.Goals as goal

pub returns-in-Some-clause-variant : goal.returns-in-Some-clause-variant
returns-in-Some-clause-variant c =
    (λ _. omega (arith, c.in-Some.ensures.variant.0 refl, shown-length as_entry c.self.inside.row c.args.self.now c.self.view_is), λ _. refl)

pub returns-in-Some-clause-entry : goal.returns-in-Some-clause-entry
returns-in-Some-clause-entry c =
    ap Some (ap₂ (λ (p : Position) (k : ℕ). entry_with p k c.bytes.result.now) c.position.ensures c.kind.ensures ∙ ap (entry_with c.in-Some.stored.now.position c.in-Some.stored.now.kind) c.bytes.ensures.value)
    ∙ shown-at as_entry c.self.inside.row c.args.self.now c.args.at (Some c.in-Some.stored.now) c.self.view_is c.in-Some.ensures.item

pub returns-in-None-clause-variant : goal.returns-in-None-clause-variant
returns-in-None-clause-variant c = (
  λ (e : false ≡ true). cc,
  λ lt. c.in-None.ensures.variant.1 (omega (arith, shown-length as_entry c.self.inside.row c.args.self.now c.self.view_is)),
)

pub returns-in-None-clause-entry : goal.returns-in-None-clause-entry
returns-in-None-clause-entry c =
    shown-at as_entry c.self.inside.row c.args.self.now c.args.at None c.self.view_is c.in-None.ensures.item
