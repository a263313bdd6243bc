-- The receipts that pass the tests of their reader, position by position.
use Rattle.std.proofs.Common.{◌≡◌, ℕ, ◌^◌, ◌<◌, true, List, length, Option, Some, None}
use Rattle.dr_base.specs.Position.{is_own, position_at}
use Rattle.dr_base.specs.declared.position.Position.{Position}
use Rattle.dr_base.specs.declared.position.Side.{Side}
use Rattle.grammar.specs.Printer.{AreItems}
use Rattle.bodies.specs.Lawful.{FitsFields}
use Rattle.bodies.specs.Receipts.{Receipt, is_listed, last_in, at_most}
use Rattle.dr_base.specs.declared.limits.TheConstants.{RECEIPT_LIMIT}

abbrev pub of_place : Position → ℕ × ℕ
of_place p = (p.epoch, p.index)

pub record PassesListed (side : Side) (bound : Position) (before : List Position) (p : Position) : Type 0 where
  pub test : is_listed side bound (last_in (position_at 0 0) before) (of_place p) ≡ true
  pub fits : FitsFields p

pub record PassesReceipt (side : Side) (r : Receipt) : Type 0 where
  pub own : is_own side r.bound.epoch ≡ true
  pub fits : FitsFields r.bound
  pub count : (length r.listed < 2 ^ 8) × (at_most RECEIPT_LIMIT (length r.listed) ≡ true)
  pub items : AreItems (PassesListed side r.bound) (length r.listed) r.listed

abbrev pub PassesOrNone : Side → Option Receipt → Type 0
PassesOrNone side None = Unit {0}
PassesOrNone side (Some r) = PassesReceipt side r
