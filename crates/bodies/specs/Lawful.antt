-- The bodies that a packet of a version may have, and what a receipt says.
use Rattle.std.specs.Prelude.{◌≡◌, ◌≢◌, ℕ, ◌<◌, ◌^◌, ◌≤◌, ⊤, true, false, List, length, AllPairs, All, Option, Some, None}
use Rattle.std.specs.List.{list_any}
use Rattle.dr_base.specs.Position.{IsBefore, IsUpTo, is_at, is_own}
use Rattle.dr_base.specs.declared.limits.TheConstants.{PLAIN, RECEIPTS, RECEIPT_LIMIT}
use Rattle.dr_base.specs.declared.position.Position.{Position}
use Rattle.dr_base.specs.declared.position.Side.{Side}
use Rattle.bodies.specs.Bodies.{Body}
use Rattle.bodies.specs.Receipts.{Receipt}
use Rattle.boxes.specs.Parts.{is_content}
use Rattle.boxes.specs.declared.kinds.TheConstants.{TEXT_KIND}

-- its numbers fit their fields
pub record FitsFields (p : Position) : Type 0 where
  pub epoch : p.epoch < 2 ^ 32
  pub index : p.index < 2 ^ 32

-- a position of a side's, from index 1 on, up to a bound
pub record IsListed (side : Side) (bound p : Position) : Type 0 where
  pub own : is_own side p.epoch ≡ true
  pub from_one : 1 ≤ p.index
  pub up_to : IsUpTo bound p
  pub fits : FitsFields p

-- positions of a side's, in their order, up to a bound in one of the side's epochs
pub record AreListed (side : Side) (bound : Position) (list : List Position) : Type 0 where
  pub own : is_own side bound.epoch ≡ true
  pub fits : FitsFields bound
  pub each : All (IsListed side bound) list
  pub ascending : AllPairs IsBefore list

-- a receipt that a side may open: it lists few of the side's positions
pub record IsLawfulReceipt (side : Side) (r : Receipt) : Type 0 where
  pub few : length r.listed ≤ RECEIPT_LIMIT
  pub listed : AreListed side r.bound r.listed

abbrev pub IsReceiptOrNone : Side → Option Receipt → Type 0
IsReceiptOrNone side None = ⊤
IsReceiptOrNone side (Some r) = IsLawfulReceipt side r

-- A body that a side may open: a content of a kind, and a receipt for that side or none. Of a
-- plain text nothing is asked: the packet's own grammar bounds what it seals.
pub record IsLawfulBody (version : ℕ) (side : Side) (body : Body) : Type 0 where
  pub receipt : IsReceiptOrNone side body.receipt
  -- only packets with receipts have one, and another kind than a text
  pub alone : version ≢ RECEIPTS → body.receipt ≡ None
  pub kind : version ≢ RECEIPTS → body.kind ≡ TEXT_KIND
  pub content : version ≢ PLAIN → is_content body.kind body.content ≡ true

-- what a receipt says of a position p, where its sender has read a side's texts up to a position,
-- and misses some: p is one of that side's, up to there, and its text isn't missing
pub record IsOpenedAt (side : Side) (missing : List Position) (reached p : Position) : Type 0 where
  pub own : is_own side p.epoch ≡ true
  pub up_to : IsUpTo reached p
  pub opened : list_any (is_at p) missing ≡ false
