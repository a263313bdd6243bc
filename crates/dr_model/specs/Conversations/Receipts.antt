-- What the receipts of a conversation say.
use Rattle.std.specs.Prelude.{None, Option, Some, length, option_map, true, ℕ, ⊤, ◌≡◌, ◌≤◌}
use Rattle.bodies.specs.Bodies.{Body}
use Rattle.bodies.specs.Receipts.{Receipt, is_covered, receipt_up_to}
use Rattle.bodies.specs.declared.format.Format.{Format}
use Rattle.bodies.specs.declared.format.Format.TheVariants.{Padded, Plain, Receipts}
use Rattle.dr_base.specs.Position.{position_at}
use Rattle.dr_base.specs.declared.position.Position.{Position}
use Rattle.session_model.specs.Contents.{Content}
use Rattle.session_model.specs.States.{receiving_epoch}
use Rattle.dr_model.specs.Conversations.Conversation.{Conversation, count_of, is_said}
use Rattle.dr_model.specs.Conversations.Formats.{side_format}
use Rattle.dr_model.specs.Conversations.Views.{View, has_opened, missing_of, reach_in}

-- how far a side has read the latest epoch of the peer's, if it has reached one
abbrev pub read_so_far : Conversation → View → Option Position
read_so_far c v = option_map (λ t. position_at t (reach_in c v t)) (receiving_epoch v.side v.epoch)

-- the receipt of what it has opened in a view: of what it misses, up to there
abbrev pub view_receipt : Conversation → View → Option Receipt
view_receipt c v = option_map (receipt_up_to (missing_of c v)) (read_so_far c v)

-- a side sends it, where its format has receipts
abbrev pub sent_receipt : Format → Conversation → View → Option Receipt
sent_receipt Plain c v = None
sent_receipt Padded c v = None
sent_receipt Receipts c v = view_receipt c v

-- what it says in a view: a content, with its receipt
abbrev pub body_in : Conversation → View → Content → Body
body_in c v content = record {
  receipt = sent_receipt (side_format c.formats v.side) c v;
  kind = content.kind;
  content = content.bytes;
}

-- a position in an epoch that has begun, no further than what was said in it
pub record IsSaidSoFar (c : Conversation) (p : Position) : Type 0 where
  pub begun : p.epoch ≤ length c.seeds
  pub said : p.index ≤ count_of c p.epoch

-- a receipt whose bound is one, or none
abbrev pub IsBounded : Conversation → Option Receipt → Type 0
IsBounded c None = ⊤
IsBounded c (Some r) = IsSaidSoFar c r.bound

-- A receipt is true in a view of its sender: it says nothing of what is still to be said, and what
-- was said and is covered by it was opened there.
pub record IsTrue (c : Conversation) (v : View) (receipt : Option Receipt) : Type 0 where
  pub bounded : IsBounded c receipt
  pub opened : (p : Position) → is_said c p ≡ true → is_covered receipt p ≡ true
      → has_opened v p ≡ true
