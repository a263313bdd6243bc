-- Lawful conversations and views, which events lead to.
use Rattle.std.specs.Prelude.{All, List, false, is_some, length, true, ℕ, ◌+◌, ◌≡◌, ◌≤◌}
use Rattle.dr_base.specs.declared.limits.TheConstants.{TEXT_LIMIT, INDEX_LIMIT, LAST_EPOCH, KEPT_LIMIT, INBOX_LIMIT, OUTBOX_LIMIT}
use Rattle.bodies.specs.Lawful.{IsLawfulBody}
use Rattle.dr_base.specs.Position.{is_own, peer_of, side_of}
use Rattle.dr_base.specs.declared.position.Position.{Position}
use Rattle.dr_base.specs.declared.position.Side.{Side}
use Rattle.kem_laws.specs.Mechanism.{Mechanism}
use Rattle.session_model.specs.Awaiting.{AreWaiting}
use Rattle.session_model.specs.Schedule.{agreement_seed}
use Rattle.dr_model.specs.Conversations.Conversation.{Conversation, body_at, count_of, is_said, receipt_at}
use Rattle.dr_model.specs.Conversations.Posts.{epoch_version, posts_of}
use Rattle.dr_model.specs.Conversations.Receipts.{IsBounded, IsTrue}
use Rattle.dr_model.specs.Conversations.Standing.{AreDone}
use Rattle.dr_model.specs.Conversations.ViewStates.{view_phase}
use Rattle.dr_model.specs.Conversations.Views.{View, inbox_of, indices_in, missing_of, outbox_of, times_opened}

-- a seed of 32 bytes that gives a pair
pub record IsSeed (k : Mechanism) (seed : List ℕ) : Type 0 where
  pub long : length seed ≡ 32
  pub pairs : is_some (k.meaning.pair_of seed) ≡ true

pub record IsLawfulConversation (k : Mechanism) (c : Conversation) : Type 0 where
  -- the first pair and all turns have pairs
  pub begins : is_some (k.meaning.pair_of (agreement_seed c.key)) ≡ true
  pub turns : All (IsSeed k) c.seeds
  pub few_turns : length c.seeds ≤ LAST_EPOCH
  -- texts have at most TEXT_LIMIT bytes, an epoch at most INDEX_LIMIT texts and, from epoch 1 on,
  -- one at least
  pub short : All (λ s. length s.body.content ≤ TEXT_LIMIT) c.said
  pub begun : All (λ s. s.epoch ≤ length c.seeds) c.said
  pub few : (epoch : ℕ) → count_of c epoch ≤ INDEX_LIMIT
  pub some : (epoch : ℕ) → 1 ≤ epoch → epoch ≤ length c.seeds → 1 ≤ count_of c epoch
  -- what was said is a body that the other side may open, whose receipt, if there is one, speaks of what was said
  pub bodies : (p : Position) → is_said c p ≡ true
      → IsLawfulBody (epoch_version c p.epoch) (peer_of (side_of p.epoch)) (body_at c p)
  pub bounded : (p : Position) → is_said c p ≡ true → IsBounded c (receipt_at c p)

-- what a view may hold of an arrived position
pub record HasArrived (c : Conversation) (v : View) (p : Position) : Type 0 where
  pub said : is_said c p ≡ true
  pub peers : is_own v.side p.epoch ≡ false
  pub reached : p.epoch ≤ v.epoch

pub record IsLawfulView (k : Mechanism) (c : Conversation) (side : Side) (v : View) : Type 0 where
  pub side_is : v.side ≡ side
  -- the reached epoch is the last one, or the one before where the last is the peer's
  pub reached : v.epoch ≤ length c.seeds
  pub near_end : length c.seeds ≤ v.epoch + 1
  pub waits : length c.seeds ≡ v.epoch + 1 → is_own side (v.epoch + 1) ≡ false
  -- what arrived, each position once, and from epoch 1 on one at least in each peer's epoch that was reached
  pub arrivals : All (HasArrived c v) v.arrived
  pub once : (p : Position) → times_opened v p ≤ 1
  pub some : (epoch : ℕ) → 1 ≤ epoch → epoch ≤ v.epoch → is_own side epoch ≡ false → 1 ≤ length (indices_in v.arrived epoch)
  -- at most KEPT_LIMIT are missing
  pub near : length (missing_of c v) ≤ KEPT_LIMIT
  -- only what stands leaves a box
  pub done : AreDone v.arrived v.done
  pub dropped_fits : v.dropped ≤ length (posts_of k c side)
  -- at most INBOX_LIMIT texts stand in the inbox, and at most OUTBOX_LIMIT packets in the outbox
  pub few_texts : length (inbox_of c v) ≤ INBOX_LIMIT
  pub few_packets : length (outbox_of k c v) ≤ OUTBOX_LIMIT
  -- what waits are own texts that were said
  pub awaiting : AreWaiting v.side v.epoch (view_phase k c v) v.awaiting
  pub awaiting_said : All (λ p. is_said c p ≡ true) v.awaiting
  -- what its receipts cover it has opened
  pub receipts : (p : Position) → is_said c p ≡ true → is_own side p.epoch ≡ true → IsTrue c v (receipt_at c p)
