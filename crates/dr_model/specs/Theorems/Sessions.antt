-- The ratchet end to end: what a session that stands in a view of a conversation answers, and what it keeps then.
use Rattle.std.specs.Prelude.{Bool, Err, List, None, Ok, Result, Some, false, if◌then◌else◌, is_some, length, nat_le, nat_lt, true, ℕ, ◌+◌, ◌≡◌}
use Rattle.dr_base.specs.declared.limits.TheConstants.{INDEX_LIMIT, LAST_EPOCH, KEPT_LIMIT}
use Rattle.bodies.specs.Bodies.{Body}
use Rattle.cka.specs.Agreement.{agreement_size}
use Rattle.dr_base.specs.Position.{is_own, peer_of}
use Rattle.dr_base.specs.declared.position.Position.{Position}
use Rattle.dr_base.specs.declared.position.Side.{Side}
use Rattle.kem_laws.specs.Mechanism.{Mechanism}
use Rattle.packet.specs.Reading.{read_packet}
use Rattle.session_model.specs.Contents.{Content, content_check, once_checked}
use Rattle.session_model.specs.Saying.{SendDraft, draft_send, send_check}
use Rattle.session_model.specs.States.{opening_state}
use Rattle.session_model.specs.Taking.{ReceiveDraft, draft_receive}
use Rattle.session_model.specs.declared.answer.Refusal.{Refusal}
use Rattle.session_model.specs.declared.answer.Refusal.TheVariants.{EpochFull, LastEpoch, OwnPacket, SkipLimit, Spent}
use Rattle.dr_model.specs.Conversations.Conversation.{Conversation, count_of, is_said, kind_at, next_position, opening_conversation, text_at, with_text, with_turn}
use Rattle.dr_model.specs.Conversations.Formats.{Formats, side_format}
use Rattle.dr_model.specs.Conversations.Lawful.{IsLawfulConversation, IsLawfulView}
use Rattle.dr_model.specs.Conversations.Posts.{post_fields, post_at}
use Rattle.dr_model.specs.Conversations.Receipts.{body_in}
use Rattle.dr_model.specs.Conversations.ViewStates.{state_of}
use Rattle.dr_model.specs.Conversations.Views.{View, after_opening, after_text, after_turn, has_opened, missing_of, opening_view}

-- what a session answers to the packet of a position that was said: as the machine does, but for the inbox, which is its
-- client's
abbrev pub received_in : Mechanism → Conversation → View → Position → Result ReceiveDraft Refusal
received_in k c v p =
    let opened = after_opening c v p in
    if is_own v.side p.epoch then Err (OwnPacket p.epoch)
    else (if has_opened v p then Err (Spent p)
    else (if nat_lt KEPT_LIMIT (length (missing_of c opened)) then Err (SkipLimit (length (missing_of c opened)))
    else Ok (record {
      position = p;
      kind = kind_at c p;
      text = text_at c p;
      next = state_of k c opened;
    })))

-- whether a session may draft a content, and then whether that needs a seed: as the machine says, but for the outbox,
-- which is its client's
abbrev pub checked_in : Conversation → View → Content → Result Bool Refusal
checked_in c v content =
    once_checked (content_check (side_format c.formats v.side) content)
    (if is_own v.side v.epoch then (if nat_le INDEX_LIMIT (count_of c v.epoch) then Err EpochFull else Ok false)
    else (if nat_le LAST_EPOCH v.epoch then Err LastEpoch else Ok true))

-- a draft of the packet of a position, after which the session stands in this view
abbrev pub drafted_in : Mechanism → Conversation → View → Position → SendDraft
drafted_in k c v p = record { post = post_at k c p; next = state_of k c v }

-- a side in a lawful view of a lawful conversation
pub record StandsIn (k : Mechanism) (c : Conversation) (side : Side) (v : View) : Type 0 where
  pub conversation : IsLawfulConversation k c
  pub view : IsLawfulView k c side v

-- One session opens what the other drafted. A session begins in the opening view. It opens a packet of the peer's to the
-- very text that was said, or refuses it by name, and then keeps what its view says. What it drafts is the packet of the
-- next position. And it keeps what it kept when the other side says.
pub record SessionsAgree (k : Mechanism) : Type 0 where
  pub opening : (key : List ℕ) (formats : Formats) (side : Side)
      → opening_state k key side (side_format formats side) ≡ state_of k (opening_conversation key formats) (opening_view side)
  -- the packet of a position is read, and answered
  pub reads : (c : Conversation) (p : Position) → IsLawfulConversation k c → is_said c p ≡ true
      → read_packet (agreement_size k) (post_at k c p).packet ≡ Ok (post_fields k c p)
  pub receives : (c : Conversation) (side : Side) (v : View) (p : Position) → StandsIn k c side v → is_said c p ≡ true
      → draft_receive k (state_of k c v) (post_fields k c p) ≡ received_in k c v p
  -- a content is checked, and drafted: in an epoch of the side's own, or with a seed that has a pair in the next epoch
  pub checks : (c : Conversation) (v : View) (content : Content)
      → send_check (state_of k c v) content ≡ checked_in c v content
  pub sends : (c : Conversation) (side : Side) (v : View) (content : Content) (seed : List ℕ) → StandsIn k c side v
      → is_own side v.epoch ≡ true
      → draft_send k (state_of k c v) content seed
      ≡ Some (drafted_in k (with_text c v.epoch (body_in c v content)) (after_text v (next_position c.said v.epoch))
      (next_position c.said v.epoch))
  pub turns : (c : Conversation) (side : Side) (v : View) (content : Content) (seed : List ℕ) → StandsIn k c side v
      → is_own side v.epoch ≡ false → is_some (k.meaning.pair_of seed) ≡ true
      → draft_send k (state_of k c v) content seed
      ≡ Some (drafted_in k (with_turn c seed (v.epoch + 1) (body_in c v content)) (after_turn v)
      (next_position c.said (v.epoch + 1)))
  pub no_pair : (c : Conversation) (side : Side) (v : View) (content : Content) (seed : List ℕ) → StandsIn k c side v
      → is_own side v.epoch ≡ false → k.meaning.pair_of seed ≡ None → draft_send k (state_of k c v) content seed ≡ None
  -- the other side, in its view u, keeps its state
  pub stays : (c : Conversation) (side : Side) (v u : View) (body : Body) → StandsIn k c side v
      → StandsIn k c (peer_of side) u → is_own side v.epoch ≡ true
      → state_of k (with_text c v.epoch body) u ≡ state_of k c u
  pub stays_turned : (c : Conversation) (side : Side) (v u : View) (body : Body) (seed : List ℕ) → StandsIn k c side v
      → StandsIn k c (peer_of side) u → is_own side v.epoch ≡ false
      → state_of k (with_turn c seed (v.epoch + 1) body) u ≡ state_of k c u
  -- and each packet stays
  pub packets_stay : (c : Conversation) (side : Side) (v : View) (body : Body) (p : Position) → StandsIn k c side v
      → is_said c p ≡ true → let next = with_text c v.epoch body in
      (is_said next p ≡ true) × (post_at k next p ≡ post_at k c p)
  pub packets_stay_turned : (c : Conversation) (side : Side) (v : View) (body : Body) (seed : List ℕ) (p : Position)
      → StandsIn k c side v → is_said c p ≡ true → let next = with_turn c seed (v.epoch + 1) body in
      (is_said next p ≡ true) × (post_at k next p ≡ post_at k c p)
