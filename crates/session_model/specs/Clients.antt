-- One side with its boxes.
use Rattle.std.specs.Prelude.{Bool, Err, List, None, Ok, Option, Result, Some, [], if◌then◌else◌, length, nat_le, ℕ, ◌++◌, ◌∷◌}
use Rattle.dr_base.specs.declared.limits.TheConstants.{INBOX_LIMIT, OUTBOX_LIMIT}
use Rattle.boxes.specs.Entries.{Entry, entry_with}
use Rattle.boxes.specs.Posts.{Post}
use Rattle.cka.specs.Agreement.{agreement_size}
use Rattle.dr_base.specs.declared.position.Position.{Position}
use Rattle.kem_laws.specs.Mechanism.{Mechanism}
use Rattle.packet.specs.Packet.{Fields}
use Rattle.packet.specs.Reading.{read_packet}
use Rattle.packet.specs.declared.fault.Malformed.{Malformed}
use Rattle.session_model.specs.Contents.{Content, content_check, once_checked}
use Rattle.session_model.specs.Saying.{SendDraft, draft_send, send_check}
use Rattle.session_model.specs.States.{State}
use Rattle.session_model.specs.Taking.{ReceiveDraft, draft_receive}
use Rattle.session_model.specs.declared.answer.Refusal.{Refusal}
use Rattle.session_model.specs.declared.answer.Refusal.TheVariants.{InboxFull, Malformed as Unreadable, NoPair, OutboxFull}
use Rattle.session_model.specs.declared.answer.Summary.{Summary}
use Rattle.session_model.specs.declared.relay_keys.RelayKeys.{RelayKeys}

pub record Client : Type 0 where
  pub state : State
  pub inbox : List Entry
  pub outbox : List Post
  -- none of a session that was begun before there were any
  pub relay : Option RelayKeys

-- whether a content may be said, and then whether that needs a seed
abbrev pub say_check : Client → Content → Result Bool Refusal
say_check client content =
    once_checked (content_check client.state.format content)
    (if nat_le OUTBOX_LIMIT (length client.outbox) then Err OutboxFull else send_check client.state content)

-- what was said: its packet stands in the outbox
pub record SaidText : Type 0 where
  pub post : Post
  pub next : Client

abbrev pub accept_send : Client → Option SendDraft → Result SaidText Refusal
accept_send client None = Err NoPair
accept_send client (Some draft) =
    Ok (record { post = draft.post; next = record client { state = draft.next; outbox = client.outbox ++ draft.post ∷ [] } })

-- what a client answers to a content that passed the check
abbrev pub say_on : Mechanism → Client → Content → List ℕ → Result SaidText Refusal
say_on k client content seed = accept_send client (draft_send k client.state content seed)

-- a packet that was taken: its text stands in the inbox
pub record TakenPacket : Type 0 where
  pub position : Position
  pub next : Client

abbrev pub accept_receive : Client → Result ReceiveDraft Refusal → Result TakenPacket Refusal
accept_receive client (Err refusal) = Err refusal
accept_receive client (Ok draft) =
    if nat_le INBOX_LIMIT (length client.inbox) then Err InboxFull
    else Ok (record {
      position = draft.position;
      next = record client {
        state = draft.next;
        inbox = client.inbox ++ entry_with draft.position draft.kind draft.text ∷ [];
      };
    })

abbrev pub take_read : Mechanism → Client → Result Fields Malformed → Result TakenPacket Refusal
take_read k client (Err fault) = Err (Unreadable fault)
take_read k client (Ok f) = accept_receive client (draft_receive k client.state f)

-- what a client answers to bytes
unfoldable pub take_on : Mechanism → Client → List ℕ → Result TakenPacket Refusal
take_on k client bytes = take_read k client (read_packet (agreement_size k) bytes)

abbrev pub summary_of : Client → Summary
summary_of client = record {
  epoch = client.state.epoch;
  missing = length client.state.kept;
  inbox = length client.inbox;
  outbox = length client.outbox;
}
