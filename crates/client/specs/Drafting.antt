-- What is drafted of what a client keeps, before it is accepted.
use Rattle.std.specs.Prelude.{Err, List, None, Ok, Option, Result, Some, [], length, ℕ, ◌++◌, ◌<◌, ◌∷◌, ◌≡◌}
use Rattle.boxes.specs.Entries.{entry_with}
use Rattle.dr_base.specs.declared.limits.TheConstants.{INBOX_LIMIT, OUTBOX_LIMIT}
use Rattle.dr_model.specs.Machines.Acts.{dropped_client}
use Rattle.dr_model.specs.Machines.Steps.{Step, step}
use Rattle.kem_laws.specs.Mechanism.{Mechanism}
use Rattle.ratchet.specs.Seen.{Received, Said, received_of, said_of}
use Rattle.session_model.specs.Clients.{Client, accept_receive, take_on}
use Rattle.session_model.specs.Leaving.{drop_check}
use Rattle.session_model.specs.Drafts.{IsReceiveDraft, IsSendDraft}
use Rattle.session_model.specs.Saying.{SendDraft}
use Rattle.session_model.specs.States.{State}
use Rattle.session_model.specs.Taking.{ReceiveDraft}
use Rattle.session_model.specs.declared.answer.Answer.{Answer}
use Rattle.session_model.specs.declared.answer.Answer.TheVariants.{Dropped, Opened, Said as AnswersSaid}
use Rattle.session_model.specs.declared.answer.Refusal.{Refusal}
use Rattle.session_model.specs.declared.answer.Which.{Which}
use Rattle.session_record.specs.Changes.{FitsInbox, FitsOutbox, changed}
use Rattle.session_record.specs.Lawful.{IsLawfulClient}
use Rattle.session_record.specs.Record.{client_of, record_text}
use Rattle.session_record.specs.declared.change.Change.{Change}
use Rattle.client.specs.declared.cores.drafts.Draft.{Draft}
use Rattle.client.specs.declared.cores.drafts.Draft.TheVariants.{Dropped as ToDrop, Received as ToTake, Said as ToSay}

-- ---- a text that is said

-- what is kept once its draft is accepted
abbrev pub said_client : Client → Said → Client
said_client kept draft =
    record kept { state = (said_of kept.state draft).next; outbox = kept.outbox ++ draft.post ∷ [] }

-- a draft of this session, which has room for it and is lawful after it
pub record IsSaidOf (k : Mechanism) (kept : Client) (draft : Said) : Type 0 where
  pub drafts : IsSendDraft k kept.state (said_of kept.state draft)
  pub room : length kept.outbox < OUTBOX_LIMIT
  pub lawful : IsLawfulClient k (said_client kept draft)

-- the draft of a text, for a session of this state, if its seed has a pair
abbrev pub said_if : {E : Type 0} → State → Result Said E → Option SendDraft
said_if s (Ok draft) = Some (said_of s draft)
said_if s (Err e) = None

-- ---- a packet that is taken

-- what is kept once its draft is accepted
abbrev pub received_client : Client → Received → Client
received_client kept draft = record kept {
  state = (received_of kept.state draft).next;
  inbox = kept.inbox ++ entry_with draft.position draft.kind draft.text ∷ [];
}

-- a draft of this session, which has room for it and is lawful after it
pub record IsReceivedOf (k : Mechanism) (kept : Client) (draft : Received) : Type 0 where
  pub drafts : IsReceiveDraft k kept.state (received_of kept.state draft)
  pub room : length kept.inbox < INBOX_LIMIT
  pub lawful : IsLawfulClient k (received_client kept draft)

-- the draft of a packet, for a session of this state, or why there is none
abbrev pub taken_of : State → Result Received Refusal → Result ReceiveDraft Refusal
taken_of s (Ok draft) = Ok (received_of s draft)
taken_of s (Err e) = Err e

-- what is drafted for these bytes, as what the client answers to them
abbrev pub DraftsFor : Mechanism → Client → List ℕ → Result Received Refusal → Type 0
DraftsFor k kept packet drafted =
    take_on k kept packet ≡ accept_receive kept (taken_of kept.state drafted)

-- ---- items that are dropped

-- they stand
abbrev pub HasToDrop : Client → Which → Type 0
HasToDrop kept which = drop_check which kept.inbox kept.outbox ≡ Ok tt

-- ---- a draft

-- what it is answered with
abbrev pub drafted_answer : {K Work : Type 0} → Draft K Work → Answer
drafted_answer (ToSay draft) = AnswersSaid draft.post.position
drafted_answer (ToTake draft) = Opened draft.position
drafted_answer (ToDrop which) = Dropped which

-- what is kept once it is accepted
abbrev pub drafted_client : {K Work : Type 0} → Client → Draft K Work → Client
drafted_client kept (ToSay draft) = said_client kept draft
drafted_client kept (ToTake draft) = received_client kept draft
drafted_client kept (ToDrop which) = dropped_client kept which

-- a draft of what is kept
abbrev pub IsDraftOf : {K Work : Type 0} → Mechanism → Client → Draft K Work → Type 0
IsDraftOf k kept (ToSay draft) = IsSaidOf k kept draft
IsDraftOf k kept (ToTake draft) = IsReceivedOf k kept draft
IsDraftOf k kept (ToDrop which) = HasToDrop kept which

-- the step that it makes
abbrev pub drafted_step : {K Work : Type 0} → Client → Draft K Work → Step Client
drafted_step kept draft = step (drafted_answer draft) (drafted_client kept draft)

-- ---- what its record is written from

-- the record of what is kept next is that of what is kept, with the session as it will be, and this
-- change of the boxes
pub record IsWrittenFrom (k : Mechanism) (kept next : Client) (state : State) (change : Change)
    : Type 0 where
  pub inbox : FitsInbox kept.inbox change
  pub outbox : FitsOutbox kept.outbox change
  pub same : record_text (changed k (client_of state kept.inbox kept.outbox kept.relay) change)
      ≡ record_text next
