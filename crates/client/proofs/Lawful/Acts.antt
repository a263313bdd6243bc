-- A lawful client is lawful after each act that it answers.
use Rattle.std.proofs.Common.{Bool, Err, List, None, Ok, Option, Result, Some, arith, length, refl, subst, true, ℕ, ◌++◌, ◌<◌, ◌∷◌, ◌≡◌, []}
use Rattle.std.specs.Prelude.{if◌then◌else◌, nat_le}
use Rattle.std.proofs.lemmas.Bool.Decides.{nat_tests}
use Rattle.boxes.specs.Entries.{entry_with}
use Rattle.cka.specs.Agreement.{agreement_size}
use Rattle.dr_base.specs.declared.limits.TheConstants.{INBOX_LIMIT, OUTBOX_LIMIT}
use Rattle.dr_model.specs.Machines.Acts.{act_on, dropped_client, dropping}
use Rattle.dr_model.specs.Machines.Steps.{Step, leaving, step}
use Rattle.kem_laws.specs.Mechanism.{IsLawfulMechanism, Mechanism}
use Rattle.packet.specs.Packet.{Fields, IsLawful}
use Rattle.dr_base.specs.Bytes.{AreBytes}
use Rattle.packet.specs.Reading.{read_packet}
use Rattle.packet.specs.declared.fault.Malformed.{Malformed}
use Rattle.packet.proofs.Read.{read_was_printed}
use Rattle.session_model.specs.Contents.{Content, content_check}
use Rattle.session_model.proofs.Checked.{once_passed}
use Rattle.session_model.specs.Clients.{Client, SaidText, TakenPacket, accept_receive, accept_send, say_check, say_on, take_on, take_read}
use Rattle.session_model.specs.Saying.{SendDraft, draft_send, phase_check, send_check}
use Rattle.session_model.specs.Taking.{ReceiveDraft, draft_receive}
use Rattle.session_model.specs.declared.answer.Answer.TheVariants.{Dropped}
use Rattle.session_model.specs.Leaving.{drop_check}
use Rattle.session_model.specs.declared.answer.Refusal.{Refusal}
use Rattle.session_model.specs.declared.answer.Refusal.TheVariants.{NoPair, OutboxFull}
use Rattle.session_model.specs.declared.answer.Which.{Which}
use Rattle.session_record.specs.Lawful.{IsLawfulClient, IsLawfulEntry, IsLawfulPost}
use Rattle.client.proofs.Lawful.Drafts.{send_lawful}
use Rattle.client.proofs.Lawful.Saying.{passed_check, said_lawful}
use Rattle.client.proofs.Lawful.Taking.{taken_lawful}
use Rattle.session_model.proofs.Leaving.{all_packets, all_texts, fewer_packets, fewer_texts}
use Rattle.session_model.proofs.Passing.{passes}
use Rattle.client.proofs.Lawful.Ways.{receive_lawful}

-- ---- a text is said, or a part of a long one

passed_phase : (c : Client) (content : Content) (needs : Bool) → say_check c content ≡ Ok needs
    → phase_check c.state.epoch c.state.phase ≡ Ok needs
passed_phase c content needs is =
    let passed = content_check c.state.format content in
    let phase = phase_check c.state.epoch c.state.phase in
    let checked =
    once_passed passed
    (if nat_le OUTBOX_LIMIT (length c.outbox) then Err OutboxFull else send_check c.state content) needs is in
    let room = passes (nat_le OUTBOX_LIMIT (length c.outbox)) OutboxFull (send_check c.state content) needs checked.1 in
    (once_passed passed phase needs room.1).1

-- with a seed of 32 bytes where the text needs one
pub say_lawful : (k : Mechanism) (c : Client) (content : Content) (seed : List ℕ) (needs : Bool) (said : SaidText) → IsLawfulMechanism k
    → IsLawfulClient k c → say_check c content ≡ Ok needs → (needs ≡ true → length seed ≡ 32)
    → say_on k c content seed ≡ Ok said → IsLawfulClient k said.next
say_lawful k c content seed needs said law l checked whole is = by_draft (draft_send k c.state content seed) refl is
  where
    by_draft : (d : Option SendDraft) → draft_send k c.state content seed ≡ d → accept_send c d ≡ Ok said
        → IsLawfulClient k said.next
    by_draft None gives is = absurd (let no : Err NoPair ≡ Ok said = is in cc)
    by_draft (Some draft) gives is =
        let passed = passed_check c content needs checked in
        let after = send_lawful k c.state content seed needs draft law l.state whole (passed_phase c content needs checked) gives in
        let one : SaidText = record { post = draft.post; next = record c { state = draft.next; outbox = c.outbox ++ draft.post ∷ [] } } in
        let same : one ≡ said = cc in
        subst (λ (s : SaidText). IsLawfulClient k s.next) same
        (said_lawful k c content seed draft law l after passed.0 passed.1 gives)

-- ---- a packet is taken

drafted_lawful : (k : Mechanism) (c : Client) (f : Fields) (draft : Result ReceiveDraft Refusal) (taken : TakenPacket)
    → IsLawfulClient k c → IsLawful (agreement_size k) f → draft_receive k c.state f ≡ draft
    → accept_receive c draft ≡ Ok taken → IsLawfulClient k taken.next
drafted_lawful k c f (Err refusal) taken l packet gives is = absurd (let no : Err refusal ≡ Ok taken = is in cc)
drafted_lawful k c f (Ok draft) taken l packet gives is =
    let one : TakenPacket = record {
      position = draft.position;
      next = record c { state = draft.next; inbox = c.inbox ++ entry_with draft.position draft.kind draft.text ∷ [] };
    } in
    let under = passes (nat_le INBOX_LIMIT (length c.inbox)) _ (Ok one) taken is in
    let room : length c.inbox < INBOX_LIMIT = let no = under.0 in grind (arith, nat_tests) in
    let through : Ok one ≡ Ok taken = under.1 in
    let same : one ≡ taken = cc in
    subst (λ (t : TakenPacket). IsLawfulClient k t.next) same
    (taken_lawful k c f draft packet l (receive_lawful k c.state f draft l.state packet gives) room gives)

pub take_lawful : (k : Mechanism) (c : Client) (bytes : List ℕ) (taken : TakenPacket) → IsLawfulClient k c → AreBytes bytes
    → take_on k c bytes ≡ Ok taken → IsLawfulClient k taken.next
unfolding take_on
take_lawful k c bytes taken l small is = by_fields (read_packet (agreement_size k) bytes) refl is
  where
    by_fields : (r : Result Fields Malformed) → read_packet (agreement_size k) bytes ≡ r → take_read k c r ≡ Ok taken
        → IsLawfulClient k taken.next
    by_fields (Err fault) read is = absurd (cc is)
    by_fields (Ok f) read is =
        drafted_lawful k c f (draft_receive k c.state f) taken l (read_was_printed (agreement_size k) bytes f small read).0 refl is

-- ---- items are dropped

pub dropped_lawful : (k : Mechanism) (c : Client) (which : Which) → IsLawfulClient k c
    → IsLawfulClient k (dropped_client c which)
dropped_lawful k c which l = record {
  state = l.state;
  keys_long = l.keys_long;
  inbox = all_texts (IsLawfulEntry c.state) which c.inbox l.inbox;
  few_entries = omega (arith, fewer_texts which c.inbox, l.few_entries);
  outbox = all_packets (IsLawfulPost k c.state) which c.outbox l.outbox;
  few_posts = omega (arith, fewer_packets which c.outbox, l.few_posts);
  relay = l.relay;
}

left_lawful : (k : Mechanism) (c : Client) (which : Which) (check : Result Unit Refusal) (made : Step Client)
    → IsLawfulClient k c → leaving which check (dropped_client c which) ≡ Ok made → IsLawfulClient k made.next
left_lawful k c which (Err refusal) made l is = absurd (cc is)
left_lawful k c which (Ok stand) made l is =
    let same : step (Dropped which) (dropped_client c which) ≡ made = cc in
    subst (λ (m : Step Client). IsLawfulClient k m.next) same (dropped_lawful k c which l)

pub drop_lawful : (k : Mechanism) (c : Client) (which : Which) (made : Step Client) → IsLawfulClient k c
    → act_on k c (dropping which) ≡ Ok made → IsLawfulClient k made.next
drop_lawful k c which made l is = left_lawful k c which (drop_check which c.inbox c.outbox) made l is
