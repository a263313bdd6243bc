-- A lawful client is lawful after what it says.
use Rattle.std.proofs.Common.{Bool, Err, List, None, Ok, Option, Some, [], ap, arith, false, length, refl, subst, sym, true, ℕ, ◌++◌, ◌+◌, ◌<◌, ◌∙◌, ◌∷◌, ◌≡◌, ◌≤◌}
use Rattle.std.specs.Prelude.{All, if◌then◌else◌, nat_le, option_map}
use Rattle.std.proofs.lemmas.Bool.Decides.{nat_tests}
use Rattle.std.proofs.lemmas.List.{length_push}
use Rattle.std.proofs.lemmas.List.Elements.{All-push, All-weaker}
use Rattle.bodies.specs.Bodies.{Body}
use Rattle.bodies.specs.Formats.{version_of}
use Rattle.bodies.specs.declared.format.Format.{Format}
use Rattle.boxes.specs.Entries.{Entry}
use Rattle.boxes.specs.Posts.{Post}
use Rattle.cka.specs.Agreement.{agreement_size, turn_of}
use Rattle.dr_base.specs.Position.{is_own}
use Rattle.dr_base.specs.declared.limits.TheConstants.{AGREEMENT_LIMIT, INDEX_LIMIT, OUTBOX_LIMIT, TEXT_LIMIT}
use Rattle.dr_base.specs.declared.position.Position.{Position}
use Rattle.dr_base.specs.declared.position.Side.{Side}
use Rattle.etm_aead.specs.Undoing.{length-tag_of}
use Rattle.fs_aead.specs.Chain.{chain_message_key}
use Rattle.kem_laws.specs.Mechanism.{IsLawfulMechanism, Mechanism}
use Rattle.packet.specs.Packet.{IsLawful, agreement_len}
use Rattle.packet.specs.Versions.{is_text_len}
use Rattle.packet.proofs.Known.{text_few}
use Rattle.packet.proofs.Lengths.{length-packet_of}
use Rattle.packet.proofs.Printed.{printed_is_read}
use Rattle.session_model.specs.Clients.{Client, say_check}
use Rattle.session_model.specs.Contents.{Content, content_check}
use Rattle.session_model.proofs.Checked.{content_short, once_passed}
use Rattle.session_model.specs.LawfulStates.{IsLawfulPhase, IsLawfulPrevious, IsLawfulState}
use Rattle.session_model.specs.Saying.{SendDraft, body_of, draft_own, draft_phase, draft_send, draft_turn, send_check}
use Rattle.session_model.proofs.Sealed.{HasFewListed, few_listed, known_version, sealed_fits}
use Rattle.session_model.specs.Sealing.{posted, sealing}
use Rattle.session_model.specs.States.{Own, Phase, State, in_own, in_peers}
use Rattle.session_model.specs.declared.answer.Refusal.TheVariants.{OutboxFull}
use Rattle.session_record.specs.Lawful.{IsLawfulClient, IsLawfulEntry, IsLawfulPost}
use Rattle.session_record.specs.Record.{client_of}

-- ---- what a later state of a session has in common with an earlier one

pub record GoesOn (s next : State) : Type 0 where
  pub side : next.side ≡ s.side
  pub session : next.session ≡ s.session
  pub grows : s.epoch ≤ next.epoch

pub entries_stay : (s next : State) (inbox : List Entry) → GoesOn s next → All (IsLawfulEntry s) inbox
    → All (IsLawfulEntry next) inbox
entries_stay s next inbox on each =
    All-weaker (IsLawfulEntry s) (IsLawfulEntry next)
    (λ item l. record {
      peers = ap (λ (side : Side). is_own side item.position.epoch) on.side ∙ l.peers;
      reached = omega (arith, l.reached, on.grows);
      from_one = l.from_one;
      most = l.most;
      content = l.content;
    }) inbox each

pub posts_stay : (k : Mechanism) (s next : State) (outbox : List Post) → GoesOn s next → All (IsLawfulPost k s) outbox
    → All (IsLawfulPost k next) outbox
posts_stay k s next outbox on each =
    All-weaker (IsLawfulPost k s) (IsLawfulPost k next)
    (λ item l. record {
      fields = l.fields;
      reads = l.reads;
      session = l.session ∙ sym on.session;
      own = ap (λ (side : Side). is_own side l.fields.epoch) on.side ∙ l.own;
      reached = omega (arith, l.reached, on.grows);
      place = l.place;
      fits = l.fits;
    }) outbox each

-- ---- a packet that was sealed

pub message_fits : (agreement epoch : ℕ) → agreement ≤ AGREEMENT_LIMIT
    → agreement_len agreement epoch ≤ AGREEMENT_LIMIT
message_fits agreement epoch fits = grind arith

-- a body that fits a packet
record MaySeal (body : Body) : Type 0 where
  short : length body.content ≤ TEXT_LIMIT
  listed : HasFewListed body.receipt

post_lawful : (k : Mechanism) (next : State) (format : Format) (p : Position) (previous : ℕ) (agreement key : List ℕ) (body : Body)
    → IsLawfulMechanism k
    → IsLawfulState k next → p.epoch ≤ next.epoch → is_own next.side p.epoch ≡ true → previous ≤ INDEX_LIMIT
    → (p.epoch ≤ 1 → previous ≡ 0) → 1 ≤ p.index → p.index ≤ INDEX_LIMIT
    → length agreement ≡ agreement_len (agreement_size k) p.epoch → MaySeal body
    → IsLawfulPost k next (posted (version_of format) next.session p previous agreement key body)
unfolding posted
post_lawful k next format p previous agreement key body law l reached own few none one most message may =
    let f = sealing (version_of format) next.session p previous agreement key body in
    let size : agreement_size k ≤ AGREEMENT_LIMIT = omega (arith, law.public_fits, law.ciphertext_fits) in
    let text_fits : is_text_len f.version (length f.ciphertext) ≡ true = sealed_fits format key body may.listed may.short in
    let lawful : IsLawful (agreement_size k) f = record {
      version_is = known_version format;
      session_len = l.session_long;
      epoch_fits = omega (arith, reached, l.epoch_fits);
      previous_fits = few;
      previous_none = none;
      index_from_one = one;
      index_fits = most;
      agreement_is = message;
      text_fits = text_fits;
      tag_len = length-tag_of _ _ _;
    } in
    let long = length-packet_of f lawful.session_len lawful.tag_len in
    let fits : length agreement ≤ AGREEMENT_LIMIT = omega (arith, message, message_fits (agreement_size k) p.epoch size) in
    record {
      fields = f;
      reads = printed_is_read (agreement_size k) f (omega (arith, size)) lawful;
      session = refl;
      own = own;
      reached = reached;
      place = refl;
      fits = omega (arith, long, fits, text_few f.version (length f.ciphertext) text_fits);
    }

-- what is said of a draft: the state goes on with the same kept keys, and the packet is lawful
record IsSaid (k : Mechanism) (s : State) (draft : SendDraft) : Type 0 where
  on : GoesOn s draft.next
  kept : draft.next.kept ≡ s.kept
  post : IsLawfulPost k draft.next draft.post

own_said : (k : Mechanism) (s : State) (own : Own) (body : Body) → IsLawfulMechanism k → IsLawfulState k s
    → s.phase ≡ in_own own → IsLawfulState k (draft_own s own body).next → MaySeal body
    → IsSaid k s (draft_own s own body)
own_said k s own body law l held after may =
    let phase : IsLawfulPhase k s.side s.epoch (in_own own) = subst (IsLawfulPhase k s.side s.epoch) held l.phase in
    let previous : IsLawfulPrevious s.previous s.epoch (in_own own) =
    subst (IsLawfulPrevious s.previous s.epoch) held l.previous in
    record {
      on = record { side = refl; session = refl; grows = omega arith };
      kept = refl;
      post = post_lawful k (draft_own s own body).next s.format (record { epoch = s.epoch; index = own.sent + 1 }) s.previous
          own.agreement (chain_message_key own.chain) body law after (omega arith) phase.0 previous.0 previous.1 (omega arith)
          after.phase.1.few phase.1.agreement_long may;
    }

turn_said : (k : Mechanism) (s : State) (body : Body) (public : List ℕ) (turn : List ℕ × List ℕ × List ℕ) → IsLawfulMechanism k
    → IsLawfulState k s → s.phase ≡ in_peers public → IsLawfulState k (draft_turn s body turn).next
    → MaySeal body → IsSaid k s (draft_turn s body turn)
turn_said k s body public turn law l held after may =
    let previous : IsLawfulPrevious s.previous s.epoch (in_peers public) =
    subst (IsLawfulPrevious s.previous s.epoch) held l.previous in
    let one : 1 ≤ INDEX_LIMIT = omega arith in
    record {
      on = record { side = refl; session = refl; grows = omega arith };
      kept = refl;
      post = post_lawful k (draft_turn s body turn).next s.format (record { epoch = s.epoch + 1; index = 1 }) s.previous turn.1 _ body
          law after (omega arith) after.phase.0 previous.0 (λ first. previous.1 (omega (arith, first))) (omega arith) one
          after.phase.1.agreement_long may;
    }

turned_said : (k : Mechanism) (s : State) (body : Body) (public : List ℕ) (turn : Option (List ℕ × List ℕ × List ℕ)) (draft : SendDraft)
    → IsLawfulMechanism k → IsLawfulState k s → s.phase ≡ in_peers public → IsLawfulState k draft.next
    → MaySeal body → option_map (draft_turn s body) turn ≡ Some draft → IsSaid k s draft
turned_said k s body public None draft law l held after may gives = absurd (let no : None ≡ Some draft = gives in cc)
turned_said k s body public (Some turn) draft law l held after may gives =
    let is : draft_turn s body turn ≡ draft = cc in
    subst (IsSaid k s) is
    (turn_said k s body public turn law l held (subst (λ (d : SendDraft). IsLawfulState k d.next) (sym is) after) may)

phase_said : (k : Mechanism) (s : State) (body : Body) (seed : List ℕ) (phase : Phase) (draft : SendDraft) → IsLawfulMechanism k
    → IsLawfulState k s → s.phase ≡ phase → IsLawfulState k draft.next → MaySeal body
    → draft_phase k s body seed phase ≡ Some draft → IsSaid k s draft
phase_said k s body seed (in_own own) draft law l held after may gives =
    let is : draft_own s own body ≡ draft = cc in
    subst (IsSaid k s) is
    (own_said k s own body law l held (subst (λ (d : SendDraft). IsLawfulState k d.next) (sym is) after) may)
phase_said k s body seed (in_peers public) draft law l held after may gives =
    turned_said k s body public (turn_of k public seed) draft law l held after may gives

-- ---- the client

pub said_lawful : (k : Mechanism) (c : Client) (content : Content) (seed : List ℕ) (draft : SendDraft) → IsLawfulMechanism k
    → IsLawfulClient k c → IsLawfulState k draft.next → length content.bytes ≤ TEXT_LIMIT → length c.outbox < OUTBOX_LIMIT
    → draft_send k c.state content seed ≡ Some draft
    → IsLawfulClient k (client_of draft.next c.inbox (c.outbox ++ draft.post ∷ []) c.relay)
unfolding draft_send
said_lawful k c content seed draft law l after short room gives =
    let s = c.state in
    let may : MaySeal (body_of s content) = record { short = short; listed = few_listed s.format s } in
    let said = phase_said k s (body_of s content) seed s.phase draft law l.state refl after may gives in
    record {
      state = after;
      keys_long = subst (All (λ kept. length kept.key.bytes ≡ 32)) (sym said.kept) l.keys_long;
      inbox = entries_stay c.state draft.next c.inbox said.on l.inbox;
      few_entries = l.few_entries;
      outbox = All-push (IsLawfulPost k draft.next) c.outbox draft.post
          (posts_stay k c.state draft.next c.outbox said.on l.outbox) said.post;
      few_posts = omega (arith, room, length_push c.outbox draft.post);
      relay = l.relay;
    }

-- what passed the check is short, and the outbox has room for its packet
pub passed_check : (c : Client) (content : Content) (needs : Bool) → say_check c content ≡ Ok needs
    → (length content.bytes ≤ TEXT_LIMIT) × (length c.outbox < OUTBOX_LIMIT)
passed_check c content needs is =
    let passed =
    once_passed (content_check c.state.format content)
    (if nat_le OUTBOX_LIMIT (length c.outbox) then Err OutboxFull else send_check c.state content) needs is in
    (content_short c.state.format content passed.0, by_room (nat_le OUTBOX_LIMIT (length c.outbox)) refl passed.1)
  where
    by_room : (full : Bool) → nat_le OUTBOX_LIMIT (length c.outbox) ≡ full
        → (if full then Err OutboxFull else send_check c.state content) ≡ Ok needs → length c.outbox < OUTBOX_LIMIT
    by_room true full is = absurd (cc is)
    by_room false full is = grind (arith, nat_tests)
