-- The packet of a position as a session reads it.
use Rattle.std.proofs.Common.{◌≡◌, ℕ, ◌+◌, ◌-◌, ◌<◌, ◌≤◌, Bool, true, false, not, nat_eq, nat_le, nat_lt, List, [], ◌∷◌, length, map, slice_index_or, Option, Some, None, Ok, Err, refl, sym, ◌==◌, ◌∙◌, ap, arith, if◌then◌else◌, subst}
use Rattle.std.specs.Cmp.Lexicographic.{pointwise}
use Rattle.std.specs.Prelude.{All, filter}
use Rattle.std.proofs.lemmas.Bool.{cond-true, cond-false, eqb-true, lt-leb, le-ltb}
use Rattle.std.proofs.lemmas.Bool.Decides.{nat_tests}
use Rattle.std.proofs.lemmas.List.{length-map, get_or-map}
use Rattle.std.proofs.lemmas.List.Elements.{All-head, All-tail, All-filter}
use Rattle.std.proofs.lemmas.Slice.Eq.{bytes_eq-Decides}
use Rattle.boxes.proofs.Contents.{text_content}
use Rattle.boxes.specs.Parts.{is_content}
use Rattle.dr_base.specs.declared.limits.TheConstants.{TEXT_LIMIT, INDEX_LIMIT, PLAIN, RECEIPTS}
use Rattle.bodies.specs.Bodies.{Body, opened_body, sealed_body, text_body}
use Rattle.bodies.specs.Lawful.{IsLawfulBody, IsReceiptOrNone}
use Rattle.bodies.specs.Receipts.{Receipt}
use Rattle.bodies.proofs.Lengths.{differs}
use Rattle.bodies.proofs.Sealed.{sealed-opens}
use Rattle.cka.specs.Agreement.{agreement_size}
use Rattle.dr_base.specs.Position.{is_own, peer_of, side_of}
use Rattle.dr_base.specs.declared.position.Position.{Position}
use Rattle.dr_base.specs.declared.position.Side.{Side}
use Rattle.fs_aead.specs.Chain.{message_key}
use Rattle.etm_aead.specs.Seal.{ciphertext_of, tag_of}
use Rattle.etm_aead.specs.Undoing.{ciphertext_of-ciphertext_of, length-ciphertext_of, length-tag_of}
use Rattle.kem_laws.specs.Mechanism.{Mechanism, IsLawfulMechanism}
use Rattle.packet.specs.Packet.{Fields, IsLawful, header_of, ad_of}
use Rattle.packet.specs.Reading.{read_packet}
use Rattle.packet.proofs.Printed.{printed_is_read}
use Rattle.session_model.specs.Schedule.{session_of}
use Rattle.session_model.specs.Sealing.{posted}
use Rattle.session_model.specs.States.{State}
use Rattle.session_model.specs.Taking.{opened_as, opened_by}
use Rattle.session_model.proofs.Sealed.{HasFewListed, known_version, sealed_fits}
use Rattle.session_model.specs.Awaiting.{still_waiting}
use Rattle.session_model.specs.Ways.{Way, epoch_way, known_way, position_of, way_of}
use Rattle.session_model.specs.declared.answer.Refusal.TheVariants.{OtherSession, OwnPacket, Ahead, BadTag}
use Rattle.dr_model.specs.Conversations.Conversation.{Conversation, Said, is_said, count_of, previous_of, body_at, receipt_at, kind_at, text_at, bodies_of}
use Rattle.dr_model.specs.Conversations.Lawful.{IsLawfulConversation}
use Rattle.dr_model.specs.Conversations.Posts.{post_fields, epoch_format, post_at, turn_of_epoch, epoch_version}
use Rattle.dr_model.proofs.Growth.Growing.{said_from, said_to}
use Rattle.dr_model.proofs.Worlds.TurnSizes.{turn_sizes, length-session_of}

-- ---- a position of a text

-- the text of an epoch shows that it began
epoch_first : (b : Bool) (s : Said) (rest : List Said) (epoch n : ℕ) → (b ≡ true → epoch ≤ n)
    → (1 ≤ length (map (λ (t : Said). t.body) rest) → epoch ≤ n)
    → 1 ≤ length (map (λ (t : Said). t.body) (if b then s ∷ rest else rest)) → epoch ≤ n
epoch_first true s rest epoch n here later h = here refl
epoch_first false s rest epoch n here later h = later h

same_epoch : (e epoch n : ℕ) → e ≤ n → nat_eq e epoch ≡ true → epoch ≤ n
same_epoch e epoch n le h = grind (arith, nat_tests)

begun_epoch : (said : List Said) (epoch n : ℕ) → All (λ s. s.epoch ≤ n) said → 1 ≤ length (bodies_of said epoch) → epoch ≤ n
begun_epoch [] epoch n all h = absurd (omega arith)
begun_epoch (s ∷ rest) epoch n all h =
    epoch_first (nat_eq s.epoch epoch) s (filter (λ t. nat_eq t.epoch epoch) rest) epoch n
    (same_epoch s.epoch epoch n (All-head (λ (t : Said). t.epoch ≤ n) s rest all))
    (begun_epoch rest epoch n (All-tail (λ (t : Said). t.epoch ≤ n) s rest all)) h

-- what is known of the position of a text
pub record IsPlace (c : Conversation) (p : Position) : Type 0 where
  pub one : 1 ≤ p.index
  pub most : p.index ≤ count_of c p.epoch
  pub few : p.index ≤ INDEX_LIMIT
  pub began : p.epoch ≤ length c.seeds
  pub short : length (text_at c p) ≤ TEXT_LIMIT
  pub sealed : IsLawfulBody (epoch_version c p.epoch) (peer_of (side_of p.epoch)) (body_at c p)

-- a text of an epoch fits a packet
short_text : (k : Mechanism) (c : Conversation) (epoch n : ℕ) → IsLawfulConversation k c → n < count_of c epoch
    → length (slice_index_or (bodies_of c.said epoch) n (text_body [])).content ≤ TEXT_LIMIT
short_text k c epoch n lawful h =
    let none : Said = record { epoch = 0; body = text_body [] } in
    let said = filter (λ (s : Said). nat_eq s.epoch epoch) c.said in
    let below : n < length said = omega (arith, length-map said (λ (s : Said). s.body)) in
    let short : length (slice_index_or said n none).body.content ≤ TEXT_LIMIT =
    All-filter (λ (s : Said). nat_eq s.epoch epoch) (λ (s : Said). length s.body.content ≤ TEXT_LIMIT) c.said lawful.short n none below in
    let same = ap (λ (b : Body). length b.content) (get_or-map (λ (s : Said). s.body) said n none (text_body []) below) in
    omega arith

pub is_place : (k : Mechanism) (c : Conversation) (p : Position) → IsLawfulConversation k c → is_said c p ≡ true
    → IsPlace c p
is_place k c p lawful said =
    let one : 1 ≤ p.index = said_from p.index (count_of c p.epoch) said in
    let most : p.index ≤ count_of c p.epoch = said_to p.index (count_of c p.epoch) said in
    record {
      one = one;
      most = most;
      few = omega (arith, lawful.few p.epoch);
      began = begun_epoch c.said p.epoch (length c.seeds) lawful.begun (omega arith);
      short = short_text k c p.epoch (p.index - 1) lawful (omega arith);
      sealed = lawful.bodies p said;
    }

-- a content of its kind stands there
pub content_said : (c : Conversation) (p : Position) → IsPlace c p → is_content (kind_at c p) (text_at c p) ≡ true
content_said c p place = by_version (epoch_version c p.epoch == PLAIN) refl
  where
    by_version : (plain : Bool) → (epoch_version c p.epoch == PLAIN) ≡ plain → is_content (kind_at c p) (text_at c p) ≡ true
    by_version true is =
        let version = eqb-true (epoch_version c p.epoch) PLAIN is in
        subst (λ (kind : ℕ). is_content kind (text_at c p) ≡ true) (sym (place.sealed.kind (λ (told : epoch_version c p.epoch ≡ RECEIPTS). omega arith)))
        (text_content (text_at c p) place.short)
    by_version false is = place.sealed.content (differs (epoch_version c p.epoch) PLAIN is)

-- ---- its packet

-- the epoch two before has few texts
few_previous : (b : Bool) (n : ℕ) → n ≤ INDEX_LIMIT → (if b then n else 0) ≤ INDEX_LIMIT
few_previous true n h = omega arith
few_previous false n h = omega arith

-- what is sealed
abbrev sealed_at : Conversation → Position → List ℕ
sealed_at c p = sealed_body (epoch_version c p.epoch) (body_at c p)

-- a lawful receipt lists few positions
few_listed : (side : Side) (receipt : Option Receipt) → IsReceiptOrNone side receipt → HasFewListed receipt
few_listed side None lawful = tt
few_listed side (Some r) lawful = lawful.few

-- the fields are lawful
pub IsLawful-fields : (k : Mechanism) (c : Conversation) (p : Position) → IsLawfulMechanism k → IsLawfulConversation k c
    → IsPlace c p → IsLawful (agreement_size k) (post_fields k c p)
IsLawful-fields k c p law lawful place = record {
  version_is = known_version (epoch_format c p.epoch);
  session_len = length-session_of c.key;
  epoch_fits = omega (arith, place.began, lawful.few_turns);
  previous_fits = few_previous (nat_le 2 p.epoch) (count_of c (p.epoch - 2)) (lawful.few (p.epoch - 2));
  previous_none = λ first. cond-false (nat_le 2 p.epoch) (count_of c (p.epoch - 2)) 0 (lt-leb 2 p.epoch (omega arith));
  index_from_one = place.one;
  index_fits = omega (arith, place.few);
  agreement_is = (turn_sizes k c p.epoch law lawful place.began).agreement_long;
  text_fits = sealed_fits (epoch_format c p.epoch) (message_key (turn_of_epoch k c p.epoch).stream p.index) (body_at c p)
      (few_listed (peer_of (side_of p.epoch)) (receipt_at c p) place.sealed.receipt) place.short;
  tag_len = length-tag_of _ _ _;
}

-- its bytes are read to them
pub read-post : (k : Mechanism) (c : Conversation) (p : Position) → IsLawfulMechanism k → IsLawfulConversation k c
    → IsPlace c p
    → read_packet (agreement_size k) (post_at k c p).packet ≡ Ok (post_fields k c p)
unfolding posted
read-post k c p law lawful place =
    printed_is_read (agreement_size k) (post_fields k c p) (omega (arith, law.public_fits, law.ciphertext_fits))
    (IsLawful-fields k c p law lawful place)

-- ---- the way to the key

-- a list equals itself
pub same_bytes : (xs : List ℕ) → pointwise nat_eq xs xs ≡ true
same_bytes xs = (bytes_eq-Decides xs xs).1 refl

-- an own packet has none
pub way_of-own : (k : Mechanism) (s : State) (f : Fields) → f.session ≡ s.session → is_own s.side f.epoch ≡ true
    → way_of k s f ≡ Err (OwnPacket f.epoch)
unfolding way_of
way_of-own k s f session own =
    cond-false (not (pointwise nat_eq f.session s.session)) (Err OtherSession) _
    (ap not (ap (λ id. pointwise nat_eq id s.session) session ∙ same_bytes s.session))
    ∙ cond-true (is_own s.side f.epoch) (Err (OwnPacket f.epoch)) _ own

-- the way of a peer's packet, in a known epoch or in the next one
pub way_of-peers : (k : Mechanism) (s : State) (f : Fields) → f.session ≡ s.session → is_own s.side f.epoch ≡ false
    → f.epoch ≤ s.epoch + 1
    → way_of k s f
    ≡ (if nat_eq f.epoch (s.epoch + 1) then epoch_way k s f s.phase else known_way s (position_of f) s.receiving)
unfolding way_of
way_of-peers k s f session own near =
    cond-false (not (pointwise nat_eq f.session s.session)) (Err OtherSession) _
    (ap not (ap (λ id. pointwise nat_eq id s.session) session ∙ same_bytes s.session))
    ∙ cond-false (is_own s.side f.epoch) (Err (OwnPacket f.epoch)) _ own
    ∙ cond-false (nat_lt (s.epoch + 1) f.epoch) (Err (Ahead f.epoch s.epoch)) _ (le-ltb (s.epoch + 1) f.epoch near)

-- ---- its key opens it

-- the tag covers the length of what is sealed, which is that of the ciphertext
tag-fields : (k : Mechanism) (c : Conversation) (p : Position) (key : List ℕ)
    → key ≡ message_key (turn_of_epoch k c p.epoch).stream p.index
    → (post_fields k c p).tag ≡ tag_of key (ad_of (post_fields k c p)) (post_fields k c p).ciphertext
tag-fields k c p key same =
    let own_key = message_key (turn_of_epoch k c p.epoch).stream p.index in
    ap (λ n. tag_of own_key
    (header_of (epoch_version c p.epoch) (session_of c.key) p.epoch (previous_of c p.epoch) p.index (turn_of_epoch k c p.epoch).agreement n)
    (ciphertext_of own_key (sealed_at c p)))
    (sym (length-ciphertext_of own_key (sealed_at c p)))
    ∙ ap (λ key. tag_of key (ad_of (post_fields k c p)) (post_fields k c p).ciphertext) (sym same)

-- its key opens it to what was said, whose receipt is obeyed
pub opened_by-key : (k : Mechanism) (c : Conversation) (p : Position) (way : Way) → IsPlace c p
    → way.key ≡ message_key (turn_of_epoch k c p.epoch).stream p.index
    → opened_by (post_fields k c p) (Ok way)
    ≡ Ok (record {
      position = p;
      kind = kind_at c p;
      text = text_at c p;
      next = record way.next { awaiting = still_waiting (receipt_at c p) way.next.awaiting };
    })
opened_by-key k c p way place same =
    let f = post_fields k c p in
    let tag = tag_of way.key (ad_of f) f.ciphertext in
    let tagged : pointwise nat_eq f.tag tag ≡ true = ap (λ t. pointwise nat_eq f.tag t) (sym (tag-fields k c p way.key same))
    ∙ same_bytes f.tag in
    cond-true (pointwise nat_eq f.tag tag) _ (Err BadTag) tagged
    ∙ ap (λ bytes. opened_as f way (opened_body f.version (peer_of (side_of f.epoch)) bytes))
    (ap (λ key. ciphertext_of key f.ciphertext) same
    ∙ ciphertext_of-ciphertext_of (message_key (turn_of_epoch k c p.epoch).stream p.index) (sealed_at c p))
    ∙ ap (opened_as f way) (sealed-opens (epoch_version c p.epoch) (peer_of (side_of p.epoch)) (body_at c p) place.sealed)
