-- How far a fault of a record may stand after its beginning.
use Rattle.std.proofs.Common.{◌≡◌, ℕ, ◌+◌, ◌≤◌, Bool, true, false, List, length, Result, Ok, Err, refl, ap, subst, arith, if◌then◌else◌}
use Rattle.std.specs.Prelude.{◌==◌}
use Rattle.std.specs.Int.{w8, w16, w32}
use Rattle.std.proofs.lemmas.Bool.{leb-true}
use Rattle.bodies.specs.Receipts.{listed_place}
use Rattle.cka.specs.Agreement.{agreement_size}
use Rattle.dr_base.specs.Position.{is_own}
use Rattle.dr_base.specs.declared.limits.TheConstants.{AGREEMENT_LIMIT, AWAITING_LIMIT, INBOX_LIMIT, INDEX_LIMIT, KEPT_LIMIT, LAST_EPOCH, OUTBOX_LIMIT, PACKET_LIMIT, TEXT_LIMIT}
use Rattle.dr_base.specs.declared.position.Side.{Side}
use Rattle.dr_base.specs.Bytes.{AreBytes}
use Rattle.grammar.specs.Reader.{Read, checked, ended, mapped, number, piece}
use Rattle.grammar.proofs.Within.{EndsBy, IsWithin, within-both, within-checked, within-counted, within-either, within-mapped, within-maybe, within-more, within-number, within-numbered, within-piece, within-short}
use Rattle.kem_laws.specs.Mechanism.{IsLawfulMechanism, Mechanism}
use Rattle.packet.specs.Packet.{Fields, agreement_len}
use Rattle.packet.specs.Reading.{read_packet, is_index}
use Rattle.packet.specs.declared.fault.Malformed.{Malformed}
use Rattle.packet.proofs.Known.{text_few}
use Rattle.packet.proofs.Lengths.{length-packet_of}
use Rattle.packet.proofs.Read.{read_was_printed}
use Rattle.session_model.specs.BoxKeys.{relay_keys_at}
use Rattle.session_model.specs.declared.relay_keys.TheConstants.{RELAY_KEYS_SIZE}
use Rattle.session_record.specs.declared.limits.TheConstants.{COUNT_SIZE, ENTRIES_LIMIT, ENTRY_LIMIT, HEADING_SIZE, KEPT_SIZE, KEYS_LIMIT, PHASE_LIMIT, POSTS_LIMIT, POST_LIMIT, RECORD_LIMIT, RELAY_LIMIT, PLACE_SIZE, STREAM_SIZE, WAITING_LIMIT}
use Rattle.session_record.specs.Awaiting.{awaiting_field, awaiting_of, is_waiting_epoch, is_waiting_index, last_waiting, sent_of, waiting_behind, waiting_item}
use Rattle.session_record.specs.Fields.{count_field, epoch_field, is_secret, own_fields, phase_field, previous_field, receiving_field, reception_fields, side_field, format_byte, format_field, format_at, format_of, is_format, up_to, own_of, phase_of, reception_of, version_field, is_side, side_at, is_previous, has_receiving}
use Rattle.boxes.specs.Parts.{is_content}
use Rattle.session_record.specs.Lists.{any_length, entry_field, entry_of, inbox_field, kind_field, kind_told, is_kept_epoch, is_kept_index, is_peers, is_post, is_posted, kept_behind, kept_field, kept_item, kept_of, last_position, outbox_field, post_field, post_of, reach_of}
use Rattle.session_record.specs.Groups.{boxes_fields, boxes_of, heading_fields, heading_of, keys_fields, keys_of}
use Rattle.session_record.specs.Relay.{flagged_keys, is_flag, keys_told, relay_field, relay_keys_field}
use Rattle.session_record.specs.Versions.{has_format, has_keys, has_kinds, has_receipts, inbox_most, is_kind_of, is_version, kept_most, outbox_most, text_most, version_at}
use Rattle.session_record.specs.declared.groups.Heading.{Heading}
use Rattle.session_record.specs.declared.versions.Version.{Version}
use Rattle.session_record.proofs.VersionLimits.{inbox-limit, kept-limit, outbox-limit, text-limit}
use Rattle.session_record.specs.Record.{record_fields, saved_of, saved_read}

-- ---- the fields before the lists

within-count : IsWithin COUNT_SIZE count_field
unfolding count_field
within-count = within-checked COUNT_SIZE (up_to INDEX_LIMIT) (number w32) (within-number w32)

pub message_fits : (agreement epoch : ℕ) → agreement ≤ AGREEMENT_LIMIT
    → agreement_len agreement epoch ≤ AGREEMENT_LIMIT
message_fits agreement epoch fits = grind arith

within-phase : (k : Mechanism) (side : Side) (epoch : ℕ) → IsLawfulMechanism k
    → IsWithin PHASE_LIMIT (phase_field k side epoch)
unfolding phase_field own_fields
within-phase k side epoch law =
    let message = message_fits (agreement_size k) epoch (omega (arith, law.public_fits, law.ciphertext_fits)) in
    let size = agreement_len (agreement_size k) epoch in
    within-mapped PHASE_LIMIT phase_of _
    (within-either PHASE_LIMIT (is_own side epoch) _ (piece k.public)
    (within-more (k.secret + (size + STREAM_SIZE)) PHASE_LIMIT _ (omega (arith, law.secret_fits, message))
    (within-mapped _ own_of _
    (within-both k.secret (size + STREAM_SIZE) _ _ (within-checked k.secret (is_secret k) (piece k.secret) (within-piece k.secret)) (λ _.
    within-both size STREAM_SIZE _ _ (within-piece size) (λ _.
    within-both _ COUNT_SIZE _ _ (within-piece 32) (λ _. within-count))))))
    (within-more k.public PHASE_LIMIT (piece k.public) (omega (arith, law.public_fits)) (within-piece k.public)))

within-receiving : (side : Side) (epoch : ℕ) → IsWithin STREAM_SIZE (receiving_field side epoch)
unfolding receiving_field reception_fields
within-receiving side epoch =
    within-maybe STREAM_SIZE (has_receiving side epoch) reception_fields
    (within-mapped STREAM_SIZE reception_of _ (within-both _ COUNT_SIZE (piece 32) _ (within-piece 32) (λ _. within-count)))

-- ---- the lists

within-kept : (version : Version) (side : Side) (epoch reach : ℕ) → IsWithin KEYS_LIMIT (kept_field version side epoch reach)
unfolding kept_field kept_behind
within-kept version side epoch reach =
    within-counted w16 (up_to (kept_most version)) KEPT_SIZE KEPT_LIMIT (kept_item side epoch reach)
    (λ n few. omega (arith, leb-true n (kept_most version) few, kept-limit version)) (λ before.
    within-mapped KEPT_SIZE kept_of _
    (within-both _ _ _ _ (within-checked _ (is_kept_epoch side epoch (last_position before)) (number w32) (within-number w32)) (λ t.
    within-both _ _ _ _ (within-checked _ (is_kept_index epoch reach (last_position before) t) (number w32) (within-number w32)) (λ _.
    within-piece 32))))

within-inbox : (version : Version) (side : Side) (epoch : ℕ) → IsWithin ENTRIES_LIMIT (inbox_field version side epoch)
unfolding inbox_field entry_field kind_field
within-inbox version side epoch =
    within-counted w8 (up_to (inbox_most version)) ENTRY_LIMIT INBOX_LIMIT (λ _. entry_field version side epoch)
    (λ n few. omega (arith, leb-true n (inbox_most version) few, inbox-limit version)) (λ before.
    within-mapped ENTRY_LIMIT entry_of _
    (within-both _ _ _ _ (within-checked _ (is_peers side epoch) (number w32) (within-number w32)) (λ _.
    within-both _ _ _ _ (within-checked _ is_index (number w32) (within-number w32)) (λ _.
    within-both _ _ _ _ (within-mapped _ kind_told _ (within-maybe _ (has_kinds version) _ (within-checked _ (is_kind_of version) (number w8) (within-number w8)))) (λ kind.
    within-mapped _ (λ e. e.1) _
    (within-numbered w16 (up_to (text_most version)) TEXT_LIMIT (λ n. checked (is_content kind) (piece n)) (λ n short.
    within-checked TEXT_LIMIT (is_content kind) (piece n)
    (within-more n TEXT_LIMIT (piece n) (omega (arith, leb-true n (text_most version) short, text-limit version)) (within-piece n)))))))))

-- a packet that was read is short
short_post : (k : Mechanism) (version : Version) (session : List ℕ) (side : Side) (epoch : ℕ) → IsLawfulMechanism k → (bytes : List ℕ) → AreBytes bytes
    → is_post k version session side epoch bytes ≡ true → length bytes ≤ PACKET_LIMIT
unfolding is_post
short_post k version session side epoch law bytes are passes = by_read (read_packet (agreement_size k) bytes) refl passes
  where
    by_read : (r : Result Fields Malformed) → read_packet (agreement_size k) bytes ≡ r
        → is_posted version session side epoch r ≡ true → length bytes ≤ PACKET_LIMIT
    by_read (Err fault) is passes = absurd (let e : false ≡ true = passes in cc)
    by_read (Ok f) is passes =
        let was = read_was_printed (agreement_size k) bytes f are is in
        let message = message_fits (agreement_size k) f.epoch (omega (arith, law.public_fits, law.ciphertext_fits)) in
        omega (arith, ap (λ (l : List ℕ). length l) was.1, length-packet_of f was.0.session_len was.0.tag_len, was.0.agreement_is, text_few f.version (length f.ciphertext) was.0.text_fits, message)

within-outbox : (k : Mechanism) (version : Version) (session : List ℕ) (side : Side) (epoch : ℕ) → IsLawfulMechanism k
    → IsWithin POSTS_LIMIT (outbox_field k version session side epoch)
unfolding outbox_field post_field
within-outbox k version session side epoch law =
    within-counted w8 (up_to (outbox_most version)) POST_LIMIT OUTBOX_LIMIT (λ _. post_field k version session side epoch)
    (λ n few. omega (arith, leb-true n (outbox_most version) few, outbox-limit version)) (λ before.
    within-mapped POST_LIMIT (post_of k) _
    (within-mapped POST_LIMIT (λ e. e.1) _
    (within-numbered w16 any_length PACKET_LIMIT (λ n. checked (is_post k version session side epoch) (piece n)) (λ n any.
    within-short n PACKET_LIMIT (is_post k version session side epoch) (short_post k version session side epoch law)))))

within-awaiting : (version : Version) (side : Side) (epoch sent : ℕ) → IsWithin WAITING_LIMIT (awaiting_field version side epoch sent)
unfolding awaiting_field waiting_behind
within-awaiting version side epoch sent =
    within-mapped WAITING_LIMIT awaiting_of _
    (within-maybe WAITING_LIMIT (has_receipts version) _
    (within-counted w8 (up_to AWAITING_LIMIT) PLACE_SIZE AWAITING_LIMIT (waiting_item side epoch sent) (λ n few. leb-true n AWAITING_LIMIT few) (λ before.
    within-mapped PLACE_SIZE listed_place _
    (within-both _ _ _ _ (within-checked _ (is_waiting_epoch side epoch (last_waiting before)) (number w32) (within-number w32)) (λ t.
    within-checked _ (is_waiting_index epoch sent (last_waiting before) t) (number w32) (within-number w32))))))

within-relay : (version : Version) → IsWithin RELAY_LIMIT (relay_field version)
unfolding relay_field flagged_keys relay_keys_field
within-relay version =
    within-mapped RELAY_LIMIT keys_told _
    (within-maybe RELAY_LIMIT (has_keys version) _
    (within-mapped RELAY_LIMIT (λ e. e.1) _
    (within-both _ _ _ _ (within-checked _ is_flag (number w8) (within-number w8)) (λ flag.
    within-maybe RELAY_KEYS_SIZE (flag == 1) _
    (within-mapped RELAY_KEYS_SIZE relay_keys_at _ (within-piece RELAY_KEYS_SIZE))))))

-- ---- the groups

within-heading : IsWithin HEADING_SIZE heading_fields
unfolding heading_fields version_field side_field format_field format_byte epoch_field
within-heading =
    within-mapped HEADING_SIZE heading_of _
    (within-both _ _ _ _ (within-mapped _ version_at _ (within-checked _ is_version (number w8) (within-number w8))) (λ version.
    within-both _ _ _ _ (within-mapped _ side_at _ (within-checked _ is_side (number w8) (within-number w8))) (λ _.
    within-both _ _ _ _ (within-mapped _ format_of _ (within-maybe _ (has_format version) _
    (within-mapped _ format_at _ (within-checked _ (is_format version) (number w8) (within-number w8))))) (λ _.
    within-both _ _ _ _ (within-piece 16) (λ _.
    within-both _ _ _ _ (within-piece 32) (λ _.
    within-checked _ (up_to LAST_EPOCH) (number w32) (within-number w32)))))))

within-keys : (k : Mechanism) (h : Heading) → IsLawfulMechanism k
    → IsWithin (PHASE_LIMIT + (COUNT_SIZE + (STREAM_SIZE + KEYS_LIMIT))) (keys_fields k h)
unfolding keys_fields previous_field
within-keys k h law =
    within-mapped _ keys_of _
    (within-both PHASE_LIMIT _ _ _ (within-phase k h.side h.epoch law) (λ _.
    within-both COUNT_SIZE _ _ _ (within-checked COUNT_SIZE (is_previous h.side h.epoch) (number w32) (within-number w32)) (λ _.
    within-both STREAM_SIZE _ _ _ (within-receiving h.side h.epoch) (λ receiving.
    within-kept h.version h.side h.epoch (reach_of receiving)))))

within-boxes : (k : Mechanism) (h : Heading) → IsLawfulMechanism k → IsWithin (ENTRIES_LIMIT + POSTS_LIMIT) (boxes_fields k h)
unfolding boxes_fields
within-boxes k h law =
    within-mapped _ boxes_of _
    (within-both ENTRIES_LIMIT _ _ _ (within-inbox h.version h.side h.epoch) (λ _.
    within-outbox k h.version h.session h.side h.epoch law))

-- ---- the record

within-record : (k : Mechanism) → IsLawfulMechanism k → IsWithin RECORD_LIMIT (mapped saved_of (record_fields k))
unfolding record_fields
within-record k law =
    within-mapped RECORD_LIMIT saved_of (record_fields k)
    (within-both HEADING_SIZE _ _ _ within-heading (λ heading.
    within-both (PHASE_LIMIT + (COUNT_SIZE + (STREAM_SIZE + KEYS_LIMIT))) _ _ _ (within-keys k heading law) (λ keys.
    within-both (ENTRIES_LIMIT + POSTS_LIMIT) _ _ _ (within-boxes k heading law) (λ _.
    within-both WAITING_LIMIT RELAY_LIMIT _ _ (within-awaiting heading.version heading.side heading.epoch (sent_of keys.phase)) (λ _.
    within-relay heading.version)))))

fault_within : {A : Type 0} (most : ℕ) (r : Result (Read A) ℕ) (at : ℕ) → EndsBy most r → ended r ≡ Err at → at ≤ most
fault_within most (Err fault) at ends is = let same : fault ≡ at = cc in omega (arith, ends)
fault_within most (Ok x) at ends is = by_rest (length x.rest == 0) is
  where
    by_rest : (b : Bool) → (if b then Ok x.value else Err x.at) ≡ Err at → at ≤ most
    by_rest true is = absurd (let e : Ok x.value ≡ Err at = is in cc)
    by_rest false is = let same : x.at ≡ at = cc in omega (arith, ends.0)

-- a fault stands at most this far after the beginning
pub fault-place : (k : Mechanism) (text : List ℕ) (at : ℕ) → IsLawfulMechanism k → AreBytes text → saved_read k text ≡ Err at → at ≤ RECORD_LIMIT
unfolding saved_read
fault-place k text at law are is =
    let most : 0 + RECORD_LIMIT ≡ RECORD_LIMIT = omega arith in
    fault_within RECORD_LIMIT (mapped saved_of (record_fields k) 0 text) at
    (subst (λ n. EndsBy n (mapped saved_of (record_fields k) 0 text)) most (within-record k law 0 text are)) is
