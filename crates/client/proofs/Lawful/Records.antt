-- What a side keeps in a lawful world has a record.
use Rattle.std.proofs.Common.{Bool, List, [], ap, arith, length, map, refl, sym, true, ℕ, ◌-◌, ◌∙◌, ◌∷◌, ◌≡◌, ◌≤◌, Some, None, false, if◌then◌else◌}
use Rattle.std.specs.Prelude.{All, filter, not, slice_index_or}
use Rattle.std.proofs.lemmas.List.Elements.{All-drop, All-filter, All-map, All-weaker, filter_passes}
use Rattle.cka.specs.Agreement.{agreement_size}
use Rattle.dr_base.specs.Position.{is_own}
use Rattle.dr_base.specs.declared.limits.TheConstants.{AGREEMENT_LIMIT}
use Rattle.dr_base.specs.declared.position.Position.{Position}
use Rattle.dr_base.specs.declared.position.Side.{Side}
use Rattle.fs_aead.specs.Chain.{chain_message_key, chain_of, message_key}
use Rattle.hmac_hkdf.proofs.Lengths.{length-hmac_of}
use Rattle.kem_laws.specs.Mechanism.{IsLawfulMechanism, Mechanism}
use Rattle.packet.proofs.Known.{text_few}
use Rattle.packet.proofs.Lengths.{length-packet_of}
use Rattle.session_model.specs.Sealing.{posted}
use Rattle.session_model.specs.BoxKeys.{HasLongKeys, relay_keys_of}
use Rattle.session_model.proofs.KeyBytes.{relay-long}
use Rattle.session_record.specs.Lawful.{IsLawfulClient, IsLawfulEntry, IsLawfulPost}
use Rattle.dr_model.specs.Conversations.Conversation.{Conversation, is_said, positions}
use Rattle.dr_model.specs.Conversations.Lawful.{HasArrived, IsLawfulConversation, IsLawfulView}
use Rattle.dr_model.specs.Conversations.Posts.{post_fields, key_of, post_at, turn_of_epoch}
use Rattle.dr_model.specs.Conversations.Standing.{is_in, standing}
use Rattle.dr_model.specs.Conversations.ViewStates.{state_of}
use Rattle.dr_model.specs.Conversations.Views.{View, entry_at, inbox_of, missing_of, outbox_of}
use Rattle.dr_model.specs.Machines.WorldSides.{kept_in}
use Rattle.dr_model.specs.Machines.Worlds.{World, view_of}
use Rattle.dr_model.specs.Theorems.LawfulWorlds.{IsLawfulWorld}
use Rattle.dr_model.proofs.Growth.Growing.{positions-said}
use Rattle.dr_model.proofs.Taking.PacketFields.{IsLawful-fields, content_said, is_place, read-post}
use Rattle.dr_model.proofs.Worlds.StateLawful.{lawful_state}
use Rattle.dr_model.proofs.Worlds.WorldViews.{own_reached, view_lawful}
use Rattle.client.proofs.Lawful.Saying.{message_fits}

-- ---- kept keys

length-message_key : (stream : List ℕ) (index : ℕ) → length (message_key stream index) ≡ 32
unfolding message_key chain_message_key
length-message_key stream index = length-hmac_of (chain_of stream (index - 1)) (1 ∷ [])

keys_long : (k : Mechanism) (c : Conversation) (missing : List Position)
    → All (λ kept. length kept.key.bytes ≡ 32) (map (key_of k c) missing)
keys_long k c missing =
    All-map (λ kept. length kept.key.bytes ≡ 32) (key_of k c) missing
    (λ i d inside. let p = slice_index_or missing i d in
    length-message_key (turn_of_epoch k c p.epoch).stream p.index)

-- ---- the inbox

entry_lawful : (k : Mechanism) (c : Conversation) (v : View) (p : Position) → IsLawfulConversation k c → HasArrived c v p
    → IsLawfulEntry (state_of k c v) (entry_at c p)
entry_lawful k c v p lawful has =
    let place = is_place k c p lawful has.said in
    record { peers = has.peers; reached = has.reached; from_one = place.one; most = place.few; content = content_said c p place }

entries_lawful : (k : Mechanism) (c : Conversation) (side : Side) (v : View) → IsLawfulConversation k c
    → IsLawfulView k c side v → All (IsLawfulEntry (state_of k c v)) (inbox_of c v)
entries_lawful k c side v lawful view =
    let Q = IsLawfulEntry (state_of k c v) in
    let stand = standing v.arrived v.done in
    All-map Q (entry_at c) stand
    (All-weaker (HasArrived c v) (λ p. Q (entry_at c p)) (λ p has. entry_lawful k c v p lawful has) stand
    (All-filter (λ p. not (is_in v.done p)) (HasArrived c v) v.arrived view.arrivals))

-- ---- the outbox

post_lawful : (k : Mechanism) (c : Conversation) (side : Side) (v : View) (p : Position) → IsLawfulMechanism k
    → IsLawfulConversation k c → IsLawfulView k c side v → is_said c p ≡ true → is_own v.side p.epoch ≡ true
    → IsLawfulPost k (state_of k c v) (post_at k c p)
unfolding posted
post_lawful k c side v p law lawful view said own =
    let place = is_place k c p lawful said in
    let fields = IsLawful-fields k c p law lawful place in
    let f = post_fields k c p in
    let mine : is_own side p.epoch ≡ true = sym (ap (λ s. is_own s p.epoch) view.side_is) ∙ own in
    let long = length-packet_of f fields.session_len fields.tag_len in
    let message : length f.agreement ≤ AGREEMENT_LIMIT =
    omega (
      arith,
      fields.agreement_is,
      message_fits (agreement_size k) p.epoch
          (omega (arith, law.public_fits, law.ciphertext_fits)),
    ) in
    record {
      fields = f;
      reads = read-post k c p law lawful place;
      session = refl;
      own = own;
      reached = own_reached k c side v p.epoch view mine place.began;
      place = refl;
      fits = omega (arith, long, message, text_few f.version (length f.ciphertext) fields.text_fits);
    }

posts_lawful : (k : Mechanism) (c : Conversation) (side : Side) (v : View) → IsLawfulMechanism k → IsLawfulConversation k c
    → IsLawfulView k c side v → All (IsLawfulPost k (state_of k c v)) (outbox_of k c v)
posts_lawful k c side v law lawful view =
    let Q = IsLawfulPost k (state_of k c v) in
    let own : Position → Bool = λ p. is_own v.side p.epoch in
    let said : All (λ p. is_said c p ≡ true) (filter own (positions c)) =
    All-filter own (λ p. is_said c p ≡ true) (positions c) (positions-said c) in
    All-drop Q v.dropped (map (post_at k c) (filter own (positions c)))
    (All-map Q (post_at k c) (filter own (positions c))
    (λ i d inside. post_lawful k c side v (slice_index_or (filter own (positions c)) i d) law lawful view
    (said i d inside) (filter_passes own (positions c) i d inside)))

-- ---- the keys of its boxes at a relay

relay_lawful : (key : List ℕ) (keyed : Bool) → HasLongKeys (if keyed then Some (relay_keys_of key) else None)
relay_lawful key true = relay-long key
relay_lawful key false = tt

-- ---- all of it

pub lawful_kept : (k : Mechanism) (w : World) (side : Side) → IsLawfulMechanism k → IsLawfulWorld k w
    → IsLawfulClient k (kept_in k w side)
lawful_kept k w side law lawful =
    let c = w.conversation in
    let v = view_of w side in
    let view = view_lawful k w side lawful in
    record {
      state = lawful_state k w side law lawful;
      keys_long = keys_long k c (missing_of c v);
      inbox = entries_lawful k c side v lawful.conversation view;
      few_entries = view.few_texts;
      outbox = posts_lawful k c side v law lawful.conversation view;
      few_posts = view.few_packets;
      relay = relay_lawful c.key v.keyed;
    }
