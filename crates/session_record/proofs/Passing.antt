-- The values that pass the tests of the record's reader, field by field.
use Rattle.std.specs.Prelude.{◌≡◌, ℕ, ◌^◌, ◌<◌, Bool, true, false, List, [], Option, length}
use Rattle.boxes.specs.Entries.{Entry}
use Rattle.boxes.specs.Parts.{is_content}
use Rattle.boxes.specs.Posts.{Post}
use Rattle.cka.specs.Agreement.{agreement_size}
use Rattle.dr_base.specs.Position.{is_own}
use Rattle.dr_base.specs.declared.key.Kept.{Kept}
use Rattle.dr_base.specs.declared.limits.TheConstants.{AWAITING_LIMIT, INDEX_LIMIT, LAST_EPOCH}
use Rattle.dr_base.specs.declared.position.Position.{Position}
use Rattle.dr_base.specs.declared.position.Side.{Side}
use Rattle.grammar.specs.Printer.{AreItems, IsEither, IsMaybe}
use Rattle.kem_laws.specs.Mechanism.{Mechanism}
use Rattle.packet.specs.Packet.{agreement_len}
use Rattle.session_model.specs.BoxKeys.{HasLongKeys}
use Rattle.session_model.specs.States.{Own, Phase, Reception}
use Rattle.session_model.specs.declared.relay_keys.RelayKeys.{RelayKeys}
use Rattle.session_record.specs.Awaiting.{is_waiting_epoch, is_waiting_index, last_waiting, sent_of}
use Rattle.session_record.specs.Fields.{has_receiving, is_previous, is_secret, of_phase, up_to}
use Rattle.session_record.specs.Lists.{is_kept_epoch, is_kept_index, is_peers, is_post, last_position, post_of, reach_of}
use Rattle.packet.specs.Reading.{is_index}
use Rattle.session_record.specs.Groups.{Boxes, Keys}
use Rattle.session_record.specs.Record.{Saved, boxes_in, heading_in, keys_in}
use Rattle.session_record.specs.Versions.{IsFormatOf, IsKeysOf, has_receipts, inbox_most, is_kind_of, kept_most, outbox_most, text_most}
use Rattle.session_record.specs.declared.groups.Heading.{Heading}
use Rattle.session_record.specs.declared.versions.Version.{Version}

pub record PassesOwn (k : Mechanism) (epoch : ℕ) (own : Own) : Type 0 where
  pub secret_long : length own.secret ≡ k.secret
  pub secret_good : is_secret k own.secret ≡ true
  pub agreement_long : length own.agreement ≡ agreement_len (agreement_size k) epoch
  pub chain_long : length own.chain ≡ 32
  pub few : up_to INDEX_LIMIT own.sent ≡ true

abbrev pub PassesPhase : Mechanism → Side → ℕ → Phase → Type 0
PassesPhase k side epoch phase = IsEither (is_own side epoch) (PassesOwn k epoch) (λ public. length public ≡ k.public) (of_phase phase)

pub record PassesReception (r : Reception) : Type 0 where
  pub chain_long : length r.chain ≡ 32
  pub few : up_to INDEX_LIMIT r.reach ≡ true

pub record PassesKept (side : Side) (epoch reach : ℕ) (before : List Kept) (kept : Kept) : Type 0 where
  pub epoch_is : is_kept_epoch side epoch (last_position before) kept.position.epoch ≡ true
  pub epoch_fits : kept.position.epoch < 2 ^ 32
  pub index_is : is_kept_index epoch reach (last_position before) kept.position.epoch kept.position.index ≡ true
  pub index_fits : kept.position.index < 2 ^ 32
  pub key_long : length kept.key.bytes ≡ 32

pub record PassesEntry (version : Version) (side : Side) (epoch : ℕ) (before : List Entry) (entry : Entry) : Type 0 where
  pub epoch_is : is_peers side epoch entry.position.epoch ≡ true
  pub epoch_fits : entry.position.epoch < 2 ^ 32
  pub index_is : is_index entry.position.index ≡ true
  pub kind_is : is_kind_of version entry.kind ≡ true
  pub short : up_to (text_most version) (length entry.text) ≡ true
  pub content : is_content entry.kind entry.text ≡ true

pub record PassesPost (k : Mechanism) (version : Version) (session : List ℕ) (side : Side) (epoch : ℕ) (before : List Post) (one : Post) : Type 0 where
  pub post : is_post k version session side epoch one.packet ≡ true
  pub fits : length one.packet < 2 ^ 16
  pub own_place : post_of k one.packet ≡ one

pub record PassesWaiting (side : Side) (epoch sent : ℕ) (before : List Position) (p : Position) : Type 0 where
  pub epoch_is : is_waiting_epoch side epoch (last_waiting before) p.epoch ≡ true
  pub epoch_fits : p.epoch < 2 ^ 32
  pub index_is : is_waiting_index epoch sent (last_waiting before) p.epoch p.index ≡ true
  pub index_fits : p.index < 2 ^ 32

-- where the field stands or not
pub record PassesAwaiting (there : Bool) (side : Side) (epoch sent : ℕ) (awaiting : List Position) : Type 0 where
  pub allowed : there ≡ false → awaiting ≡ []
  pub few : up_to AWAITING_LIMIT (length awaiting) ≡ true
  pub each : AreItems (PassesWaiting side epoch sent) (length awaiting) awaiting

-- keys that a version has
pub record PassesRelay (version : Version) (keys : Option RelayKeys) : Type 0 where
  pub long : HasLongKeys keys
  pub allowed : IsKeysOf version keys

-- ---- the groups

pub record PassesHeading (h : Heading) : Type 0 where
  pub format : IsFormatOf h.version h.format
  pub session_long : length h.session ≡ 16
  pub root_long : length h.root.bytes ≡ 32
  pub epoch_fits : up_to LAST_EPOCH h.epoch ≡ true

pub record PassesKeys (k : Mechanism) (h : Heading) (keys : Keys) : Type 0 where
  pub phase : PassesPhase k h.side h.epoch keys.phase
  pub previous : is_previous h.side h.epoch keys.previous ≡ true
  pub receiving : IsMaybe (has_receiving h.side h.epoch) PassesReception keys.receiving
  pub few_kept : up_to (kept_most h.version) (length keys.kept) ≡ true
  pub kept : AreItems (PassesKept h.side h.epoch (reach_of keys.receiving)) (length keys.kept) keys.kept

pub record PassesBoxes (k : Mechanism) (h : Heading) (boxes : Boxes) : Type 0 where
  pub few_entries : up_to (inbox_most h.version) (length boxes.inbox) ≡ true
  pub inbox : AreItems (PassesEntry h.version h.side h.epoch) (length boxes.inbox) boxes.inbox
  pub few_posts : up_to (outbox_most h.version) (length boxes.outbox) ≡ true
  pub outbox : AreItems (PassesPost k h.version h.session h.side h.epoch) (length boxes.outbox) boxes.outbox

pub record Passes (k : Mechanism) (s : Saved) : Type 0 where
  pub heading : PassesHeading (heading_in s.version s.client.state)
  pub keys : PassesKeys k (heading_in s.version s.client.state) (keys_in s.client.state)
  pub boxes : PassesBoxes k (heading_in s.version s.client.state) (boxes_in s.client)
  pub awaiting : PassesAwaiting (has_receipts s.version) s.client.state.side s.client.state.epoch (sent_of s.client.state.phase) s.client.state.awaiting
  pub relay : PassesRelay s.version s.client.relay
