-- The clients that have a record.
use Rattle.std.specs.Prelude.{◌≡◌, ◌^◌, ◌<◌, ◌≤◌, true, false, All, length, Ok}
use Rattle.boxes.specs.Entries.{Entry}
use Rattle.boxes.specs.Parts.{is_content}
use Rattle.boxes.specs.Posts.{Post}
use Rattle.cka.specs.Agreement.{agreement_size}
use Rattle.dr_base.specs.Position.{is_own}
use Rattle.dr_base.specs.declared.limits.TheConstants.{INBOX_LIMIT, INDEX_LIMIT, OUTBOX_LIMIT}
use Rattle.kem_laws.specs.Mechanism.{Mechanism}
use Rattle.packet.specs.Packet.{Fields}
use Rattle.packet.specs.Reading.{read_packet}
use Rattle.session_model.specs.BoxKeys.{HasLongKeys}
use Rattle.session_model.specs.Clients.{Client}
use Rattle.session_model.specs.LawfulStates.{IsLawfulState}
use Rattle.session_model.specs.States.{State}
use Rattle.session_model.specs.Ways.{position_of}
use Rattle.session_record.specs.Record.{Saved}
use Rattle.session_record.specs.Versions.{IsAwaitingOf, IsFormatOf, IsKeysOf, inbox_most, is_kind_of, is_packet_of, kept_most, outbox_most, text_most}
use Rattle.session_record.specs.declared.versions.Version.{Version}

-- a content of the peer's, of an epoch that was reached
pub record IsLawfulEntry (s : State) (entry : Entry) : Type 0 where
  pub peers : is_own s.side entry.position.epoch ≡ false
  pub reached : entry.position.epoch ≤ s.epoch
  pub from_one : 1 ≤ entry.position.index
  pub most : entry.position.index ≤ INDEX_LIMIT
  pub content : is_content entry.kind entry.text ≡ true

-- a packet of the session, of an own epoch that was reached, under the position that it names
pub record IsLawfulPost (k : Mechanism) (s : State) (post : Post) : Type 0 where
  pub fields : Fields
  pub reads : read_packet (agreement_size k) post.packet ≡ Ok fields
  pub session : fields.session ≡ s.session
  pub own : is_own s.side fields.epoch ≡ true
  pub reached : fields.epoch ≤ s.epoch
  pub place : post.position ≡ position_of fields
  -- its length stands in two bytes
  pub fits : length post.packet < 2 ^ 16

-- a lawful state, and boxes that hold what they may
pub record IsLawfulClient (k : Mechanism) (c : Client) : Type 0 where
  pub state : IsLawfulState k c.state
  pub keys_long : All (λ kept. length kept.key.bytes ≡ 32) c.state.kept
  pub inbox : All (IsLawfulEntry c.state) c.inbox
  pub few_entries : length c.inbox ≤ INBOX_LIMIT
  pub outbox : All (IsLawfulPost k c.state) c.outbox
  pub few_posts : length c.outbox ≤ OUTBOX_LIMIT
  pub relay : HasLongKeys c.relay

-- a packet that stands in a record of the version
abbrev pub IsPostOf : Mechanism → Version → Post → Type 0
IsPostOf k version post =
    (f : Fields) → read_packet (agreement_size k) post.packet ≡ Ok f → is_packet_of version f ≡ true

-- what a version allows
pub record FitsVersion (k : Mechanism) (version : Version) (c : Client) : Type 0 where
  pub format : IsFormatOf version c.state.format
  pub few_kept : length c.state.kept ≤ kept_most version
  pub few_entries : length c.inbox ≤ inbox_most version
  pub kinds : All (λ entry. is_kind_of version entry.kind ≡ true) c.inbox
  pub short_texts : All (λ entry. length entry.text ≤ text_most version) c.inbox
  pub few_posts : length c.outbox ≤ outbox_most version
  pub posts : All (IsPostOf k version) c.outbox
  pub awaiting : IsAwaitingOf version c.state.awaiting
  pub relay : IsKeysOf version c.relay

-- a client that has a record in a version
pub record IsLawfulSaved (k : Mechanism) (s : Saved) : Type 0 where
  pub client : IsLawfulClient k s.client
  pub fits : FitsVersion k s.version s.client
