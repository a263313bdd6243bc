-- Fields that are lent, and fields that are given one by one.
use Rattle.std.specs.Prelude.{◌≡◌, ℕ, List, length, take, drop}
use Rattle.dr_base.specs.declared.position.Position.{Position}
use Rattle.packet.specs.declared.parts.Parts.{Parts}
use Rattle.packet.specs.Packet.{Fields, IsLawful, packet_of}

-- the fields that were lent from bytes
abbrev pub fields_of : Parts → Fields
fields_of p = record {
  version = p.version;
  session = p.session.now;
  epoch = p.epoch;
  previous = p.previous;
  index = p.index;
  agreement = p.agreement.now;
  ciphertext = p.ciphertext.now;
  tag = p.tag.now;
}

-- the fields of a packet that is written at a position
abbrev pub fields_at : ℕ → List ℕ → Position → ℕ → List ℕ → List ℕ → List ℕ → Fields
fields_at version session position previous agreement ciphertext tag = record {
  version = version;
  session = session;
  epoch = position.epoch;
  previous = previous;
  index = position.index;
  agreement = agreement;
  ciphertext = ciphertext;
  tag = tag;
}

-- lawful fields, and the bytes of their packet
pub record IsViewed (bytes : List ℕ) (f : Fields) : Type 0 where
  pub bytes_are : bytes ≡ packet_of f
  pub lawful : IsLawful (length f.agreement) f

-- from a place on, the bytes are first those of a field
abbrev pub HasAt : List ℕ → ℕ → List ℕ → Type 0
HasAt bytes place field = take (length field) (drop place bytes) ≡ field
