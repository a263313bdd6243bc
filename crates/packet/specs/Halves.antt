-- Reading a packet in two halves: the numbers that come first, and what their sizes tell.
use Rattle.std.specs.Prelude.{ℕ, ◌+◌, ◌==◌, List, Result, Ok}
use Rattle.std.specs.Int.{w8, w16, w32}
use Rattle.dr_base.specs.declared.limits.TheConstants.{PACKET_FRAME}
use Rattle.packet.specs.declared.parts.Head.{Head as HeadPart}
use Rattle.packet.specs.declared.fault.Kind.TheVariants.{Version, Epoch, Previous, Index, Agreement, Text}
use Rattle.packet.specs.declared.fault.Malformed.{Malformed}
use Rattle.packet.specs.Packet.{Fields, agreement_len}
use Rattle.packet.specs.Reading.{◌>>=◌, field, lawful, is_version, is_epoch, is_previous, is_index, is_text_len, ended}

-- the numbers before the agreement message, its length as the last
pub record Head : Type 0 where
  pub version : ℕ
  pub session : List ℕ
  pub epoch : ℕ
  pub previous : ℕ
  pub index : ℕ
  pub size : ℕ

-- the numbers, the session id lent from bytes
abbrev pub head_of : HeadPart → Head
head_of h = record { version = h.version; session = h.session.now; epoch = h.epoch; previous = h.previous; index = h.index; size = h.size }

-- the numbers and the bytes after them, or the first fault
unfoldable pub read_head : ℕ → List ℕ → Result (Head × List ℕ) Malformed
read_head agreement bytes = do
  version ← lawful w8 0 Version is_version bytes
  session ← field 1 16 version.1
  epoch ← lawful w32 17 Epoch is_epoch session.1
  previous ← lawful w32 21 Previous (is_previous epoch.0) epoch.1
  index ← lawful w32 25 Index is_index previous.1
  size ← lawful w16 29 Agreement (λ n. n == agreement_len agreement epoch.0) index.1
  Ok (record { version = version.0; session = session.0; epoch = epoch.0; previous = previous.0; index = index.0; size = size.0 }, size.1)

-- the packet with these numbers, from the bytes after them, or the first fault
unfoldable pub read_body : Head → List ℕ → Result Fields Malformed
read_body head bytes = do
  message ← field 31 head.size bytes
  text_len ← lawful w16 (31 + head.size) Text (is_text_len head.version) message.1
  ciphertext ← field (33 + head.size) text_len.0 text_len.1
  tag ← field (33 + head.size + text_len.0) 32 ciphertext.1
  ended (PACKET_FRAME + head.size + text_len.0) tag.1
      (record {
        version = head.version;
        session = head.session;
        epoch = head.epoch;
        previous = head.previous;
        index = head.index;
        agreement = message.0;
        ciphertext = ciphertext.0;
        tag = tag.0;
      })
