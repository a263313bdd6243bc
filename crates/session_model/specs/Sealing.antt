-- The packet of a text.
use Rattle.std.specs.Prelude.{List, length, ℕ}
use Rattle.bodies.specs.Bodies.{Body, sealed_body}
use Rattle.boxes.specs.Posts.{Post, post_under}
use Rattle.dr_base.specs.declared.position.Position.{Position}
use Rattle.etm_aead.specs.Seal.{ciphertext_of, tag_of}
use Rattle.packet.specs.Packet.{Fields, header_of, packet_of}
use Rattle.packet.specs.Parts.{fields_at}

-- the fields of a body's packet of a version, sealed with a message key; the tag covers all before the ciphertext
abbrev pub sealing : ℕ → List ℕ → Position → ℕ → List ℕ → List ℕ → Body → Fields
sealing version session p previous agreement key body =
    let sealed = sealed_body version body in
    let ciphertext = ciphertext_of key sealed in
    let header = header_of version session p.epoch previous p.index agreement (length sealed) in
    fields_at version session p previous agreement ciphertext (tag_of key header ciphertext)

-- the packet under its position
unfoldable pub posted : ℕ → List ℕ → Position → ℕ → List ℕ → List ℕ → Body → Post
posted version session p previous agreement key body =
    post_under p (packet_of (sealing version session p previous agreement key body))
