-- How long packets are, and their beginnings.
use Rattle.std.proofs.Common.{◌≡◌, ℕ, ◌+◌, List, length, arith}
use Rattle.std.proofs.lemmas.List.{length-append}
use Rattle.dr_base.specs.declared.limits.TheConstants.{PACKET_FRAME}
use Rattle.packet.specs.Packet.{Fields, header_of, ad_of, packet_of}

pub length-header_of : (version : ℕ) (session : List ℕ) (epoch previous index : ℕ) (agreement : List ℕ) (text_len : ℕ) → length (header_of version session epoch previous index agreement text_len) ≡ length session + length agreement + 17
unfolding header_of
length-header_of version session epoch previous index agreement text_len = simp length-append (omega arith)

pub length-ad_of : (f : Fields) → length f.session ≡ 16 → length (ad_of f) ≡ 33 + length f.agreement
length-ad_of f session = omega (arith, length-header_of f.version f.session f.epoch f.previous f.index f.agreement (length f.ciphertext))

pub length-packet_of : (f : Fields) → length f.session ≡ 16 → length f.tag ≡ 32 → length (packet_of f) ≡ PACKET_FRAME + length f.agreement + length f.ciphertext
unfolding packet_of
length-packet_of f session tag = simp length-append (omega (arith, length-header_of f.version f.session f.epoch f.previous f.index f.agreement (length f.ciphertext)))
