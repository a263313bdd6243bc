-- What a packet that was read is, and begins with.
use Rattle.std.proofs.Common.{◌≡◌, ℕ, ◌+◌, List, ◌++◌, length, take, Ok, append_assoc, arith}
use Rattle.std.proofs.lemmas.Bool.Decides.{nat_tests}
use Rattle.std.proofs.lemmas.List.{take_at}
use Rattle.packet.specs.Packet.{Fields, IsLawful, agreement_len, ad_of, packet_of}
use Rattle.dr_base.specs.Bytes.{AreBytes}
use Rattle.dr_base.specs.declared.limits.TheConstants.{PACKET_FRAME}
use Rattle.packet.specs.Parts.{IsViewed}
use Rattle.packet.specs.Reading.{read_packet}
use Rattle.packet.proofs.Lengths.{length-ad_of, length-packet_of}
use Rattle.packet.proofs.Read.{read_was_printed}

-- an agreement message of its own length
own_len : (agreement epoch n : ℕ) → n ≡ agreement_len agreement epoch → n ≡ agreement_len n epoch
own_len agreement epoch n e = grind (arith, nat_tests)

own_lawful : (agreement : ℕ) (f : Fields) → IsLawful agreement f → IsLawful (length f.agreement) f
own_lawful agreement f lawful = record {
  version_is = lawful.version_is;
  session_len = lawful.session_len;
  epoch_fits = lawful.epoch_fits;
  previous_fits = lawful.previous_fits;
  previous_none = lawful.previous_none;
  index_from_one = lawful.index_from_one;
  index_fits = lawful.index_fits;
  agreement_is = own_len agreement f.epoch (length f.agreement) lawful.agreement_is;
  text_fits = lawful.text_fits;
  tag_len = lawful.tag_len;
}

pub viewed : (agreement : ℕ) (bytes : List ℕ) (f : Fields) → AreBytes bytes → read_packet agreement bytes ≡ Ok f
    → IsViewed bytes f
viewed agreement bytes f small e =
    let found = read_was_printed agreement bytes f small e in
    record { bytes_are = found.1; lawful = own_lawful agreement f found.0 }

pub viewed_len : (bytes : List ℕ) (f : Fields) → IsViewed bytes f → length bytes ≡ PACKET_FRAME + length f.agreement
    + length f.ciphertext
viewed_len bytes f viewed = rw viewed.bytes_are (length-packet_of f viewed.lawful.session_len viewed.lawful.tag_len)

pub viewed_ad : (bytes : List ℕ) (f : Fields) → IsViewed bytes f → take (33 + length f.agreement) bytes ≡ ad_of f
unfolding packet_of
viewed_ad bytes f viewed =
    let len = length-ad_of f viewed.lawful.session_len in
    rw (viewed.bytes_are, append_assoc) (take_at (ad_of f) (f.ciphertext ++ f.tag) (33 + length f.agreement) len)
