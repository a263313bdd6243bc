-- What was printed is read.
use Rattle.std.proofs.Common.{◌≡◌, ℕ, ◌+◌, ◌^◌, ◌<◌, ◌≤◌, true, List, [], ◌++◌, length, Ok, refl, append_assoc, arith}
use Rattle.std.specs.Prelude.{nat_eq}
use Rattle.std.specs.Int.{w8, w16, w32, to_be_bytes}
use Rattle.std.proofs.lemmas.Bool.{le-leb, eq-eqb}
use Rattle.std.proofs.lemmas.Bool.Decides.{nat_tests}
use Rattle.std.proofs.lemmas.List.{append-nil}
use Rattle.dr_base.specs.declared.limits.TheConstants.{INDEX_LIMIT}
use Rattle.packet.specs.declared.fault.Kind.TheVariants.{Version, Epoch, Previous, Index, Agreement, Text}
use Rattle.packet.specs.Packet.{Fields, IsLawful, agreement_len, header_of, packet_of}
use Rattle.packet.specs.Reading.{read_packet, is_version, is_epoch, is_previous, is_index, is_text_len}
use Rattle.packet.proofs.Known.{text_small, version_small}
use Rattle.packet.proofs.Steps.{field_again, number_again}
use Rattle.dr_base.proofs.Widths.{exact8, exact16, exact32}

-- a packet's fields, grouped as they are read
abbrev pub grouped : Fields → List ℕ
grouped f =
    to_be_bytes w8 f.version ++ (f.session ++ (to_be_bytes w32 f.epoch ++ (to_be_bytes w32 f.previous ++ (to_be_bytes w32 f.index
    ++ (to_be_bytes w16 (length f.agreement) ++ (f.agreement ++ (to_be_bytes w16 (length f.ciphertext) ++ (f.ciphertext ++ (f.tag ++ [])))))))))

pub packet_of-grouped : (f : Fields) → packet_of f ≡ grouped f
unfolding packet_of header_of
packet_of-grouped f = simp (append_assoc, append-nil)

pub previous_again : (epoch n : ℕ) → n ≤ INDEX_LIMIT → (epoch ≤ 1 → n ≡ 0) → is_previous epoch n ≡ true
previous_again epoch n fits none = grind (arith, nat_tests)

pub index_again : (n : ℕ) → 1 ≤ n → n ≤ INDEX_LIMIT → is_index n ≡ true
index_again n from_one fits = grind (arith, nat_tests)

agreement_len_fits : (agreement epoch : ℕ) → agreement < 2 ^ 16 → agreement_len agreement epoch < 2 ^ 16
agreement_len_fits agreement epoch fits = grind (arith, nat_tests)

agreement_fits : (agreement : ℕ) (f : Fields) → agreement < 2 ^ 16 → IsLawful agreement f → length f.agreement < 2 ^ 16
agreement_fits agreement f fits lawful = rw lawful.agreement_is (agreement_len_fits agreement f.epoch fits)

pub printed_is_read : (agreement : ℕ) (f : Fields) → agreement < 2 ^ 16 → IsLawful agreement f → read_packet agreement (packet_of f) ≡ Ok f
unfolding read_packet
printed_is_read agreement f fits lawful =
    let after_ciphertext : List ℕ = f.tag ++ [] in
    let after_text_len : List ℕ = f.ciphertext ++ after_ciphertext in
    let after_agreement : List ℕ = to_be_bytes w16 (length f.ciphertext) ++ after_text_len in
    let after_size : List ℕ = f.agreement ++ after_agreement in
    let after_index : List ℕ = to_be_bytes w16 (length f.agreement) ++ after_size in
    let after_previous : List ℕ = to_be_bytes w32 f.index ++ after_index in
    let after_epoch : List ℕ = to_be_bytes w32 f.previous ++ after_previous in
    let after_session : List ℕ = to_be_bytes w32 f.epoch ++ after_epoch in
    let after_version : List ℕ = f.session ++ after_session in
    rw (
      packet_of-grouped f,
      number_again w8 (2 ^ 8) exact8 0 Version is_version f.version after_version (version_small f.version lawful.version_is) lawful.version_is,
      field_again 1 16 f.session after_session lawful.session_len,
      number_again w32 (2 ^ 32) exact32 17 Epoch is_epoch f.epoch after_epoch (omega (arith, lawful.epoch_fits)) (le-leb _ _ lawful.epoch_fits),
      number_again w32 (2 ^ 32) exact32 21 Previous (is_previous f.epoch) f.previous after_previous (omega (arith, lawful.previous_fits)) (previous_again f.epoch f.previous lawful.previous_fits lawful.previous_none),
      number_again w32 (2 ^ 32) exact32 25 Index is_index f.index after_index (omega (arith, lawful.index_fits)) (index_again f.index lawful.index_from_one lawful.index_fits),
      number_again w16 (2 ^ 16) exact16 29 Agreement (λ n. nat_eq n (agreement_len agreement f.epoch)) (length f.agreement) after_size (agreement_fits agreement f fits lawful) (eq-eqb _ _ lawful.agreement_is),
      field_again 31 (length f.agreement) f.agreement after_agreement refl,
      number_again w16 (2 ^ 16) exact16 (31 + length f.agreement) Text (is_text_len f.version) (length f.ciphertext) after_text_len (text_small f.version _ lawful.text_fits) lawful.text_fits,
      field_again (33 + length f.agreement) (length f.ciphertext) f.ciphertext after_ciphertext refl,
      field_again (33 + length f.agreement + length f.ciphertext) 32 f.tag [] lawful.tag_len,
    ) refl
