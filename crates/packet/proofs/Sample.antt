-- Lawful fields that begin with what was read, and zeros where nothing was read.
use Rattle.std.proofs.Common.{◌≡◌, ℕ, ◌≤◌, List, length, replicate, true, sym, ap, subst, ◌∙◌, arith}
use Rattle.std.specs.Int.{w32, from_be_bytes, to_be_bytes}
use Rattle.std.proofs.lemmas.List.{length-replicate}
use Rattle.dr_base.specs.declared.limits.TheConstants.{INDEX_LIMIT, LAST_EPOCH}
use Rattle.packet.specs.Versions.{is_text_len, is_version, least_len}
use Rattle.packet.proofs.Known.{least_lawful}
use Rattle.packet.specs.Packet.{Fields, IsLawful, agreement_len}
use Rattle.dr_base.proofs.Widths.{exact32}

-- the fields of these parts
abbrev pub made : ℕ → List ℕ → ℕ → ℕ → ℕ → List ℕ → List ℕ → List ℕ → Fields
made version session epoch previous index message ciphertext tag = record {
  version = version;
  session = session;
  epoch = epoch;
  previous = previous;
  index = index;
  agreement = message;
  ciphertext = ciphertext;
  tag = tag;
}

-- zeros, where nothing was read
abbrev pub zeros : ℕ → List ℕ
zeros n = replicate n 0

pub zeros_len : (n : ℕ) → length (zeros n) ≡ n
zeros_len n = let none : ℕ = 0 in length-replicate n none

-- as few sealed bytes as a version may have
pub least_zeros : (version : ℕ) → is_text_len version (length (zeros (least_len version))) ≡ true
least_zeros version = subst (λ (n : ℕ). is_text_len version n ≡ true) (sym (zeros_len (least_len version))) (least_lawful version)

-- an epoch is told by its four bytes
pub same_epoch : (m n : ℕ) → m ≤ LAST_EPOCH → n ≤ LAST_EPOCH → to_be_bytes w32 m ≡ to_be_bytes w32 n → m ≡ n
same_epoch m n fits fits_too e = sym (exact32.read m (omega arith)) ∙ ap (from_be_bytes w32) e ∙ exact32.read n
    (omega arith)

-- the numbers before the agreement message
pub record IsHead (version : ℕ) (session : List ℕ) (epoch previous index : ℕ) : Type 0 where
  pub version_is : is_version version ≡ true
  pub session_len : length session ≡ 16
  pub epoch_fits : epoch ≤ LAST_EPOCH
  pub previous_fits : previous ≤ INDEX_LIMIT
  pub previous_none : epoch ≤ 1 → previous ≡ 0
  pub index_from_one : 1 ≤ index
  pub index_fits : index ≤ INDEX_LIMIT

-- they are lawful where each part is
pub made_lawful : (agreement version : ℕ) (session : List ℕ) (epoch previous index : ℕ) (message ciphertext tag : List ℕ)
    → IsHead version session epoch previous index
    → length message ≡ agreement_len agreement epoch → is_text_len version (length ciphertext) ≡ true → length tag ≡ 32
    → IsLawful agreement (made version session epoch previous index message ciphertext tag)
made_lawful agreement version session epoch previous index message ciphertext tag head message_len text_fits tag_len = record {
  version_is = head.version_is;
  session_len = head.session_len;
  epoch_fits = head.epoch_fits;
  previous_fits = head.previous_fits;
  previous_none = head.previous_none;
  index_from_one = head.index_from_one;
  index_fits = head.index_fits;
  agreement_is = message_len;
  text_fits = text_fits;
  tag_len = tag_len;
}

-- fields with zeros after these numbers
abbrev pub begun : ℕ → ℕ → List ℕ → ℕ → ℕ → ℕ → Fields
begun agreement version session epoch previous index = made version session epoch previous index (zeros (agreement_len agreement epoch)) (zeros (least_len version))
    (zeros 32)

pub begun_lawful : (agreement version : ℕ) (session : List ℕ) (epoch previous index : ℕ) → IsHead version session epoch previous index
    → IsLawful agreement (begun agreement version session epoch previous index)
begun_lawful agreement version session epoch previous index head =
    made_lawful agreement version session epoch previous index (zeros (agreement_len agreement epoch)) (zeros (least_len version)) (zeros 32) head (zeros_len _)
    (least_zeros version) (zeros_len 32)
