-- A packet as a printer from its fields to bytes. Numbers are big-endian.
use Rattle.std.specs.Prelude.{◌≡◌, ℕ, ◌≤◌, ◌==◌, true, List, ◌++◌, length, if◌then◌else◌}
use Rattle.std.specs.Int.{w8, w16, w32, to_be_bytes}
use Rattle.dr_base.specs.declared.limits.TheConstants.{INDEX_LIMIT, LAST_EPOCH}
use Rattle.packet.specs.Versions.{is_text_len, is_version}

-- what a packet says
pub record Fields : Type 0 where
  pub version : ℕ
  pub session : List ℕ
  pub epoch : ℕ
  pub previous : ℕ
  pub index : ℕ
  pub agreement : List ℕ
  pub ciphertext : List ℕ
  pub tag : List ℕ

-- the length of the agreement message: none in epoch 0
abbrev pub agreement_len : ℕ → ℕ → ℕ
agreement_len agreement epoch = if epoch == 0 then 0 else agreement

-- fields that a packet may have, where agreement messages have this length
pub record IsLawful (agreement : ℕ) (f : Fields) : Type 0 where
  pub version_is : is_version f.version ≡ true
  pub session_len : length f.session ≡ 16
  pub epoch_fits : f.epoch ≤ LAST_EPOCH
  pub previous_fits : f.previous ≤ INDEX_LIMIT
  -- epochs 0 and 1 are the first of each side: none of its texts went before
  pub previous_none : f.epoch ≤ 1 → f.previous ≡ 0
  pub index_from_one : 1 ≤ f.index
  pub index_fits : f.index ≤ INDEX_LIMIT
  pub agreement_is : length f.agreement ≡ agreement_len agreement f.epoch
  pub text_fits : is_text_len f.version (length f.ciphertext) ≡ true
  pub tag_len : length f.tag ≡ 32

-- all before the ciphertext: version, session id, epoch, previous count, index, the agreement message after
-- its length, and the length of the text
unfoldable pub header_of : ℕ → List ℕ → ℕ → ℕ → ℕ → List ℕ → ℕ → List ℕ
header_of version session epoch previous index agreement text_len =
    to_be_bytes w8 version ++ session ++ to_be_bytes w32 epoch ++ to_be_bytes w32 previous ++ to_be_bytes w32 index
    ++ to_be_bytes w16 (length agreement) ++ agreement ++ to_be_bytes w16 text_len

-- what the tag covers beside the ciphertext
abbrev pub ad_of : Fields → List ℕ
ad_of f = header_of f.version f.session f.epoch f.previous f.index f.agreement (length f.ciphertext)

-- the packet: what stands before the ciphertext, the ciphertext, the tag
unfoldable pub packet_of : Fields → List ℕ
packet_of f = ad_of f ++ f.ciphertext ++ f.tag
