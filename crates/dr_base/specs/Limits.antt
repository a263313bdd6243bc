-- The limits of a conversation, as numbers.
use Rattle.std.specs.Prelude.{◌≡◌}
use Rattle.dr_base.specs.declared.limits.TheConstants.{AGREEMENT_LIMIT, AWAITING_LIMIT, CARRIED_LIMIT, CIPHERTEXT_LIMIT, INBOX_LIMIT, INDEX_LIMIT, KEPT_LIMIT, LAST_EPOCH, OUTBOX_LIMIT, PACKET_LIMIT, PADDED_LIMIT, PAGE, PUBLIC_LIMIT, RECEIPT_LIMIT, SEALED_LIMIT, SECRET_LIMIT, TEXT_LIMIT}

-- bytes of a text, of what a mechanism makes, of what a padded packet and any packet seals, of a packet and of one that a
-- relay carries; the numbers of texts in an epoch, and of epochs; kept keys, texts, packets and texts that wait; positions
-- of a receipt; bytes of a page
pub record HasLimits : Type 0 where
  pub text : TEXT_LIMIT ≡ 4096
  pub public : PUBLIC_LIMIT ≡ 1158
  pub secret : SECRET_LIMIT ≡ 1763
  pub ciphertext : CIPHERTEXT_LIMIT ≡ 1039
  pub agreement : AGREEMENT_LIMIT ≡ 2197
  pub padded : PADDED_LIMIT ≡ 4352
  pub sealed : SEALED_LIMIT ≡ 4608
  pub packet : PACKET_LIMIT ≡ 6870
  pub carried : CARRIED_LIMIT ≡ 8000
  pub index : INDEX_LIMIT ≡ 65535
  pub epoch : LAST_EPOCH ≡ 4294967294
  pub kept : KEPT_LIMIT ≡ 512
  pub inbox : INBOX_LIMIT ≡ 128
  pub outbox : OUTBOX_LIMIT ≡ 32
  pub awaiting : AWAITING_LIMIT ≡ 64
  pub receipt : RECEIPT_LIMIT ≡ 32
  pub page : PAGE ≡ 4096
