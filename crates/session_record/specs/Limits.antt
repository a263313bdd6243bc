-- The greatest record, and what each version allows, as numbers.
use Rattle.std.specs.Prelude.{◌≡◌}
use Rattle.session_record.specs.declared.limits.TheConstants.{RECORD_LIMIT}
use Rattle.session_record.specs.declared.versions.TheConstants.{FIRST_INBOX_LIMIT, FIRST_KEPT_LIMIT, FIRST_OUTBOX_LIMIT, FIRST_TEXT_LIMIT}

pub record HasLimits : Type 0 where
  -- bytes of a record
  pub record_size : RECORD_LIMIT ≡ 770817
  -- in version 1: the bytes of a text, kept keys, texts of an inbox, packets of an outbox
  pub first_text : FIRST_TEXT_LIMIT ≡ 1024
  pub first_kept : FIRST_KEPT_LIMIT ≡ 256
  pub first_inbox : FIRST_INBOX_LIMIT ≡ 64
  pub first_outbox : FIRST_OUTBOX_LIMIT ≡ 32
