-- The places of a relay, as numbers.
use Rattle.std.specs.Prelude.{◌≡◌}
use Rattle.relay_server.specs.declared.limits.TheConstants.{BOX_PAGES, HALF_PAGES, HALF_SIZE, RECORD_PAGES, UPPER_START}

-- pages of a box's area, of each half of it and of its record, the bytes of a half, and where the
-- upper halves begin
pub record HasLimits : Type 0 where
  pub pages : BOX_PAGES ≡ 256
  pub half_pages : HALF_PAGES ≡ 128
  pub most : RECORD_PAGES ≡ 126
  pub half : HALF_SIZE ≡ 524288
  pub upper : UPPER_START ≡ 8388608
