-- The places of a client, as numbers.
use Rattle.std.specs.Prelude.{◌≡◌}
use Rattle.client.specs.declared.client.TheConstants.{AREA_PAGES, AREA_SIZE, AREA_UPPER, RECORD_PAGES}

-- pages of the area and of a record, the area's bytes, and where its upper pages begin
pub record HasLimits : Type 0 where
  pub pages : AREA_PAGES ≡ 384
  pub most : RECORD_PAGES ≡ 190
  pub area : AREA_SIZE ≡ 1572864
  pub upper : AREA_UPPER ≡ 524288
