-- The limits of tables, as numbers.
use Rattle.std.specs.Prelude.{◌≡◌}
use Rattle.record_pages.specs.declared.limits.TheConstants.{NAMED_LIMIT, NUMBER_LIMIT}

-- numbers of pages, and pages that one table names
pub record HasLimits : Type 0 where
  pub number : NUMBER_LIMIT ≡ 65536
  pub named : NAMED_LIMIT ≡ 2045
