-- Kinds and limits, as numbers.
use Rattle.std.specs.Prelude.{◌≡◌}
use Rattle.boxes.specs.declared.kinds.TheConstants.{PART_KIND, TEXT_KIND}
use Rattle.boxes.specs.declared.limits.TheConstants.{PARTS_LIMIT, PART_HEAD, PART_LIMIT}

-- the kinds of a text and of a part; bytes of a part's head, and those that follow at most; the
-- parts of a long text
pub record HasLimits : Type 0 where
  pub text : TEXT_KIND ≡ 0
  pub kind : PART_KIND ≡ 1
  pub head : PART_HEAD ≡ 6
  pub part : PART_LIMIT ≡ 4090
  pub parts : PARTS_LIMIT ≡ 64
