-- The limits of lines, as numbers.
use Rattle.std.specs.Prelude.{◌≡◌}
use Rattle.answer_lines.specs.declared.texts.TheConstants.{HEAD_LIMIT, TEXT_LINE_LIMIT}

-- bytes of what stands before a position, and of a line with a text
pub record HasLimits : Type 0 where
  pub head : HEAD_LIMIT ≡ 8
  pub line : TEXT_LINE_LIMIT ≡ 16480
