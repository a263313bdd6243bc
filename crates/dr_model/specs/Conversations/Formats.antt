-- How both sides of a conversation seal their texts.
use Rattle.bodies.specs.declared.format.Format.{Format}
use Rattle.dr_base.specs.declared.position.Side.{Side}
use Rattle.dr_base.specs.declared.position.Side.TheVariants.{First, Second}

pub record Formats : Type 0 where
  pub first : Format
  pub second : Format

abbrev pub side_format : Formats → Side → Format
side_format formats First = formats.first
side_format formats Second = formats.second

-- those of a side and of its peer
abbrev pub formats_of : Side → Format → Format → Formats
formats_of First own peers = record { first = own; second = peers }
formats_of Second own peers = record { first = peers; second = own }
