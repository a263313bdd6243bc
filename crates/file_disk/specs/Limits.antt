-- How the disk over a file reads and fills, as numbers.
use Rattle.std.specs.Prelude.{◌≡◌}
use Rattle.file_disk.specs.declared.own_file.TheConstants.{PIECE, TRIES}

-- bytes that are filled with zeros or written anew at once; how often a read is tried that a signal interrupts
pub record HasLimits : Type 0 where
  pub piece : PIECE ≡ 65536
  pub tries : TRIES ≡ 1000
