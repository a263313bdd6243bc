use Rattle.std.proofs.Common.{◌≡◌, ◌+◌, drop}
use Rattle.record_pages.specs.Tables.{nonzero_from}
use Rattle.record_pages.proofs.judging.nonzero.Given as goal

abbrev pub invariant-bytes : goal.invariant-bytes
invariant-bytes l = nonzero_from l.from l.bytes ≡ nonzero_from (l.from + l.at) (drop l.at l.bytes)
