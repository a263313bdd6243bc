-- the words so far name boxes, so they are few
use Rattle.std.proofs.Common.{◌≤◌, map}
use Rattle.relay_core.specs.declared.limits.TheConstants.{RELAY_LIMIT}
use Rattle.relay_command.specs.Names.{AreBoxNames}
use Rattle.relay_command.proofs.names.check_names.Given as goal

abbrev pub invariant-words : goal.invariant-words
invariant-words l = record {
  names : AreBoxNames l.k (map (λ w. w.now) l.words);
  few : l.k ≤ RELAY_LIMIT;
}
