-- none of the words so far has it
use Rattle.std.proofs.Common.{◌≡◌, false, map, take}
use Rattle.relay_command.specs.Names.{is_among}
use Rattle.relay_command.proofs.names.is_among.Given as goal

abbrev pub invariant-words : goal.invariant-words
invariant-words l = is_among (map (λ w. w.now) (take l.other-index l.words)) l.name ≡ false
