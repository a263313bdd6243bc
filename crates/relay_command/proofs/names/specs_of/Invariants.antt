-- a spec for each word so far
use Rattle.std.proofs.Common.{◌≡◌, map, take}
use Rattle.relay_command.specs.Names.{specs_of}
use Rattle.relay_command.proofs.names.specs_of.Given as goal

abbrev pub invariant-words : goal.invariant-words
invariant-words l = l.specs.items ≡ specs_of (map (λ w. w.now) (take l.word-index l.words))
