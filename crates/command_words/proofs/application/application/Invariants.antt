use Rattle.std.proofs.Common.{take}
use Rattle.clap.specs.Walk.{texts}
use Rattle.command_words.specs.Application.{Makes, application_of}
use Rattle.command_words.proofs.application.application.Given as goal

abbrev pub invariant-names : goal.invariant-names
invariant-names l = Makes l.command (application_of (take l.at (texts l.names)))
