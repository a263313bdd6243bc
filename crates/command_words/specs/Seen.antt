-- A command as code holds it.
use Rattle.clap.specs.Walk.{texts}
use Rattle.command_words.specs.Commands.{Work}
use Rattle.command_words.specs.declared.command.Command.{Command}

abbrev pub work_of : Command → Work
work_of command =
    record { place = command.place; ask = command.ask; values = texts command.values.items }
