use Rattle.command_words.proofs.NumberTests.{number_is, number_none}
use Rattle.command_words.proofs.reading.number_of.Goals as goal

pub returns-in-Ok : goal.returns-in-Ok
returns-in-Ok c = number_is c.args.word.now c.in-Ok.number c.in-Ok.ensures.value.0.0 c.in-Ok.ensures.value.0.1

pub returns-in-Err : goal.returns-in-Err
returns-in-Err c = number_none c.args.word.now c.in-Err.ensures.value.0
