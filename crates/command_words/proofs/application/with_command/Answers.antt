use Rattle.command_words.proofs.application.with_command.Goals as goal

pub returns : goal.returns
returns c app made = c.joined.ensures _ (c.with_values-command.ensures.shape _ c.new.ensures.app) app made
