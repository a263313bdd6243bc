use Rattle.std.proofs.Common.{ap}
use Rattle.std.specs.Option.{option_map}
use Rattle.clap.specs.Matches.{found_of}
use Rattle.clap.specs.Walk.{texts}
use Rattle.command_words.proofs.Answering.{all_values}
use Rattle.command_words.proofs.words.values_given.Goals as goal

pub returns : goal.returns
returns c = all_values (found_of c.args.given.now) (option_map (λ s. texts s.now) c.get_strs.result) (texts c.new-values.result.items) _
    (ap texts c.new-values.ensures.items) c.in_ok-push_all.ensures c.get_strs.ensures
