use Rattle.std.proofs.Common.{length, ◌∙◌, ap}
use Rattle.std.proofs.lemmas.Iterator.{items_from_collect}
use Rattle.std.proofs.lemmas.Iterator.Adapters.{YieldsList-from_vec}
use Rattle.messenger_cli.specs.Arguments.{words_of}
use Rattle.messenger_cli.proofs.Behind.{behind_first, counted}
use Rattle.messenger_cli.proofs.arguments.words_behind.Goals as goal

pub returns : goal.returns
returns c =
    let left = behind_first c.next-name.result c.args.arguments c.next-name.new.self c.next-name.ensures.cases in
    items_from_collect c.collect.result c.collect.ensures.ran
    (YieldsList-from_vec (words_of c.args.arguments) left (counted c.next-name.new.self ∙ ap length left))
