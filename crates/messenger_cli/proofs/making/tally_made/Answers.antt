use Rattle.messenger_cli.proofs.Made.{made_tally}
use Rattle.messenger_cli.proofs.making.tally_made.Goals as goal

pub returns-in-Ok-play-clause-tally : goal.returns-in-Ok-play-clause-tally
returns-in-Ok-play-clause-tally c = made_tally _ _ _ _ c.in-Ok.ensures c.in-Ok-play.ensures.tally c.in-Ok-play.ensures.pair
