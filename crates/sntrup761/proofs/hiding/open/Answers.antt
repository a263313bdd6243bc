use Rattle.sntrup761.proofs.Secrets.{lawful-parts}
use Rattle.sntrup761.proofs.hiding.open.Goals as goal

pub small_at-f-requires-clause-good : goal.small_at-f-requires-clause-good
small_at-f-requires-clause-good c = (lawful-parts c.args.secret.now c.requires.lawful).0

pub small_at-v-requires-clause-good : goal.small_at-v-requires-clause-good
small_at-v-requires-clause-good c = (lawful-parts c.args.secret.now c.requires.lawful).1
