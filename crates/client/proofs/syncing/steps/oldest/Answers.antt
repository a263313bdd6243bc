use Rattle.std.proofs.Common.{◌∙◌}
use Rattle.boxes.specs.Posts.{post_under}
use Rattle.client.proofs.Syncs.Oldest.{oldest_lawful}
use Rattle.client.proofs.syncing.steps.oldest.Goals as goal

pub unwrap-requires : goal.unwrap-requires
unwrap-requires g c = c.new.ensures.variant ∙ oldest_lawful c.args.core.now.outbox (post_under c.in-Some.field-0-0 c.in-Some.bytes.now) c.in-Some.ensures.packet c.requires.lawful
