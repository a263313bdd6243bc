use Rattle.std.proofs.Common.{sym}
use Rattle.client.proofs.Syncs.Collecting.{not_no_room}
use Rattle.client.proofs.syncing.lines.is_no_room.Goals as goal

pub returns-in_default : goal.returns-in_default
returns-in_default c = sym (not_no_room c.args.refusal c.in_default.not-InboxFull)
