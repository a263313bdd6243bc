use Rattle.std.proofs.Common.{sym}
use Rattle.client.proofs.Syncs.Collecting.{not_full}
use Rattle.client.proofs.syncing.lines.is_full.Goals as goal

pub returns-in_default : goal.returns-in_default
returns-in_default c = sym (not_full c.args.answer c.in_default.not-Refused)
