use Rattle.boxes.specs.Entries.{as_entry, is_of}
use Rattle.boxes.proofs.Shown.{shown-drops-all}
use Rattle.boxes.proofs.inbox.Inbox.drop_long.Goals as goal

pub returns : goal.returns
returns c =
    shown-drops-all as_entry (is_of c.args.id) c.self.inside.row c.drop_long.new.self c.args.self.now c.drop_long.result c.self.view_is
    c.drop_long.ensures
