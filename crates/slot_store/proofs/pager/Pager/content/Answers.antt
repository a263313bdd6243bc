use Rattle.std.proofs.Common.{sym, ◌∙◌}
use Rattle.slot_store.proofs.Puts.Contents.{text_is}
use Rattle.slot_store.proofs.pager.Pager.content.Goals as goal

pub returns : goal.returns
returns c = c.text.ensures ∙ sym (text_is c.args.self.now)
