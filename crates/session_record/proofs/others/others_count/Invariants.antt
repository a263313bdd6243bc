-- the texts so far were counted
use Rattle.std.proofs.Common.{◌≡◌, ◌≤◌, take, length}
use Rattle.session_model.specs.Leaving.{left_in_inbox}
use Rattle.session_model.specs.declared.answer.Which.TheVariants.{OfId}
use Rattle.session_record.proofs.others.others_count.Given as goal

abbrev pub invariant-entries : goal.invariant-entries
invariant-entries l = (l.count ≡ length (left_in_inbox (OfId l.id) (take l.i l.inbox))) × (l.count ≤ l.i)
