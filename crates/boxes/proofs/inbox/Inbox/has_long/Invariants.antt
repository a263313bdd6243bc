-- none of the texts so far is one
use Rattle.std.proofs.Common.{◌≡◌, false, take}
use Rattle.std.specs.List.{list_any}
use Rattle.boxes.specs.Entries.{is_of}
use Rattle.boxes.proofs.inbox.Inbox.has_long.Given as goal

abbrev pub invariant-entries : goal.invariant-entries
invariant-entries l = list_any (is_of l.id) (take l.at l.self) ≡ false
