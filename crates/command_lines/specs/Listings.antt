-- What a listing says of what a core keeps.
use Rattle.std.specs.Prelude.{List, ℕ}
use Rattle.session_model.specs.Clients.{Client}
use Rattle.command_lines.specs.Lines.{awaiting_lines, inbox_lines, outbox_lines, state_lines}
use Rattle.command_lines.specs.declared.listing.Listing.{Listing}
use Rattle.command_lines.specs.declared.listing.Listing.TheVariants.{Awaiting, Inbox, Outbox, State}

abbrev pub lines_of : Listing → Client → List ℕ
lines_of Inbox = inbox_lines
lines_of Outbox = outbox_lines
lines_of Awaiting = awaiting_lines
lines_of State = state_lines
