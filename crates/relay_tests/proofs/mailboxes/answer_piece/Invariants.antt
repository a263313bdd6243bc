-- what was given, is held and is left are no more bytes than came
use Rattle.std.proofs.Common.{length, ◌+◌, ◌≤◌}
use Rattle.relay_tests.proofs.mailboxes.answer_piece.Given as goal

abbrev pub invariant-frames : goal.invariant-frames
invariant-frames l = l.reader.place + length l.reader.bytes + length l.rest ≤ l.fn.reader.place + length l.fn.reader.bytes + length l.piece
