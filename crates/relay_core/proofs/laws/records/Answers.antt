use Rattle.relay_core.proofs.RecordLaw.{newest-byte, read-lawful, read-newest, written}
use Rattle.relay_core.proofs.laws.records.Goals as goal

pub returns-clause-printed_is_read : goal.returns-clause-printed_is_read
returns-clause-printed_is_read c = written

pub returns-clause-lawful : goal.returns-clause-lawful
returns-clause-lawful c = read-lawful

pub returns-clause-newest : goal.returns-clause-newest
returns-clause-newest c = read-newest

pub returns-clause-bytes : goal.returns-clause-bytes
returns-clause-bytes c = newest-byte
