use Rattle.session_record.proofs.RecordLaw.{newest-byte, read-lawful, read-newest, written}
use Rattle.session_record.proofs.laws.record_law.Goals as goal

pub returns-clause-written : goal.returns-clause-written
returns-clause-written c = written

pub returns-clause-lawful : goal.returns-clause-lawful
returns-clause-lawful c = read-lawful

pub returns-clause-newest : goal.returns-clause-newest
returns-clause-newest c = read-newest

pub returns-clause-bytes : goal.returns-clause-bytes
returns-clause-bytes c = newest-byte
