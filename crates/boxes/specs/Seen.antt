-- What the answers of the code stand for.
use Rattle.boxes.specs.Entries.{Entry, entry_with}
use Rattle.boxes.specs.declared.inbox.Entry.{Entry as EntryLent}

-- the entry that is lent
abbrev pub entry_seen : EntryLent → Entry
entry_seen entry = entry_with entry.position entry.kind entry.text.now
