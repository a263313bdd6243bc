-- What a call changes of the boxes.
use Rattle.std.specs.Prelude.{⊤, ℕ, ◌<◌, ◌≤◌, List, [], ◌∷◌, ◌++◌, length, if◌then◌else◌}
use Rattle.boxes.specs.Entries.{Entry, entry_with, is_of}
use Rattle.boxes.specs.Posts.{Post}
use Rattle.dr_base.specs.declared.limits.TheConstants.{INBOX_LIMIT, OUTBOX_LIMIT, PACKET_LIMIT, TEXT_LIMIT}
use Rattle.kem_laws.specs.Mechanism.{Mechanism}
use Rattle.session_model.specs.Clients.{Client}
use Rattle.session_model.specs.Leaving.{left_in_inbox, left_in_outbox}
use Rattle.session_record.specs.declared.change.Change.{Change}
use Rattle.session_record.specs.declared.change.Change.TheVariants.{Received, Said, Dropped}
use Rattle.session_record.specs.Lists.{entry_text, post_of}
use Rattle.session_record.specs.Versions.{newest}

abbrev pub inbox_after : List Entry → Change → List Entry
inbox_after inbox (Received position kind text) =
    inbox ++ entry_with position kind text.now ∷ []
inbox_after inbox (Dropped which) = left_in_inbox which inbox
inbox_after inbox _ = inbox

abbrev pub outbox_after : Mechanism → List Post → Change → List Post
outbox_after k outbox (Said packet) = outbox ++ post_of k packet.now ∷ []
outbox_after k outbox (Dropped which) = left_in_outbox which outbox
outbox_after k outbox _ = outbox

-- the bytes of an entry in a record that the parts of a long text have left: none, where it is one
-- of them
abbrev pub other_text : ℕ → Entry → List ℕ
other_text id entry = if is_of id entry then [] else entry_text newest entry

-- the client after a change
abbrev pub changed : Mechanism → Client → Change → Client
changed k c change =
    record c { inbox = inbox_after c.inbox change; outbox = outbox_after k c.outbox change }

-- the boxes have room for what comes
abbrev pub FitsInbox : List Entry → Change → Type 0
FitsInbox inbox (Received position kind text) =
    (length inbox < INBOX_LIMIT) × (length text.now ≤ TEXT_LIMIT)
FitsInbox inbox _ = ⊤

abbrev pub FitsOutbox : List Post → Change → Type 0
FitsOutbox outbox (Said packet) =
    (length outbox < OUTBOX_LIMIT) × (length packet.now ≤ PACKET_LIMIT)
FitsOutbox outbox _ = ⊤
