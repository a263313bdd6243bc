-- The versions of a record, and what each of them allows. A later one is a case more of each
-- definition. A field that stands since a version is a `maybe` over a test of the version, which
-- stands here too.
use Rattle.std.specs.Prelude.{◌≡◌, ℕ, ◌==◌, ◌&&◌, ◌||◌, Bool, true, false, nat_le, List, [], length, get_or, Option, None, if◌then◌else◌}
use Rattle.bodies.specs.declared.format.Format.{Format}
use Rattle.bodies.specs.declared.format.Format.TheVariants.{Padded, Plain, Receipts}
use Rattle.boxes.specs.declared.kinds.TheConstants.{PART_KIND, TEXT_KIND}
use Rattle.dr_base.specs.declared.limits.TheConstants.{INBOX_LIMIT, KEPT_LIMIT, OUTBOX_LIMIT, PADDED, PLAIN, TEXT_LIMIT}
use Rattle.dr_base.specs.declared.position.Position.{Position}
use Rattle.packet.specs.Packet.{Fields}
use Rattle.session_model.specs.declared.relay_keys.RelayKeys.{RelayKeys}
use Rattle.session_record.specs.declared.versions.TheConstants.{FIRST_INBOX_LIMIT, FIRST_KEPT_LIMIT, FIRST_OUTBOX_LIMIT, FIRST_TEXT_LIMIT}
use Rattle.session_record.specs.declared.versions.Version.{Version}
use Rattle.session_record.specs.declared.versions.Version.TheVariants.{One, Two, Three, Four, Five}

-- the version that is written
abbrev pub newest : Version
newest = Five

-- ---- the byte of a version

abbrev pub is_version : ℕ → Bool
is_version n = (n == 1) || ((n == 2) || ((n == 3) || ((n == 4) || (n == 5))))

abbrev pub version_at : ℕ → Version
version_at n =
    if n == 1 then One else if n == 2 then Two else if n == 3 then Three
    else if n == 4 then Four else Five

abbrev pub version_code : Version → ℕ
version_code One = 1
version_code Two = 2
version_code Three = 3
version_code Four = 4
version_code Five = 5

-- a text begins as the newest version does
abbrev pub is_newest : List ℕ → Bool
is_newest text = get_or text 0 0 == version_code newest

-- ---- the format of a session

-- a byte says it since version 3
abbrev pub has_format : Version → Bool
has_format One = false
has_format Two = false
has_format Three = true
has_format Four = true
has_format Five = true

-- since version 4 a session may seal receipts, and own texts wait for those of the other side
abbrev pub has_receipts : Version → Bool
has_receipts One = false
has_receipts Two = false
has_receipts Three = false
has_receipts Four = true
has_receipts Five = true

-- where no byte says the format, the session is plain
abbrev pub is_format_of : Version → Format → Bool
is_format_of version Plain = true
is_format_of version Padded = has_format version
is_format_of version Receipts = has_receipts version

abbrev pub IsFormatOf : Version → Format → Type 0
IsFormatOf version format = is_format_of version format ≡ true

-- where receipts are not known, no text waits for one
abbrev pub IsAwaitingOf : Version → List Position → Type 0
IsAwaitingOf version awaiting = has_receipts version ≡ false → awaiting ≡ []

-- ---- the texts of an inbox

-- a byte says the kind of each since version 4
abbrev pub has_kinds : Version → Bool
has_kinds One = false
has_kinds Two = false
has_kinds Three = false
has_kinds Four = true
has_kinds Five = true

-- the kinds that they may have: since version 5 parts of long texts stand there too
abbrev pub is_kind_of : Version → ℕ → Bool
is_kind_of One kind = kind == TEXT_KIND
is_kind_of Two kind = kind == TEXT_KIND
is_kind_of Three kind = kind == TEXT_KIND
is_kind_of Four kind = kind == TEXT_KIND
is_kind_of Five kind = (kind == TEXT_KIND) || (kind == PART_KIND)

-- ---- the keys of the session's boxes at a relay

-- a byte says since version 5 whether there are some, and they follow it
abbrev pub has_keys : Version → Bool
has_keys One = false
has_keys Two = false
has_keys Three = false
has_keys Four = false
has_keys Five = true

-- where no byte says it, there are none
abbrev pub IsKeysOf : Version → Option RelayKeys → Type 0
IsKeysOf version keys = has_keys version ≡ false → keys ≡ None

-- ---- the limits of a version

-- the bytes of a text
abbrev pub text_most : Version → ℕ
text_most One = FIRST_TEXT_LIMIT
text_most Two = TEXT_LIMIT
text_most Three = TEXT_LIMIT
text_most Four = TEXT_LIMIT
text_most Five = TEXT_LIMIT

-- the kept keys
abbrev pub kept_most : Version → ℕ
kept_most One = FIRST_KEPT_LIMIT
kept_most Two = KEPT_LIMIT
kept_most Three = KEPT_LIMIT
kept_most Four = KEPT_LIMIT
kept_most Five = KEPT_LIMIT

-- the texts of an inbox
abbrev pub inbox_most : Version → ℕ
inbox_most One = FIRST_INBOX_LIMIT
inbox_most Two = INBOX_LIMIT
inbox_most Three = INBOX_LIMIT
inbox_most Four = INBOX_LIMIT
inbox_most Five = INBOX_LIMIT

-- the packets of an outbox
abbrev pub outbox_most : Version → ℕ
outbox_most One = FIRST_OUTBOX_LIMIT
outbox_most Two = OUTBOX_LIMIT
outbox_most Three = OUTBOX_LIMIT
outbox_most Four = OUTBOX_LIMIT
outbox_most Five = OUTBOX_LIMIT

-- the packets: of versions 1 and 2 plain ones, of version 1 with the texts of their time; of
-- version 3 also padded ones; since version 4 any
abbrev pub is_packet_of : Version → Fields → Bool
is_packet_of One f = (f.version == PLAIN) && nat_le (length f.ciphertext) FIRST_TEXT_LIMIT
is_packet_of Two f = f.version == PLAIN
is_packet_of Three f = (f.version == PLAIN) || (f.version == PADDED)
is_packet_of Four f = true
is_packet_of Five f = true
