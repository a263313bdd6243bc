-- The lists of a record: kept keys, the inbox, the outbox.
use Rattle.std.specs.Prelude.{ℕ, ◌+◌, ◌==◌, ◌&&◌, ◌||◌, Bool, true, false, not, nat_le, nat_lt, List, [], ◌∷◌, ◌++◌, Option, Some, None, Result, Ok, Err, if◌then◌else◌}
use Rattle.std.specs.Int.{w8, w16, w32, to_be_bytes}
use Rattle.std.specs.Str.{bytes_eq}
use Rattle.boxes.specs.Entries.{Entry, entry_with}
use Rattle.boxes.specs.Parts.{is_content}
use Rattle.boxes.specs.Posts.{Post, post_under}
use Rattle.boxes.specs.declared.kinds.TheConstants.{TEXT_KIND}
use Rattle.cka.specs.Agreement.{agreement_size}
use Rattle.dr_base.specs.Position.{is_own, position_at}
use Rattle.dr_base.specs.declared.key.Kept.{Kept}
use Rattle.dr_base.specs.declared.limits.TheConstants.{INDEX_LIMIT}
use Rattle.dr_base.specs.declared.position.Position.{Position}
use Rattle.dr_base.specs.declared.position.Side.{Side}
use Rattle.grammar.specs.Printer.{print_maybe, print_sized}
use Rattle.grammar.specs.Reader.{Reader, number, piece, checked, mapped, maybe, both, counted, sized}
use Rattle.kem_laws.specs.Mechanism.{Mechanism}
use Rattle.packet.specs.declared.fault.Malformed.{Malformed}
use Rattle.packet.specs.Packet.{Fields}
use Rattle.packet.specs.Reading.{read_packet, is_index}
pub use Rattle.record_fields.specs.Fields.{reach_of}
use Rattle.session_record.specs.Fields.{up_to}
use Rattle.session_record.specs.Versions.{has_kinds, inbox_most, is_kind_of, is_packet_of, kept_most, outbox_most, text_most}
use Rattle.session_record.specs.declared.versions.Version.{Version}

-- ---- kept keys, each above the one before

-- the position of the last key, or of one below all where there is none
abbrev pub last_of : Position → List Kept → Position
last_of p [] = p
last_of p (kept ∷ more) = last_of kept.position more

abbrev pub last_position : List Kept → Position
last_position kept = last_of (position_at 0 0) kept

-- the epoch of a text of the peer's, not above the one reached
abbrev pub is_peers : Side → ℕ → ℕ → Bool
is_peers side epoch t = not (is_own side t) && nat_le t epoch

-- and not below the one before
abbrev pub is_kept_epoch : Side → ℕ → Position → ℕ → Bool
is_kept_epoch side epoch last t = is_peers side epoch t && nat_le last.epoch t

-- the greatest index that may be kept: in the latest of the peer's epochs the reach
abbrev pub most_kept : ℕ → ℕ → ℕ → ℕ
most_kept epoch reach t = if nat_lt (t + 1) epoch then INDEX_LIMIT else reach

-- an index up to a greatest one; in the epoch of the position before, above that one's index
abbrev pub is_index_behind : ℕ → Position → ℕ → ℕ → Bool
is_index_behind most last t n =
    nat_le 1 n && (nat_le n most && (nat_lt last.epoch t || nat_lt last.index n))

abbrev pub is_kept_index : ℕ → ℕ → Position → ℕ → ℕ → Bool
is_kept_index epoch reach last t n = is_index_behind (most_kept epoch reach t) last t n

abbrev pub kept_of : ℕ × (ℕ × List ℕ) → Kept
kept_of e = record { position = position_at e.0 e.1.0; key = record { bytes = e.1.1 } }

abbrev pub of_kept : Kept → ℕ × (ℕ × List ℕ)
of_kept kept = (kept.position.epoch, (kept.position.index, kept.key.bytes))

unfoldable pub kept_behind : Side → ℕ → ℕ → Position → Reader Kept
kept_behind side epoch reach last =
    mapped kept_of
    (both (checked (is_kept_epoch side epoch last) (number w32)) (λ t.
    both (checked (is_kept_index epoch reach last t) (number w32)) (λ _.
    piece 32)))

abbrev pub kept_item : Side → ℕ → ℕ → List Kept → Reader Kept
kept_item side epoch reach before = kept_behind side epoch reach (last_position before)

unfoldable pub kept_field : Version → Side → ℕ → ℕ → Reader (List Kept)
kept_field version side epoch reach =
    counted w16 (up_to (kept_most version)) (kept_item side epoch reach)

abbrev pub kept_text : Kept → List ℕ
kept_text kept =
    to_be_bytes w32 kept.position.epoch
    ++ (to_be_bytes w32 kept.position.index ++ kept.key.bytes)

-- ---- the inbox: position, kind where the version has a byte for it, and text after its length,
-- which is a content of that kind

-- without a byte for it, it is a text's
abbrev pub kind_told : Option ℕ → ℕ
kind_told None = TEXT_KIND
kind_told (Some kind) = kind

unfoldable pub kind_field : Version → Reader ℕ
kind_field version =
    mapped kind_told (maybe (has_kinds version) (checked (is_kind_of version) (number w8)))

abbrev pub told_kind : Version → ℕ → Option ℕ
told_kind version kind = if has_kinds version then Some kind else None

abbrev pub kind_text : Version → ℕ → List ℕ
kind_text version kind = print_maybe (to_be_bytes w8) (told_kind version kind)

abbrev pub entry_of : ℕ × (ℕ × (ℕ × List ℕ)) → Entry
entry_of e = entry_with (position_at e.0 e.1.0) e.1.1.0 e.1.1.1

abbrev pub of_entry : Entry → ℕ × (ℕ × (ℕ × List ℕ))
of_entry entry = (entry.position.epoch, (entry.position.index, (entry.kind, entry.text)))

unfoldable pub entry_field : Version → Side → ℕ → Reader Entry
entry_field version side epoch =
    mapped entry_of
    (both (checked (is_peers side epoch) (number w32)) (λ _.
    both (checked is_index (number w32)) (λ _.
    both (kind_field version) (λ kind.
    sized w16 (up_to (text_most version)) (is_content kind)))))

unfoldable pub inbox_field : Version → Side → ℕ → Reader (List Entry)
inbox_field version side epoch =
    counted w8 (up_to (inbox_most version)) (λ _. entry_field version side epoch)

abbrev pub entry_text : Version → Entry → List ℕ
entry_text version entry =
    to_be_bytes w32 entry.position.epoch
    ++ (to_be_bytes w32 entry.position.index
    ++ (kind_text version entry.kind ++ print_sized w16 entry.text))

-- ---- the outbox: packets, each after its length

-- a packet of this session, in an own epoch that was reached, as the version has them
abbrev pub is_posted : Version → List ℕ → Side → ℕ → Result Fields Malformed → Bool
is_posted version session side epoch (Ok f) =
    bytes_eq f.session session
    && (is_own side f.epoch && (nat_le f.epoch epoch && is_packet_of version f))
is_posted version session side epoch (Err fault) = false

unfoldable pub is_post : Mechanism → Version → List ℕ → Side → ℕ → List ℕ → Bool
is_post k version session side epoch bytes =
    is_posted version session side epoch (read_packet (agreement_size k) bytes)

abbrev pub place_of : Result Fields Malformed → Position
place_of (Ok f) = position_at f.epoch f.index
place_of (Err fault) = position_at 0 0

-- a packet stands under its own position
unfoldable pub post_of : Mechanism → List ℕ → Post
post_of k bytes = post_under (place_of (read_packet (agreement_size k) bytes)) bytes

-- any length will do: a packet of another one is a fault of the packet
abbrev pub any_length : ℕ → Bool
any_length n = true

unfoldable pub post_field : Mechanism → Version → List ℕ → Side → ℕ → Reader Post
post_field k version session side epoch =
    mapped (post_of k) (sized w16 any_length (is_post k version session side epoch))

unfoldable pub outbox_field : Mechanism → Version → List ℕ → Side → ℕ → Reader (List Post)
outbox_field k version session side epoch =
    counted w8 (up_to (outbox_most version)) (λ _. post_field k version session side epoch)

abbrev pub post_text : Post → List ℕ
post_text post = print_sized w16 post.packet
