-- The last field of a record, where the version knows receipts: the own texts that wait for one,
-- each above the one before.
use Rattle.std.specs.Prelude.{ℕ, ◌==◌, ◌&&◌, Bool, nat_le, List, [], Option, Some, None, if◌then◌else◌}
use Rattle.std.specs.Int.{w8, w32}
use Rattle.bodies.specs.Receipts.{last_in, listed_place, position_bytes}
use Rattle.dr_base.specs.Position.{is_own, position_at}
use Rattle.dr_base.specs.declared.limits.TheConstants.{AWAITING_LIMIT, INDEX_LIMIT}
use Rattle.dr_base.specs.declared.position.Position.{Position}
use Rattle.dr_base.specs.declared.position.Side.{Side}
use Rattle.grammar.specs.Printer.{print_counted, print_maybe}
use Rattle.grammar.specs.Reader.{Reader, number, checked, mapped, maybe, both, counted}
use Rattle.session_model.specs.States.{Phase, in_own, in_peers}
use Rattle.session_record.specs.Fields.{up_to}
use Rattle.session_record.specs.Lists.{is_index_behind}
use Rattle.session_record.specs.Versions.{has_receipts}
use Rattle.session_record.specs.declared.versions.Version.{Version}

-- the position of the last one, or one below all where there is none
abbrev pub last_waiting : List Position → Position
last_waiting awaiting = last_in (position_at 0 0) awaiting

-- the epoch of an own text, not above the one reached, and not below the one before
abbrev pub is_waiting_epoch : Side → ℕ → Position → ℕ → Bool
is_waiting_epoch side epoch last t = is_own side t && (nat_le t epoch && nat_le last.epoch t)

-- how many texts of the reached epoch may wait: as many as were sent, where it is an own one
abbrev pub sent_of : Phase → ℕ
sent_of (in_own own) = own.sent
sent_of (in_peers public) = INDEX_LIMIT

-- the greatest index that may wait
abbrev pub most_waiting : ℕ → ℕ → ℕ → ℕ
most_waiting epoch sent t = if t == epoch then sent else INDEX_LIMIT

abbrev pub is_waiting_index : ℕ → ℕ → Position → ℕ → ℕ → Bool
is_waiting_index epoch sent last t n = is_index_behind (most_waiting epoch sent t) last t n

unfoldable pub waiting_behind : Side → ℕ → ℕ → Position → Reader Position
waiting_behind side epoch sent last =
    mapped listed_place
    (both (checked (is_waiting_epoch side epoch last) (number w32)) (λ t.
    checked (is_waiting_index epoch sent last t) (number w32)))

abbrev pub waiting_item : Side → ℕ → ℕ → List Position → Reader Position
waiting_item side epoch sent before = waiting_behind side epoch sent (last_waiting before)

-- the positions after their count
abbrev pub waiting_list : Side → ℕ → ℕ → Reader (List Position)
waiting_list side epoch sent = counted w8 (up_to AWAITING_LIMIT) (waiting_item side epoch sent)

-- where the field isn't there, none waits
abbrev pub awaiting_of : Option (List Position) → List Position
awaiting_of None = []
awaiting_of (Some awaiting) = awaiting

abbrev pub of_awaiting : Version → List Position → Option (List Position)
of_awaiting version awaiting = if has_receipts version then Some awaiting else None

unfoldable pub awaiting_field : Version → Side → ℕ → ℕ → Reader (List Position)
awaiting_field version side epoch sent =
    mapped awaiting_of (maybe (has_receipts version) (waiting_list side epoch sent))

abbrev pub awaiting_text : Version → List Position → List ℕ
awaiting_text version awaiting =
    print_maybe (print_counted w8 position_bytes) (of_awaiting version awaiting)
