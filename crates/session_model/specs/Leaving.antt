-- Items leave a box of a side.
use Rattle.std.specs.Prelude.{Bool, Err, List, Ok, Result, drop, filter, if◌then◌else◌, length, nat_le, nat_lt, not, true, ℕ}
use Rattle.std.specs.List.{list_any}
use Rattle.boxes.specs.Entries.{Entry, is_of}
use Rattle.boxes.specs.Posts.{Post}
use Rattle.session_model.specs.declared.answer.Items.{Items}
use Rattle.session_model.specs.declared.answer.Items.TheVariants.{Packets, Texts}
use Rattle.session_model.specs.declared.answer.Refusal.{Refusal}
use Rattle.session_model.specs.declared.answer.Refusal.TheVariants.{Fewer, NoLong}
use Rattle.session_model.specs.declared.answer.Which.{Which}
use Rattle.session_model.specs.declared.answer.Which.TheVariants.{OfId, Oldest}

-- whether any leave
abbrev pub drops_any : Which → Bool
drops_any (Oldest items n) = nat_lt 0 n
drops_any (OfId id) = true

-- ---- whether they stand

-- how many of these items an inbox and an outbox hold
abbrev pub held_in : List Entry → List Post → Items → ℕ
held_in inbox outbox Texts = length inbox
held_in inbox outbox Packets = length outbox

-- so many can leave where at least as many are held
abbrev pub enough : ℕ → ℕ → Result Unit Refusal
enough n held = if nat_le n held then Ok tt else Err (Fewer held)

-- the parts of a long text can leave where any stands
abbrev pub any_of : ℕ → List Entry → Result Unit Refusal
any_of id inbox = if list_any (is_of id) inbox then Ok tt else Err NoLong

-- whether an inbox and an outbox have what is to leave them, or why it can't
abbrev pub drop_check : Which → List Entry → List Post → Result Unit Refusal
drop_check (Oldest items n) inbox outbox = enough n (held_in inbox outbox items)
drop_check (OfId id) inbox outbox = any_of id inbox

-- ---- what is left

abbrev pub left_in_inbox : Which → List Entry → List Entry
left_in_inbox (Oldest Texts n) inbox = drop n inbox
left_in_inbox (Oldest Packets n) inbox = inbox
left_in_inbox (OfId id) inbox = filter (λ entry. not (is_of id entry)) inbox

abbrev pub left_in_outbox : Which → List Post → List Post
left_in_outbox (Oldest Texts n) outbox = outbox
left_in_outbox (Oldest Packets n) outbox = drop n outbox
left_in_outbox (OfId id) outbox = outbox
