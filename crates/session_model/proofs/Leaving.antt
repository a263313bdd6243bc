-- What is left of boxes once items leave them, and what stood in them.
use Rattle.std.proofs.Common.{Bool, Err, List, Ok, Result, arith, false, length, refl, true, ℕ, ◌≡◌, ◌≤◌}
use Rattle.std.specs.Prelude.{All, if◌then◌else◌, nat_le, not}
use Rattle.std.specs.List.{list_any}
use Rattle.std.proofs.lemmas.Bool.{leb-true}
use Rattle.std.proofs.lemmas.List.{length-drop}
use Rattle.std.proofs.lemmas.List.Elements.{All-drop, All-filter}
use Rattle.std.proofs.lemmas.List.Filters.{length-filter_both}
use Rattle.boxes.specs.Entries.{Entry, is_of}
use Rattle.boxes.specs.Posts.{Post}
use Rattle.session_model.specs.Leaving.{any_of, enough, left_in_inbox, left_in_outbox}
use Rattle.session_model.specs.declared.answer.Items.TheVariants.{Packets, Texts}
use Rattle.session_model.specs.declared.answer.Refusal.{Refusal}
use Rattle.session_model.specs.declared.answer.Refusal.TheVariants.{Fewer, NoLong}
use Rattle.session_model.specs.declared.answer.Which.{Which}
use Rattle.session_model.specs.declared.answer.Which.TheVariants.{OfId, Oldest}

-- so many stand, where the check allows it
abbrev enough_by : Bool → ℕ → Result Unit Refusal
enough_by b held = if b then Ok tt else Err (Fewer held)

passed : (b : Bool) (held : ℕ) → enough_by b held ≡ Ok tt → b ≡ true
passed true held is = refl
passed false held is = absurd (cc is)

pub enough_held : (n held : ℕ) → enough n held ≡ Ok tt → n ≤ held
enough_held n held is = leb-true n held (passed (nat_le n held) held is)

-- a part stands, where the check allows it
abbrev any_by : Bool → Result Unit Refusal
any_by b = if b then Ok tt else Err NoLong

any_passed : (b : Bool) → any_by b ≡ Ok tt → b ≡ true
any_passed true is = refl
any_passed false is = absurd (cc is)

pub any_stand : (id : ℕ) (inbox : List Entry) → any_of id inbox ≡ Ok tt → list_any (is_of id) inbox ≡ true
any_stand id inbox is = any_passed (list_any (is_of id) inbox) is

-- no more are left than stood
pub fewer_texts : (which : Which) (inbox : List Entry) → length (left_in_inbox which inbox) ≤ length inbox
fewer_texts (Oldest Texts n) inbox = omega (arith, length-drop n inbox)
fewer_texts (Oldest Packets n) inbox = omega arith
fewer_texts (OfId id) inbox = omega (arith, length-filter_both (is_of id) (λ entry. not (is_of id entry)) (λ _. refl) inbox)

pub fewer_packets : (which : Which) (outbox : List Post) → length (left_in_outbox which outbox) ≤ length outbox
fewer_packets (Oldest Texts n) outbox = omega arith
fewer_packets (Oldest Packets n) outbox = omega (arith, length-drop n outbox)
fewer_packets (OfId id) outbox = omega arith

-- what held of each holds of each that is left
pub all_texts : (P : Entry → Type 0) (which : Which) (inbox : List Entry) → All P inbox → All P (left_in_inbox which inbox)
all_texts P (Oldest Texts n) inbox all = All-drop P n inbox all
all_texts P (Oldest Packets n) inbox all = all
all_texts P (OfId id) inbox all = All-filter (λ entry. not (is_of id entry)) P inbox all

pub all_packets : (P : Post → Type 0) (which : Which) (outbox : List Post) → All P outbox
    → All P (left_in_outbox which outbox)
all_packets P (Oldest Texts n) outbox all = all
all_packets P (Oldest Packets n) outbox all = All-drop P n outbox all
all_packets P (OfId id) outbox all = all
