use Rattle.std.proofs.Common.{◌≡◌, ◌+◌, Bool, true, false, length, List, Some, get_or, sym, ◌∙◌, ap, ℕ, take, arith}
use Rattle.std.specs.Prelude.{◌||◌, slice_get}
use Rattle.std.specs.List.{list_any}
use Rattle.std.proofs.lemmas.List.Folds.{list_any_at, list_any_more}
use Rattle.std.proofs.lemmas.Option.{get_or_from_slice_get, slice_get_within}
use Rattle.boxes.specs.Entries.{Entry, is_of}
use Rattle.boxes.specs.Seen.{entry_seen}
use Rattle.boxes.proofs.inbox.Inbox.has_long.Goals as goal

-- the entry at a place is one
one_there : (id : ℕ) (inbox : List Entry) (at : ℕ) (entry : Entry) → slice_get inbox at ≡ Some entry → is_of id entry ≡ true
    → list_any (is_of id) inbox ≡ true
one_there id inbox at entry here is =
    list_any_at (is_of id) inbox at entry (slice_get_within inbox at entry here)
    (ap (is_of id) (get_or_from_slice_get inbox at entry entry here) ∙ is)

-- it is none
none_yet : (id : ℕ) (inbox : List Entry) (at : ℕ) (entry : Entry) → slice_get inbox at ≡ Some entry → is_of id entry ≡ false
    → list_any (is_of id) (take at inbox) ≡ false → list_any (is_of id) (take (at + 1) inbox) ≡ false
none_yet id inbox at entry here isnt before =
    list_any_more (is_of id) inbox at entry (slice_get_within inbox at entry here)
    ∙ ap (λ (b : Bool). b || is_of id (get_or inbox at entry)) before
    ∙ ap (is_of id) (get_or_from_slice_get inbox at entry entry here) ∙ isnt

pub returns-then-is_of : goal.returns-then-is_of
returns-then-is_of c =
    sym (one_there c.args.id c.args.self.now c.entries.at (entry_seen c.in-Some.entry) (sym c.in-Some.ensures.entry) (sym c.if-is_of.ensures))

pub entries-preserved : goal.entries-preserved
entries-preserved c =
    none_yet c.args.id c.args.self.now c.entries.at (entry_seen c.in-Some.entry) (sym c.in-Some.ensures.entry) (sym c.if-is_of.ensures)
    c.entries.invariant
