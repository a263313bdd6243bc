-- the numbers so far are marked
use Rattle.std.proofs.Common.{◌≡◌, ◌||◌, ℕ, false, get_or, take}
use Rattle.record_pages.specs.Plans.{is_among}
use Rattle.slot_store.proofs.settling.mark_pages.Given as goal

abbrev pub invariant-numbers : goal.invariant-numbers
invariant-numbers l = (n : ℕ) → get_or l.named n false ≡ (get_or l.fn.named n false || is_among (take l.i l.numbers) n)
