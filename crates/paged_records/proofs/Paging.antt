-- A record's pages have a number each.
use Rattle.std.proofs.Common.{◌≡◌, ℕ, ◌+◌, ◌*◌, ◌≤◌, ◌<◌, length, arith}
use Rattle.std.proofs.lemmas.Grind.{div_ceil_times}
use Rattle.dr_base.specs.declared.limits.TheConstants.{PAGE}
use Rattle.record_pages.specs.Pages.{page_count}
use Rattle.paged_records.specs.declared.kept.Kept.{Kept}

-- so many pages cover a record, and no fewer do
pub counted : (count len : ℕ) → len ≤ PAGE * count → PAGE * count < len + PAGE → count ≡ page_count len
counted count len covers least =
    let both = div_ceil_times len PAGE (omega arith) in
    omega (arith, covers, least, both.0, both.1)

pub covered : (count len : ℕ) → count ≡ page_count len → len ≤ PAGE * count
covered count len is = omega (arith, is, (div_ceil_times len PAGE (omega arith)).0)

pub fewest : (count len : ℕ) → count ≡ page_count len → PAGE * count < len + PAGE
fewest count len is = omega (arith, is, (div_ceil_times len PAGE (omega arith)).1)

pub each_of : (kept : Kept) → length kept.numbers.items ≡ page_count kept.len
each_of kept = counted (length kept.numbers.items) kept.len kept.covers kept.least
