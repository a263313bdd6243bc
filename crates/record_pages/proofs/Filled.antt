-- How many pages a record fills.
use Rattle.std.proofs.Common.{◌≡◌, ℕ, ◌*◌, ◌≤◌, List, length, arith}
use Rattle.dr_base.specs.declared.limits.TheConstants.{PAGE}
use Rattle.record_pages.specs.Pages.{page_count, pages_in}
use Rattle.record_pages.proofs.Cuts.{pages_long}

pub count_covers : (len : ℕ) → len ≤ PAGE * page_count len
count_covers len = omega arith

pub count_least : (len most : ℕ) → len ≤ PAGE * most → page_count len ≤ most
count_least len most fits = omega (arith, fits)

pub count_fits : (len most : ℕ) → page_count len ≤ most → len ≤ PAGE * most
count_fits len most fits = omega (arith, fits, count_covers len)

pub pages_in_long : (text : List ℕ) → length (pages_in text) ≡ page_count (length text)
pages_in_long text = pages_long (page_count (length text)) text
