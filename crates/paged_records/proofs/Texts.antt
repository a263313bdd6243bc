-- Texts that there is room for.
use Rattle.std.proofs.Common.{ℕ, ◌*◌, ◌≤◌, List, Vec, length, take, arith}
use Rattle.std.proofs.lemmas.List.{length-take-le}
use Rattle.dr_base.specs.declared.limits.TheConstants.{PAGE}
use Rattle.record_pages.proofs.Filled.{count_covers, count_least}
use Rattle.paged_records.specs.Bounded.{Bounds, Fits, HasText}

-- a text that is no longer than the most pages of a record fits
pub text_fits : (bounds : Bounds) (text : List ℕ) → length text ≤ PAGE * bounds.most → Fits bounds text
text_fits bounds text short = count_least (length text) bounds.most short

pub held_inside : {Z : Type 0} (bounds : Bounds) (text : Vec ℕ Z) (len : ℕ) → HasText bounds text len
    → len ≤ length text.items
held_inside bounds text len has = omega (arith, count_covers len, has.room)

pub held_fits : {Z : Type 0} (bounds : Bounds) (text : Vec ℕ Z) (len : ℕ) → HasText bounds text len
    → Fits bounds (take len text.items)
held_fits bounds text len has = text_fits bounds (take len text.items)
    (omega (arith, has.few, length-take-le len text.items (held_inside bounds text len has)))
