-- What is left of the arguments once the first was taken.
use Rattle.std.proofs.Common.{◌≡◌, length, drop, Option, None, Some, sym, ◌∙◌, ap}
use Rattle.std.specs.Vec.Iter.{into_iter_items, into_iter_len, into_iter_steps}
use Rattle.std.specs.declared.vec.IntoIter.{IntoIter}
use Rattle.std.proofs.lemmas.List.{nil_from_length}

-- how many are left is the length of the list of them
pub counted : {X Z : Type 0} (s : IntoIter X Z) → into_iter_len s ≡ length (into_iter_items s)
counted s = s.rest.ok.0

-- what is left is all but the first
pub behind_first : {X Z : Type 0} (next : Option X) (s t : IntoIter X Z) → into_iter_steps s next t → into_iter_items t ≡ drop 1 (into_iter_items s)
behind_first None s t h = nil_from_length _ (sym (counted t) ∙ h.1) ∙ sym (ap (drop 1) (nil_from_length _ (sym (counted s) ∙ h.0)))
behind_first (Some x) s t h = sym (ap (drop 1) h.0)
