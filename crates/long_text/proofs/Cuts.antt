-- The bytes of a part, cut from a text.
use Rattle.std.proofs.Common.{◌≡◌, ◌≤◌, ◌*◌, ◌-◌, ℕ, List, length, take, drop, min, ◌∙◌, ap, arith}
use Rattle.std.proofs.lemmas.Grind.{div_ceil_times}
use Rattle.std.proofs.lemmas.List.{length-drop, take_all, take_min}
use Rattle.long_text.specs.Cuts.{count_of}
use Rattle.boxes.specs.declared.limits.TheConstants.{PART_LIMIT}

-- what the text has behind a place, as far as it goes and no further than a size
pub cut_short : (text : List ℕ) (start size m : ℕ)
    → m ≡ min (length (take (length text - start) (drop start text))) size
    → take m (take (length text - start) (drop start text)) ≡ take size (drop start text)
cut_short text start size m is =
    let rest = take (length text - start) (drop start text) in
    let whole : rest ≡ drop start text = take_all (length text - start) (drop start text) (omega (arith, length-drop start text)) in
    ap (λ (n : ℕ). take n rest) (let e : m ≡ min size (length rest) = omega (arith, is) in e)
    ∙ take_min size rest ∙ ap (take size) whole

-- a part begins within its text
pub cut_inside : (text : List ℕ) (number : ℕ) → 1 ≤ number → number ≤ count_of text
    → PART_LIMIT * (number - 1) ≤ length text
cut_inside text number one most =
    let times = div_ceil_times (length text) PART_LIMIT (omega arith) in omega (arith, times.1)
