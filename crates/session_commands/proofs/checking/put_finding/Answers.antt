use Rattle.std.proofs.Common.{◌≡◌, ℕ, List, ◌++◌, append_assoc, codes, sym, ◌∙◌, ap}
use Rattle.std.specs.Prelude.{decimal}
use Rattle.slot_store.specs.declared.report.Finding.{Finding}
use Rattle.slot_store.specs.declared.report.Finding.TheVariants.{Damaged}
use Rattle.session_commands.specs.Checking.{finding_line}
use Rattle.session_commands.proofs.checking.put_finding.Goals as goal

behind : (lines a b c d e : List ℕ) → lines ++ a ++ b ++ c ++ d ++ e ≡ lines ++ (a ++ b ++ c ++ d ++ e)
behind lines a b c d e = simp append_assoc

-- a slot, a place and a line feed, one after the other
damaged_line : (lines one two three : List ℕ) (found : Finding) (slot at number : ℕ) → found ≡ Damaged slot at → number ≡ slot
    → one ≡ lines ++ codes "damaged slot " ++ decimal number → two ≡ one ++ codes " at " ++ decimal at → three ≡ two ++ codes "\n"
    → three ≡ lines ++ finding_line found
unfolding finding_line
damaged_line lines one two three found slot at number is same first second third =
    third ∙ ap (λ (l : List ℕ). l ++ codes "\n") (second ∙ ap (λ (l : List ℕ). l ++ codes " at " ++ decimal at)
    (first ∙ ap (λ n. lines ++ codes "damaged slot " ++ decimal n) same))
    ∙ behind lines (codes "damaged slot ") (decimal slot) (codes " at ") (decimal at) (codes "\n")
    ∙ sym (ap (λ f. lines ++ finding_line f) is)

pub returns-in-Damaged-clause-lines : goal.returns-in-Damaged-clause-lines
returns-in-Damaged-clause-lines c =
    damaged_line c.args.lines.now _ _ _ c.args.found c.in-Damaged.slot c.in-Damaged.at _ c.in-Damaged.is c.from.ensures
    c.put_named.ensures.bytes c.put_named-in-Damaged.ensures.bytes c.text-in-Damaged.ensures.bytes
