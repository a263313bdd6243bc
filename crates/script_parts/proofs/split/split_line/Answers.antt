use Rattle.std.proofs.Common.{arith, ap, sym, subst, ◌∙◌, ◌≡◌, ◌<◌, ◌≢◌, ℕ, length, ◌∷◌, get_or}
use Rattle.std.proofs.lemmas.Bool.{eqb-false}
use Rattle.script_parts.proofs.Splitting.{cut_line, last_line, no_lines, empty_lines}
use Rattle.script_parts.proofs.split.split_line.Goals as goal

pub returns-then-is_empty-clause-line : goal.returns-then-is_empty-clause-line
returns-then-is_empty-clause-line c = empty_lines c.args.text.now (sym c.is_empty.ensures ∙ c.if-is_empty.true)

pub returns-then-end-text-clause-line : goal.returns-then-end-text-clause-line
returns-then-end-text-clause-line c =
    let some : length c.args.text.now ≡ 0 → ⊥ = eqb-false (length c.args.text.now) 0 (sym c.is_empty.ensures ∙ c.if-is_empty.false) in
    last_line c.args.text.now (omega arith) (subst (λ n. (k : ℕ) → k < n → get_or c.args.text.now k 0 ≢ 10) c.if-end-text.true c.line_end-end.ensures.before)
    ∙ ap (λ rest. c.args.text.now ∷ rest) (sym no_lines)

pub returns-clause-line : goal.returns-clause-line
returns-clause-line c =
    let within : c.line_end-end.result < length c.args.text.now = omega (arith, c.line_end-end.ensures.within, c.if-end-text.false) in
    cut_line c.args.text.now c.line_end-end.result within c.line_end-end.ensures.before (c.line_end-end.ensures.found within)
