use Rattle.std.proofs.Common.{◌≡◌, ◌∙◌, ◌∷◌, ◌++◌, [], List, ℕ, true, false, cond, length, sym, ap, arith}
use Rattle.std.proofs.lemmas.Bool.{cond-false, cond-true}
use Rattle.std.proofs.lemmas.List.{append-nil}
use Rattle.fs_aead.specs.Rows.{begins_row}
use Rattle.fs_aead.proofs.Starts.{starts_below, starts_below-few, starts_below-more, starts_of-below}
use Rattle.fs_aead.proofs.rows.mark_rows.Goals as goal
use Rattle.fs_aead.proofs.rows.mark_rows.Goals.{then-begins_row, else-begins_row}

pub push-requires : goal.push-requires
push-requires c =
    let is = ap (λ (l : List ℕ). length l) c.keys.invariant in
    omega (arith, starts_below-few c.args.keys.now c.keys.at)

pub keys-preserved : goal.keys-preserved
keys-preserved c =
    let keys = c.args.keys.now in
    let at = c.keys.at in
    let old = starts_below keys at in
    let next = λ (new : List ℕ) (is : cond (begins_row keys at) (at ∷ []) [] ≡ new). sym (starts_below-more keys at ∙ ap (λ ys. old ++ ys) is) in
    elim c.if-begins_row.branch [
      | then-begins_row w ↦
          let yes : begins_row keys at ≡ true = cc in
          ap (λ v. v.items) w.starts-is ∙ w.push.ensures.items ∙ ap (λ (ys : List ℕ). ys ++ at ∷ []) c.keys.invariant
          ∙ next (at ∷ []) (cond-true (begins_row keys at) (at ∷ []) [] yes)
      | else-begins_row w ↦
          let no : begins_row keys at ≡ false = cc in
          ap (λ v. v.items) w.starts-is ∙ c.keys.invariant ∙ sym (append-nil old)
          ∙ next [] (cond-false (begins_row keys at) (at ∷ []) [] no)
    ]

pub returns : goal.returns
returns c =
    let end : c.keys.at ≡ length c.args.keys.now = omega arith in
    c.keys.invariant ∙ ap (starts_below c.args.keys.now) end ∙ sym (starts_of-below c.args.keys.now)
