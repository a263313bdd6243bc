use Rattle.std.proofs.Common.{◌∙◌, ap, sym, arith, inl, inr}
use Rattle.std.proofs.lemmas.Bool.{cases_eq}
use Rattle.fs_aead.specs.Rows.{index_at}
use Rattle.fs_aead.proofs.rows.place_in.Goals as goal

pub loop-i-preserved : goal.loop-i-preserved
loop-i-preserved c = λ j low high is.
    elim (cases_eq j c.loop-i.i) as (λ _. ⊥) [
      | inl same ↦ c.if-keys-i.false (ap (index_at c.args.keys.now) (sym same) ∙ is)
      | inr other ↦ c.loop-i.invariant j low (omega arith) is
    ]

pub returns : goal.returns
returns c = λ i inside. c.loop-i.invariant i inside.0 (let high = inside.1 in omega arith)
