use Rattle.std.proofs.Common.{◌∙◌, sym, ap, subst, arith}
use Rattle.fs_aead.specs.Rows.{starts_of}
use Rattle.fs_aead.specs.Table.{IsAscending}
use Rattle.fs_aead.proofs.Starts.{starts_of-nil}
use Rattle.fs_aead.proofs.table.Skipped.new.Goals as goal

pub invariant_of-result : goal.invariant_of-result
invariant_of-result c = (
  subst IsAscending (sym c.new.ensures) (λ i j d less below. absurd (omega arith)),
  c.new-2.ensures ∙ sym starts_of-nil ∙ ap starts_of (sym c.new.ensures),
)
