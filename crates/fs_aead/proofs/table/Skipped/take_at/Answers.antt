use Rattle.std.proofs.Common.{◌∙◌, ap, subst, sym}
use Rattle.std.proofs.lemmas.List.Quantifiers.{all_pairs_remove}
use Rattle.dr_base.specs.declared.key.Kept.{Kept}
use Rattle.fs_aead.specs.Rows.{starts_of}
use Rattle.dr_base.specs.Position.{IsBefore}
use Rattle.fs_aead.specs.Table.{IsAscending}
use Rattle.fs_aead.proofs.table.Skipped.take_at.Goals as goal

pub invariant_of-self : goal.invariant_of-self
invariant_of-self c =
    let up = all_pairs_remove (λ (a b : Kept). IsBefore a.position b.position) c.self.inside.keys.items c.args.place (rw c.self.view_is c.requires) c.self.invariant.0 in
    (subst IsAscending (sym c.remove.ensures.items) up, c.mark_rows.ensures ∙ ap starts_of c.as_slice.ensures.value)
