use Rattle.std.proofs.Common.{length, ◌≡◌, ◌+◌, ◌*◌, replicate, sym, ◌∙◌, ap, ⊎_elim, arith}
use Rattle.std.proofs.lemmas.Bool.{cases_Bool}
use Rattle.dr_base.specs.declared.limits.TheConstants.{PAGE}
use Rattle.dr_disk.proofs.Ranges.{length-range}
use Rattle.pages.specs.Rows.{row_page}
use Rattle.pages.proofs.ahead.is_blank_at.Goals as goal

pub returns : goal.returns
returns c =
    let long : length (row_page c.args.bytes.now c.args.place) ≡ PAGE = omega (
      arith,
      c.requires,
      length-range c.args.bytes.now (PAGE * c.args.place) (PAGE * c.args.place + PAGE),
    ) in (
      λ blank. c.is_blank.ensures.zeros blank ∙ ap (λ k. replicate k 0) long,
      λ zeros. ⊎_elim (λ yes. yes)
          (λ no. absurd (c.is_blank.ensures.others no (zeros ∙ ap (λ k. replicate k 0) (sym long))))
          (cases_Bool c.is_blank.result),
    )
