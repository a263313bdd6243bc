use Rattle.std.proofs.Common.{◌≡◌, ◌+◌, ◌*◌, ◌-◌, List, ℕ, true, take, drop, ap, ◌∙◌, arith}
use Rattle.std.specs.Prelude.{◌&&◌, nat_lt}
use Rattle.std.specs.Str.{bytes_eq}
use Rattle.std.proofs.lemmas.Bool.Decides.{nat_tests}
use Rattle.dr_base.specs.declared.limits.TheConstants.{PAGE}
use Rattle.record_pages.specs.Pages.{filled_page, page_at}
use Rattle.record_pages.proofs.planning.stays.Goals as goal

pub returns-then-at-held : goal.returns-then-at-held
returns-then-at-held c =
    c.holds_piece.ensures
    ∙ ap (λ k. bytes_eq (take k (drop (PAGE * c.args.at) c.args.bytes.now)) (filled_page c.piece.result.now))
    (let e : PAGE * c.args.at + PAGE - PAGE * c.args.at ≡ PAGE = omega arith in e)
    ∙ ap (λ (l : List ℕ). bytes_eq (page_at c.args.bytes.now c.args.at) (filled_page l)) c.piece.ensures.value
    ∙ ap (λ t. t && bytes_eq (page_at c.args.bytes.now c.args.at) (filled_page (page_at c.args.text.now c.args.at)))
    (let e : true ≡ nat_lt c.args.at c.args.held = grind (arith, nat_tests) in e)
