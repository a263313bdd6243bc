use Rattle.std.proofs.Common.{length, drop, ap, ◌∙◌, sym}
use Rattle.std.specs.Prelude.{◌&&◌}
use Rattle.std.specs.Str.{bytes_eq}
use Rattle.record_pages.proofs.Pieces.{holds, parts}
use Rattle.record_pages.proofs.cutting.holds_piece.Goals as goal

pub returns-then-eq : goal.returns-then-eq
returns-then-eq c =
    c.eq-then-eq.ensures
    ∙ parts c.args.page.now c.args.piece.now c.args.zeros.now c.requires.long c.requires.zero
    ∙ ap (λ t. t && bytes_eq (drop (length c.args.piece.now) c.args.page.now) (drop (length c.args.piece.now) c.args.zeros.now)) (sym c.if-eq.true ∙ c.eq.ensures)
    ∙ holds c.args.page.now c.args.piece.now c.args.zeros.now c.requires.long c.requires.fits c.requires.zero

pub returns-else-eq : goal.returns-else-eq
returns-else-eq c =
    c.if-eq.false
    ∙ ap (λ t. t && bytes_eq (drop (length c.args.piece.now) c.args.page.now) (drop (length c.args.piece.now) c.args.zeros.now)) (sym c.if-eq.false ∙ c.eq.ensures)
    ∙ holds c.args.page.now c.args.piece.now c.args.zeros.now c.requires.long c.requires.fits c.requires.zero
