-- A page compared with a piece and zeros.
use Rattle.std.proofs.Common.{◌≡◌, ℕ, ◌-◌, ◌≤◌, Bool, true, false, nat_eq, List, [], ◌∷◌, ◌++◌, length, take, drop, replicate, refl, ap, ◌∙◌, arith, length-drop}
use Rattle.std.proofs.lemmas.List.{drop-replicate, take_all}
use Rattle.std.specs.Prelude.{◌&&◌}
use Rattle.std.specs.Str.{bytes_eq}
use Rattle.dr_base.specs.declared.limits.TheConstants.{PAGE}
use Rattle.record_pages.specs.Pages.{filled_page}

pub split_eq : (piece page zeros : List ℕ) → length piece ≤ length page
    → (bytes_eq (take (length piece) page) piece && bytes_eq (drop (length piece) page) zeros) ≡ bytes_eq page (piece ++ zeros)
split_eq [] page zeros fits = refl
split_eq (x ∷ piece) [] zeros fits = absurd (omega arith)
split_eq (x ∷ piece) (y ∷ page) zeros fits =
    let rest = split_eq piece page zeros (omega arith) in
    sym_both (nat_eq y x) (bytes_eq (take (length piece) page) piece) (bytes_eq (drop (length piece) page) zeros) ∙ ap (λ t. nat_eq y x && t) rest
  where
    sym_both : (a b c : Bool) → ((a && b) && c) ≡ (a && (b && c))
    sym_both true b c = refl
    sym_both false b c = refl

-- what stands after the piece, in full
pub parts : (page piece zeros : List ℕ) → length page ≡ PAGE → zeros ≡ replicate PAGE 0
    → bytes_eq (take (length page - length piece) (drop (length piece) page)) (take (length zeros - length piece) (drop (length piece) zeros))
    ≡ bytes_eq (drop (length piece) page) (drop (length piece) zeros)
parts page piece zeros long blank =
    ap (λ l. bytes_eq l (take (length zeros - length piece) (drop (length piece) zeros))) (take_all (length page - length piece) (drop (length piece) page) (omega (arith, length-drop (length piece) page)))
    ∙ ap (λ l. bytes_eq (drop (length piece) page) l) (take_all (length zeros - length piece) (drop (length piece) zeros) (omega (arith, length-drop (length piece) zeros)))

pub holds : (page piece zeros : List ℕ) → length page ≡ PAGE → length piece ≤ PAGE → zeros ≡ replicate PAGE 0
    → (bytes_eq (take (length piece) page) piece && bytes_eq (drop (length piece) page) (drop (length piece) zeros)) ≡ bytes_eq page (filled_page piece)
holds page piece zeros long fits blank =
    split_eq piece page (drop (length piece) zeros) (omega (arith, long, fits))
    ∙ ap (λ l. bytes_eq page (piece ++ drop (length piece) l)) blank
    ∙ ap (λ l. bytes_eq page (piece ++ l)) (drop-replicate (length piece) PAGE 0)
