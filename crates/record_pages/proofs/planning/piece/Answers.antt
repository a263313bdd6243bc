use Rattle.std.proofs.Common.{◌≡◌, ◌*◌, ◌-◌, List, ℕ, length, take, drop, ap, ◌∙◌, arith, length-drop}
use Rattle.std.proofs.lemmas.List.{take_all, take_min}
use Rattle.dr_base.specs.declared.limits.TheConstants.{PAGE}
use Rattle.record_pages.proofs.planning.piece.Goals as goal

pub returns-clause-value : goal.returns-clause-value
returns-clause-value c =
    let whole : take (length c.args.text.now - PAGE * c.args.at) (drop (PAGE * c.args.at) c.args.text.now) ≡ drop (PAGE * c.args.at) c.args.text.now =
    take_all (length c.args.text.now - PAGE * c.args.at) (drop (PAGE * c.args.at) c.args.text.now) (omega (arith, length-drop (PAGE * c.args.at) c.args.text.now)) in
    ap (λ k. take k (take (length c.args.text.now - PAGE * c.args.at) (drop (PAGE * c.args.at) c.args.text.now))) c.min.ensures
    ∙ take_min PAGE (take (length c.args.text.now - PAGE * c.args.at) (drop (PAGE * c.args.at) c.args.text.now))
    ∙ ap (λ (l : List ℕ). take PAGE l) whole
