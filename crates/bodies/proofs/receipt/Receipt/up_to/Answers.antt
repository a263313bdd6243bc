use Rattle.std.proofs.Common.{◌≡◌, ◌∙◌, ◌-◌, ◌<◌, ◌≤◌, List, get_or, length, map, nat_le, take, true, false, sym, ap, arith}
use Rattle.std.proofs.lemmas.Bool.{cond-false, cond-true}
use Rattle.std.proofs.lemmas.Bool.Decides.{nat_tests}
use Rattle.std.proofs.lemmas.List.{get_or-map, length-map, take_all}
use Rattle.bodies.specs.Receipts.{Receipt, receipt_up_to}
use Rattle.dr_base.specs.declared.key.Kept.{Kept}
use Rattle.dr_base.specs.declared.limits.TheConstants.{RECEIPT_LIMIT}
use Rattle.dr_base.specs.declared.position.Position.{Position}
use Rattle.bodies.proofs.receipt.Receipt.up_to.Goals as goal
use Rattle.bodies.proofs.receipt.Receipt.up_to.Goals.{then-missing-le-RECEIPT_LIMIT, else-missing-le-RECEIPT_LIMIT}

-- with this bound it lists the first ones, which are all where they are few
abbrev first_up_to : Position → List Position → Receipt
first_up_to bound missing = record { bound = bound; listed = take RECEIPT_LIMIT missing }

few : (missing : List Position) (reached : Position) → length missing ≤ RECEIPT_LIMIT
    → first_up_to reached missing ≡ receipt_up_to missing reached
unfolding receipt_up_to
few missing reached h =
    let all : nat_le (length missing) RECEIPT_LIMIT ≡ true = grind (arith, nat_tests) in
    ap (λ (l : List Position). record { bound = reached; listed = l }) (take_all RECEIPT_LIMIT missing h)
    ∙ sym (cond-true (nat_le (length missing) RECEIPT_LIMIT) _ _ all)

many : (missing : List Position) (reached : Position) → RECEIPT_LIMIT < length missing
    → first_up_to (get_or missing (RECEIPT_LIMIT - 1) reached) missing ≡ receipt_up_to missing reached
unfolding receipt_up_to
many missing reached h =
    let more : nat_le (length missing) RECEIPT_LIMIT ≡ false = grind (arith, nat_tests) in
    sym (cond-false (nat_le (length missing) RECEIPT_LIMIT) _ _ more)

pub returns : goal.returns
returns c =
    let reached = c.args.reached in
    let missing : List Position = map (λ (k : Kept). k.position) c.args.missing.now in
    let long : length missing ≡ length c.args.missing.now = length-map c.args.missing.now (λ (k : Kept). k.position) in
    ap (λ (l : List Position). record { bound = c.if-missing-le-RECEIPT_LIMIT.bound; listed = l }) c.first_positions.ensures ∙
    elim c.if-missing-le-RECEIPT_LIMIT.branch [
      | then-missing-le-RECEIPT_LIMIT w ↦
          ap (λ (p : Position). first_up_to p missing) w.bound-is ∙ few missing reached (omega (arith, w.if-missing-le-RECEIPT_LIMIT.true))
      | else-missing-le-RECEIPT_LIMIT w ↦
          let more : RECEIPT_LIMIT < length c.args.missing.now = w.if-missing-le-RECEIPT_LIMIT.false in
          ap (λ (p : Position). first_up_to p missing)
          (w.bound-is ∙ sym (get_or-map (λ (k : Kept). k.position) c.args.missing.now (RECEIPT_LIMIT - 1) _ reached (omega arith)))
          ∙ many missing reached (omega arith)
    ]
