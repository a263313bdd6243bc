-- A step of a client whose disk stops in it.
use Rattle.std.proofs.Common.{Bool, None, Option, Some, ap, arith, false, if◌then◌else◌, refl, true, ℕ, ◌<◌, ◌∙◌, ◌≡◌, ◌≤◌}
use Rattle.std.specs.Prelude.{nat_le}
use Rattle.std.proofs.lemmas.Bool.{cond-false, cond-true, le-leb}
use Rattle.std.proofs.lemmas.Bool.Decides.{nat_tests}
use Rattle.dr_disk.specs.declared.call.Mode.{Mode}
use Rattle.dr_model.specs.Machines.Steps.{Step, has_effect, step}
use Rattle.session_model.specs.Clients.{Client}
use Rattle.session_model.specs.declared.answer.Answer.TheVariants.{Stopped}
use Rattle.client.specs.Outcomes.{replacing_calls}
use Rattle.parties.specs.Stops.{cut_by, cut_of, is_replaced, stopped_client}

-- what changes nothing isn't cut off
pub idle_cut : {S : Type 0} (cut : Option Bool) (before : S) (made : Step S)
    → has_effect made.answer ≡ false
    → cut_by cut before made ≡ made
idle_cut None before made idle = refl
idle_cut (Some replaced) before made idle = cond-false (has_effect made.answer) _ made idle

pub idle_stopped : (n : ℕ) (mode : Mode) (before : Client) (made : Step Client)
    → has_effect made.answer ≡ false
    → stopped_client n mode before made ≡ made
unfolding stopped_client
idle_stopped n mode before made idle = idle_cut (cut_of n mode before made.next) before made idle

not_yet : (calls n : ℕ) → n < calls → nat_le calls n ≡ false
not_yet calls n few = grind (arith, nat_tests)

-- enough calls pass
pub enough : (n : ℕ) (mode : Mode) (before : Client) (made : Step Client)
    → replacing_calls before made.next ≤ n
    → stopped_client n mode before made ≡ made
unfolding stopped_client cut_of
enough n mode before made many =
    ap (λ cut. cut_by cut before made)
    (cond-true (nat_le (replacing_calls before made.next) n) None _
    (le-leb (replacing_calls before made.next) n many))

-- the step is cut off
pub cut : (n : ℕ) (mode : Mode) (before : Client) (made : Step Client) → has_effect made.answer ≡ true
    → n < replacing_calls before made.next
    → stopped_client n mode before made
    ≡ step Stopped (if is_replaced n mode before made.next then made.next else before)
unfolding stopped_client cut_of
cut n mode before made effect few =
    let calls = replacing_calls before made.next in
    ap (λ cut. cut_by cut before made) (cond-false (nat_le calls n) None _ (not_yet calls n few))
    ∙ cond-true (has_effect made.answer) _ made effect
