-- Whatever is asked, a box keeps its name and its keys.
use Rattle.std.proofs.Common.{◌≡◌, ℕ, List, Option, Some, None, Result, Ok, Err, refl, ◌∙◌, ap, ap₂}
use Rattle.relay_guard.specs.Guards.{with_last}
use Rattle.relay_guard.specs.declared.guard.Denied.{Denied}
use Rattle.relay_guard.specs.declared.guard.Guard.{Guard}
use Rattle.relay_guard.specs.declared.guard.Role.{Role}
use Rattle.relay_guard.specs.declared.guard.Role.TheVariants.{Owner, Poster}
use Rattle.relay_guard.proofs.Rising.{served}
use Rattle.relay_core.specs.Boxes.{Box, answer_by, answer_in, answer_of, by_verdict, judged_in, keys_by, keys_of, role_of, spec_of}
use Rattle.relay_core.specs.declared.spec.BoxKeys.{BoxKeys}
use Rattle.relay_core.specs.declared.spec.BoxSpec.{BoxSpec}
use Rattle.relay_core.proofs.Names.{name_stays}
use Rattle.relay_core.proofs.Judged.{guard_stays}
use Rattle.relay_wire.specs.Requests.{Asked, plain_body}

counted_keys : (guard : Guard) (role : Role) (counter : ℕ) → keys_of (with_last guard role counter) ≡ keys_of guard
counted_keys guard Owner counter = refl
counted_keys guard Poster counter = refl

judged_keys : (guard next : Guard) (asked : Asked) → judged_in guard asked ≡ Ok next → keys_of next ≡ keys_of guard
judged_keys guard next asked is =
    let role = role_of asked.ask in
    let so = served guard role asked.token (plain_body asked.name asked.ask) next is in
    ap keys_of so.next_is ∙ counted_keys guard role so.token.counter

by_judged : (box : Box) (guard : Guard) (asked : Asked) (v : Result Guard Denied) → box.guard ≡ Some guard → judged_in guard asked ≡ v
    → keys_by (by_verdict box (answer_of box asked.ask) v).next.guard ≡ keys_by (Some guard)
by_judged box guard asked (Ok next) has is = ap (λ (k : BoxKeys). Some k) (judged_keys guard next asked is)
by_judged box guard asked (Err denied) has is = ap keys_by has

keys_stay_by : (box : Box) (asked : Asked) (guard : Option Guard) → box.guard ≡ guard
    → keys_by (answer_by box asked guard).next.guard ≡ keys_by guard
keys_stay_by box asked None has = ap keys_by (guard_stays box asked.ask ∙ has)
keys_stay_by box asked (Some guard) has = by_judged box guard asked (judged_in guard asked) has refl

keys_stay : (box : Box) (asked : Asked) → keys_by (answer_in box asked).next.guard ≡ keys_by box.guard
unfolding answer_in
keys_stay box asked = keys_stay_by box asked box.guard refl

pub spec_stays : (box : Box) (asked : Asked) → spec_of (answer_in box asked).next ≡ spec_of box
spec_stays box asked =
    ap₂ (λ (name : List ℕ) (keys : Option BoxKeys). let spec : BoxSpec = record { name = name; keys = keys } in spec)
    (name_stays box asked) (keys_stay box asked)
