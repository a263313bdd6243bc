-- A true receipt stays true, whatever its sender opens, and whatever either side says.
use Rattle.std.proofs.Common.{◌+◌, List, [], ◌∷◌, ◌++◌, Option, arith}
use Rattle.std.specs.Prelude.{All}
use Rattle.std.proofs.lemmas.List.{length_push}
use Rattle.std.proofs.lemmas.List.Elements.{All-head, All-tail}
use Rattle.bodies.specs.Receipts.{Receipt}
use Rattle.dr_base.specs.declared.position.Side.{Side}
use Rattle.kem_laws.specs.Mechanism.{Mechanism}
use Rattle.dr_model.specs.Machines.Events.{Event}
use Rattle.dr_model.specs.Machines.Worlds.{World, run_of, step_of, view_of}
use Rattle.dr_model.specs.Theorems.Fairness.{IsSeedWhole}
use Rattle.dr_model.specs.Theorems.LawfulWorlds.{IsLawfulWorld}
use Rattle.dr_model.specs.Conversations.Receipts.{IsTrue}
use Rattle.dr_model.proofs.Growth.SaidStays.{step_keeps}
use Rattle.dr_model.proofs.Worlds.LawfulWorlds.{lawful_next}
use Rattle.dr_model.proofs.Worlds.Runs.{stays}
use Rattle.dr_model.proofs.Worlds.WorldViews.{view_lawful}
use Rattle.dr_model.proofs.Receipts.Truth.{true_grown, true_later}

-- ---- anything happens

true_next : (k : Mechanism) (w : World) (h : Event) (side : Side) (receipt : Option Receipt)
    → IsLawfulWorld k w → IsTrue w.conversation (view_of w side) receipt
    → let next = (step_of k w h).next in IsTrue next.conversation (view_of next side) receipt
true_next k w h side receipt lawful is =
    let c = w.conversation in
    let v = view_of w side in
    let next = (step_of k w h).next in
    true_later next.conversation v (view_of next side) receipt (stays k w (h ∷ []) side)
    (step_keeps k w h (λ d. IsTrue d v receipt) is
    (λ sayer body. true_grown c v receipt c.seeds (view_of w sayer).epoch body (omega arith)
    (view_lawful k w sayer lawful).near_end is)
    (λ sayer seed body. true_grown c v receipt (c.seeds ++ seed ∷ []) ((view_of w sayer).epoch + 1) body
    (omega (arith, length_push c.seeds seed))
    (omega (arith, (view_lawful k w sayer lawful).near_end)) is))

pub true_lasting : (k : Mechanism) (w : World) (hs : List Event) (side : Side) (receipt : Option Receipt)
    → IsLawfulWorld k w → All IsSeedWhole hs → IsTrue w.conversation (view_of w side) receipt
    → let last = run_of k w hs in IsTrue last.conversation (view_of last side) receipt
true_lasting k w [] side receipt lawful whole is = is
true_lasting k w (h ∷ hs) side receipt lawful whole is =
    true_lasting k (step_of k w h).next hs side receipt
    (lawful_next k w h lawful (All-head IsSeedWhole h hs whole)) (All-tail IsSeedWhole h hs whole)
    (true_next k w h side receipt lawful is)
