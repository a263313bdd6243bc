-- A text whose waiting a take ends was opened by the other side.
use Rattle.std.proofs.Common.{List, Ok, Option, Result, Some, false, sym, ap, true, ℕ, ◌∙◌, ◌≡◌}
use Rattle.dr_base.specs.declared.position.Side.{Side}
use Rattle.dr_disk.specs.State.{DiskState}
use Rattle.dr_model.specs.Machines.Acts.{taking}
use Rattle.dr_model.specs.Machines.Events.{of_bytes}
use Rattle.dr_model.specs.Machines.Worlds.{World}
use Rattle.dr_model.proofs.Receipts.Arrived.{taking_arrives}
use Rattle.kem_laws.specs.Mechanism.{Mechanism}
use Rattle.session_model.specs.Clients.{Client}
use Rattle.client.specs.Keepings.{Keeping}
use Rattle.client.specs.InWorlds.{IsKeeperIn, KeeperActsIn}
use Rattle.client.specs.Outcomes.{Outcome, acknowledged, faulted, is_closed, refused, undrawn}
use Rattle.client.specs.Receipts.{HaveArrived, waits}

-- none waits before, and not after, where both are the same
same_waits : (w : World) (side : Side) (before after : Client) → after ≡ before → HaveArrived w side before after
same_waits w side before after same p waited over =
    absurd (let e : true ≡ false = sym waited ∙ ap (λ c. waits c p) (sym same) ∙ over in cc)

-- what is read is one client
pub one_client : (read : Option (Result Client ℕ)) (x y : Client) → read ≡ Some (Ok x) → read ≡ Some (Ok y) → x ≡ y
one_client read x y is also = let same : Some (Ok x) ≡ Some (Ok y) = sym is ∙ also in cc

pub take_arrives : {S : Type 0} (keeping : Keeping S) (k : Mechanism) (w : World) (side : Side)
    (packet : List ℕ) (old new : S) (start now : DiskState)
    (outcome : Outcome) → IsKeeperIn keeping k w side old → KeeperActsIn keeping k w side (taking packet) old new start now outcome
    → HaveArrived w side (keeping.kept old) (keeping.kept new)
take_arrives keeping k w side packet old new start now (is_closed call) is acts =
    same_waits w side (keeping.kept old) (keeping.kept new) (ap keeping.kept acts)
take_arrives keeping k w side packet old new start now (refused refusal) is acts =
    same_waits w side (keeping.kept old) (keeping.kept new) (ap keeping.kept acts.1)
take_arrives keeping k w side packet old new start now undrawn is acts = absurd acts
take_arrives keeping k w side packet old new start now (acknowledged answer) is acts = λ p waited over.
    taking_arrives k w side p is.lawful (of_bytes packet) (record {
      waited = ap (λ c. waits c p) (sym is.keeps) ∙ waited;
      over = ap (λ c. waits c p) (sym acts.1.keeps) ∙ over;
    })
take_arrives keeping k w side packet old new start now (faulted call) is acts = same_waits w side (keeping.kept old) (keeping.kept new) acts.0
