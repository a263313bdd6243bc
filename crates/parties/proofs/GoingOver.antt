-- What waits at one side goes over, by two syncs.
use Rattle.std.proofs.Common.{List, subst, sym, ◌++◌}
use Rattle.dr_base.specs.Position.{peer_of}
use Rattle.kem_laws.specs.Mechanism.{Mechanism}
use Rattle.relay_core.specs.Boxes.{Box}
use Rattle.client.specs.Syncing.Arrivals.{HasOpened}
use Rattle.client.specs.Syncing.GoingOver.{GoesOver, IsCourseServed, positions_of}
use Rattle.parties.specs.GoingOver.{SyncsGoOver}

pub gone_over : (k : Mechanism) → GoesOver k → SyncsGoOver k
gone_over k law = λ prefix again side sender sent receiver received boxes between after first second w v own peers ps sends receives same has guarded counters room fits holds expected.
    subst (HasOpened k v (peer_of side) (ps ++ positions_of sender)) (sym second.keeps)
    (law prefix again w v side sender receiver boxes own peers first.replies second.replies ps sends receives same
    first.transfers second.opens has guarded counters room fits first.served
    (subst (λ (bs : List Box). IsCourseServed k again receiver bs second.replies) first.boxes_are second.served) holds expected)
