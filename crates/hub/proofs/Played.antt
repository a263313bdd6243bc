-- A hub's fan, played: its lines, and how they are written.
use Rattle.std.proofs.Common.{Bool, Err, List, Ok, ap, subst, ℕ, ◌∙◌, ◌≡◌, ◌≤◌}
use Rattle.book_model.specs.Rows.{Rows}
use Rattle.client.specs.Beginning.{HasPair}
use Rattle.dr_disk.specs.declared.call.Mode.{Mode}
use Rattle.dr_model.specs.Theorems.Acting.{ActsFollow}
use Rattle.dr_model.specs.Theorems.Spoken.{SaidIsOpened}
use Rattle.dr_ports.specs.Ports.{Rose, appended}
use Rattle.dr_ports.specs.States.{SinkState}
use Rattle.dr_ports.specs.Writing.{TookBeginning}
use Rattle.kem_laws.specs.Mechanism.{Mechanism}
use Rattle.session_model.specs.Clients.{Client}
use Rattle.hub.specs.Lines.{fan_lines}
use Rattle.hub.specs.Peers.{hub_begin}
use Rattle.hub.specs.Leaving.{IsLeftOf, PlaysOver, hub_lines, is_acknowledged}
use Rattle.hub.proofs.Told.{told}
use Rattle.hub.specs.declared.playing.FanPlayError.TheVariants.{Write}

module _ (k : Mechanism) (peers after : ℕ) (mode : Mode) (acknowledged : Bool) (rows : Rows Client)
    (left : IsLeftOf k peers after mode acknowledged rows) (items bytes : List ℕ)
    (are : items ≡ fan_lines k peers acknowledged rows) (is : bytes ≡ items) (old new : SinkState)
    (follow : ActsFollow k) (opens : SaidIsOpened k) (first : 1 ≤ peers) (few : peers ≤ 8)
    (pairs : (number : ℕ) → 1 ≤ number → number ≤ peers → HasPair k (hub_begin number)) where
  lines_are : bytes ≡ hub_lines k peers after mode left.hub
  lines_are =
      is ∙ are ∙ ap (λ a. fan_lines k peers a rows) left.acknowledged_is
      ∙ ap (λ (r : Rows Client). fan_lines k peers (is_acknowledged k peers after left.hub) r) left.rows_are
      ∙ told k peers few first follow opens pairs left.hub after mode (is_acknowledged k peers after left.hub)

  pub plays_whole : new.taken ≡ appended old.taken bytes → new.faults ≡ old.faults → PlaysOver k peers after mode old new (Ok tt)
  plays_whole whole passed =
      (left.hub, pairs, whole ∙ ap (λ (b : List ℕ). appended old.taken b) lines_are, passed)

  pub plays_part : TookBeginning old.taken new.taken bytes → Rose old.faults new.faults
      → PlaysOver k peers after mode old new (Err Write)
  plays_part part failed =
      (left.hub, subst (λ (b : List ℕ). TookBeginning old.taken new.taken b) lines_are part, failed)
