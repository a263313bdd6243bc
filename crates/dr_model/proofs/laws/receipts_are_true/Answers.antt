use Rattle.std.proofs.Common.{arith}
use Rattle.dr_model.proofs.Receipts.Arrived.{cut_arrives, taking_arrives}
use Rattle.dr_model.proofs.Receipts.Sent.{lawful_sent, true_sent}
use Rattle.dr_model.proofs.Receipts.Stays.{true_lasting}
use Rattle.dr_model.proofs.Receipts.Truth.{true_grown, true_opening, true_turning}
use Rattle.dr_model.specs.Machines.Worlds.{opening_world, run_of}
use Rattle.dr_model.proofs.Worlds.LawfulWorlds.{lawful_run}
use Rattle.dr_model.proofs.Worlds.OpeningWorlds.{lawful_opening}
use Rattle.dr_model.proofs.laws.receipts_are_true.Goals as goal

pub returns : goal.returns
returns args k = record {
  sent = true_sent k;
  lawful = lawful_sent k;
  opening = true_opening;
  saying = λ c v receipt epoch body near is. true_grown c v receipt c.seeds epoch body (omega arith) near is;
  turning = true_turning;
  lasting = true_lasting k;
  arrived = λ w side source p lawful ends. taking_arrives k w side p lawful source ends;
  arrived_in_runs = λ key formats hs side source p pairs whole ends.
      taking_arrives k (run_of k (opening_world key formats) hs) side p
      (lawful_run k (opening_world key formats) hs (lawful_opening k key formats pairs) whole) source ends;
  arrived_cut = λ w side took source p lawful ends. cut_arrives k w side p lawful took source ends;
}
