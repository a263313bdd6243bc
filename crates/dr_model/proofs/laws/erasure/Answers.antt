use Rattle.dr_model.proofs.Secrets.HeldValues.{held_values}
use Rattle.dr_model.proofs.Secrets.LaterSecrets.{opened_erased, said_erased}
use Rattle.dr_model.proofs.Secrets.ScheduledSecrets.{scheduled}
use Rattle.dr_model.proofs.laws.erasure.Goals as goal

pub returns : goal.returns
returns c = λ k. record {
  values = held_values k;
  steps = scheduled k;
  opened = opened_erased k;
  said = said_erased k;
}
