use Rattle.std.proofs.Common.{ap}
use Rattle.dr_model.specs.Machines.Sides.{Sides}
use Rattle.dr_model.specs.Machines.Steps.{Step}
use Rattle.dr_model.proofs.Worlds.Following.{step_follows}
use Rattle.dr_model.proofs.Worlds.LawfulWorlds.{lawful_next, lawful_run}
use Rattle.dr_model.proofs.Worlds.OpeningWorlds.{lawful_opening}
use Rattle.dr_model.proofs.Worlds.StateLawful.{lawful_state}
use Rattle.dr_model.proofs.laws.both_sides_follow.Goals as goal

pub returns : goal.returns
returns c k law = record {
  lawful_opening = lawful_opening k;
  lawful_next = lawful_next k;
  lawful_run = lawful_run k;
  lawful_state = λ w side lawful. lawful_state k w side law lawful;
  answer = λ w h lawful fair. ap (λ (s : Step Sides). s.answer) (step_follows k w h law lawful fair);
  shown = λ w h lawful fair. ap (λ (s : Step Sides). s.shown) (step_follows k w h law lawful fair);
  next = λ w h lawful fair. ap (λ (s : Step Sides). s.next) (step_follows k w h law lawful fair);
}
