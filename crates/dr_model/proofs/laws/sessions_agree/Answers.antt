use Rattle.std.proofs.Common.{◌+◌, [], ◌∷◌, ◌++◌, false, true, sym, ap, arith}
use Rattle.session_model.specs.Clients.{Client}
use Rattle.dr_model.proofs.Growth.PeerStates.{state_stays, state_stays_turned}
use Rattle.dr_model.proofs.Growth.SaidStays.{post_keeps}
use Rattle.dr_model.proofs.Growth.TurnGrowth.{turns_same, turns_stay}
use Rattle.dr_model.proofs.Saying.SayingChecks.{session_check}
use Rattle.dr_model.proofs.Saying.SayingText.{draft_send-own}
use Rattle.dr_model.proofs.Saying.SayingTurn.{draft_send-none, draft_send-turn}
use Rattle.dr_model.proofs.Taking.PacketAnswers.{received}
use Rattle.dr_model.proofs.Taking.PacketFields.{is_place, read-post}
use Rattle.dr_model.proofs.Worlds.OpeningWorlds.{opening_client}
use Rattle.dr_model.proofs.Worlds.WorldViews.{at_last, own_in}
use Rattle.dr_model.proofs.laws.sessions_agree.Goals as goal

pub returns : goal.returns
returns args k law = record {
  opening = λ key formats side. ap (λ (client : Client). client.state) (sym (opening_client k key formats side));
  reads = λ c p lawful said. read-post k c p law lawful (is_place k c p lawful said);
  receives = λ c side v p at said. received k c side v p law at.conversation at.view said;
  checks = λ c v content. session_check k c v content;
  sends = λ c side v content seed at own.
      draft_send-own k c v content seed (own_in k c side v v.epoch true at.view own) at.view.reached;
  turns = λ c side v content seed at peers pairs.
      draft_send-turn k c v content seed pairs (own_in k c side v v.epoch false at.view peers) (at_last k c side v at.view peers)
      at.conversation.begun;
  no_pair = λ c side v content seed at peers none.
      draft_send-none k c v content seed none (own_in k c side v v.epoch false at.view peers);
  stays = λ c side v u text at other own. state_stays k c side v u text at.view other.view own;
  stays_turned = λ c side v u text seed at other peers. state_stays_turned k c side v u text seed at.view other.view peers;
  packets_stay = λ c side v text p at said.
      post_keeps k c c.seeds v.epoch text p (turns_same k c.key c.seeds) at.view.near_end at.conversation.begun said;
  packets_stay_turned = λ c side v text seed p at said.
      post_keeps k c (c.seeds ++ seed ∷ []) (v.epoch + 1) text p (turns_stay k c.key c.seeds seed)
      (omega (arith, at.view.near_end)) at.conversation.begun said;
}
