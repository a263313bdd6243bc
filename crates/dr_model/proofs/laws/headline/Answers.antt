use Rattle.dr_model.proofs.Growth.SaidStays.{packets_stay, texts_stay}
use Rattle.dr_model.proofs.Taking.NetworkPosts.{held_nth-posts}
use Rattle.dr_model.proofs.Taking.PacketsApart.{by_bytes, by_number, real}
use Rattle.dr_model.proofs.Worlds.LastingPackets.{packets_last}
use Rattle.dr_model.proofs.Worlds.PaddedRightly.{padded_rightly}
use Rattle.dr_model.proofs.Worlds.Runs.{first_arrival, too_far, inbox_full, stands, opened, stays, once, repeats, refusal_changes_nothing}
use Rattle.dr_model.proofs.laws.headline.Goals as goal

pub returns : goal.returns
returns c = λ k. record {
  first_arrival = first_arrival k;
  too_far = too_far k;
  inbox_full = inbox_full k;
  stands = stands k;
  opened = opened k;
  stays = stays k;
  once = once k;
  padded_rightly = padded_rightly k;
  repeats = repeats k;
  refusal_changes_nothing = refusal_changes_nothing k;
  by_bytes = by_bytes k;
  real = real k;
  counted = λ w side nth. held_nth-posts k w.conversation side nth;
  by_number = by_number k;
  packets_stay = packets_stay k;
  packets_last = packets_last k;
  texts_stay = texts_stay k;
}
