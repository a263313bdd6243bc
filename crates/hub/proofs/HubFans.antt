-- A hub's fan: all of its sessions say the text.
use Rattle.std.proofs.Common.{Some, ap, arith, length, subst, suc, sym, ℕ, ◌<◌, ◌∙◌, ◌≡◌, ◌≤◌}
use Rattle.std.specs.Prelude.{is_some}
use Rattle.book.proofs.Fanning.Asked.{all_say}
use Rattle.book.proofs.Worlds.Drawn.{IsWhole, asked_whole}
use Rattle.book.specs.Fans.{AllSay, AreAsked, AreListed, Fan, fan_row, fan_seed}
use Rattle.book.specs.RowKeepings.{row_at}
use Rattle.client.specs.Beginning.{begun_client}
use Rattle.dr_ports.specs.Memory.{turning_at}
use Rattle.kem_laws.specs.Mechanism.{Mechanism}
use Rattle.session_model.specs.Clients.{Client}
use Rattle.hub.specs.Peers.{first_draws, hello, hub_begin, hub_rows, peer_name, places}
use Rattle.hub.specs.Leaving.{HubFan, fan_in}
use Rattle.hub.proofs.Ended.{places_fair}
use Rattle.hub.proofs.Names.{row_at_place}
use Rattle.hub.proofs.Placing.{places_at, places_long}

module _ (k : Mechanism) (peers : ℕ) (hub : HubFan k peers) where
  abbrev fan : Fan
  fan = fan_in k peers hub

  abbrev kept : ℕ → Client
  kept number = begun_client k (hub_begin number)

  pub asked : AreAsked turning_at k hello (hub_rows k peers) (places peers) (first_draws peers) (length (places peers)) hub.left
      hub.seeds
  asked = subst (λ n. AreAsked turning_at k hello (hub_rows k peers) (places peers) (first_draws peers) n hub.left hub.seeds)
      (sym (places_long peers)) hub.asked

  pub row_is : (j : ℕ) → j < peers → fan_row fan j ≡ Some (record { name = peer_name (suc j); kept = kept (suc j) })
  row_is j lt = ap (λ q. row_at (hub_rows k peers) q) (places_at peers j lt) ∙ row_at_place kept peers j lt

  listed : AreListed (hub_rows k peers) (places peers)
  listed j lt = ap is_some (row_is j (omega (arith, lt, places_long peers)))

  pub all : peers ≤ 8 → AllSay k fan
  all few = all_say turning_at k hello (hub_rows k peers) (places peers) (first_draws peers) hub.left hub.seeds asked
      (places_fair peers few) listed

  pub whole : (n : ℕ) → n < length fan.list → IsWhole (fan_seed fan n)
  whole = asked_whole turning_at k hello (hub_rows k peers) (places peers) (first_draws peers) (length (places peers)) hub.left
      hub.seeds asked
