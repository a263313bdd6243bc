-- The lines of a hub's fan, outright: what the rows that are left come to.
use Rattle.std.proofs.Common.{Bool, List, None, ap, ap₂, arith, false, refl, subst, suc, true, zero, ℕ, ◌++◌, ◌<◌, ◌∙◌, ◌≡◌, ◌≤◌}
use Rattle.std.specs.Prelude.{if◌then◌else◌, is_some}
use Rattle.book.proofs.Places.{under_at}
use Rattle.book.specs.Fans.{fanned_rows}
use Rattle.book_model.specs.Rows.{Row, Rows, under}
use Rattle.client.specs.Beginning.{HasPair, begun_client}
use Rattle.dr_disk.specs.declared.call.Mode.{Mode}
use Rattle.dr_model.specs.Theorems.Acting.{ActsFollow}
use Rattle.dr_model.specs.Theorems.Spoken.{SaidIsOpened}
use Rattle.kem_laws.specs.Mechanism.{Mechanism}
use Rattle.session_model.specs.Clients.{Client}
use Rattle.hub.specs.Lines.{fan_lines, first_line, peer_line, peer_lines, told_answer, told_lines, told_peers}
use Rattle.hub.specs.Peers.{hub_begin, hub_rows, peer_name}
use Rattle.hub.specs.Leaving.{HubFan, fan_in, has_happened, rows_left}
use Rattle.hub.specs.Receiving.{answer_of, answer_to_post, first_post}
use Rattle.hub.proofs.Names.{row_at_place}
use Rattle.hub.proofs.Opened.{has_post, peer_opens}
use Rattle.hub.proofs.Placing.{placed, places_long}

-- all sessions have said the text to their peers, or none has
pub record AreTold (k : Mechanism) (peers : ℕ) (rows : Rows Client) (said : Bool) : Type 0 where
  pub posts : is_some (first_post (under (peer_name 1) rows)) ≡ said
  pub answers : (j : ℕ) → j < peers → answer_of k (suc j) rows ≡ told_answer said

module _ (k : Mechanism) (peers : ℕ) (rows : Rows Client) (said : Bool) (are : AreTold k peers rows said) where
  peers_told : (n : ℕ) → n ≤ peers → peer_lines k rows n ≡ told_peers said n
  peers_told zero le = refl
  peers_told (suc n) le =
      ap₂ (λ (l : List ℕ) answer. l ++ peer_line (suc n) answer)
      (peers_told n (omega (arith, le))) (are.answers n (omega (arith, le)))

  lines_told : (acknowledged : Bool) → fan_lines k peers acknowledged rows ≡ told_lines peers acknowledged said
  lines_told acknowledged =
      ap (λ b. first_line acknowledged b ++ peer_lines k rows peers) are.posts
      ∙ ap (λ (l : List ℕ). first_line acknowledged said ++ l) (peers_told peers (omega arith))

-- ---- before the fan nothing is said

module _ (k : Mechanism) (peers : ℕ) (few : peers ≤ 8) (first : 1 ≤ peers) where
  none_post : (j : ℕ) → j < peers → first_post (under (peer_name (suc j)) (hub_rows k peers)) ≡ None
  none_post j lt =
      let row : Row Client = record { name = peer_name (suc j); kept = begun_client k (hub_begin (suc j)) } in
      ap first_post (under_at (peer_name (suc j)) (hub_rows k peers) j row (placed k peers j lt few)
      (row_at_place (λ number. begun_client k (hub_begin number)) peers j lt))

  told_before : AreTold k peers (hub_rows k peers) false
  told_before = record {
    posts = ap is_some (none_post 0 (omega (arith, first)));
    answers = λ j lt. ap (answer_to_post k (suc j)) (none_post j lt);
  }

  -- ---- and after it all is

  module _ (follow : ActsFollow k) (opens : SaidIsOpened k)
      (pairs : (number : ℕ) → 1 ≤ number → number ≤ peers → HasPair k (hub_begin number)) (hub : HubFan k peers) where
    told_after : AreTold k peers (fanned_rows k (fan_in k peers hub) peers) true
    told_after = subst (λ n. AreTold k peers (fanned_rows k (fan_in k peers hub) n) true) (places_long peers) (record {
      posts = ap is_some (has_post k follow opens peers few pairs hub 0 (omega (arith, first)));
      answers = peer_opens k follow opens peers few pairs hub;
    })

    picked : (b : Bool)
        → AreTold k peers (if b then fanned_rows k (fan_in k peers hub) peers else hub_rows k peers) b
    picked true = told_after
    picked false = told_before

    pub told : (after : ℕ) (mode : Mode) (acknowledged : Bool)
        → fan_lines k peers acknowledged (rows_left k peers after mode hub)
        ≡ told_lines peers acknowledged (has_happened k peers after mode hub)
    told after mode acknowledged = lines_told k peers (rows_left k peers after mode hub) (has_happened k peers after mode hub)
        (picked (has_happened k peers after mode hub)) acknowledged
