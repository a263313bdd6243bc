-- The receipt that a side sends in a lawful view: it is lawful, and true.
use Rattle.std.proofs.Common.{◌≡◌, ℕ, ◌+◌, ◌-◌, ◌≤◌, not, true, nat_le, List, length, take, Option, Some, None, refl, sym, ◌∙◌, ap, subst, arith}
use Rattle.std.specs.Prelude.{All, option_map, slice_index_or}
use Rattle.std.proofs.lemmas.Bool.{cond_both, not-true}
use Rattle.std.proofs.lemmas.Bool.Decides.{nat_tests}
use Rattle.bodies.specs.Lawful.{AreListed, FitsFields, IsReceiptOrNone}
use Rattle.bodies.specs.Receipts.{Receipt, is_covered, receipt_up_to}
use Rattle.dr_base.specs.declared.limits.TheConstants.{RECEIPT_LIMIT}
use Rattle.bodies.proofs.Covered.{covered-opened, receipt-lawful}
use Rattle.dr_base.specs.Position.{is_own, peer_of, position_at}
use Rattle.dr_base.specs.declared.position.Position.{Position}
use Rattle.dr_base.specs.declared.position.Side.{Side}
use Rattle.dr_base.proofs.Parity.{own_peer}
use Rattle.kem_laws.specs.Mechanism.{Mechanism}
use Rattle.session_model.specs.States.{receiving_epoch}
use Rattle.dr_model.specs.Conversations.Conversation.{Conversation, count_of, is_said}
use Rattle.dr_model.specs.Conversations.Views.{View, has_opened, missing_of, reach_in}
use Rattle.dr_model.specs.Conversations.Receipts.{IsTrue, IsSaidSoFar, view_receipt}
use Rattle.dr_model.specs.Theorems.Sessions.{StandsIn}
use Rattle.dr_model.proofs.Growth.Growing.{said_from, said_to}
use Rattle.dr_model.proofs.Growth.GrowingViews.{missing_below-below}
use Rattle.dr_model.proofs.Missing.MissedPositions.{missing_below-ascending, missing_below-missed, reach_in-most}
use Rattle.dr_model.proofs.Receipts.Covered.{missed_up, opened_unless, up_to_read}
use Rattle.dr_model.proofs.Taking.LatestEpoch.{IsLatest, latest_is}

-- the bound of a receipt is the reach, or a missing position
bound_is : (missing : List Position) (reached : Position) (P : Position → Type 0) → P reached
    → All P missing → P (receipt_up_to missing reached).bound
unfolding receipt_up_to
bound_is missing reached P here all =
    let last = slice_index_or missing (RECEIPT_LIMIT - 1) reached in
    cond_both (nat_le (length missing) RECEIPT_LIMIT) (record { bound = reached; listed = missing })
    (record { bound = last; listed = take RECEIPT_LIMIT missing }) (λ (r : Receipt). P r.bound)
    (λ _. here) (λ many. all (RECEIPT_LIMIT - 1) reached (grind (arith, nat_tests)))

module _ (k : Mechanism) (c : Conversation) (side : Side) (v : View) (at : StandsIn k c side v) where
  -- how far the side has read an epoch
  abbrev read_to : ℕ → Position
  read_to t = position_at t (reach_in c v t)

  -- what holds of no receipt, and of the one up to the latest peer's epoch, holds of the receipt
  by_latest : (P : Option Receipt → Type 0) → P None
      → ((t : ℕ) → IsLatest v.side v.epoch t → P (Some (receipt_up_to (missing_of c v) (read_to t))))
      → P (view_receipt c v)
  by_latest P none some = chosen (receiving_epoch v.side v.epoch) refl
    where
      chosen : (o : Option ℕ) → receiving_epoch v.side v.epoch ≡ o
          → P (option_map (receipt_up_to (missing_of c v)) (option_map read_to o))
      chosen None is = none
      chosen (Some t) is = some t (latest_is v.side v.epoch t is)

  -- up to there all was said
  within : (p : Position) → p.epoch ≤ v.epoch → p.index ≤ reach_in c v p.epoch → IsSaidSoFar c p
  within p reached most =
      let near = at.view.reached in
      record { begun = omega arith; said = omega (arith, reach_in-most c v p.epoch at.view.arrivals) }

  -- ---- it is lawful

  fits : (p : Position) → p.epoch ≤ v.epoch → p.index ≤ reach_in c v p.epoch → FitsFields p
  fits p reached most =
      let near = at.view.reached in
      let turns = at.conversation.few_turns in
      record {
        epoch = omega arith;
        index = omega (arith, (within p reached most).said, at.conversation.few p.epoch);
      }

  are_listed : (t : ℕ) → IsLatest v.side v.epoch t
      → AreListed (peer_of v.side) (read_to t) (missing_of c v)
  are_listed t latest = record {
    own = own_peer v.side t ∙ ap not latest.peers;
    fits = fits (read_to t) latest.reached (omega arith);
    each = λ i d inside.
        let p = slice_index_or (missing_of c v) i d in
        let missed = missing_below-missed c v (v.epoch + 1) i d inside in
        let below = missing_below-below c v (v.epoch + 1) i d inside in
        let reached : p.epoch ≤ v.epoch = omega arith in
        record {
          own = own_peer v.side p.epoch ∙ ap not missed.peers;
          from_one = missed.one;
          up_to = missed_up c v t latest p missed reached;
          fits = fits p reached missed.most;
        };
    ascending = missing_below-ascending c v (v.epoch + 1);
  }

  pub lawful_sent : IsReceiptOrNone (peer_of side) (view_receipt c v)
  lawful_sent =
      subst (λ (s : Side). IsReceiptOrNone (peer_of s) (view_receipt c v)) at.view.side_is
      (by_latest (IsReceiptOrNone (peer_of v.side)) tt
      (λ t latest. receipt-lawful (peer_of v.side) (missing_of c v) (read_to t) (are_listed t latest)))

  -- ---- it is true

  missing_within : All (IsSaidSoFar c) (missing_of c v)
  missing_within i d inside =
      let below = missing_below-below c v (v.epoch + 1) i d inside in
      let missed = missing_below-missed c v (v.epoch + 1) i d inside in
      within (slice_index_or (missing_of c v) i d) (omega arith) missed.most

  covered_opened : (t : ℕ) → IsLatest v.side v.epoch t → (p : Position) → is_said c p ≡ true
      → is_covered (Some (receipt_up_to (missing_of c v) (read_to t))) p ≡ true → has_opened v p ≡ true
  covered_opened t latest p said covered =
      let listed = are_listed t latest in
      let is = covered-opened (peer_of v.side) (missing_of c v) (read_to t) p listed covered in
      let peers = not-true (is_own v.side p.epoch) (sym (own_peer v.side p.epoch) ∙ is.own) in
      let most = said_to p.index (count_of c p.epoch) said in
      let low = is.up_to.0 in
      let reached = latest.reached in
      opened_unless k c v p (record {
        peers = peers;
        reached = omega arith;
        one = said_from p.index (count_of c p.epoch) said;
        most = up_to_read c v t latest p peers is.up_to most;
      }) is.opened

  pub true_sent : IsTrue c v (view_receipt c v)
  true_sent =
      by_latest (IsTrue c v) (record { bounded = tt; opened = λ p said covered. cc })
      (λ t latest. record {
        bounded = bound_is (missing_of c v) (read_to t) (IsSaidSoFar c)
            (within (read_to t) latest.reached (omega arith)) missing_within;
        opened = covered_opened t latest;
      })
