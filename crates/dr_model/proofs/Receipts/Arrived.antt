-- A text whose waiting a take ends was opened by the other side.
use Rattle.std.proofs.Common.{◌≡◌, ℕ, ◌&&◌, Bool, true, false, not, nat_le, nat_lt, List, length, Option, Some, None, Ok, Err, refl, sym, ◌∙◌, ap, if◌then◌else◌}
use Rattle.std.specs.List.{list_any}
use Rattle.std.specs.Prelude.{IfSome}
use Rattle.std.proofs.lemmas.Map.Views.{any-filter_same}
use Rattle.bodies.specs.Receipts.{Receipt, is_covered}
use Rattle.dr_base.specs.Position.{is_at, is_own, peer_of}
use Rattle.dr_base.specs.declared.limits.TheConstants.{INBOX_LIMIT, KEPT_LIMIT}
use Rattle.dr_base.specs.declared.position.Position.{Position}
use Rattle.dr_base.specs.declared.position.Side.{Side}
use Rattle.dr_base.specs.declared.position.Side.TheVariants.{First, Second}
use Rattle.dr_base.proofs.Parity.{own_peer}
use Rattle.dr_base.proofs.Positions.{is_at-same}
use Rattle.kem_laws.specs.Mechanism.{Mechanism}
use Rattle.session_model.specs.Awaiting.{still_waiting}
use Rattle.session_model.specs.declared.answer.Answer.TheVariants.{Opened}
use Rattle.session_model.specs.declared.answer.Refusal.{Refusal}
use Rattle.session_model.specs.declared.answer.Refusal.TheVariants.{InboxFull, OwnPacket, SkipLimit, Spent}
use Rattle.dr_model.specs.Conversations.Conversation.{is_said, receipt_at}
use Rattle.dr_model.specs.Conversations.Views.{View, after_opening, has_opened, missing_of}
use Rattle.dr_model.specs.Machines.Events.{PacketSource, cuts, does, takes}
use Rattle.dr_model.specs.Machines.Steps.{Step, settled, step}
use Rattle.dr_model.specs.Machines.Worlds.{World, inbox_in, made_at, step_of, taking_at, taking_given, taking_in, taking_made, view_of, with_view}
use Rattle.dr_model.specs.Theorems.LawfulWorlds.{IsLawfulWorld}
use Rattle.dr_model.specs.Theorems.Receipts.{EndsWaiting}
use Rattle.dr_model.proofs.Growth.Apart.{any_all}
use Rattle.dr_model.proofs.Taking.MadePositions.{made_at-is}
use Rattle.dr_model.proofs.Worlds.CallKinds.{of_source}
use Rattle.dr_model.proofs.Worlds.CutSteps.{cut_off}
use Rattle.dr_model.proofs.Worlds.WorldViews.{view_lawful}

-- ---- what stands in a list

-- what doesn't wait any more is covered
over_by : (covered waited over : Bool) → over ≡ (not covered && waited) → waited ≡ true → over ≡ false → covered ≡ true
over_by true waited over is w o = refl
over_by false waited over is w o = cc

covered_over : (receipt : Option Receipt) (p : Position) (awaiting : List Position) → list_any (is_at p) awaiting ≡ true
    → list_any (is_at p) (still_waiting receipt awaiting) ≡ false → is_covered receipt p ≡ true
unfolding still_waiting
covered_over receipt p awaiting waited over =
    over_by (is_covered receipt p) (list_any (is_at p) awaiting) (list_any (is_at p) (still_waiting receipt awaiting))
    (any-filter_same (is_at p) (λ q. not (is_covered receipt q)) (not (is_covered receipt p))
    (λ q here. ap (λ (x : Position). not (is_covered receipt x)) (is_at-same p q here)) awaiting)
    waited over

-- ---- a packet is taken

module _ (k : Mechanism) (w : World) (side : Side) (p : Position) (lawful : IsLawfulWorld k w) where
  -- where a step ends the waiting of the text, the other side has opened it
  abbrev HasArrived : Step World → Type 0
  HasArrived made = EndsWaiting w made.next side p → has_opened (view_of w (peer_of side)) p ≡ true

  -- a step that leaves the world ends none
  none_ends : EndsWaiting w w side p → has_opened (view_of w (peer_of side)) p ≡ true
  none_ends ends = absurd (let e : true ≡ false = sym ends.waited ∙ ends.over in cc)

  -- the view that it leads to
  view_is : (s : Side) (v : View) → view_of (with_view w s v) s ≡ v
  view_is First v = refl
  view_is Second v = refl

  opened_arrives : (q : Position) → is_said w.conversation q ≡ true → is_own side q.epoch ≡ false
      → HasArrived (step (Opened q) (with_view w side (after_opening w.conversation (view_of w side) q)))
  opened_arrives q said peers ends =
      let c = w.conversation in
      let v = view_of w side in
      let over : list_any (is_at p) (still_waiting (receipt_at c q) v.awaiting) ≡ false =
      sym (ap (λ (u : View). list_any (is_at p) u.awaiting) (view_is side (after_opening c v q))) ∙ ends.over in
      let own : is_own (peer_of side) q.epoch ≡ true = own_peer side q.epoch ∙ ap not peers in
      ((view_lawful k w (peer_of side) lawful).receipts q said own).opened p
      (any_all (λ x. is_said c x ≡ true) p v.awaiting (view_lawful k w side lawful).awaiting_said ends.waited)
      (covered_over (receipt_at c q) p v.awaiting ends.waited over)

  taken_arrives : (own old far full : Bool) (a b c d : Refusal) (made : Step World) → (own ≡ false → HasArrived made)
      → HasArrived (settled w (if own then Err a else (if old then Err b else (if far then Err c else (if full then Err d else Ok made)))))
  taken_arrives true old far full a b c d made h = none_ends
  taken_arrives false true far full a b c d made h = none_ends
  taken_arrives false false true full a b c d made h = none_ends
  taken_arrives false false false true a b c d made h = none_ends
  taken_arrives false false false false a b c d made h = h refl

  said_arrives : (q : Position) → is_said w.conversation q ≡ true → HasArrived (settled w (taking_in w side q))
  said_arrives q said =
      let opened = after_opening w.conversation (view_of w side) q in
      let missing = length (missing_of w.conversation opened) in
      taken_arrives (is_own side q.epoch) (has_opened (view_of w side) q) (nat_lt KEPT_LIMIT missing)
      (nat_le INBOX_LIMIT (length (inbox_in w side))) (OwnPacket q.epoch) (Spent q) (SkipLimit missing) InboxFull
      (step (Opened q) (with_view w side opened)) (opened_arrives q said)

  at_arrives : (at : Option Position) → IfSome at (λ q. is_said w.conversation q ≡ true) → HasArrived (taking_at w side at)
  at_arrives None said = none_ends
  at_arrives (Some q) said = said_arrives q said

  made_arrives : (bytes : List ℕ) (made : Option Position) → made_at k w bytes ≡ made
      → HasArrived (settled w (taking_made k w side bytes made))
  made_arrives bytes None is = none_ends
  made_arrives bytes (Some q) is = said_arrives q (made_at-is k w bytes q is).said

  given_arrives : (given : Option (List ℕ)) → HasArrived (taking_given k w side given)
  given_arrives None = none_ends
  given_arrives (Some bytes) = made_arrives bytes (made_at k w bytes) refl

  pub taking_arrives : (source : PacketSource) → HasArrived (step_of k w (does side (takes source)))
  taking_arrives source = of_source k w side HasArrived (record { packet = at_arrives; bytes = given_arrives }) source

  -- the draws matter to no view
  drawn_view : (draws : _) → view_of (record w { draws = draws }) side ≡ view_of w side
  drawn_view draws = by side
    where
      by : (s : Side) → view_of (record w { draws = draws }) s ≡ view_of w s
      by First = refl
      by Second = refl

  pub cut_arrives : (took : Bool) (source : PacketSource) → HasArrived (step_of k w (cuts took (does side (takes source))))
  cut_arrives took source =
      let made = step_of k w (does side (takes source)) in
      cut_off HasArrived (record w { draws = made.next.draws }) took made (taking_arrives source)
      (λ ends. none_ends (record {
        waited = ends.waited;
        over = ap (λ (u : View). list_any (is_at p) u.awaiting) (sym (drawn_view made.next.draws)) ∙ ends.over;
      }))
      (taking_arrives source)
