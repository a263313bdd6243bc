-- What the receipts of a sync's packets cover was opened by the other side.
use Rattle.std.proofs.Common.{Bool, Err, List, None, Ok, Option, Result, Some, ap, false, if◌then◌else◌, inl, inr, length, nat_le, nat_lt, refl, subst, sym, true, ℕ, ◌++◌, ◌∙◌, ◌≡◌}
use Rattle.std.specs.List.{list_any}
use Rattle.std.proofs.lemmas.Bool.{cases_Bool}
use Rattle.dr_base.specs.Position.{is_at, is_own, peer_of}
use Rattle.dr_base.specs.declared.limits.TheConstants.{INBOX_LIMIT, KEPT_LIMIT}
use Rattle.dr_base.specs.declared.position.Position.{Position}
use Rattle.dr_base.specs.declared.position.Side.{Side}
use Rattle.dr_base.specs.declared.position.Side.TheVariants.{First, Second}
use Rattle.dr_model.specs.Conversations.Views.{View, after_drop, after_opening, has_opened, missing_of}
use Rattle.dr_model.specs.Machines.Acts.{taking}
use Rattle.dr_model.specs.Machines.Events.{of_bytes}
use Rattle.dr_model.specs.Machines.Steps.{Step, leaving, settled, step}
use Rattle.dr_model.specs.Machines.WorldActs.{act_in}
use Rattle.dr_model.specs.Machines.Worlds.{World, inbox_in, made_at, standing_in, taking_in, taking_made, view_of, with_view}
use Rattle.dr_model.specs.Theorems.Fairness.{IsUnforged}
use Rattle.dr_model.specs.Theorems.LawfulWorlds.{IsLawfulWorld}
use Rattle.dr_model.specs.Theorems.Receipts.{EndsWaiting, waits_in}
use Rattle.dr_model.proofs.Receipts.Arrived.{taking_arrives}
use Rattle.kem_laws.specs.Mechanism.{Mechanism}
use Rattle.relay_wire.specs.Replies.{Replied}
use Rattle.session_model.specs.Leaving.{enough}
use Rattle.session_model.specs.declared.answer.Answer.{Answer}
use Rattle.session_model.specs.declared.answer.Answer.TheVariants.{Opened}
use Rattle.session_model.specs.declared.answer.Items.TheVariants.{Packets}
use Rattle.session_model.specs.declared.answer.Refusal.{Refusal}
use Rattle.session_model.specs.declared.answer.Refusal.TheVariants.{InboxFull, OwnPacket, SkipLimit, Spent}
use Rattle.session_model.specs.declared.answer.Which.TheVariants.{Oldest}
use Rattle.sync_model.specs.Courses.{begun}
use Rattle.client.specs.Syncing.InWorlds.{AreUnforged, course_in}
use Rattle.client.specs.Syncing.Parties.{oldest_sent, world_party}
use Rattle.client.proofs.Later.{act_later, fair_split, lawful_at}
use Rattle.client.proofs.Syncs.Steps.{HoldsOfSteps, course_leads}

-- ---- the other side's view

other_view : (w : World) (side : Side) (v : View) → view_of (with_view w side v) (peer_of side) ≡ view_of w (peer_of side)
other_view w First v = refl
other_view w Second v = refl

own_view : (w : World) (side : Side) (v : View) → view_of (with_view w side v) side ≡ v
own_view w First v = refl
own_view w Second v = refl

module _ (k : Mechanism) (side : Side) where
  -- a step leaves it
  abbrev LeavesOther : World → Step World → Type 0
  LeavesOther w made = view_of made.next (peer_of side) ≡ view_of w (peer_of side)

  module _ (w : World) where
    taken_leaves : (own old far full : Bool) (a b c d : Refusal) (answer : Answer) (v : View)
        → LeavesOther w (settled w (if own then Err a else (if old then Err b else (if far then Err c else (if full then Err d
        else Ok (step answer (with_view w side v)))))))
    taken_leaves true old far full a b c d answer v = refl
    taken_leaves false true far full a b c d answer v = refl
    taken_leaves false false true full a b c d answer v = refl
    taken_leaves false false false true a b c d answer v = refl
    taken_leaves false false false false a b c d answer v = other_view w side v

    said_leaves : (q : Position) → LeavesOther w (settled w (taking_in w side q))
    said_leaves q =
        let opened = after_opening w.conversation (view_of w side) q in
        let missing = length (missing_of w.conversation opened) in
        taken_leaves (is_own side q.epoch) (has_opened (view_of w side) q) (nat_lt KEPT_LIMIT missing)
        (nat_le INBOX_LIMIT (length (inbox_in w side))) (OwnPacket q.epoch) (Spent q) (SkipLimit missing) InboxFull (Opened q) opened

    made_leaves : (packet : List ℕ) (made : Option Position) → LeavesOther w (settled w (taking_made k w side packet made))
    made_leaves packet None = refl
    made_leaves packet (Some q) = said_leaves q

    take_leaves : (packet : List ℕ) → LeavesOther w (act_in k w side (taking packet))
    take_leaves packet = made_leaves packet (made_at k w packet)

    -- the view once the oldest packet has left the outbox
    abbrev sent_view : View
    sent_view = after_drop w.conversation (view_of w side) (Oldest Packets 1)

    -- it leaves, if one stands in it
    abbrev sent_by : Result Unit Refusal → Step World
    sent_by check = settled w (leaving (Oldest Packets 1) check (with_view w side sent_view))

    sent_leaves : (check : Result Unit Refusal) → LeavesOther w (sent_by check)
    sent_leaves (Ok stand) = other_view w side sent_view
    sent_leaves (Err refusal) = refl

    -- the own texts that wait stay those that they were
    sent_waits : (p : Position) (check : Result Unit Refusal) → waits_in (sent_by check).next side p ≡ waits_in w side p
    sent_waits p (Ok stand) = ap (λ (v : View). list_any (is_at p) v.awaiting) (own_view w side sent_view)
    sent_waits p (Err refusal) = refl

  -- ---- a text whose waiting ends

  module _ (p : Position) where
    -- what a side's own steps led to: a lawful world, in which the other side's view is as it was, and where a text that waited
    -- waits no more, it was opened there
    pub record Led (w v : World) : Type 0 where
      pub lawful : IsLawfulWorld k v
      pub others : view_of v (peer_of side) ≡ view_of w (peer_of side)
      pub arrived : EndsWaiting w v side p → has_opened (view_of w (peer_of side)) p ≡ true

    abbrev pub LeadsOn : World → World → Type 0
    LeadsOn w v = IsLawfulWorld k w → Led w v

    none_ended : (w v : World) → waits_in v side p ≡ waits_in w side p → EndsWaiting w v side p
        → has_opened (view_of w (peer_of side)) p ≡ true
    none_ended w v same ends = absurd (let e : true ≡ false = sym ends.waited ∙ sym same ∙ ends.over in cc)

    stays : (w : World) → LeadsOn w w
    stays w lawful = record { lawful = lawful; others = refl; arrived = none_ended w w refl }

    takes_on : (w : World) (packet : List ℕ) → IsUnforged k w side packet → LeadsOn w (act_in k w side (taking packet)).next
    takes_on w packet fair lawful = record {
      lawful = lawful_at k w (act_in k w side (taking packet)).next lawful (act_later k side w (taking packet) fair);
      others = take_leaves w packet;
      arrived = taking_arrives k w side p lawful (of_bytes packet);
    }

    sends_on : (w : World) → LeadsOn w (act_in k w side oldest_sent).next
    sends_on w lawful = record {
      lawful = lawful_at k w (act_in k w side oldest_sent).next lawful (act_later k side w oldest_sent tt);
      others = sent_leaves w (enough 1 (standing_in k w side Packets));
      arrived = none_ended w (act_in k w side oldest_sent).next (sent_waits w p (enough 1 (standing_in k w side Packets)));
    }

    both : (u v w : World) → LeadsOn u v → LeadsOn v w → LeadsOn u w
    both u v w one two lawful =
        let first = one lawful in
        let last = two first.lawful in
        record {
          lawful = last.lawful;
          others = last.others ∙ first.others;
          arrived = λ ends. elim (cases_Bool (waits_in v side p)) as (λ _. has_opened (view_of u (peer_of side)) p ≡ true) [
            | inl still ↦ ap (λ (view : View). has_opened view p) (sym first.others)
                ∙ last.arrived (record { waited = still; over = ends.over })
            | inr over ↦ first.arrived (record { waited = ends.waited; over = over })
          ];
        }

    -- so it is of each step of a sync
    pub steps_arrive : (prefix : List ℕ) (first : World) → HoldsOfSteps k prefix side first LeadsOn
    steps_arrive prefix first = record { none = stays; takes = takes_on; sends = sends_on; twice = both }

  -- over a beginning of the replies of a sync
  pub sync_arrives : (prefix : List ℕ) (w : World) (replies : List Replied) → IsLawfulWorld k w → AreUnforged k prefix side w replies
      → (front back : List Replied) (p : Position) → replies ≡ front ++ back
      → EndsWaiting w (course_in k prefix side w front).state side p → has_opened (view_of w (peer_of side)) p ≡ true
  sync_arrives prefix w replies lawful fair front back p split ends =
      let party = world_party k prefix side w in
      let fair_there = (fair_split k prefix side w front back (begun party w) (subst (AreUnforged k prefix side w) split fair)).0 in
      (course_leads k prefix side w (LeadsOn p) (steps_arrive p prefix w)
      (begun party w) front fair_there lawful).arrived ends
