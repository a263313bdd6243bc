-- What a sync opens, in a world that the client stands for.
use Rattle.std.proofs.Common.{Bool, Err, List, Ok, Option, Result, [], ap, false, inl, inr, refl, subst, sym, true, zero, suc, ℕ, ◌++◌, ◌+◌, ◌∙◌, ◌∷◌, ◌≡◌, ◌⊎◌}
use Rattle.std.specs.Prelude.{if◌then◌else◌, length, map}
use Rattle.dr_model.proofs.Growth.SaidStays.{with_view_leaves}
use Rattle.dr_base.specs.declared.position.Position.{Position}
use Rattle.dr_base.specs.declared.position.Side.{Side}
use Rattle.dr_base.specs.declared.position.Side.TheVariants.{First, Second}
use Rattle.dr_model.specs.Conversations.Conversation.{Conversation}
use Rattle.dr_model.specs.Conversations.Posts.{post_at}
use Rattle.dr_model.specs.Conversations.Views.{View, after_opening, has_opened}
use Rattle.dr_model.specs.Machines.Acts.{act_on, taking}
use Rattle.dr_model.specs.Machines.WorldActs.{act_in}
use Rattle.dr_model.specs.Machines.Events.{does, of_bytes, of_position, takes}
use Rattle.dr_model.specs.Machines.Steps.{Step, leaving, settled}
use Rattle.dr_model.specs.Machines.Worlds.{World, outbox_in, step_of, view_of, with_view}
use Rattle.dr_model.specs.Theorems.Fairness.{IsUnforged}
use Rattle.dr_model.specs.Theorems.Headline.{IsWithinLimits}
use Rattle.dr_model.proofs.Taking.PacketsApart.{by_bytes, real}
use Rattle.dr_model.proofs.Worlds.Runs.{opened_within, refusal_changes_nothing, repeats}
use Rattle.kem_laws.specs.Mechanism.{Mechanism}
use Rattle.relay_core.specs.Boxes.{Kept}
use Rattle.session_model.specs.Clients.{Client}
use Rattle.session_model.specs.Leaving.{enough}
use Rattle.session_model.specs.declared.answer.Items.TheVariants.{Packets}
use Rattle.session_model.specs.declared.answer.Refusal.{Refusal}
use Rattle.session_model.specs.declared.answer.Refusal.TheVariants.{Spent}
use Rattle.session_model.specs.declared.answer.Which.TheVariants.{Oldest}
use Rattle.sync_model.specs.Parties.{Party}
use Rattle.sync_model.specs.Tokens.{SyncKeys}
use Rattle.sync_model.specs.Transfers.{HasRoom, sent_all, taken_all}
use Rattle.client.specs.Grounds.{Grounds}
use Rattle.client.specs.Syncing.Arrivals.{AreExpected, IsExpected, OpensArrived, opened_too}
use Rattle.client.specs.Syncing.InWorlds.{IsKeptIn}
use Rattle.client.specs.Syncing.Keys.{keys_in}
use Rattle.client.specs.Syncing.Lines.{own_box, peers_box}
use Rattle.client.specs.Syncing.Parties.{client_party, is_inbox_full, oldest_sent, party_of}
use Rattle.client.specs.Syncing.Transfers.{Transfers}
use Rattle.relay_wire.specs.Replies.{Replied}
use Rattle.client.proofs.Syncs.Worlds.{answers, next_kept}

head_is : (a b : List ℕ) (xs bs : List (List ℕ)) → a ∷ xs ≡ b ∷ bs → a ≡ b
head_is a b xs bs h = cc

tail_is : (a b : List ℕ) (xs bs : List (List ℕ)) → a ∷ xs ≡ b ∷ bs → xs ≡ bs
tail_is a b xs bs h = cc

not_both : (t : Bool) → t ≡ true → t ≡ false → ⊥
not_both t one two = absurd (let e : true ≡ false = sym one ∙ two in cc)

-- what a view of a side changes of a world
with_view_is : (w : World) (side : Side) (v : View) → view_of (with_view w side v) side ≡ v
with_view_is w First v = refl
with_view_is w Second v = refl

view_stays : (w next : World) (side : Side) → next.first ≡ w.first → next.second ≡ w.second → view_of next side ≡ view_of w side
view_stays w next First one two = one
view_stays w next Second one two = two

-- ---- one packet that is expected

-- the same conversation, in which the position was opened if it wasn't yet; the answer isn't that there is no room
record IsMet (k : Mechanism) (w : World) (side : Side) (p : Position) : Type 0 where
  conversation : (step_of k w (does side (takes (of_position p)))).next.conversation ≡ w.conversation
  arrived : (view_of (step_of k w (does side (takes (of_position p)))).next side).arrived
      ≡ (if has_opened (view_of w side) p then (view_of w side).arrived else (view_of w side).arrived ++ p ∷ [])
  room : is_inbox_full (step_of k w (does side (takes (of_position p)))).answer ≡ false

meets_one : (k : Mechanism) (w : World) (side : Side) (p : Position) → IsExpected w side p → IsMet k w side p
meets_one k w side p is = by_opened (has_opened (view_of w side) p) refl is.near
  where
    by_opened : (b : Bool) → has_opened (view_of w side) p ≡ b → (has_opened (view_of w side) p ≡ true) ⊎ IsWithinLimits w side p → IsMet k w side p
    by_opened true before near =
        let spent = repeats k w side p is.said is.peers before in
        let same = refusal_changes_nothing k w (does side (takes (of_position p))) (Spent p) spent in
        record {
          conversation = same.0;
          arrived = ap (λ (v : View). v.arrived) (view_stays w (step_of k w (does side (takes (of_position p)))).next side same.1 same.2)
              ∙ ap (λ (b : Bool). if b then (view_of w side).arrived else (view_of w side).arrived ++ p ∷ []) (sym before);
          room = ap is_inbox_full spent;
        }
    by_opened false new (inl before) = absurd (not_both (has_opened (view_of w side) p) before new)
    by_opened false new (inr within) =
        let made = opened_within k w side p (record { said = is.said; peers = is.peers; unopened = new }) within in
        record {
          conversation = ap (λ (m : Step World). m.next.conversation) made ∙ with_view_leaves w side (after_opening w.conversation (view_of w side) p);
          arrived = ap (λ (m : Step World). (view_of m.next side).arrived) made
              ∙ ap (λ (v : View). v.arrived) (with_view_is w side (after_opening w.conversation (view_of w side) p))
              ∙ ap (λ (b : Bool). if b then (view_of w side).arrived else (view_of w side).arrived ++ p ∷ []) (sym new);
          room = ap (λ (m : Step World). is_inbox_full m.answer) made;
        }

-- a packet that leaves the outbox
record IsSame (side : Side) (w next : World) : Type 0 where
  conversation : next.conversation ≡ w.conversation
  arrived : (view_of next side).arrived ≡ (view_of w side).arrived

left_same : (w : World) (side : Side) (v : View) (check : Result Unit Refusal) → v.arrived ≡ (view_of w side).arrived
    → IsSame side w (settled w (leaving (Oldest Packets 1) check (with_view w side v))).next
left_same w side v (Ok stand) same = record {
  conversation = with_view_leaves w side v;
  arrived = ap (λ (x : View). x.arrived) (with_view_is w side v) ∙ same;
}
left_same w side v (Err refusal) same = record { conversation = refl; arrived = refl }

one_sent : (k : Mechanism) (w : World) (side : Side) → IsSame side w (act_in k w side oldest_sent).next
one_sent k w side =
    let v = view_of w side in
    left_same w side (record v { dropped = v.dropped + 1 }) (enough 1 (length (outbox_in k w side))) refl

-- ---- all of them

-- what is kept is that of a world in which these were opened too
record Behind (k : Mechanism) (side : Side) (w : World) (ps : List Position) (kept : Client) : Type 0 where
  later : World
  is_kept : IsKeptIn k side kept later
  conversation : later.conversation ≡ w.conversation
  arrived : (view_of later side).arrived ≡ opened_too (view_of w side).arrived ps

module _ (k : Mechanism) (grounds : Grounds k) (prefix own_name peers_name : List ℕ) (keys : Option SyncKeys) (side : Side) where
  abbrev p : Party Client
  p = party_of k prefix own_name peers_name keys

  taken_behind : (ps : List Position) (ks : List Kept) (w : World) (kept : Client) → IsKeptIn k side kept w
      → map (λ (x : Kept). x.packet) ks ≡ map (λ (q : Position). (post_at k w.conversation q).packet) ps → AreExpected k w side ps
      → Behind k side w ps (taken_all p kept ks) × HasRoom p kept ks
  taken_behind [] [] w kept is holds expected = (record { later = w; is_kept = is; conversation = refl; arrived = refl }, tt)
  taken_behind [] (x ∷ ks) w kept is holds expected = absurd (let e : x.packet ∷ map (λ (x : Kept). x.packet) ks ≡ [] = holds in cc)
  taken_behind (q ∷ ps) [] w kept is holds expected =
      absurd (let e : [] ≡ (post_at k w.conversation q).packet ∷ map (λ (q : Position). (post_at k w.conversation q).packet) ps = holds in cc)
  taken_behind (q ∷ ps) (x ∷ ks) w kept is holds expected =
      let said = expected.0.said in
      let made = step_of k w (does side (takes (of_position q))) in
      let head : x.packet ≡ (post_at k w.conversation q).packet = head_is _ _ _ _ holds in
      let fair : IsUnforged k w side x.packet = subst (IsUnforged k w side) (sym head) (real k w side q is.lawful said) in
      let same : act_in k w side (taking x.packet) ≡ made =
      ap (λ (b : List ℕ). step_of k w (does side (takes (of_bytes b)))) head ∙ by_bytes k w side q is.lawful said in
      let met = meets_one k w side q expected.0 in
      let step = settled kept (act_on k kept (taking x.packet)) in
      let next : IsKeptIn k side step.next made.next = subst (λ (m : Step World). IsKeptIn k side step.next m.next) same (next_kept k grounds prefix side kept w is (taking x.packet) fair) in
      let rest = taken_behind ps ks made.next step.next next
      (tail_is _ _ _ _ holds ∙ ap (λ (c : Conversation). map (λ (q : Position). (post_at k c q).packet) ps) (sym met.conversation)) expected.1 in (
        record {
          later = rest.0.later;
          is_kept = rest.0.is_kept;
          conversation = rest.0.conversation ∙ met.conversation;
          arrived = rest.0.arrived ∙ ap (λ (arrived : List Position). opened_too arrived ps) met.arrived;
        },
        (ap is_inbox_full (answers k grounds prefix side kept w is (taking x.packet) fair) ∙ ap (λ (m : Step World). is_inbox_full m.answer) same ∙ met.room, rest.1),
      )

  sent_behind : (n : ℕ) (w : World) (ps : List Position) (kept : Client) → Behind k side w ps kept → Behind k side w ps (sent_all p n kept)
  sent_behind zero w ps kept at = at
  sent_behind (suc n) w ps kept at =
      let one = one_sent k at.later side in
      sent_behind n w ps (settled kept (act_on k kept oldest_sent)).next (record {
        later = (act_in k at.later side oldest_sent).next;
        is_kept = next_kept k grounds prefix side kept at.later at.is_kept oldest_sent tt;
        conversation = one.conversation ∙ at.conversation;
        arrived = one.arrived ∙ at.arrived;
      })

pub opens : (k : Mechanism) → Grounds k → (prefix : List ℕ) (first : Client) (replies : List Replied)
    → Transfers (client_party k prefix first) first replies → OpensArrived k prefix first replies
opens k grounds prefix first replies transfers = λ w side is boxes own peers has carried past ps holds expected.
    let taken = taken_behind k grounds prefix (own_box first) (peers_box first) (keys_in first) side ps own.packets w first is holds expected in
    let collected = (transfers boxes own peers has taken.1 carried past).0 in
    let behind = sent_behind k grounds prefix (own_box first) (peers_box first) (keys_in first) side collected.count w ps (taken_all (client_party k prefix first) first own.packets) taken.0 in (
      collected,
      record {
        later = behind.later;
        is_kept = record { lawful = behind.is_kept.lawful; keeps = collected.keeps ∙ behind.is_kept.keeps };
        conversation = behind.conversation;
        arrived = behind.arrived;
      },
    )
