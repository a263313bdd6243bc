-- Each event of a world on both sides: they answer as the machine does, and keep what stands after it.
use Rattle.std.proofs.Common.{◌≡◌, ℕ, ◌+◌, true, List, length, map, Option, Some, None, Result, Ok, Err, refl, sym, ◌∙◌, ap, ap₂}
use Rattle.std.specs.Prelude.{Bool, IfSome, not, option_map}
use Rattle.boxes.proofs.Filters.{filter-shown}
use Rattle.boxes.specs.Entries.{is_of}
use Rattle.std.proofs.lemmas.List.{drop-drop, drop-map, length-map}
use Rattle.dr_model.specs.Conversations.Standing.{AreApart, done_first, done_which, standing}
use Rattle.dr_model.proofs.Growth.Apart.{apart_once}
use Rattle.dr_model.proofs.Growth.Standing.{first_leave, which_leave}
use Rattle.dr_model.proofs.Worlds.WorldViews.{view_lawful}
use Rattle.dr_base.specs.declared.position.Position.{Position}
use Rattle.dr_base.specs.declared.position.Side.{Side}
use Rattle.dr_base.specs.declared.position.Side.TheVariants.{First, Second}
use Rattle.kem_laws.specs.Mechanism.{Mechanism, IsLawfulMechanism}
use Rattle.session_model.specs.Clients.{Client}
use Rattle.session_model.specs.Leaving.{drop_check}
use Rattle.session_model.specs.declared.answer.Amount.{Amount}
use Rattle.session_model.specs.declared.answer.Answer.TheVariants.{Dropped, State as InNumbers}
use Rattle.session_model.specs.declared.answer.Items.{Items}
use Rattle.session_model.specs.declared.answer.Items.TheVariants.{Packets, Texts}
use Rattle.session_model.specs.declared.answer.Refusal.{Refusal}
use Rattle.session_model.specs.declared.answer.Which.{Which}
use Rattle.session_model.specs.declared.answer.Which.TheVariants.{OfId, Oldest}
use Rattle.dr_model.specs.Conversations.Conversation.{Conversation, is_said}
use Rattle.dr_model.specs.Conversations.Posts.{post_at, posts, posts_of, key_of}
use Rattle.dr_model.specs.Conversations.ViewStates.{client_at, state_of}
use Rattle.dr_model.specs.Conversations.Views.{View, after_drop, entry_at, inbox_of, missing_of, outbox_of}
use Rattle.dr_model.specs.Machines.Acts.{act_on, dropped_client, dropping, standing_with}
use Rattle.dr_model.specs.Machines.Events.{Event, PacketSource, SideCall, cuts, does, drops, drops_long, of_bytes, of_flip, of_number, of_position, says, seeds, shows_awaiting, shows_inbox, shows_state, takes}
use Rattle.dr_model.specs.Machines.Network.{flipped_at, packet_given}
use Rattle.dr_model.specs.Machines.Sides.{Sides, called_on, client_of, settled_on, step_on, with_client}
use Rattle.dr_model.specs.Machines.Steps.{Step, step, settled, amount_of, cut_step, leaving}
use Rattle.dr_model.specs.Machines.WorldSides.{sides_of}
use Rattle.dr_model.specs.Machines.Worlds.{World, called_in, dropping_in, inbox_in, nth_of_peer, outbox_in, said_at, standing_in, step_of, taking_at, taking_given, taking_of, view_of, with_view}
use Rattle.dr_model.specs.Theorems.Fairness.{IsFair, IsUnforged, IsUnforgedCall, IsUnforgedSource}
use Rattle.dr_model.specs.Theorems.LawfulWorlds.{IsLawfulWorld}
use Rattle.dr_model.proofs.Growth.SameViews.{missing_below-boxes}
use Rattle.dr_model.proofs.Saying.SayingFollows.{says_follows}
use Rattle.dr_model.proofs.Taking.ArrivingPacket.{arrival, taken_on}
use Rattle.dr_model.proofs.Taking.ForeignBytes.{bytes_follow}
use Rattle.dr_model.proofs.Taking.NetworkPosts.{held_at-posts, held_nth-posts}
use Rattle.dr_model.proofs.Worlds.CallKinds.{nth_said, where_said}
use Rattle.dr_model.proofs.Worlds.CutSteps.{cut_seen}
use Rattle.dr_model.proofs.Worlds.SeenWorlds.{seen_world}
use Rattle.dr_model.proofs.Worlds.WorldViews.{client_of-kept}

-- the packet of a position that was said, or none
position_follows : (k : Mechanism) (w : World) (side : Side) (at : Option Position) → IsLawfulMechanism k
    → IsLawfulWorld k w → IfSome at (λ p. is_said w.conversation p ≡ true)
    → taken_on k (sides_of k w) side (option_map (λ p. (post_at k w.conversation p).packet) at)
    ≡ seen_world k (taking_at w side at)
position_follows k w side None law lawful said = refl
position_follows k w side (Some p) law lawful said = arrival k w side p law lawful said

-- bytes that the network gives
given_follows : (k : Mechanism) (w : World) (side : Side) (given : Option (List ℕ)) → IsLawfulMechanism k
    → IsLawfulWorld k w → IfSome given (IsUnforged k w side)
    → taken_on k (sides_of k w) side given ≡ seen_world k (taking_given k w side given)
given_follows k w side None law lawful unforged = refl
given_follows k w side (Some bytes) law lawful unforged = bytes_follow k w side bytes law lawful unforged

-- the session keeps nothing of what left the boxes
state_of-boxes : (k : Mechanism) (c : Conversation) (v : View) (done : List Position) (dropped : ℕ)
    → state_of k c (record v { done = done; dropped = dropped }) ≡ state_of k c v
state_of-boxes k c v done dropped =
    ap (λ missing. record (state_of k c v) { kept = map (key_of k c) missing })
    (missing_below-boxes c v done dropped v.awaiting (v.epoch + 1))

-- items leave the boxes: what is left is kept
same_dropped : (k : Mechanism) (c : Conversation) (v : View) (which : Which) → AreApart v.arrived
    → dropped_client (client_at k c v) which ≡ client_at k c (after_drop c v which)
same_dropped k c v (Oldest Texts n) apart =
    ap₂ (λ state inbox. record (client_at k c v) { state = state; inbox = inbox })
    (sym (state_of-boxes k c v (done_first v.arrived v.done n) v.dropped))
    (drop-map (entry_at c) n (standing v.arrived v.done) ∙ sym (ap (map (entry_at c)) (first_leave v.arrived v.done n apart)))
same_dropped k c v (Oldest Packets n) apart =
    ap₂ (λ state outbox. record (client_at k c v) { state = state; outbox = outbox })
    (sym (state_of-boxes k c v v.done (v.dropped + n))) (drop-drop n v.dropped (posts_of k c v.side))
same_dropped k c v (OfId id) apart =
    let goes : Position → Bool = λ p. is_of id (entry_at c p) in
    ap₂ (λ state inbox. record (client_at k c v) { state = state; inbox = inbox })
    (sym (state_of-boxes k c v (done_which goes v.arrived v.done) v.dropped))
    (sym (filter-shown (entry_at c) (λ entry. not (is_of id entry)) (standing v.arrived v.done))
    ∙ sym (ap (map (entry_at c)) (which_leave goes v.arrived v.done)))

with_seen : (k : Mechanism) (w : World) (side : Side) (v : View)
    → with_client (sides_of k w) side (client_at k w.conversation v) ≡ sides_of k (with_view w side v)
with_seen k w First v = refl
with_seen k w Second v = refl

left_follows : (k : Mechanism) (w : World) (side : Side) (which : Which) (check : Result Unit Refusal) (after : View)
    → settled_on (sides_of k w) side (leaving which check (client_at k w.conversation after))
    ≡ seen_world k (settled w (leaving which check (with_view w side after)))
left_follows k w side which (Ok stand) after = ap (λ (next : Sides). step (Dropped which) next) (with_seen k w side after)
left_follows k w side which (Err refusal) after = refl

drop_follows : (k : Mechanism) (w : World) (side : Side) (which : Which) → IsLawfulWorld k w
    → settled_on (sides_of k w) side (act_on k (client_of (sides_of k w) side) (dropping which))
    ≡ seen_world k (settled w (dropping_in k w side which))
drop_follows k w side which lawful =
    let c = w.conversation in
    let v = view_of w side in
    let check = drop_check which (inbox_of c v) (outbox_of k c v) in
    ap (λ (client : Client). settled_on (sides_of k w) side (act_on k client (dropping which))) (client_of-kept k w side)
    ∙ ap (λ (next : Client). settled_on (sides_of k w) side (leaving which check next))
    (same_dropped k c v which (apart_once v.arrived (view_lawful k w side lawful).once))
    ∙ left_follows k w side which check (after_drop c v which)

-- so many as an amount is
amount_follows : (k : Mechanism) (w : World) (side : Side) (items : Items) (amount : Amount) → IsLawfulWorld k w
    → called_on k (sides_of k w) side (drops items amount) ≡ seen_world k (called_in k w side (drops items amount))
amount_follows k w side items amount lawful =
    let s = sides_of k w in
    ap (λ (client : Client).
    let n = amount_of amount (standing_with client items) in
    settled_on s side (act_on k (client_of s side) (dropping (Oldest items n))))
    (client_of-kept k w side)
    ∙ drop_follows k w side (Oldest items (amount_of amount (standing_in k w side items))) lawful

-- each packet
source_follows : (k : Mechanism) (w : World) (side : Side) (source : PacketSource) → IsLawfulMechanism k → IsLawfulWorld k w
    → IsUnforgedSource k w side source
    → taken_on k (sides_of k w) side (packet_given (posts k w.conversation) side source)
    ≡ seen_world k (taking_of k w side source)
source_follows k w side (of_position p) law lawful unforged =
    ap (taken_on k (sides_of k w) side) (held_at-posts k w.conversation p)
    ∙ position_follows k w side (said_at w.conversation p) law lawful
    (where_said w.conversation p (is_said w.conversation p) refl)
source_follows k w side (of_number nth) law lawful unforged =
    ap (taken_on k (sides_of k w) side) (held_nth-posts k w.conversation side nth)
    ∙ position_follows k w side (nth_of_peer w.conversation side nth) law lawful (nth_said w.conversation side nth)
source_follows k w side (of_flip p bit) law lawful unforged =
    given_follows k w side (flipped_at (posts k w.conversation) p bit) law lawful unforged
source_follows k w side (of_bytes bytes) law lawful unforged = bytes_follow k w side bytes law lawful unforged

-- each call
called_follows : (k : Mechanism) (w : World) (side : Side) (call : SideCall) → IsLawfulMechanism k → IsLawfulWorld k w
    → IsUnforgedCall k w side call → called_on k (sides_of k w) side call ≡ seen_world k (called_in k w side call)
called_follows k w side (says content) law lawful unforged = says_follows k w side content law lawful
called_follows k w side (takes source) law lawful unforged = source_follows k w side source law lawful unforged
called_follows k w side (drops items amount) law lawful unforged = amount_follows k w side items amount lawful
called_follows k w side (drops_long id) law lawful unforged = drop_follows k w side (OfId id) lawful

-- what a side holds, with this many missing
abbrev in_numbers : Mechanism → World → Side → ℕ → Step Sides
in_numbers k w side missing =
    step (InNumbers (record {
      epoch = (view_of w side).epoch;
      missing = missing;
      inbox = length (inbox_in w side);
      outbox = length (outbox_in k w side);
    })) (sides_of k w)

-- each event
pub step_follows : (k : Mechanism) (w : World) (h : Event) → IsLawfulMechanism k → IsLawfulWorld k w → IsFair k w h
    → step_on k (sides_of k w) h ≡ seen_world k (step_of k w h)
step_follows k w (seeds seed) law lawful fair = refl
step_follows k w (does side call) law lawful fair = called_follows k w side call law lawful fair.unforged
step_follows k w (shows_inbox First) law lawful fair = refl
step_follows k w (shows_inbox Second) law lawful fair = refl
step_follows k w (shows_awaiting First) law lawful fair = refl
step_follows k w (shows_awaiting Second) law lawful fair = refl
step_follows k w (shows_state First) law lawful fair =
    ap (λ n. in_numbers k w First n) (length-map (missing_of w.conversation w.first) (key_of k w.conversation))
step_follows k w (shows_state Second) law lawful fair =
    ap (λ n. in_numbers k w Second n) (length-map (missing_of w.conversation w.second) (key_of k w.conversation))
step_follows k w (cuts took h) law lawful fair =
    let same = step_follows k w h law lawful (record { unforged = fair.unforged; whole = fair.whole }) in
    ap (λ (made : Step Sides). cut_step (record (sides_of k w) { draws = made.next.draws }) took made) same
    ∙ cut_seen k w took (step_of k w h)
