-- What a side makes of the packet of a text that was said, and what it keeps then.
use Rattle.std.proofs.Common.{◌≡◌, ℕ, Bool, true, false, nat_le, nat_lt, List, [], ◌∷◌, ◌++◌, length, Option, Result, Ok, Err, refl, sym, ap, ◌∙◌, if◌then◌else◌}
use Rattle.std.specs.Prelude.{option_map}
use Rattle.std.specs.Prelude.{map}
use Rattle.std.proofs.lemmas.List.{map_push}
use Rattle.dr_base.specs.declared.limits.TheConstants.{KEPT_LIMIT, INBOX_LIMIT}
use Rattle.boxes.specs.Entries.{Entry}
use Rattle.dr_base.specs.Position.{is_own}
use Rattle.dr_base.specs.declared.position.Position.{Position}
use Rattle.dr_base.specs.declared.position.Side.{Side}
use Rattle.dr_base.specs.declared.position.Side.TheVariants.{First, Second}
use Rattle.kem_laws.specs.Mechanism.{Mechanism, IsLawfulMechanism}
use Rattle.session_model.specs.Clients.{Client, TakenPacket, accept_receive, take_on, take_read}
use Rattle.session_model.specs.Taking.{ReceiveDraft}
use Rattle.session_model.specs.declared.answer.Answer.TheVariants.{Opened}
use Rattle.session_model.specs.declared.answer.Refusal.{Refusal}
use Rattle.session_model.specs.declared.answer.Refusal.TheVariants.{OwnPacket, Spent, SkipLimit, InboxFull}
use Rattle.dr_model.specs.Conversations.Conversation.{Conversation, is_said, kind_at, text_at}
use Rattle.dr_model.specs.Conversations.Lawful.{IsLawfulConversation, IsLawfulView}
use Rattle.dr_model.specs.Conversations.Posts.{post_at}
use Rattle.dr_model.specs.Conversations.ViewStates.{client_at, relay_in, state_of}
use Rattle.dr_model.specs.Conversations.Views.{View, after_opening, entry_at, has_opened, inbox_of, missing_of, outbox_of}
use Rattle.dr_model.specs.Machines.Acts.{taken_by, taking}
use Rattle.dr_model.specs.Machines.Sides.{Sides, acted_on, client_of, settled_on}
use Rattle.dr_model.specs.Machines.Steps.{Step, settled, step}
use Rattle.dr_model.specs.Machines.WorldSides.{sides_of}
use Rattle.dr_model.specs.Machines.Worlds.{World, taking_in, view_of, with_view}
use Rattle.dr_model.specs.Theorems.LawfulWorlds.{IsLawfulWorld}
use Rattle.dr_model.specs.Conversations.Standing.{standing}
use Rattle.dr_model.proofs.Growth.Standing.{last_stands}
use Rattle.dr_model.proofs.Taking.PacketAnswers.{received}
use Rattle.dr_model.proofs.Taking.PacketFields.{is_place, read-post}
use Rattle.dr_model.proofs.Worlds.SeenWorlds.{seen_world}
use Rattle.dr_model.proofs.Worlds.WorldViews.{client_of-kept, view_lawful}

-- what both sides make of the taking of a packet, and of one that the network may give
abbrev pub opened_on : Sides → Side → Result TakenPacket Refusal → Step Sides
opened_on s side taken = settled_on s side (taken_by taken)

abbrev pub taken_on : Mechanism → Sides → Side → Option (List ℕ) → Step Sides
taken_on k s side given = acted_on k s side (option_map taking given)

-- one text more in the inbox
inbox_after : (k : Mechanism) (c : Conversation) (side : Side) (v : View) (p : Position) → IsLawfulView k c side v
    → has_opened v p ≡ false → inbox_of c v ++ entry_at c p ∷ [] ≡ inbox_of c (after_opening c v p)
inbox_after k c side v p view new =
    sym (ap (map (entry_at c)) (last_stands v.arrived v.done p view.done new) ∙ map_push (entry_at c) (standing v.arrived v.done) p)

-- a client that takes a draft, unless its inbox is full
abbrev unless_full : Client → ReceiveDraft → Result TakenPacket Refusal
unless_full client draft = accept_receive client (Ok draft)

-- what its session refuses, it refuses
accept_by : (client : Client) (own old far : Bool) (p q r : Refusal) (draft : ReceiveDraft)
    → accept_receive client (if own then Err p else (if old then Err q else (if far then Err r else Ok draft)))
    ≡ (if own then Err p else (if old then Err q else (if far then Err r else unless_full client draft)))
accept_by client true old far p q r draft = refl
accept_by client false true far p q r draft = refl
accept_by client false false true p q r draft = refl
accept_by client false false false p q r draft = refl

-- what the side keeps after the packet
abbrev taken_at : Mechanism → Conversation → View → Position → TakenPacket
taken_at k c v p =
    record {
      position = p;
      next = record {
        state = state_of k c (after_opening c v p);
        inbox = inbox_of c v ++ entry_at c p ∷ [];
        outbox = outbox_of k c v;
        relay = relay_in c v;
      };
    }

taken_after : (k : Mechanism) (c : Conversation) (side : Side) (v : View) (p : Position) → IsLawfulView k c side v → has_opened v p ≡ false
    → taken_at k c v p ≡ record { position = p; next = client_at k c (after_opening c v p) }
taken_after k c side v p view new =
    ap (λ (inbox : List Entry). record { position = p; next = record (client_at k c (after_opening c v p)) { inbox = inbox } }) (inbox_after k c side v p view new)

-- what the side answers to the packet
answered : (k : Mechanism) (c : Conversation) (side : Side) (v : View) (p : Position) → IsLawfulMechanism k
    → IsLawfulConversation k c → IsLawfulView k c side v → is_said c p ≡ true
    → take_on k (client_at k c v) (post_at k c p).packet
    ≡ (let missing = length (missing_of c (after_opening c v p)) in
    if is_own v.side p.epoch then Err (OwnPacket p.epoch) else (if has_opened v p then Err (Spent p)
    else (if nat_lt KEPT_LIMIT missing then Err (SkipLimit missing) else
    (if nat_le INBOX_LIMIT (length (inbox_of c v)) then Err InboxFull else Ok (taken_at k c v p)))))
unfolding take_on
answered k c side v p law lawful view said =
    let missing = length (missing_of c (after_opening c v p)) in
    ap (take_read k (client_at k c v)) (read-post k c p law lawful (is_place k c p lawful said))
    ∙ ap (accept_receive (client_at k c v)) (received k c side v p law lawful view said)
    ∙ accept_by (client_at k c v) (is_own v.side p.epoch) (has_opened v p) (nat_lt KEPT_LIMIT missing) (OwnPacket p.epoch) (Spent p)
    (SkipLimit missing)
    (record { position = p; kind = kind_at c p; text = text_at c p; next = state_of k c (after_opening c v p) })

-- the first of four refusals, or else a step that both sides see
seen_world-by : (k : Mechanism) (w : World) (side : Side) (own old far full : Bool) (p q r t : Refusal) (taken : TakenPacket)
    (next : Step World)
    → (old ≡ false → opened_on (sides_of k w) side (Ok taken) ≡ seen_world k next)
    → opened_on (sides_of k w) side (if own then Err p else (if old then Err q else (if far then Err r else (if full then Err t else Ok taken))))
    ≡ seen_world k (settled w
    (if own then Err p else (if old then Err q else (if far then Err r else (if full then Err t else Ok next)))))
seen_world-by k w side true old far full p q r t taken next h = refl
seen_world-by k w side false true far full p q r t taken next h = refl
seen_world-by k w side false false true full p q r t taken next h = refl
seen_world-by k w side false false false true p q r t taken next h = refl
seen_world-by k w side false false false false p q r t taken next h = h refl

-- a client that stands in a view
with_client-view : (k : Mechanism) (w : World) (side : Side) (p : Position) (v : View)
    → opened_on (sides_of k w) side (Ok (record { position = p; next = client_at k w.conversation v }))
    ≡ seen_world k (step (Opened p) (with_view w side v))
with_client-view k w First p v = refl
with_client-view k w Second p v = refl

-- a side makes of the packet of a text what the machine does
pub arrival : (k : Mechanism) (w : World) (side : Side) (p : Position) → IsLawfulMechanism k → IsLawfulWorld k w
    → is_said w.conversation p ≡ true
    → opened_on (sides_of k w) side (take_on k (client_of (sides_of k w) side) (post_at k w.conversation p).packet)
    ≡ seen_world k (settled w (taking_in w side p))
arrival k w side p law lawful said =
    let c = w.conversation in
    let v = view_of w side in
    let view = view_lawful k w side lawful in
    let missing = length (missing_of c (after_opening c v p)) in
    ap (λ client. opened_on (sides_of k w) side (take_on k client (post_at k c p).packet)) (client_of-kept k w side)
    ∙ ap (opened_on (sides_of k w) side) (answered k c side v p law lawful.conversation view said)
    ∙ ap (λ s. opened_on (sides_of k w) side
    (if is_own s p.epoch then Err (OwnPacket p.epoch) else (if has_opened v p then Err (Spent p)
    else (if nat_lt KEPT_LIMIT missing then Err (SkipLimit missing) else
    (if nat_le INBOX_LIMIT (length (inbox_of c v)) then Err InboxFull else Ok (taken_at k c v p))))))
    view.side_is
    ∙ seen_world-by k w side (is_own side p.epoch) (has_opened v p) (nat_lt KEPT_LIMIT missing) (nat_le INBOX_LIMIT (length (inbox_of c v)))
    (OwnPacket p.epoch) (Spent p) (SkipLimit missing) InboxFull
    (taken_at k c v p)
    (step (Opened p) (with_view w side (after_opening c v p)))
    (λ new. ap (λ (taken : TakenPacket). opened_on (sides_of k w) side (Ok taken)) (taken_after k c side v p view new)
    ∙ with_client-view k w side p (after_opening c v p))
