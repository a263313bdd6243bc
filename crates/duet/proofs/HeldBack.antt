-- An act that was held back, and is done then in the world that both sides stand for.
use Rattle.std.proofs.Common.{Bool, Err, List, None, Ok, Option, Result, Some, [], ap, arith, drop, false, if◌then◌else◌, length, refl, sym, true, ◌++◌, ◌-◌, ◌∙◌, ◌∷◌, ◌≡◌, ℕ}
use Rattle.std.specs.Prelude.{nat_lt}
use Rattle.std.proofs.lemmas.Bool.Decides.{nat_tests}
use Rattle.std.proofs.lemmas.List.{length-append}
use Rattle.boxes.specs.Posts.{Post}
use Rattle.dr_base.specs.Position.{peer_of}
use Rattle.dr_base.specs.declared.position.Side.{Side}
use Rattle.dr_base.specs.declared.position.Side.TheVariants.{First, Second}
use Rattle.dr_model.specs.Conversations.Conversation.{Conversation}
use Rattle.dr_model.specs.Conversations.Posts.{posts}
use Rattle.dr_model.specs.Machines.Acts.{Act, act_on, dropping, needs_seed, said_by, saying, saying_by, taking}
use Rattle.dr_model.specs.Machines.WorldActs.{act_in, event_of, with_draw, world_for}
use Rattle.dr_model.specs.Machines.Draws.{after_draw, given_or, next_seed}
use Rattle.dr_model.specs.Machines.Sides.{Sides, client_of, said_on, saying_on, settled_on, step_on, with_client}
use Rattle.dr_model.specs.Machines.Steps.{Step, settled}
use Rattle.dr_model.specs.Machines.Worlds.{World}
use Rattle.dr_model.specs.Machines.WorldSides.{kept_in, sides_of}
use Rattle.dr_model.specs.Theorems.Acting.{IsFairAct}
use Rattle.dr_model.specs.Theorems.LawfulWorlds.{IsLawfulWorld}
use Rattle.dr_model.proofs.Acting.ActsFollowing.{act_follows, act_leaves, drop_called, fair_event, lawful_act, lawful_for}
use Rattle.dr_model.proofs.Acting.Posting.{act_grows, act_posts}
use Rattle.dr_model.proofs.Saying.SayingChecks.{same_check}
use Rattle.dr_model.proofs.Worlds.Following.{step_follows}
use Rattle.dr_model.proofs.Worlds.WorldViews.{client_of-kept}
use Rattle.kem_laws.specs.Mechanism.{IsLawfulMechanism, Mechanism}
use Rattle.session_model.specs.Contents.{Content}
use Rattle.session_model.specs.Clients.{Client, SaidText, accept_send, say_check, say_on}
use Rattle.session_model.specs.Saying.{SendDraft, draft_send}
use Rattle.session_model.specs.declared.answer.Refusal.{Refusal}
use Rattle.duet.specs.Gathering.{newest_from}
use Rattle.duet.proofs.FailsFollow.{redrawn, said_over}
use Rattle.duet.proofs.Gathering.{none_newest, quiet_few}
use Rattle.duet.proofs.SaidBoxes.{IsHeldBack, IsSaidPacket, said_stays, unforged}
use Rattle.duet.proofs.SeenBeside.{left_in}

-- ---- what the network gets

drop_before : (xs : List Post) (x : Post) → drop (length xs) (xs ++ x ∷ []) ≡ x ∷ []
drop_before [] x = refl
drop_before (y ∷ ys) x = drop_before ys x

-- the one that it gained
one_newest : (outbox : List Post) (post : Post)
    → drop (newest_from (length outbox) (length (outbox ++ post ∷ []))) (outbox ++ post ∷ []) ≡ post ∷ []
one_newest outbox post =
    let many = length-append outbox (post ∷ []) in
    let more : nat_lt (length outbox) (length (outbox ++ post ∷ [])) ≡ true = grind (arith, nat_tests) in
    let place : length (outbox ++ post ∷ []) - 1 ≡ length outbox = omega (arith, many) in
    ap (λ (b : Bool). drop (if b then length (outbox ++ post ∷ []) - 1 else length (outbox ++ post ∷ [])) (outbox ++ post ∷ [])) more
    ∙ ap (λ (at : ℕ). drop at (outbox ++ post ∷ [])) place
    ∙ drop_before outbox post

abbrev pub newest : Client → Client → List Post
newest old new = drop (newest_from (length old.outbox) (length new.outbox)) new.outbox

abbrev posts_by : Result SaidText Refusal → List Post
posts_by (Ok said) = said.post ∷ []
posts_by (Err refusal) = []

draft_newest : (c : Client) (d : Option SendDraft)
    → posts_by (accept_send c d) ≡ newest c (settled c (said_by (accept_send c d))).next
draft_newest c None = sym (none_newest (length c.outbox) c.outbox (omega arith))
draft_newest c (Some draft) = sym (one_newest c.outbox draft.post)

abbrev saying_posts : Mechanism → Client → Content → Option (List ℕ) → Result Bool Refusal → List Post
saying_posts k c content draw (Ok turns) = posts_by (say_on k c content (given_or [] draw))
saying_posts k c content draw (Err refusal) = []

saying_newest : (k : Mechanism) (c : Client) (content : Content) (draw : Option (List ℕ)) (r : Result Bool Refusal)
    → saying_posts k c content draw r ≡ newest c (settled c (saying_by k c content draw r)).next
saying_newest k c content draw (Err refusal) = sym (none_newest (length c.outbox) c.outbox (omega arith))
saying_newest k c content draw (Ok turns) = draft_newest c (draft_send k c.state content (given_or [] draw))

-- what an act adds is the newest packet of the outbox
acts_newest : (k : Mechanism) (c : Client) (act : Act) → act_posts k c act ≡ newest c (settled c (act_on k c act)).next
acts_newest k c (saying content draw) = saying_newest k c content draw (say_check c content)
acts_newest k c act =
    sym (none_newest (length c.outbox) (settled c (act_on k c act)).next.outbox (quiet_few k c act tt))

-- ---- the key stays

with_key : (s : Sides) (side : Side) (c : Client) → (with_client s side c).key ≡ s.key
with_key s First c = refl
with_key s Second c = refl

said_key : (s : Sides) (side : Side) (r : Result SaidText Refusal) → (said_on s side r).next.key ≡ s.key
said_key s side (Ok said) = with_key s side said.next
said_key s side (Err refusal) = refl

saying_key : (k : Mechanism) (s : Sides) (side : Side) (content : Content) (r : Result Bool Refusal)
    → (saying_on k s side content r).next.key ≡ s.key
saying_key k s side content (Err refusal) = refl
saying_key k s side content (Ok false) = said_key s side (say_on k (client_of s side) content [])
saying_key k s side content (Ok true) =
    said_key (record s { draws = after_draw s.draws }) side (say_on k (client_of s side) content (next_seed s.key s.draws))

settled_key : (s : Sides) (side : Side) (r : Result (Step Client) Refusal) → (settled_on s side r).next.key ≡ s.key
settled_key s side (Ok made) = with_key s side made.next
settled_key s side (Err refusal) = refl

act_key : (k : Mechanism) (s : Sides) (side : Side) (act : Act) → (step_on k s (event_of side act)).next.key ≡ s.key
act_key k s side (saying content draw) = saying_key k s side content (say_check (client_of s side) content)
act_key k s side (taking bytes) = settled_key s side (act_on k (client_of s side) (taking bytes))
act_key k s side (dropping which) =
    ap (λ (made : Step Sides). made.next.key) (drop_called k s side which)
    ∙ settled_key s side (act_on k (client_of s side) (dropping which))

-- the draw that was made for an act leaves the conversation
draw_over : (w : World) (draw : Option (List ℕ)) → w.conversation ≡ (with_draw w draw).conversation
draw_over w None = refl
draw_over w (Some seed) = refl

act_over : (w : World) (act : Act) → w.conversation ≡ (world_for w act).conversation
act_over w (saying content draw) = draw_over w draw
act_over w act = refl

-- ---- an act that was held back

module _ (k : Mechanism) (w : World) (side : Side) (law : IsLawfulMechanism k) (lawful : IsLawfulWorld k w) where
  fair_act : (act : Act) → IsHeldBack k w side act → IsFairAct k w side act
  fair_act (saying content draw) held = record {
    needed = held.0
        ∙ ap (λ (c : Client). needs_seed (say_check c content)) (sym (client_of-kept k w side))
        ∙ ap needs_seed (same_check k w side content lawful);
    whole = held.1;
  }
  fair_act (taking bytes) held = unforged k w side bytes lawful held
  fair_act act held = tt

  module _ (act : Act) (held : IsHeldBack k w side act) where
    abbrev fair : IsFairAct k w side act
    fair = fair_act act held

    abbrev next : World
    next = (act_in k w side act).next

    pub key_stays : next.conversation.key ≡ w.conversation.key
    key_stays =
        sym (ap (λ (made : Step Sides). made.next.key)
        (step_follows k (world_for w act) (event_of side act) law (lawful_for k w side act lawful fair) (fair_event k w side act fair)))
        ∙ act_key k (sides_of k (world_for w act)) side act
        ∙ sym (ap (λ (c : Conversation). c.key) (act_over w act))

    pub own_kept : kept_in k next side ≡ left_in k w side (Some act)
    own_kept = sym (ap (λ (made : Step Client). made.next) (act_follows k w side act law lawful fair))

    pub other_kept : kept_in k next (peer_of side) ≡ kept_in k w (peer_of side)
    other_kept = act_leaves k w side act law lawful fair

    pub posts_grow : posts k next.conversation ≡ posts k w.conversation ++ newest (kept_in k w side) (left_in k w side (Some act))
    posts_grow =
        act_grows k w side act law lawful fair
        ∙ ap (λ (more : List Post). posts k w.conversation ++ more) (acts_newest k (kept_in k w side) act)

    pub said_on_way : (packet : List ℕ) → IsSaidPacket k w packet → IsSaidPacket k (redrawn next w.draws) packet
    said_on_way packet is =
        said_over k next (redrawn next w.draws) packet refl
        (said_stays k (world_for w act) (event_of side act) packet (lawful_for k w side act lawful fair)
        (said_over k w (world_for w act) packet (act_over w act) is))

    pub done_lawful : IsLawfulWorld k (redrawn next w.draws)
    done_lawful =
        let by = lawful_act k w side act lawful fair in
        record { conversation = by.conversation; first = by.first; second = by.second; given = lawful.given }
