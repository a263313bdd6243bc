-- A world stays lawful where a side says a text.
use Rattle.std.proofs.Common.{◌≡◌, ℕ, ◌+◌, ◌<◌, ◌≤◌, true, false, Bool, not, List, [], ◌∷◌, ◌++◌, length, Option, Some, None, Result, Ok, Err, refl, sym, ◌∙◌, ap, if◌then◌else◌, arith}
use Rattle.std.specs.Prelude.{IfSome, is_none, is_some}
use Rattle.std.proofs.lemmas.Bool.{leb-false}
use Rattle.std.proofs.lemmas.List.{length_push}
use Rattle.bodies.specs.Bodies.{Body}
use Rattle.dr_base.specs.declared.limits.TheConstants.{INDEX_LIMIT, LAST_EPOCH, OUTBOX_LIMIT}
use Rattle.dr_base.specs.Position.{is_own, peer_of}
use Rattle.dr_base.specs.declared.position.Position.{Position}
use Rattle.dr_base.specs.declared.position.Side.{Side}
use Rattle.dr_base.specs.declared.position.Side.TheVariants.{First, Second}
use Rattle.dr_base.proofs.Parity.{own_after, own_peer}
use Rattle.hmac_hkdf.proofs.Lengths.{length-hmac_of}
use Rattle.kem_laws.specs.Mechanism.{Mechanism}
use Rattle.session_model.specs.Contents.{Content, content_check}
use Rattle.session_model.specs.declared.answer.Refusal.{Refusal}
use Rattle.session_model.specs.declared.answer.Refusal.TheVariants.{NoPair}
use Rattle.dr_model.specs.Conversations.Conversation.{Conversation, count_of, with_text, with_turn}
use Rattle.dr_model.specs.Conversations.Formats.{side_format}
use Rattle.dr_model.specs.Conversations.Lawful.{IsSeed, IsLawfulConversation, IsLawfulView}
use Rattle.dr_model.specs.Conversations.Receipts.{IsTrue, body_in}
use Rattle.dr_model.specs.Conversations.Views.{View, after_turn, outbox_of}
use Rattle.dr_model.specs.Machines.Draws.{Draws, drawn, given_or, next_seed}
use Rattle.dr_model.specs.Machines.Events.{does, says}
use Rattle.dr_model.specs.Machines.Steps.{settled}
use Rattle.dr_model.specs.Machines.Worlds.{World, view_of, outbox_in, may_say, said_here, said_next, saying_in, step_of}
use Rattle.dr_model.specs.Theorems.LawfulWorlds.{IsLawfulWorld}
use Rattle.dr_model.specs.Theorems.Sessions.{StandsIn}
use Rattle.dr_model.proofs.Growth.GrowingLawful.{HasRoom, StillWaits, view-grown, view-turned}
use Rattle.dr_model.proofs.Growth.LawfulTalk.{lawful_text, lawful_turn}
use Rattle.dr_model.proofs.Receipts.SaidReceipts.{may_be_said, true_said}
use Rattle.dr_model.proofs.Growth.TurnGrowth.{turns_same, turns_stay}
use Rattle.dr_model.proofs.Saying.SaidWaits.{others_wait, said_waits, turned_waits}
use Rattle.dr_model.proofs.Saying.SayingText.{said_view}
use Rattle.dr_model.proofs.Saying.SayingTurn.{first_place}
use Rattle.dr_model.proofs.Saying.SayingChecks.{MaySay, own_where, may_say-where}
use Rattle.dr_model.proofs.Saying.SayingFollows.{drawn_in}
use Rattle.dr_model.proofs.Worlds.WorldViews.{own_in, at_last, peer_at_last}

-- ---- the seed of a turn has 32 bytes

length-drawn : (key : List ℕ) (number : ℕ) → length (drawn key number) ≡ 32
unfolding drawn
length-drawn key number = length-hmac_of key _

length-given_or : (seed : List ℕ) (given : Option (List ℕ)) → length seed ≡ 32 → IfSome given (λ seed. length seed ≡ 32)
    → length (given_or seed given) ≡ 32
length-given_or seed None long h = long
length-given_or seed (Some given) long h = h

pub length-next_seed : (key : List ℕ) (draws : Draws) → IfSome draws.given (λ seed. length seed ≡ 32)
    → length (next_seed key draws) ≡ 32
length-next_seed key draws h = length-given_or (drawn key draws.made) draws.given (length-drawn key draws.made) h

-- ---- in the epoch that stands

-- a view in which these wait
view_text : (k : Mechanism) (c : Conversation) (side : Side) (v : View) (epoch : ℕ) (body : Body) (awaiting : List Position)
    → IsLawfulConversation k c → IsLawfulView k c side v → StillWaits k (with_text c epoch body) v awaiting
    → (is_own side epoch ≡ true → IsTrue c v body.receipt)
    → HasRoom k c side v epoch → length c.seeds ≤ epoch + 1
    → IsLawfulView k (with_text c epoch body) side (record v { awaiting = awaiting })
view_text k c side v epoch body awaiting world lawful waiting new room late =
    view-grown k c c.seeds epoch body side v awaiting (turns_same k c.key c.seeds) late world.begun lawful waiting new
    (omega arith) room (omega (arith, lawful.reached)) lawful.reached lawful.near_end lawful.waits

-- an epoch of one side's isn't the other's
not_others : (side : Side) (epoch : ℕ) → is_own side epoch ≡ true → is_own (peer_of side) epoch ≡ true → ⊥
not_others side epoch own other = absurd (let e : true ≡ false = sym other ∙ own_peer side epoch ∙ ap not own in cc)

no_other : (k : Mechanism) (c : Conversation) (side : Side) (u : View) (epoch : ℕ) → is_own side epoch ≡ true
    → HasRoom k c (peer_of side) u epoch
no_other k c side u epoch own other = absurd (not_others side epoch own other)

-- the side that says it, and the other
mine_said : (k : Mechanism) (c : Conversation) (side : Side) (v : View) (content : Content) → StandsIn k c side v
    → is_own side v.epoch ≡ true → count_of c v.epoch < INDEX_LIMIT → length (outbox_of k c v) < OUTBOX_LIMIT
    → IsLawfulView k (with_text c v.epoch (body_in c v content)) side (said_view c v)
mine_said k c side v content at own few room =
    view_text k c side v v.epoch (body_in c v content) (said_view c v).awaiting at.conversation at.view
    (said_waits k c (body_in c v content) side v at.view (own_in k c side v v.epoch true at.view own) few)
    (λ _. true_said k c side v content at) (λ _. room) at.view.near_end

peer_said : (k : Mechanism) (c : Conversation) (side : Side) (v u : View) (body : Body) → IsLawfulConversation k c
    → IsLawfulView k c side v → IsLawfulView k c (peer_of side) u → is_own side v.epoch ≡ true
    → IsLawfulView k (with_text c v.epoch body) (peer_of side) u
peer_said k c side v u body world lawful other own =
    view_text k c (peer_of side) u v.epoch body u.awaiting world other
    (others_wait k c c.seeds v.epoch body (peer_of side) u (turns_same k c.key c.seeds) other
    (own_in k c (peer_of side) u v.epoch false other (own_peer side v.epoch ∙ ap not own)))
    (λ mine. absurd (not_others side v.epoch own mine)) (no_other k c side u v.epoch own) lawful.near_end

here_lawful : (k : Mechanism) (w : World) (side : Side) (content : Content) → IsLawfulWorld k w
    → is_own side (view_of w side).epoch ≡ true
    → MaySay w.conversation (view_of w side) (length (outbox_in k w side)) content false
    → IsLawfulWorld k (said_here w side content).next
here_lawful k w First content lawful own may =
    let c = w.conversation in
    let e = w.first.epoch in
    let at : StandsIn k c First w.first = record { conversation = lawful.conversation; view = lawful.first } in
    let few = leb-false INDEX_LIMIT (count_of c e) may.room in
    record {
      conversation = lawful_text k c e (body_in c w.first content) lawful.conversation lawful.first.reached
          (may_be_said k c First w.first e content at own may.checked) few;
      first = mine_said k c First w.first content at own few may.free;
      second = peer_said k c First w.first w.second (body_in c w.first content) lawful.conversation lawful.first lawful.second own;
      given = lawful.given;
    }
here_lawful k w Second content lawful own may =
    let c = w.conversation in
    let e = w.second.epoch in
    let at : StandsIn k c Second w.second = record { conversation = lawful.conversation; view = lawful.second } in
    let few = leb-false INDEX_LIMIT (count_of c e) may.room in
    record {
      conversation = lawful_text k c e (body_in c w.second content) lawful.conversation lawful.second.reached
          (may_be_said k c Second w.second e content at own may.checked) few;
      first = peer_said k c Second w.second w.first (body_in c w.second content) lawful.conversation lawful.second lawful.first own;
      second = mine_said k c Second w.second content at own few may.free;
      given = lawful.given;
    }

-- ---- in an epoch that begins

-- the side that begins it
mine_turned : (k : Mechanism) (c : Conversation) (side : Side) (v : View) (seed : List ℕ) (content : Content) → StandsIn k c side v
    → is_own side v.epoch ≡ false → length (outbox_of k c v) < OUTBOX_LIMIT
    → IsLawfulView k (with_turn c seed (v.epoch + 1) (body_in c v content)) side (after_turn v)
mine_turned k c side v seed content at peers room =
    let last = at_last k c side v at.view peers in
    let theirs = own_in k c side v v.epoch false at.view peers in
    let body = body_in c v content in
    view-turned k c (c.seeds ++ seed ∷ []) body side v (turns_stay k c.key c.seeds seed) at.conversation.begun at.view
    (turned_waits k c (c.seeds ++ seed ∷ []) body side v at.view theirs
    (first_place c v.epoch at.conversation.begun last))
    (true_said k c side v content at) theirs room (omega arith) (omega (arith, length_push c.seeds seed))

-- and the other, which waits for it
peer_turned : (k : Mechanism) (c : Conversation) (side : Side) (v u : View) (seed : List ℕ) (body : Body)
    → IsLawfulConversation k c → IsLawfulView k c side v
    → IsLawfulView k c (peer_of side) u → is_own side v.epoch ≡ false
    → IsLawfulView k (with_turn c seed (v.epoch + 1) body) (peer_of side) u
peer_turned k c side v u seed body world lawful other peers =
    let last = at_last k c side v lawful peers in
    let reached : u.epoch ≡ length c.seeds =
    peer_at_last k c (peer_of side) u other (ap (is_own (peer_of side)) (sym last) ∙ own_peer side v.epoch ∙ ap not peers) in
    let more : length (c.seeds ++ seed ∷ []) ≡ length c.seeds + 1 = length_push c.seeds seed in
    let same : u.epoch ≡ v.epoch = omega arith in
    let mine = own_after side v.epoch peers in
    view-grown k c (c.seeds ++ seed ∷ []) (v.epoch + 1) body (peer_of side) u u.awaiting (turns_stay k c.key c.seeds seed)
    (omega arith) world.begun other
    (others_wait k c (c.seeds ++ seed ∷ []) (v.epoch + 1) body (peer_of side) u (turns_stay k c.key c.seeds seed) other
    (own_in k c (peer_of side) u (v.epoch + 1) false other (own_peer side (v.epoch + 1) ∙ ap not mine)))
    (λ theirs. absurd (not_others side (v.epoch + 1) mine theirs)) (omega arith)
    (no_other k c side u (v.epoch + 1) mine) (omega arith)
    (omega arith) (omega arith)
    (λ _. ap (λ t. is_own (peer_of side) (t + 1)) same ∙ own_peer side (v.epoch + 1) ∙ ap not mine)

next_lawful : (k : Mechanism) (w : World) (side : Side) (seed : List ℕ) (content : Content) → IsLawfulWorld k w
    → is_own side (view_of w side).epoch ≡ false → IsSeed k seed
    → content_check (side_format w.conversation.formats (view_of w side).side) content ≡ Ok tt
    → length (outbox_in k w side) < OUTBOX_LIMIT → (view_of w side).epoch < LAST_EPOCH
    → IsLawfulWorld k (said_next (drawn_in w) side seed content).next
next_lawful k w First seed content lawful peers pairs checked free room =
    let c = w.conversation in
    let at : StandsIn k c First w.first = record { conversation = lawful.conversation; view = lawful.first } in
    record {
      conversation = lawful_turn k c seed w.first.epoch (body_in c w.first content) lawful.conversation
          (at_last k c First w.first lawful.first peers) pairs
          (may_be_said k c First w.first (w.first.epoch + 1) content at (own_after First w.first.epoch peers) checked) room;
      first = mine_turned k c First w.first seed content at peers free;
      second = peer_turned k c First w.first w.second seed (body_in c w.first content) lawful.conversation lawful.first lawful.second peers;
      given = tt;
    }
next_lawful k w Second seed content lawful peers pairs checked free room =
    let c = w.conversation in
    let at : StandsIn k c Second w.second = record { conversation = lawful.conversation; view = lawful.second } in
    record {
      conversation = lawful_turn k c seed w.second.epoch (body_in c w.second content) lawful.conversation
          (at_last k c Second w.second lawful.second peers) pairs
          (may_be_said k c Second w.second (w.second.epoch + 1) content at (own_after Second w.second.epoch peers) checked) room;
      first = peer_turned k c Second w.second w.first seed (body_in c w.second content) lawful.conversation lawful.second lawful.first peers;
      second = mine_turned k c Second w.second seed content at peers free;
      given = tt;
    }

-- whether the seed has a pair or not: a draw was made
turn_lawful : (k : Mechanism) (w : World) (side : Side) (seed : List ℕ) (content : Content) (pair : Option (List ℕ × List ℕ))
    → IsLawfulWorld k w
    → is_own side (view_of w side).epoch ≡ false → length seed ≡ 32 → k.meaning.pair_of seed ≡ pair
    → content_check (side_format w.conversation.formats (view_of w side).side) content ≡ Ok tt
    → length (outbox_in k w side) < OUTBOX_LIMIT
    → (view_of w side).epoch < LAST_EPOCH
    → IsLawfulWorld k (if is_none pair then settled (drawn_in w) (Err NoPair) else said_next (drawn_in w) side seed content).next
turn_lawful k w side seed content None lawful peers long is checked free room = record {
  conversation = lawful.conversation;
  first = lawful.first;
  second = lawful.second;
  given = tt;
}
turn_lawful k w side seed content (Some pair) lawful peers long is checked free room =
    next_lawful k w side seed content lawful peers (record { long = long; pairs = ap is_some is }) checked free room

-- ---- the answer

saying_lawful : (k : Mechanism) (w : World) (side : Side) (content : Content) (r : Result Bool Refusal) → IsLawfulWorld k w
    → may_say k w side content ≡ r
    → IsLawfulWorld k (saying_in k w side content r).next
saying_lawful k w side content (Err refusal) lawful is = lawful
saying_lawful k w side content (Ok false) lawful is =
    here_lawful k w side content lawful (own_where k w side content false is)
    (may_say-where k w side content false is)
saying_lawful k w side content (Ok true) lawful is =
    let may = may_say-where k w side content true is in
    let seed = next_seed w.conversation.key w.draws in
    turn_lawful k w side seed content (k.meaning.pair_of seed) lawful (own_where k w side content true is)
    (length-next_seed w.conversation.key w.draws lawful.given) refl may.checked may.free
    (leb-false LAST_EPOCH (view_of w side).epoch may.room)

pub lawful_says : (k : Mechanism) (w : World) (side : Side) (content : Content) → IsLawfulWorld k w
    → IsLawfulWorld k (step_of k w (does side (says content))).next
lawful_says k w side content lawful = saying_lawful k w side content (may_say k w side content) lawful refl
