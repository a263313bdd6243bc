-- What was said stands at its position, as it was said, and its packet comes last in the outbox.
use Rattle.std.proofs.Common.{Bool, Err, List, None, Ok, Option, Result, Some, [], ap, arith, false, length, nat_le, refl, subst, true, ℕ, ◌&&◌, ◌++◌, ◌+◌, ◌∙◌, ◌∷◌, ◌≡◌, ◌≤◌, if◌then◌else◌}
use Rattle.std.specs.Prelude.{is_none}
use Rattle.std.proofs.lemmas.Bool.Decides.{nat_tests}
use Rattle.bodies.specs.Bodies.{Body}
use Rattle.boxes.specs.Entries.{entry_with}
use Rattle.dr_base.proofs.Parity.{own_after}
use Rattle.dr_base.specs.Position.{is_own, peer_of}
use Rattle.dr_base.specs.declared.position.Position.{Position}
use Rattle.dr_base.specs.declared.position.Side.{Side}
use Rattle.dr_base.specs.declared.position.Side.TheVariants.{First, Second}
use Rattle.dr_model.specs.Conversations.Conversation.{Conversation, bodies_of, is_said, next_position}
use Rattle.dr_model.specs.Conversations.Lawful.{IsLawfulConversation, IsLawfulView}
use Rattle.dr_model.specs.Conversations.Posts.{post_at}
use Rattle.dr_model.specs.Conversations.Receipts.{body_in}
use Rattle.dr_model.specs.Conversations.Views.{View, outbox_of}
use Rattle.dr_model.specs.Machines.Acts.{saying}
use Rattle.dr_model.specs.Machines.Draws.{after_draw, next_seed}
use Rattle.dr_model.specs.Machines.Steps.{settled}
use Rattle.dr_model.specs.Machines.WorldActs.{act_in, with_draw}
use Rattle.dr_model.specs.Machines.Worlds.{World, may_say, outbox_in, said_here, said_next, saying_in, view_of}
use Rattle.dr_model.specs.Theorems.Acting.{IsFairAct}
use Rattle.dr_model.specs.Theorems.LawfulWorlds.{IsLawfulWorld}
use Rattle.dr_model.specs.Theorems.Spoken.{IsSpoken}
use Rattle.dr_model.proofs.Acting.ActsFollowing.{lawful_for}
use Rattle.dr_model.proofs.Growth.Growing.{body_at-new, grown}
use Rattle.dr_model.proofs.Growth.Texts.{count-here}
use Rattle.dr_model.proofs.Growth.TurnGrowth.{SameTurns, turns_same, turns_stay}
use Rattle.dr_model.proofs.Saying.SayingChecks.{own_where}
use Rattle.dr_model.proofs.Saying.SayingText.{outbox_own}
use Rattle.dr_model.proofs.Saying.SayingTurn.{first_place}
use Rattle.dr_model.proofs.Worlds.WorldViews.{at_last, dropped_in, own_in}
use Rattle.kem_laws.specs.Mechanism.{Mechanism}
use Rattle.session_model.specs.Contents.{Content}
use Rattle.session_model.specs.declared.answer.Answer.TheVariants.{Refused, Said}
use Rattle.session_model.specs.declared.answer.Refusal.{Refusal}
use Rattle.session_model.specs.declared.answer.Refusal.TheVariants.{NoPair}

-- a side says a content at a position, which was free, and the other side stands as it stood
pub record Speaks (k : Mechanism) (w next : World) (side : Side) (content : Content) (p : Position) : Type 0 where
  pub spoken : IsSpoken next.conversation side content p
  pub free : is_said w.conversation p ≡ false
  pub outbox : outbox_in k next side ≡ outbox_in k w side ++ post_at k next.conversation p ∷ []
  pub peer : view_of next (peer_of side) ≡ view_of w (peer_of side)

new_within : (n m : ℕ) → m ≡ n + 1 → (nat_le 1 (n + 1) && nat_le (n + 1) m) ≡ true
new_within n m e = grind (arith, nat_tests)

new_beyond : (n : ℕ) → (nat_le 1 (n + 1) && nat_le (n + 1) n) ≡ false
new_beyond n = grind (arith, nat_tests)

said_place : (p q : Position) → Said p ≡ Said q → p ≡ q
said_place p q e = cc

-- ---- the new text of an epoch

module _ (k : Mechanism) (c : Conversation) (seeds : List (List ℕ)) (side : Side) (v : View) (epoch : ℕ)
    (content : Content) (p : Position) (own : is_own side epoch ≡ true) (at : next_position c.said epoch ≡ p) where
  abbrev body : Body
  body = body_in c v content

  abbrev after : Conversation
  after = grown c seeds epoch body

  new_text : IsSpoken after side content p
  new_text = subst (IsSpoken after side content) at (record {
    said = new_within _ _ (count-here c.said epoch body);
    entry_is = ap (λ (b : Body). entry_with (next_position c.said epoch) b.kind b.content)
        (body_at-new c seeds epoch body);
    own = own;
  })

  new_place : is_said c p ≡ false
  new_place = subst (λ (q : Position). is_said c q ≡ false) at (new_beyond (length (bodies_of c.said epoch)))

  new_packet : IsLawfulConversation k c → IsLawfulView k c side v → SameTurns k c.key c.seeds seeds
      → length c.seeds ≤ epoch + 1 → outbox_of k after v ≡ outbox_of k c v ++ post_at k after p ∷ []
  new_packet lawful view same late =
      outbox_own k c seeds epoch body v same late lawful.begun (own_in k c side v epoch true view own)
      (dropped_in k c side v view)
      ∙ ap (λ (q : Position). outbox_of k c v ++ post_at k after q ∷ []) at

-- ---- in a world

module _ (k : Mechanism) (w : World) (content : Content) (p : Position) (lawful : IsLawfulWorld k w) where
  here : (side : Side) → is_own side (view_of w side).epoch ≡ true
      → (said_here w side content).answer ≡ Said p
      → Speaks k w (said_here w side content).next side content p
  here First own is =
      let c = w.conversation in
      let at = said_place _ p is in
      record {
        spoken = new_text k c c.seeds First w.first w.first.epoch content p own at;
        free = new_place k c c.seeds First w.first w.first.epoch content p own at;
        outbox = new_packet k c c.seeds First w.first w.first.epoch content p own at lawful.conversation
            lawful.first (turns_same k c.key c.seeds) lawful.first.near_end;
        peer = refl;
      }
  here Second own is =
      let c = w.conversation in
      let at = said_place _ p is in
      record {
        spoken = new_text k c c.seeds Second w.second w.second.epoch content p own at;
        free = new_place k c c.seeds Second w.second w.second.epoch content p own at;
        outbox = new_packet k c c.seeds Second w.second w.second.epoch content p own at lawful.conversation
            lawful.second (turns_same k c.key c.seeds) lawful.second.near_end;
        peer = refl;
      }

  module _ (seed : List ℕ) where
    abbrev drawn : World
    drawn = record w { draws = after_draw w.draws }

    next : (side : Side) → is_own side (view_of w side).epoch ≡ false
        → (said_next drawn side seed content).answer ≡ Said p
        → Speaks k w (said_next drawn side seed content).next side content p
    next First peers is =
        let c = w.conversation in
        let more = c.seeds ++ seed ∷ [] in
        let last = at_last k c First w.first lawful.first peers in
        let own = own_after First w.first.epoch peers in
        let at = first_place c w.first.epoch lawful.conversation.begun last ∙ said_place _ p is in
        record {
          spoken = new_text k c more First w.first (w.first.epoch + 1) content p own at;
          free = new_place k c more First w.first (w.first.epoch + 1) content p own at;
          outbox = new_packet k c more First w.first (w.first.epoch + 1) content p own at lawful.conversation
              lawful.first (turns_stay k c.key c.seeds seed) (omega (arith, lawful.first.near_end));
          peer = refl;
        }
    next Second peers is =
        let c = w.conversation in
        let more = c.seeds ++ seed ∷ [] in
        let last = at_last k c Second w.second lawful.second peers in
        let own = own_after Second w.second.epoch peers in
        let at = first_place c w.second.epoch lawful.conversation.begun last ∙ said_place _ p is in
        record {
          spoken = new_text k c more Second w.second (w.second.epoch + 1) content p own at;
          free = new_place k c more Second w.second (w.second.epoch + 1) content p own at;
          outbox = new_packet k c more Second w.second (w.second.epoch + 1) content p own at
              lawful.conversation lawful.second (turns_stay k c.key c.seeds seed)
              (omega (arith, lawful.second.near_end));
          peer = refl;
        }

    by_pair : (side : Side) (none : Bool) → is_own side (view_of w side).epoch ≡ false
        → (if none then settled drawn (Err NoPair) else said_next drawn side seed content).answer
        ≡ Said p
        → Speaks k w (if none then settled drawn (Err NoPair) else said_next drawn side seed content).next side content p
    by_pair side true peers is = absurd (let e : Refused NoPair ≡ Said p = is in cc)
    by_pair side false peers is = next side peers is

  by_check : (side : Side) (r : Result Bool Refusal) → may_say k w side content ≡ r
      → (saying_in k w side content r).answer ≡ Said p
      → Speaks k w (saying_in k w side content r).next side content p
  by_check side (Err refusal) check is = absurd (let e : Refused refusal ≡ Said p = is in cc)
  by_check side (Ok false) check is = here side (own_where k w side content false check) is
  by_check side (Ok true) check is =
      let seed = next_seed w.conversation.key w.draws in
      by_pair seed side (is_none (k.meaning.pair_of seed)) (own_where k w side content true check) is

-- the draw is no part of it
same_draw : (k : Mechanism) (w now : World) (side : Side) (content : Content) (p : Position) (draw : Option (List ℕ))
    → Speaks k (with_draw w draw) now side content p → Speaks k w now side content p
same_draw k w now side content p None is = is
same_draw k w now First content p (Some seed) is =
    record { spoken = is.spoken; free = is.free; outbox = is.outbox; peer = is.peer }
same_draw k w now Second content p (Some seed) is =
    record { spoken = is.spoken; free = is.free; outbox = is.outbox; peer = is.peer }

pub speaks : (k : Mechanism) (w : World) (side : Side) (content : Content) (draw : Option (List ℕ)) (p : Position)
    → IsLawfulWorld k w → IsFairAct k w side (saying content draw)
    → (act_in k w side (saying content draw)).answer ≡ Said p
    → Speaks k w (act_in k w side (saying content draw)).next side content p
speaks k w side content draw p lawful fair is =
    let v = with_draw w draw in
    same_draw k w (act_in k w side (saying content draw)).next side content p draw
    (by_check k v content p (lawful_for k w side (saying content draw) lawful fair) side (may_say k v side content) refl is)

pub spoken : (k : Mechanism) (w : World) (side : Side) (content : Content) (draw : Option (List ℕ)) (p : Position)
    → IsLawfulWorld k w → IsFairAct k w side (saying content draw)
    → (act_in k w side (saying content draw)).answer ≡ Said p
    → IsSpoken (act_in k w side (saying content draw)).next.conversation side content p
spoken k w side content draw p lawful fair is = (speaks k w side content draw p lawful fair is).spoken
