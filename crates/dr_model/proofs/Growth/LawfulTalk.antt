-- A lawful conversation with one text more is lawful.
use Rattle.std.proofs.Common.{◌≡◌, ℕ, ◌+◌, ◌<◌, ◌≤◌, true, List, [], ◌∷◌, ◌++◌, length, ap, inl, inr, arith}
use Rattle.std.specs.Prelude.{All}
use Rattle.std.proofs.lemmas.Bool.{cases_eq, cases_lt}
use Rattle.std.proofs.lemmas.List.{length_push}
use Rattle.std.proofs.lemmas.List.Elements.{All-push, All-weaker}
use Rattle.bodies.specs.Bodies.{Body}
use Rattle.dr_base.specs.declared.limits.TheConstants.{TEXT_LIMIT, INDEX_LIMIT, LAST_EPOCH}
use Rattle.kem_laws.specs.Mechanism.{Mechanism}
use Rattle.dr_model.specs.Conversations.Conversation.{Said, Conversation, count_of, with_text, with_turn}
use Rattle.dr_model.specs.Conversations.Lawful.{IsSeed, IsLawfulConversation}
use Rattle.dr_model.proofs.Growth.Growing.{grown, count-grown}
use Rattle.dr_model.proofs.Growth.Texts.{saying_of, count-here, count-grows}
use Rattle.dr_model.proofs.Saying.SayingTurn.{first_count, none_yet}
use Rattle.bodies.specs.Lawful.{IsLawfulBody}
use Rattle.dr_base.specs.Position.{peer_of, side_of}
use Rattle.dr_base.specs.declared.position.Position.{Position}
use Rattle.dr_model.specs.Conversations.Conversation.{body_at, is_said, receipt_at}
use Rattle.dr_model.specs.Conversations.Posts.{epoch_version}
use Rattle.dr_model.specs.Conversations.Receipts.{IsBounded}
use Rattle.dr_model.proofs.Receipts.Truth.{bounded_grown, each_body}

-- no epoch has too many texts, if its own hadn't
few-grown : (c : Conversation) (seeds : List (List ℕ)) (epoch : ℕ) (body : Body) → ((t : ℕ) → count_of c t ≤ INDEX_LIMIT)
    → count_of c epoch < INDEX_LIMIT
    → (t : ℕ) → count_of (grown c seeds epoch body) t ≤ INDEX_LIMIT
few-grown c seeds epoch body few room t =
    elim (cases_eq t epoch) as (λ _. count_of (grown c seeds epoch body) t ≤ INDEX_LIMIT) [
      | inl here ↦ omega (arith, ap (count_of (grown c seeds epoch body)) here, count-here c.said epoch body)
      | inr other ↦ omega (arith, count-grown c seeds epoch body t other, few t)
    ]

-- ---- what may be said next in an epoch

pub record MayBeSaid (c : Conversation) (epoch : ℕ) (body : Body) : Type 0 where
  pub short : length body.content ≤ TEXT_LIMIT
  pub lawful : IsLawfulBody (epoch_version c epoch) (peer_of (side_of epoch)) body
  pub bounded : IsBounded c body.receipt

lawful_bodies : (k : Mechanism) (c : Conversation) (seeds : List (List ℕ)) (epoch : ℕ) (body : Body)
    → IsLawfulConversation k c → MayBeSaid c epoch body → (p : Position) → is_said (grown c seeds epoch body) p ≡ true
    → IsLawfulBody (epoch_version c p.epoch) (peer_of (side_of p.epoch)) (body_at (grown c seeds epoch body) p)
lawful_bodies k c seeds epoch body lawful may =
    each_body c seeds epoch body (λ p said. IsLawfulBody (epoch_version c p.epoch) (peer_of (side_of p.epoch)) said)
    lawful.bodies may.lawful

bounded_bodies : (k : Mechanism) (c : Conversation) (seeds : List (List ℕ)) (epoch : ℕ) (body : Body)
    → length c.seeds ≤ length seeds → IsLawfulConversation k c → MayBeSaid c epoch body → (p : Position)
    → is_said (grown c seeds epoch body) p ≡ true
    → IsBounded (grown c seeds epoch body) (receipt_at (grown c seeds epoch body) p)
bounded_bodies k c seeds epoch body more lawful may =
    each_body c seeds epoch body (λ p said. IsBounded (grown c seeds epoch body) said.receipt)
    (λ p said. bounded_grown c seeds epoch body (receipt_at c p) more (lawful.bounded p said))
    (bounded_grown c seeds epoch body body.receipt more may.bounded)

-- in the epoch that stands
pub lawful_text : (k : Mechanism) (c : Conversation) (epoch : ℕ) (body : Body) → IsLawfulConversation k c
    → epoch ≤ length c.seeds → MayBeSaid c epoch body
    → count_of c epoch < INDEX_LIMIT → IsLawfulConversation k (with_text c epoch body)
lawful_text k c epoch body lawful within may room = record {
  begins = lawful.begins;
  turns = lawful.turns;
  few_turns = lawful.few_turns;
  short = All-push (λ (s : Said). length s.body.content ≤ TEXT_LIMIT) c.said (saying_of epoch body) lawful.short may.short;
  begun = All-push (λ (s : Said). s.epoch ≤ length c.seeds) c.said (saying_of epoch body) lawful.begun within;
  few = few-grown c c.seeds epoch body lawful.few room;
  some = λ t one last. omega (arith, lawful.some t one last, count-grows c.said epoch body t);
  bodies = lawful_bodies k c c.seeds epoch body lawful may;
  bounded = bounded_bodies k c c.seeds epoch body (omega arith) lawful may;
}

-- an epoch that stood, or the new one
some-grown : (c : Conversation) (seeds : List (List ℕ)) (n : ℕ) (body : Body) → All (λ s. s.epoch ≤ length c.seeds) c.said
    → n ≡ length c.seeds
    → ((t : ℕ) → 1 ≤ t → t ≤ length c.seeds → 1 ≤ count_of c t) → (t : ℕ) → 1 ≤ t → t ≤ n + 1
    → 1 ≤ count_of (grown c seeds (n + 1) body) t
some-grown c seeds n body begun last some t one most =
    elim (cases_lt n t) as (λ _. 1 ≤ count_of (grown c seeds (n + 1) body) t) [
      | inl beyond ↦
          let new : t ≡ n + 1 = omega arith in
          omega (arith, ap (count_of (grown c seeds (n + 1) body)) new, first_count c seeds n body begun last)
      | inr within ↦ omega (arith, some t one (omega arith), count-grows c.said (n + 1) body t)
    ]

-- one more is within the limit
one_more : (n m all most : ℕ) → n ≡ m → all ≡ m + 1 → n < most → all ≤ most
one_more n m all most last more below = omega arith

-- in an epoch that begins
pub lawful_turn : (k : Mechanism) (c : Conversation) (seed : List ℕ) (n : ℕ) (body : Body) → IsLawfulConversation k c
    → n ≡ length c.seeds → IsSeed k seed
    → MayBeSaid c (n + 1) body → n < LAST_EPOCH → IsLawfulConversation k (with_turn c seed (n + 1) body)
lawful_turn k c seed n body lawful last pairs may room =
    let seeds = c.seeds ++ seed ∷ [] in
    let more : length seeds ≡ length c.seeds + 1 = length_push c.seeds seed in
    record {
      begins = lawful.begins;
      turns = All-push (IsSeed k) c.seeds seed lawful.turns pairs;
      few_turns = one_more n (length c.seeds) (length seeds) LAST_EPOCH last more room;
      short = All-push (λ (s : Said). length s.body.content ≤ TEXT_LIMIT) c.said (saying_of (n + 1) body) lawful.short may.short;
      begun = All-push (λ (s : Said). s.epoch ≤ length seeds) c.said (saying_of (n + 1) body)
          (All-weaker (λ (s : Said). s.epoch ≤ length c.seeds) (λ s. s.epoch ≤ length seeds)
          (λ s h. omega arith) c.said lawful.begun) (omega arith);
      few = few-grown c seeds (n + 1) body lawful.few (omega (arith, none_yet c n lawful.begun last));
      some = λ t one most. some-grown c seeds n body lawful.begun last lawful.some t one (omega arith);
      bodies = lawful_bodies k c seeds (n + 1) body lawful may;
      bounded = bounded_bodies k c seeds (n + 1) body (omega arith) lawful may;
    }
