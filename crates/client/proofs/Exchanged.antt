-- The moments of an exchange are linked, and what is taken in it is honest.
use Rattle.std.proofs.Common.{List, None, Option, Some, [], ap, arith, inl, refl, subst, suc, sym, true, zero, ℕ, ◌+◌, ◌∙◌, ◌∷◌, ◌≡◌}
use Rattle.std.specs.Prelude.{slice_get, slice_index_or}
use Rattle.boxes.specs.Posts.{Post}
use Rattle.dr_base.specs.declared.position.Side.{Side}
use Rattle.dr_base.specs.declared.position.Side.TheVariants.{First, Second}
use Rattle.dr_disk.specs.State.{Always, DiskState, IsLawful}
use Rattle.dr_model.specs.Conversations.Views.{has_opened}
use Rattle.dr_model.specs.Machines.Acts.{saying, taking}
use Rattle.dr_model.specs.Machines.WorldActs.{act_in}
use Rattle.dr_model.specs.Machines.WorldSides.{kept_in}
use Rattle.dr_model.specs.Machines.Worlds.{World, made_at, view_of}
use Rattle.dr_model.specs.Theorems.Acting.{ActsFollow, IsFairAct}
use Rattle.dr_model.specs.Theorems.Fairness.{IsUnforged}
use Rattle.dr_model.proofs.Taking.MadePositions.{position-post_at}
use Rattle.dr_model.proofs.Taking.PacketsApart.{made_at-post, real}
use Rattle.dr_ports.specs.States.{DrawsState}
use Rattle.kem_laws.specs.Mechanism.{IsLawfulMechanism, Mechanism}
use Rattle.session_model.specs.Contents.{Content}
use Rattle.session_model.specs.Clients.{Client}
use Rattle.session_model.specs.declared.answer.Answer.{Answer}
use Rattle.session_model.specs.declared.answer.Answer.TheVariants.{Opened, Said}
use Rattle.client.specs.Cells.{client_cell}
use Rattle.client.specs.Clients.{ClientNow}
use Rattle.client.specs.Exchanges.{Call, IsExchange, IsHistory}
use Rattle.client.specs.InWorlds.{ActsIn, IsIn, StandsFor}
use Rattle.client.specs.Moments.{Known, Link, settled_in, was_acknowledged, was_left, was_moved, was_opened}
use Rattle.client.specs.Outcomes.{Outcome, acknowledged, undrawn}
use Rattle.client.specs.Saying.{SaysIn, acted, stayed}
use Rattle.client.proofs.Ahead.{moves_settled, stands_ahead}
use Rattle.client.proofs.OnePacket.{IsPosted, got, posted_all}
use Rattle.client.proofs.Spending.{taken_made, taken_used}

-- ---- a list of moments, with a link from each to the next

module _ {X : Type 0} (state : X → DiskState) (k : Mechanism) (side : Side) where
  abbrev Chain : List X → List Known → Type 0
  Chain (x ∷ y ∷ xs) (a ∷ b ∷ ks) = Link k side (state x) (state y) a b × Chain (y ∷ xs) (b ∷ ks)
  Chain (x ∷ []) (a ∷ []) = Unit {0}
  Chain xs ks = ⊥

  linked_by : (xs : List X) (ks : List Known) (d : Known) → Chain xs ks → (n : ℕ) (x y : X) → slice_get xs n ≡ Some x
      → slice_get xs (suc n) ≡ Some y → Link k side (state x) (state y) (slice_index_or ks n d) (slice_index_or ks (suc n) d)
  linked_by [] ks d chain n x y here next = absurd (let e : None ≡ Some x = here in cc)
  linked_by (x' ∷ []) ks d chain n x y here next = absurd (let e : None ≡ Some y = next in cc)
  linked_by (x' ∷ y' ∷ xs) [] d chain n x y here next = absurd chain
  linked_by (x' ∷ y' ∷ xs) (a ∷ []) d chain n x y here next = absurd chain
  linked_by (x' ∷ y' ∷ xs) (a ∷ b ∷ ks) d chain zero x y here next =
      let one : x' ≡ x = let e : Some x' ≡ Some x = here in cc in
      let two : y' ≡ y = let e : Some y' ≡ Some y = next in cc in
      subst (λ v. Link k side (state v) (state y) a b) one (subst (λ v. Link k side (state x') (state v) a b) two chain.0)
  linked_by (x' ∷ y' ∷ xs) (a ∷ b ∷ ks) d chain (suc n) x y here next = linked_by (y' ∷ xs) (b ∷ ks) d chain.1 n x y here next

-- ---- a text that was said

record IsSaid (k : Mechanism) (w : World) (side : Side) (content : Content) (old new : ClientNow) (start now : DiskState) (answer : Answer)
    : Type 0 where
  draw : Option (List ℕ)
  fair : IsFairAct k w side (saying content draw)
  acts : ActsIn k w side (saying content draw) old new start now (acknowledged answer)

said_in : {V : Type 0} (draws : V → DrawsState) (k : Mechanism) (w : World) (side : Side) (content : Content)
    (old new : ClientNow) (start now : DiskState) (source left : V) (answer : Answer) (outcome : Outcome) → outcome ≡ acknowledged answer
    → old.closed ≡ None → SaysIn draws k w side content old new start now source left outcome
    → IsSaid k w side content old new start now answer
said_in draws k w side content old new start now source left answer outcome is unclosed (acted ending draw drawn fair acts) = record {
  draw = draw;
  fair = fair unclosed;
  acts = subst (ActsIn k w side (saying content draw) old new start now) is acts;
}
said_in draws k w side content old new start now source left answer outcome is unclosed (stayed asks rose same stays) =
    absurd (let e : undrawn ≡ acknowledged answer = is in cc)

-- ---- a packet that stands in a client's outbox

module _ (k : Mechanism) (w : World) (side : Side) (client : ClientNow) (is : IsIn k w side client) (at : ℕ) (post : Post)
    (stands : slice_get client.kept.outbox at ≡ Some post) where
  posted : IsPosted k w.conversation post
  posted =
      got (IsPosted k w.conversation) (kept_in k w side).outbox at post (posted_all k w.conversation (view_of w side))
      (ap (λ (c : Client). slice_get c.outbox at) (sym is.keeps) ∙ stands)

  -- nobody forged it
  honest_for : (taker : Side) → IsUnforged k w taker post.packet
  honest_for taker =
      subst (λ (i : Post). IsUnforged k w taker i.packet) (sym posted.is) (real k w taker posted.place is.lawful posted.said)

  made : made_at k w post.packet ≡ Some post.position
  made =
      ap (λ (i : Post). made_at k w i.packet) posted.is ∙ made_at-post k w posted.place is.lawful posted.said
      ∙ ap Some (sym (position-post_at k w.conversation posted.place) ∙ ap (λ (i : Post). i.position) (sym posted.is))

-- a side of a world is one of the world that the other side's act leads to
module _ (k : Mechanism) (follow : ActsFollow k) where
  second_ahead : (w : World) (content : Content) (draw : Option (List ℕ)) (client : ClientNow) → IsIn k w Second client
      → IsFairAct k w First (saying content draw) → IsIn k (act_in k w First (saying content draw)).next Second client
  second_ahead w content draw client is fair = record {
    lawful = follow.lawful w First (saying content draw) is.lawful fair;
    keeps = is.keeps ∙ sym (follow.others w First (saying content draw) is.lawful fair);
  }

-- ---- the exchange

module _ {D E V : Type 0} (state : D → DiskState) (lawful : (d : D) → IsLawful (state d)) (peers : E → DiskState)
    (draws : V → DrawsState) (k : Mechanism) (law : IsLawfulMechanism k) (follow : ActsFollow k) (w : World)
    (asks : Call D) (hears answers : Call E) (crashed : D) (reads : Call D) (question answer : Post)
    (happens : IsExchange state peers draws k asks hears answers crashed reads question answer)
    (first : IsIn k w First asks.old) (second : IsIn k w Second hears.old) (rests : Always (StandsFor k w First) (state asks.start)) where
  asked : IsSaid k w First happens.content asks.old asks.new (state asks.start) (state asks.now) (Said happens.asked.position)
  asked =
      said_in draws k w First happens.content asks.old asks.new (state asks.start) (state asks.now) happens.asked.source
      happens.asked.left (Said happens.asked.position) (acknowledged (Said happens.asked.position)) refl happens.asked.was_open
      (happens.asked.says w First first)

  abbrev w1 : World
  w1 = (act_in k w First (saying happens.content asked.draw)).next

  -- Second takes it
  heard_fair : IsUnforged k w1 Second question.packet
  heard_fair = honest_for k w1 First asks.new asked.acts.1 happens.asked.at question happens.asked.stands Second

  heard : ActsIn k w1 Second (taking question.packet) hears.old hears.new (peers hears.start) (peers hears.now) (acknowledged (Opened happens.heard.position))
  heard = happens.heard.takes w1 Second (second_ahead k follow w happens.content asked.draw hears.old second asked.fair) heard_fair

  abbrev w2 : World
  w2 = (act_in k w1 Second (taking question.packet)).next

  -- and says a text
  answered : IsSaid k w2 Second happens.reply answers.old answers.new (peers answers.start) (peers answers.now) (Said happens.answered.position)
  answered =
      said_in draws k w2 Second happens.reply answers.old answers.new (peers answers.start) (peers answers.now)
      happens.answered.source happens.answered.left (Said happens.answered.position) (acknowledged (Said happens.answered.position)) refl
      happens.answered.was_open
      (happens.answered.says w2 Second (subst (IsIn k w2 Second) (sym happens.again) heard.1))

  abbrev w3 : World
  w3 = (act_in k w2 Second (saying happens.reply answered.draw)).next

  -- First keeps what it kept
  kept_then : kept_in k w3 First ≡ kept_in k w1 First
  kept_then =
      follow.others w2 Second (saying happens.reply answered.draw) heard.1.lawful answered.fair
      ∙ follow.others w1 Second (taking question.packet) asked.acts.1.lawful heard_fair

  crash_stands : Always (StandsFor k w3 First) (state crashed)
  crash_stands c left =
      stands_ahead client_cell k law follow First w3 w1 c kept_then
      (asked.acts.3 c (happens.crashes c left))

  -- is opened
  opened : IsIn k w3 First reads.old × Always (StandsFor k w3 First) (state reads.start)
  opened =
      (happens.opens w3 First answered.acts.1.lawful (record {
        bytes = happens.read;
        told = happens.told;
        stands = crash_stands happens.read ((lawful crashed).seen_now happens.read happens.told);
      })).client

  -- and takes it
  took_fair : IsUnforged k w3 First answer.packet
  took_fair = honest_for k w3 Second answers.new answered.acts.1 happens.answered.at answer happens.answered.stands First

  took : ActsIn k w3 First (taking answer.packet) reads.old reads.new (state reads.start) (state reads.now) (acknowledged (Opened happens.took.position))
  took = happens.took.takes w3 First opened.0 took_fair

  abbrev w4 : World
  w4 = (act_in k w3 First (taking answer.packet)).next

  abbrev all_known : List Known
  all_known = settled_in w ∷ settled_in w1 ∷ settled_in w2 ∷ settled_in w3 ∷ settled_in w3 ∷ settled_in w3 ∷ settled_in w4 ∷ []

  abbrev moments : List D
  moments = asks.start ∷ asks.now ∷ asks.now ∷ asks.now ∷ crashed ∷ reads.start ∷ reads.now ∷ []

  chain : Chain state k First moments all_known
  chain =
      let says = was_acknowledged (settled_in w) w (inl refl) (saying happens.content asked.draw) asked.fair asked.acts.3 in
      let peer_takes = was_moved (settled_in w1) (settled_in w2)
      (moves_settled client_cell k law follow First w1 (taking question.packet) asked.acts.1.lawful heard_fair) (λ c left. inl left) in
      let peer_says = was_moved (settled_in w2) (settled_in w3)
      (moves_settled client_cell k law follow First w2 (saying happens.reply answered.draw) heard.1.lawful answered.fair) (λ c left. inl left) in
      let crashes = was_left (settled_in w3) (λ c left. inl (happens.crashes c left)) in
      let opens = was_opened (settled_in w3) w3 (inl refl) opened.1 in
      let takes = was_acknowledged (settled_in w3) w3 (inl refl) (taking answer.packet) took_fair took.3 in
      (says, (peer_takes, (peer_says, (crashes, (opens, (takes, tt))))))

  made_there : made_at k w3 answer.packet ≡ Some answer.position
  made_there = made k w3 Second answers.new answered.acts.1 happens.answered.at answer happens.answered.stands

  same_position : happens.took.position ≡ answer.position
  same_position =
      let e : Some happens.took.position ≡ Some answer.position = sym (taken_made k w3 First answer.packet happens.took.position took.0) ∙ made_there in cc

  pub history : IsHistory state k w asks crashed reads answer
  history = record {
    known = λ n. slice_index_or all_known n (settled_in w4);
    linked = record {
      begins = refl;
      stands = λ a is. let same : asks.start ≡ a = let e : Some asks.start ≡ Some a = is in cc in subst (λ d. Always (StandsFor k w First) (state d)) same rests;
      links = λ n a b here next.
          let one : n + 1 ≡ suc n = omega arith in
          subst (λ m. Link k First (state a) (state b) (slice_index_or all_known n (settled_in w4)) (slice_index_or all_known m (settled_in w4))) (sym one)
          (linked_by state k First moments all_known (settled_in w4) chain n a b here (ap (slice_get moments) (sym one) ∙ next));
    };
    opened = w3;
    there = refl;
    honest = made_there;
    unforged = took_fair;
    last = w4;
    ends = refl;
    is_in = took.1;
    has = subst (λ p. has_opened (view_of w4 First) p ≡ true) same_position (taken_used k w3 First answer.packet happens.took.position took.0);
  }
