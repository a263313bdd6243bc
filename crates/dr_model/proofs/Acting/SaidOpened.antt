-- What was said is opened at its first arrival, whatever happens before.
use Rattle.std.proofs.Common.{Bool, Err, List, Ok, Result, [], ap, arith, false, not, refl, subst, sym, true, ℕ, ◌++◌, ◌∙◌, ◌∷◌, ◌≡◌}
use Rattle.std.specs.Prelude.{All, Option}
use Rattle.boxes.specs.Entries.{Entry, entry_with}
use Rattle.boxes.specs.Posts.{Post}
use Rattle.dr_base.proofs.Parity.{own_peer}
use Rattle.dr_base.specs.Position.{is_at, is_own, peer_of}
use Rattle.dr_base.specs.declared.position.Position.{Position}
use Rattle.dr_base.specs.declared.position.Side.{Side}
use Rattle.kem_laws.specs.Mechanism.{IsLawfulMechanism, Mechanism}
use Rattle.session_model.specs.Clients.{Client, TakenPacket, take_on}
use Rattle.session_model.specs.Contents.{Content}
use Rattle.session_model.specs.Sealing.{posted}
use Rattle.session_model.specs.declared.answer.Answer.TheVariants.{Opened, Refused, Said}
use Rattle.session_model.specs.declared.answer.Refusal.{Refusal}
use Rattle.dr_model.specs.Conversations.Conversation.{is_said}
use Rattle.dr_model.specs.Conversations.Posts.{post_at}
use Rattle.dr_model.specs.Conversations.Views.{View, entry_at, has_opened, history_of}
use Rattle.dr_model.specs.Machines.Acts.{saying, taken_by, taking}
use Rattle.dr_model.specs.Machines.Events.{Event, does, of_position, takes}
use Rattle.dr_model.specs.Machines.Steps.{Step, settled}
use Rattle.dr_model.specs.Machines.WorldActs.{act_in, kept_by}
use Rattle.dr_model.specs.Machines.WorldSides.{kept_in}
use Rattle.dr_model.specs.Machines.Worlds.{World, run_of, step_of, view_of}
use Rattle.dr_model.specs.Theorems.Acting.{IsFairAct}
use Rattle.dr_model.specs.Theorems.Fairness.{IsSeedWhole, IsUnforged}
use Rattle.dr_model.specs.Theorems.Headline.{IsNew, IsWithinLimits, times_opened_by}
use Rattle.dr_model.specs.Theorems.LawfulWorlds.{IsLawfulWorld}
use Rattle.dr_model.specs.Theorems.Spoken.{HasPacket, IsAwaited, IsSaidTo, OpensTo}
use Rattle.dr_model.proofs.Acting.ActsFollowing.{act_follows, lawful_act}
use Rattle.dr_model.proofs.Saying.Spoken.{Speaks, speaks}
use Rattle.dr_model.proofs.Secrets.LaterSecrets.{has_arrived}
use Rattle.dr_model.proofs.Taking.MadePositions.{position-post_at}
use Rattle.dr_model.proofs.Taking.PacketsApart.{by_bytes, real}
use Rattle.dr_model.proofs.Worlds.Counted.{count_some}
use Rattle.dr_model.proofs.Worlds.LastingPackets.{entries_last, packets_last}
use Rattle.dr_model.proofs.Worlds.LawfulWorlds.{lawful_run}
use Rattle.dr_model.proofs.Worlds.Runs.{first_arrival, opened, stands}
use Rattle.dr_model.proofs.Worlds.WorldViews.{view_lawful}

-- a session whose answer is so
session_opens : (kept next : Client) (made : Step Client) (p : Position) (r : Result TakenPacket Refusal)
    → settled kept (taken_by r) ≡ made → made.answer ≡ Opened p → made.next ≡ next
    → r ≡ Ok (record { position = p; next = next })
session_opens kept next made p (Err refusal) is answer then =
    absurd (let e : Refused refusal ≡ Opened p = ap (λ (m : Step Client). m.answer) is ∙ answer in cc)
session_opens kept next made p (Ok taken) is answer then =
    let at : Opened taken.position ≡ Opened p = ap (λ (m : Step Client). m.answer) is ∙ answer in
    let place : taken.position ≡ p = cc in
    let keeps : taken.next ≡ next = ap (λ (m : Step Client). m.next) is ∙ then in
    ap (λ (q : Position). Ok (record { position = q; next = taken.next })) place
    ∙ ap (λ (c : Client). Ok (record { position = p; next = c })) keeps

-- ---- a packet that stands in a world, and is awaited

module _ (k : Mechanism) (law : IsLawfulMechanism k) (u : World) (side : Side) (p : Position) (content : Content)
    (lawful : IsLawfulWorld k u) (said : is_said u.conversation p ≡ true) (peers : is_own side p.epoch ≡ false)
    (entry_is : entry_at u.conversation p ≡ entry_with p content.kind content.bytes)
    (unopened : has_opened (view_of u side) p ≡ false) (within : IsWithinLimits u side p) where
  abbrev packet : List ℕ
  packet = (post_at k u.conversation p).packet

  abbrev made : Step World
  made = act_in k u side (taking packet)

  new : IsNew u side p
  new = record { said = said; peers = peers; unopened = unopened }

  by_place : made ≡ step_of k u (does side (takes (of_position p)))
  by_place = by_bytes k u side p lawful said

  answer : made.answer ≡ Opened p
  answer = ap (λ (m : Step World). m.answer) by_place ∙ first_arrival k u side p new within

  has : has_opened (view_of made.next side) p ≡ true
  has = ap (λ (m : Step World). has_opened (view_of m.next side) p) by_place ∙ opened k u side p new within

  history : history_of made.next.conversation (view_of made.next side)
      ≡ history_of u.conversation (view_of u side) ++ entry_with p content.kind content.bytes ∷ []
  history = ap (λ (m : Step World). history_of m.next.conversation (view_of m.next side)) by_place
      ∙ stands k u side p new within
      ∙ ap (λ (e : Entry). history_of u.conversation (view_of u side) ++ e ∷ []) entry_is

  unforged : IsUnforged k u side packet
  unforged = real k u side p lawful said

  once : times_opened_by made.next side p ≡ 1
  once =
      let next : IsLawfulWorld k made.next = lawful_act k u side (taking packet) lawful unforged in
      let least = count_some (is_at p) (view_of made.next side).arrived has in
      let most = (view_lawful k made.next side next).once p in
      omega (arith, least, most)

  session : take_on k (kept_in k u side) packet
      ≡ Ok (record { position = p; next = kept_in k made.next side })
  session = session_opens (kept_in k u side) (kept_in k made.next side) (kept_by k side made) p
      (take_on k (kept_in k u side) packet) (act_follows k u side (taking packet) law lawful unforged) answer refl

-- ---- whatever happens from then on

module _ (k : Mechanism) (law : IsLawfulMechanism k) (w next : World) (side : Side) (content : Content) (p : Position)
    (before : IsLawfulWorld k w) (lawful : IsLawfulWorld k next) (is : Speaks k w next side content p) where
  abbrev peer : Side
  peer = peer_of side

  peers : is_own peer p.epoch ≡ false
  peers = own_peer side p.epoch ∙ ap not is.spoken.own

  fresh : has_opened (view_of next peer) p ≡ false
  fresh = by (has_opened (view_of w peer) p) refl
    where
      by : (b : Bool) → has_opened (view_of w peer) p ≡ b → has_opened (view_of next peer) p ≡ false
      by false isnt = ap (λ (v : View). has_opened v p) is.peer ∙ isnt
      by true has = absurd (let e : true ≡ false =
          sym (has_arrived w.conversation (view_of w peer) p (view_of w peer).arrived
          (view_lawful k w peer before).arrivals has).said ∙ is.free in cc)

  module _ (events : List Event) (whole : All IsSeedWhole events) where
    abbrev later : World
    later = run_of k next events

    stays : (is_said later.conversation p ≡ true) × (post_at k later.conversation p ≡ post_at k next.conversation p)
    stays = packets_last k next events p lawful whole is.spoken.said

    still : IsLawfulWorld k later
    still = lawful_run k next events lawful whole

    real_then : IsUnforged k later peer (post_at k next.conversation p).packet
    real_then = subst (λ (i : Post). IsUnforged k later peer i.packet) stays.1 (real k later peer p still stays.0)

    text_is : entry_at later.conversation p ≡ entry_with p content.kind content.bytes
    text_is = entries_last k next events p lawful whole is.spoken.said ∙ is.spoken.entry_is

    opens_then : IsAwaited later peer (post_at k next.conversation p)
        → OpensTo k later peer (post_at k next.conversation p) content
        (act_in k later peer (taking (post_at k next.conversation p).packet))
    unfolding posted
    opens_then awaited =
        subst (λ (i : Post). OpensTo k later peer i content (act_in k later peer (taking i.packet))) stays.1 (record {
          answer = answer k law later peer p content still stays.0 peers text_is awaited.unopened awaited.within;
          history = history k law later peer p content still stays.0 peers text_is awaited.unopened awaited.within;
          once = once k law later peer p content still stays.0 peers text_is awaited.unopened awaited.within;
          session = session k law later peer p content still stays.0 peers text_is awaited.unopened awaited.within;
        })

  said_to : IsSaidTo k w next side content (post_at k next.conversation p)
  said_to = record {
    outbox = is.outbox;
    stays = is.peer;
    unopened = subst (λ (q : Position). has_opened (view_of next peer) q ≡ false)
        (sym (position-post_at k next.conversation p)) fresh;
    real = real_then;
    opens = opens_then;
  }

pub said_is_opened : (k : Mechanism) → IsLawfulMechanism k → (w : World) (side : Side) (content : Content)
    (draw : Option (List ℕ)) (p : Position) → IsLawfulWorld k w → IsFairAct k w side (saying content draw)
    → (act_in k w side (saying content draw)).answer ≡ Said p
    → HasPacket k w (act_in k w side (saying content draw)).next side content p
said_is_opened k law w side content draw p lawful fair is = record {
  post = post_at k (act_in k w side (saying content draw)).next.conversation p;
  position = position-post_at k (act_in k w side (saying content draw)).next.conversation p;
  is = said_to k law w (act_in k w side (saying content draw)).next side content p lawful
      (lawful_act k w side (saying content draw) lawful fair) (speaks k w side content draw p lawful fair is);
}
