-- What a peer answers to the packet that a fan of the hub's has for it.
use Rattle.std.proofs.Common.{Err, List, Ok, Option, Result, Some, [], ap, arith, false, length, refl, subst, suc, sym, true, ℕ, ◌++◌, ◌<◌, ◌∙◌, ◌∷◌, ◌≡◌, ◌≤◌}
use Rattle.std.specs.Prelude.{IsOk, slice_get}
use Rattle.std.proofs.lemmas.List.Elements.{All-nil}
use Rattle.bodies.specs.declared.format.Format.TheVariants.{Plain}
use Rattle.book.proofs.Worlds.Led.{named_after}
use Rattle.book.proofs.Worlds.Reached.{reaches_all}
use Rattle.book.proofs.Worlds.SaidIn.{answer_is}
use Rattle.book.specs.FanStepping.{fan_act, fan_name}
use Rattle.book.specs.FanWorlds.{NamedWorlds, ReachesAll, ReachesPeer}
use Rattle.book.specs.Fans.{Fan, Says, fan_seed, fanned_rows}
use Rattle.book.specs.RowKeepings.{kept_of, known_name, name_of}
use Rattle.book_model.specs.Rows.{Row, Rows, under}
use Rattle.boxes.specs.Posts.{Post}
use Rattle.client.proofs.Beginnings.{kept_first}
use Rattle.client.specs.Beginning.{HasPair, begun_client}
use Rattle.dr_base.specs.Position.{position_at}
use Rattle.dr_base.specs.declared.limits.TheConstants.{KEPT_LIMIT}
use Rattle.dr_base.specs.declared.position.Position.{Position}
use Rattle.dr_base.specs.declared.position.Side.{Side}
use Rattle.dr_base.specs.declared.position.Side.TheVariants.{First, Second}
use Rattle.dr_model.proofs.Worlds.OpeningWorlds.{lawful_opening}
use Rattle.dr_model.specs.Conversations.Conversation.{Conversation}
use Rattle.dr_model.specs.Conversations.Formats.{formats_of}
use Rattle.dr_model.specs.Conversations.Indices.{missing_to, reach}
use Rattle.dr_model.specs.Conversations.Views.{View, after_opening, missing_below, missing_of, opening_view}
use Rattle.dr_model.specs.Machines.WorldActs.{act_in}
use Rattle.dr_model.specs.Machines.WorldSides.{kept_in}
use Rattle.dr_model.specs.Machines.Worlds.{World}
use Rattle.dr_model.specs.Theorems.Acting.{ActsFollow}
use Rattle.dr_model.specs.Theorems.Fairness.{IsSeedWhole}
use Rattle.dr_model.specs.Theorems.Headline.{IsWithinLimits, would_miss}
use Rattle.dr_model.specs.Theorems.LawfulWorlds.{IsLawfulWorld}
use Rattle.dr_model.specs.Theorems.Spoken.{IsAwaited, SaidIsOpened}
use Rattle.kem_laws.specs.Mechanism.{Mechanism}
use Rattle.ratchet.specs.Seen.{seed_bytes}
use Rattle.session_model.specs.Clients.{Client, SaidText, say_on, take_on}
use Rattle.session_model.specs.Contents.{text_content}
use Rattle.session_model.specs.declared.answer.Answer.TheVariants.{Opened, Said}
use Rattle.session_model.specs.declared.answer.Refusal.{Refusal}
use Rattle.hub.specs.Peers.{hello, hub_begin, peer_begin, peer_key, peer_name}
use Rattle.hub.specs.Leaving.{HubFan, fan_in}
use Rattle.hub.specs.Receiving.{answer_of, answer_to, answer_to_post, first_post, taken_answer}
use Rattle.hub.proofs.HubFans.{all, row_is, whole}
use Rattle.hub.proofs.FirstSaid.{first_position}
use Rattle.hub.proofs.HubWorlds.{onlys, side_is, stands, world_is, world_of, worlds_of}
use Rattle.hub.proofs.Placing.{places_long}

-- nothing is missed before it
none_missed : (c : Conversation) → missing_of c (after_opening c (opening_view Second) (position_at 1 1)) ≡ []
unfolding missing_below missing_to reach
none_missed c = refl

module _ (k : Mechanism) (follow : ActsFollow k) (opens : SaidIsOpened k) (peers : ℕ) (few : peers ≤ 8)
    (pairs : (number : ℕ) → 1 ≤ number → number ≤ peers → HasPair k (hub_begin number)) (hub : HubFan k peers) where
  abbrev fan : Fan
  fan = fan_in k peers hub

  abbrev kept : ℕ → Client
  kept number = begun_client k (hub_begin number)

  abbrev pub said_rows : Rows Client
  said_rows = fanned_rows k fan (length fan.list)

  abbrev after : NamedWorlds
  after = named_after k fan (worlds_of peers) (length fan.list)

  reach_all : ReachesAll k fan said_rows (worlds_of peers) after
  reach_all = reaches_all k follow opens fan (all k peers hub few) (whole k peers hub) (onlys k peers few) (worlds_of peers)
      (stands k peers few pairs peers (omega arith))

  -- ---- one of them

  module _ (j : ℕ) (lt : j < peers) where
    inside : j < length fan.list
    inside = omega (arith, lt, places_long peers)

    name_is : fan_name fan j ≡ peer_name (suc j)
    name_is = ap (λ (o : Option (Row Client)). known_name (name_of o)) (row_is k peers hub j lt)

    abbrev w : World
    w = world_of (suc j)

    abbrev v : World
    v = after.world (fan_name fan j)

    pub reaches : ReachesPeer k fan said_rows j First w v
    reaches =
        subst (λ (s : Side). ReachesPeer k fan said_rows j s w v) (side_is peers (fan_name fan j))
        (subst (λ (u : World). ReachesPeer k fan said_rows j ((worlds_of peers).side (fan_name fan j)) u v)
        (ap (λ (l : List ℕ). (worlds_of peers).world l) name_is ∙ world_is peers j lt few)
        (reach_all.reaches j inside))

    lawful : IsLawfulWorld k w
    lawful = lawful_opening k (peer_key (suc j)).bytes (formats_of First Plain Plain)
        (pairs (suc j) (omega arith) (omega (arith, lt)))

    keeps : kept (suc j) ≡ kept_in k w First
    keeps = kept_first k (hub_begin (suc j)) Plain

    -- the peer keeps what it began with
    peer_keeps : kept_in k v Second ≡ begun_client k (peer_begin (suc j))
    peer_keeps =
        ap (λ (u : World). kept_in k u Second) reaches.leads
        ∙ follow.others w First (fan_act fan j) lawful reaches.fair
        ∙ sym (kept_first k (peer_begin (suc j)) Plain)

    says : Says k hello (kept (suc j)) (fan_seed fan j)
    says = subst (λ (o : Option (Row Client)). Says k hello (kept_of o) (fan_seed fan j)) (row_is k peers hub j lt) ((all k peers hub few).say j inside)

    by_said : (r : Result SaidText Refusal) → say_on k (kept (suc j)) (text_content hello) (seed_bytes (fan_seed fan j)) ≡ r
        → IsOk r → (act_in k w First (fan_act fan j)).answer ≡ Said (position_at 1 1)
    by_said (Ok said) is ok =
        answer_is k follow hello w First (kept (suc j)) (fan_seed fan j) lawful keeps says (whole k peers hub j inside) said is
        ∙ ap Said (first_position k (suc j) hello (seed_bytes (fan_seed fan j)) said is)
    by_said (Err refusal) is ok = absurd (let e : false ≡ true = ok in cc)

    position_is : reaches.post.position ≡ position_at 1 1
    position_is =
        let e : Said reaches.post.position ≡ Said (position_at 1 1) =
        sym reaches.answer
        ∙ by_said (say_on k (kept (suc j)) (text_content hello) (seed_bytes (fan_seed fan j))) refl says.said in
        cc

    -- its packet is within the limits
    near : would_miss v Second (position_at 1 1) ≤ KEPT_LIMIT
    near = subst
        (λ (view : View). length (missing_of v.conversation (after_opening v.conversation view (position_at 1 1))) ≤ KEPT_LIMIT)
        (sym reaches.is.stays)
        (omega (arith, ap (λ (l : List Position). length l) (none_missed v.conversation)))

    awaited : IsAwaited v Second reaches.post
    awaited = record {
      unopened = reaches.is.unopened;
      within = subst (λ (p : Position). IsWithinLimits v Second p) (sym position_is) (record {
        near = near;
        room = omega (arith, ap (λ (c : Client). length c.inbox) peer_keeps);
      });
    }

    opened : answer_to k (suc j) reaches.post.packet ≡ Opened (position_at 1 1)
    opened =
        ap (λ (c : Client). taken_answer (take_on k c reaches.post.packet)) (sym peer_keeps)
        ∙ ap taken_answer (reaches.is.opens [] (All-nil IsSeedWhole) awaited).session
        ∙ ap Opened position_is

    pub has_post : first_post (under (peer_name (suc j)) said_rows) ≡ Some reaches.post
    has_post =
        ap first_post (ap (λ (l : List ℕ). under l said_rows) (sym name_is) ∙ reaches.keeps)
        ∙ ap (λ (l : List Post). slice_get l 0)
        (reaches.is.outbox ∙ ap (λ (c : Client). c.outbox ++ reaches.post ∷ []) (sym keeps))

    pub peer_opens : answer_of k (suc j) said_rows ≡ Opened (position_at 1 1)
    peer_opens = ap (answer_to_post k (suc j)) has_post ∙ opened
