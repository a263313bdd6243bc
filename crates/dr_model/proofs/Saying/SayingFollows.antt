-- Where a side says a text, both sides keep what the world says.
use Rattle.std.proofs.Common.{◌≡◌, ℕ, ◌+◌, true, false, Bool, not, List, [], ◌∷◌, ◌++◌, length, Option, Some, None, Result, Ok, Err, refl, sym, ◌∙◌, ap, ap₂, if◌then◌else◌, arith}
use Rattle.std.specs.Prelude.{is_none, is_some}
use Rattle.bodies.specs.Bodies.{Body}
use Rattle.boxes.specs.Posts.{Post}
use Rattle.dr_base.specs.Position.{is_own, peer_of}
use Rattle.dr_base.specs.declared.position.Side.{Side}
use Rattle.dr_base.specs.declared.position.Side.TheVariants.{First, Second}
use Rattle.dr_base.proofs.Parity.{own_after, own_peer}
use Rattle.kem_laws.specs.Mechanism.{Mechanism, IsLawfulMechanism}
use Rattle.session_model.specs.Contents.{Content}
use Rattle.session_model.specs.Clients.{Client, say_on}
use Rattle.session_model.specs.Sealing.{posted}
use Rattle.session_model.specs.declared.answer.Answer.TheVariants.{Said}
use Rattle.session_model.specs.declared.answer.Refusal.{Refusal}
use Rattle.session_model.specs.declared.answer.Refusal.TheVariants.{NoPair}
use Rattle.dr_model.specs.Conversations.Conversation.{Conversation, next_position, with_text, with_turn}
use Rattle.dr_model.specs.Conversations.Lawful.{IsLawfulConversation, IsLawfulView}
use Rattle.dr_model.specs.Conversations.Posts.{post_at, posts}
use Rattle.dr_model.specs.Conversations.ViewStates.{client_at}
use Rattle.dr_model.specs.Conversations.Receipts.{body_in}
use Rattle.dr_model.specs.Conversations.Views.{View, after_turn}
use Rattle.dr_model.specs.Machines.Draws.{Draws, next_seed, after_draw}
use Rattle.dr_model.specs.Machines.Events.{does, says}
use Rattle.dr_model.specs.Machines.Sides.{Sides, client_of, said_on, saying_on, step_on}
use Rattle.dr_model.specs.Machines.Steps.{step, settled}
use Rattle.dr_model.specs.Machines.WorldSides.{sides_of}
use Rattle.dr_model.specs.Machines.Worlds.{World, view_of, may_say, said_here, said_next, saying_in, step_of}
use Rattle.dr_model.specs.Theorems.LawfulWorlds.{IsLawfulWorld}
use Rattle.dr_model.proofs.Growth.GrowingStates.{client-grown}
use Rattle.dr_model.proofs.Growth.TurnGrowth.{posts-grown, turns_same, turns_stay}
use Rattle.dr_model.proofs.Saying.SayingChecks.{own_where, same_check}
use Rattle.dr_model.proofs.Saying.SayingText.{said_view, say_on-own}
use Rattle.dr_model.proofs.Saying.SayingTurn.{first_place, say_on-turn, say_on-none}
use Rattle.dr_model.proofs.Worlds.SeenWorlds.{seen_world}
use Rattle.dr_model.proofs.Worlds.WorldViews.{own_in, dropped_in, at_last}

-- ---- what both keep

-- both sides by their parts
abbrev sides_with : List ℕ → Draws → Client → Client → List Post → Sides
sides_with key draws first second sent = record { key = key; first = first; second = second; posts = sent; draws = draws }

same_sides : (key : List ℕ) (draws : Draws) (first other_first second other_second : Client) (sent other_sent : List Post)
    → first ≡ other_first → second ≡ other_second → sent ≡ other_sent
    → sides_with key draws first second sent ≡ sides_with key draws other_first other_second other_sent
same_sides key draws first other_first second other_second sent other_sent f s p =
    ap₂ (λ a b. sides_with key draws a b sent) f s ∙ ap (sides_with key draws other_first other_second) p

-- the other side keeps what it kept: where the text is in the side's epoch
peer_keeps : (k : Mechanism) (c : Conversation) (side : Side) (v u : View) (body : Body) → IsLawfulConversation k c
    → IsLawfulView k c side v
    → IsLawfulView k c (peer_of side) u → is_own side v.epoch ≡ true
    → client_at k c u ≡ client_at k (with_text c v.epoch body) u
peer_keeps k c side v u body world lawful other own =
    sym (client-grown k c c.seeds v.epoch body u (turns_same k c.key c.seeds)
    (omega (arith, lawful.near_end, other.reached)) other.reached lawful.near_end
    (own_in k c (peer_of side) u v.epoch false other (own_peer side v.epoch ∙ ap not own))
    world.begun other.arrivals)

-- and where it begins one
peer_keeps_turn : (k : Mechanism) (c : Conversation) (side : Side) (v u : View) (seed : List ℕ) (body : Body)
    → IsLawfulConversation k c → IsLawfulView k c side v
    → IsLawfulView k c (peer_of side) u → is_own side v.epoch ≡ false
    → client_at k c u ≡ client_at k (with_turn c seed (v.epoch + 1) body) u
peer_keeps_turn k c side v u seed body world lawful other peers =
    let last = at_last k c side v lawful peers in
    sym (client-grown k c (c.seeds ++ seed ∷ []) (v.epoch + 1) body u (turns_stay k c.key c.seeds seed)
    (omega (arith, other.reached)) other.reached (omega arith)
    (own_in k c (peer_of side) u (v.epoch + 1) false other
    (own_peer side (v.epoch + 1) ∙ ap not (own_after side v.epoch peers)))
    world.begun other.arrivals)

-- what the side itself answers
says_own : (k : Mechanism) (c : Conversation) (side : Side) (v : View) (content : Content) → IsLawfulConversation k c
    → IsLawfulView k c side v → is_own side v.epoch ≡ true
    → say_on k (client_at k c v) content []
    ≡ Ok (record {
      post = post_at k (with_text c v.epoch (body_in c v content)) (next_position c.said v.epoch);
      next = client_at k (with_text c v.epoch (body_in c v content)) (said_view c v);
    })
says_own k c side v content world lawful own =
    say_on-own k c v content
    (own_in k c side v v.epoch true lawful own) lawful.reached lawful.near_end world.begun lawful.arrivals
    (dropped_in k c side v lawful)

says_turn : (k : Mechanism) (c : Conversation) (side : Side) (v : View) (content : Content) (seed : List ℕ) → IsLawfulConversation k c
    → IsLawfulView k c side v → is_own side v.epoch ≡ false
    → is_some (k.meaning.pair_of seed) ≡ true
    → say_on k (client_at k c v) content seed
    ≡ Ok (record {
      post = post_at k (with_turn c seed (v.epoch + 1) (body_in c v content)) (next_position c.said (v.epoch + 1));
      next = client_at k (with_turn c seed (v.epoch + 1) (body_in c v content)) (after_turn v);
    })
says_turn k c side v content seed world lawful peers pairs =
    say_on-turn k c v content seed pairs (own_in k c side v v.epoch false lawful peers)
    (at_last k c side v lawful peers) world.begun lawful.arrivals (dropped_in k c side v lawful)

-- all packets
posts_own : (k : Mechanism) (c : Conversation) (side : Side) (v : View) (body : Body) → IsLawfulConversation k c
    → IsLawfulView k c side v
    → posts k c ++ post_at k (with_text c v.epoch body) (next_position c.said v.epoch) ∷ []
    ≡ posts k (with_text c v.epoch body)
posts_own k c side v body world lawful =
    sym (posts-grown k c c.seeds v.epoch body (turns_same k c.key c.seeds) lawful.near_end world.begun)

posts_turn : (k : Mechanism) (c : Conversation) (side : Side) (v : View) (seed : List ℕ) (body : Body) → IsLawfulConversation k c
    → IsLawfulView k c side v
    → posts k c ++ post_at k (with_turn c seed (v.epoch + 1) body) (next_position c.said (v.epoch + 1)) ∷ []
    ≡ posts k (with_turn c seed (v.epoch + 1) body)
posts_turn k c side v seed body world lawful =
    sym (posts-grown k c (c.seeds ++ seed ∷ []) (v.epoch + 1) body (turns_stay k c.key c.seeds seed)
    (omega (arith, lawful.near_end)) world.begun)

-- ---- what is said

said_here-follows : (k : Mechanism) (w : World) (side : Side) (content : Content) → IsLawfulWorld k w
    → is_own side (view_of w side).epoch ≡ true
    → saying_on k (sides_of k w) side content (Ok false) ≡ seen_world k (said_here w side content)
unfolding posted
said_here-follows k w First content lawful own =
    let c = w.conversation in
    ap (said_on (sides_of k w) First) (says_own k c First w.first content lawful.conversation lawful.first own)
    ∙ ap (step (Said (next_position c.said w.first.epoch)))
    (same_sides c.key w.draws _ _ _ _ _ _ refl
    (peer_keeps k c First w.first w.second (body_in c w.first content) lawful.conversation lawful.first lawful.second own)
    (posts_own k c First w.first (body_in c w.first content) lawful.conversation lawful.first))
said_here-follows k w Second content lawful own =
    let c = w.conversation in
    ap (said_on (sides_of k w) Second) (says_own k c Second w.second content lawful.conversation lawful.second own)
    ∙ ap (step (Said (next_position c.said w.second.epoch)))
    (same_sides c.key w.draws _ _ _ _ _ _
    (peer_keeps k c Second w.second w.first (body_in c w.second content) lawful.conversation lawful.second lawful.first own) refl
    (posts_own k c Second w.second (body_in c w.second content) lawful.conversation lawful.second))

-- the world once a draw was made
abbrev pub drawn_in : World → World
drawn_in w = record w { draws = after_draw w.draws }

said_next-follows : (k : Mechanism) (w : World) (side : Side) (seed : List ℕ) (content : Content) → IsLawfulWorld k w
    → is_own side (view_of w side).epoch ≡ false
    → is_some (k.meaning.pair_of seed) ≡ true
    → said_on (sides_of k (drawn_in w)) side (say_on k (client_of (sides_of k w) side) content seed)
    ≡ seen_world k (said_next (drawn_in w) side seed content)
unfolding posted
said_next-follows k w First seed content lawful peers pairs =
    let c = w.conversation in
    ap (said_on (sides_of k (drawn_in w)) First)
    (says_turn k c First w.first content seed lawful.conversation lawful.first peers pairs)
    ∙ ap₂ (λ place sides. step {S = Sides} (Said place) sides)
    (first_place c w.first.epoch lawful.conversation.begun (at_last k c First w.first lawful.first peers))
    (same_sides c.key (after_draw w.draws) _ _ _ _ _ _ refl
    (peer_keeps_turn k c First w.first w.second seed (body_in c w.first content) lawful.conversation lawful.first lawful.second peers)
    (posts_turn k c First w.first seed (body_in c w.first content) lawful.conversation lawful.first))
said_next-follows k w Second seed content lawful peers pairs =
    let c = w.conversation in
    ap (said_on (sides_of k (drawn_in w)) Second)
    (says_turn k c Second w.second content seed lawful.conversation lawful.second peers pairs)
    ∙ ap₂ (λ place sides. step {S = Sides} (Said place) sides)
    (first_place c w.second.epoch lawful.conversation.begun (at_last k c Second w.second lawful.second peers))
    (same_sides c.key (after_draw w.draws) _ _ _ _ _ _
    (peer_keeps_turn k c Second w.second w.first seed (body_in c w.second content) lawful.conversation lawful.second lawful.first peers) refl
    (posts_turn k c Second w.second seed (body_in c w.second content) lawful.conversation lawful.second))

-- without a pair nothing is said
says_none : (k : Mechanism) (w : World) (side : Side) (seed : List ℕ) (content : Content) → IsLawfulWorld k w
    → is_own side (view_of w side).epoch ≡ false
    → k.meaning.pair_of seed ≡ None → say_on k (client_of (sides_of k w) side) content seed ≡ Err NoPair
says_none k w First seed content lawful peers none =
    say_on-none k w.conversation w.first content seed none
    (own_in k w.conversation First w.first w.first.epoch false lawful.first peers)
says_none k w Second seed content lawful peers none =
    say_on-none k w.conversation w.second content seed none
    (own_in k w.conversation Second w.second w.second.epoch false lawful.second peers)

-- whether the seed has a pair or not
turn-follows : (k : Mechanism) (w : World) (side : Side) (seed : List ℕ) (content : Content) (pair : Option (List ℕ × List ℕ))
    → IsLawfulWorld k w
    → is_own side (view_of w side).epoch ≡ false → k.meaning.pair_of seed ≡ pair
    → said_on (sides_of k (drawn_in w)) side (say_on k (client_of (sides_of k w) side) content seed)
    ≡ seen_world k (if is_none pair then settled (drawn_in w) (Err NoPair) else said_next (drawn_in w) side seed content)
turn-follows k w side seed content None lawful peers is =
    ap (said_on (sides_of k (drawn_in w)) side) (says_none k w side seed content lawful peers is)
turn-follows k w side seed content (Some pair) lawful peers is =
    said_next-follows k w side seed content lawful peers (ap is_some is)

-- ---- the answer

saying-follows : (k : Mechanism) (w : World) (side : Side) (content : Content) (r : Result Bool Refusal) → IsLawfulWorld k w
    → may_say k w side content ≡ r
    → saying_on k (sides_of k w) side content r ≡ seen_world k (saying_in k w side content r)
saying-follows k w side content (Err refusal) lawful is = refl
saying-follows k w side content (Ok false) lawful is =
    said_here-follows k w side content lawful (own_where k w side content false is)
saying-follows k w side content (Ok true) lawful is =
    let seed = next_seed w.conversation.key w.draws in
    turn-follows k w side seed content (k.meaning.pair_of seed) lawful (own_where k w side content true is) refl

pub says_follows : (k : Mechanism) (w : World) (side : Side) (content : Content) → IsLawfulMechanism k → IsLawfulWorld k w
    → step_on k (sides_of k w) (does side (says content)) ≡ seen_world k (step_of k w (does side (says content)))
says_follows k w side content law lawful =
    ap (saying_on k (sides_of k w) side content) (same_check k w side content lawful)
    ∙ saying-follows k w side content (may_say k w side content) lawful refl
