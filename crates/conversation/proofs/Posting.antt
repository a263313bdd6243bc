-- A sync posts packets that stood in the outbox when it began: what holds of all of these holds of
-- each packet that one of its requests posts.
use Rattle.std.proofs.Common.{List, None, Option, Some, [], ap, refl, subst, sym, ℕ, ◌∙◌, ◌∷◌, ◌≡◌}
use Rattle.std.specs.Prelude.{All, option_map}
use Rattle.std.proofs.lemmas.List.Elements.{All-append, All-cons, All-drop, All-head, All-nil}
use Rattle.dr_base.specs.declared.position.Side.{Side}
use Rattle.dr_model.specs.Machines.Acts.{Act, act_on, taking}
use Rattle.dr_model.specs.Machines.Steps.{Step, settled}
use Rattle.dr_model.specs.Machines.WorldActs.{act_in}
use Rattle.dr_model.specs.Machines.WorldSides.{kept_in}
use Rattle.dr_model.specs.Machines.Worlds.{World}
use Rattle.dr_model.specs.Theorems.Acting.{IsFairAct}
use Rattle.dr_model.specs.Theorems.LawfulWorlds.{IsLawfulWorld}
use Rattle.kem_laws.specs.Mechanism.{Mechanism}
use Rattle.relay_wire.specs.Replies.{Replied}
use Rattle.relay_wire.specs.Requests.{Asked, acks, bare_request, fetches, posts}
use Rattle.session_model.specs.Clients.{Client}
use Rattle.sync_model.specs.Courses.{Course, as_list, awaited, begun, course_from, made_requests, read_one, repeats}
use Rattle.sync_model.specs.Moves.{Wait, acking, asked_in, fetching, over, posting, posting_of}
use Rattle.sync_model.specs.Parties.{Party}
use Rattle.sync_model.specs.Simulation.{AreFairFrom}
use Rattle.sync_model.specs.Tokens.{SyncKeys, Tokens, tagged}
use Rattle.client.specs.Grounds.{Grounds}
use Rattle.client.specs.Syncing.InWorlds.{AreUnforged, course_in}
use Rattle.client.specs.Syncing.Parties.{oldest_sent, waiting, world_party}
use Rattle.client.proofs.Syncs.Parties.{drops_one, keeps_outbox}
use Rattle.client.proofs.Syncs.Steps.{Fair, HoldsOfSteps, heard_leads}

module _ (P : List ℕ → Type 0) where
  -- what a request posts has P
  abbrev pub Posts : Asked → Type 0
  Posts asked = (packet : List ℕ) → asked.ask ≡ posts packet → P packet

  -- ---- the request that is waited for

  no_post : (name : List ℕ) (bare : Asked) → Some (bare_request name fetches) ≡ Some bare → Posts bare
  no_post name bare is packet asks =
      let same : bare ≡ bare_request name fetches = cc in
      let ask : fetches ≡ posts packet = sym (ap (λ (x : Asked). x.ask) same) ∙ asks in
      absurd (cc)

  no_ack : (name : List ℕ) (number : ℕ) (bare : Asked) → Some (bare_request name (acks number)) ≡ Some bare
      → Posts bare
  no_ack name number bare is packet asks =
      let same : bare ≡ bare_request name (acks number) = cc in
      let ask : acks number ≡ posts packet = sym (ap (λ (x : Asked). x.ask) same) ∙ asks in
      absurd (cc)

  oldest : (name : List ℕ) (packets : List (List ℕ)) (bare : Asked) → All P packets
      → posting_of name packets ≡ Some bare → Posts bare
  oldest name [] bare all is packet asks = absurd (let e : None ≡ Some bare = is in cc)
  oldest name (first ∷ packets) bare all is packet asks =
      let one : Some (bare_request name (posts first)) ≡ Some bare = is in
      let same : bare ≡ bare_request name (posts first) = cc in
      let ask : posts first ≡ posts packet = sym (ap (λ (x : Asked). x.ask) same) ∙ asks in
      let is_it : first ≡ packet = cc in
      subst P is_it (All-head P first packets all)

  bare_posts : {S : Type 0} (p : Party S) (s : S) (wait : Wait) (bare : Asked) → All P (p.outbox s)
      → asked_in p s wait ≡ Some bare → Posts bare
  bare_posts p s (fetching n) bare all is = no_post p.own bare is
  bare_posts p s (acking n number) bare all is = no_ack p.own number bare is
  bare_posts p s (posting which) bare all is = oldest p.peers (p.outbox s) bare all is
  bare_posts p s (over ending) bare all is = absurd (let e : None ≡ Some bare = is in cc)

  with_tokens : (keys : Option SyncKeys) (tokens : Tokens) (o : Option Asked)
      → ((bare : Asked) → o ≡ Some bare → Posts bare) → All Posts (as_list (option_map (tagged keys tokens) o))
  with_tokens keys tokens None each = All-nil Posts
  with_tokens keys tokens (Some bare) each =
      All-cons Posts (tagged keys tokens bare) [] (each bare refl) (All-nil Posts)

  pub awaited_posts : {S : Type 0} (p : Party S) (c : Course S) → All P (p.outbox c.state)
      → All Posts (awaited p c)
  awaited_posts p c all =
      with_tokens p.keys c.tokens (asked_in p c.state c.wait)
      (λ bare is. bare_posts p c.state c.wait bare all is)

  -- ---- the outbox from step to step

  module _ (k : Mechanism) (grounds : Grounds k) (side : Side) (first : World) where
    abbrev p : Party World
    p = world_party k [] side first

    -- a lawful world in whose outbox each packet has P
    pub record AllWaiting (w : World) : Type 0 where
      pub lawful : IsLawfulWorld k w
      pub all : All P (waiting (kept_in k w side))

    -- what is kept then is what the act makes of it
    kept_then : (w : World) (act : Act) → IsLawfulWorld k w → IsFairAct k w side act
        → (settled (kept_in k w side) (act_on k (kept_in k w side) act)).next ≡ kept_in k (act_in k w side act).next side
    kept_then w act lawful fair = ap (λ (s : Step Client). s.next) (grounds.follow.follows w side act lawful fair)

    holds : HoldsOfSteps k [] side first (λ w v. AllWaiting w → AllWaiting v)
    holds = record {
      none = λ w has. has;
      takes = λ w packet fair has. record {
        lawful = grounds.follow.lawful w side (taking packet) has.lawful fair;
        all = subst (λ (kept : Client). All P (waiting kept)) (kept_then w (taking packet) has.lawful fair)
            (subst (All P) (sym (keeps_outbox k (kept_in k w side) packet)) has.all);
      };
      sends = λ w has. record {
        lawful = grounds.follow.lawful w side oldest_sent has.lawful tt;
        all = subst (λ (kept : Client). All P (waiting kept)) (kept_then w oldest_sent has.lawful tt)
            (subst (All P) (sym (drops_one k (kept_in k w side))) (All-drop P 1 (waiting (kept_in k w side)) has.all));
      };
      twice = λ u v w one two has. two (one has);
    }

    course_posts : (c : Course World) (replies : List Replied) → AreFairFrom p (Fair k [] side first) c replies
        → AllWaiting c.state → All Posts c.requests → All Posts (made_requests p (course_from p c replies))
    course_posts c [] fair has made =
        All-append Posts c.requests (awaited p c) made (awaited_posts p c has.all)
    course_posts c (reply ∷ replies) fair has made =
        course_posts (read_one p c reply) replies fair.1
        (heard_leads k [] side first (λ w v. AllWaiting w → AllWaiting v) holds c reply (repeats p c reply) fair.0 has)
        (All-append Posts c.requests (awaited p c) made (awaited_posts p c has.all))

    pub sync_posts : (replies : List Replied) → AreUnforged k [] side first replies → AllWaiting first
        → All Posts (made_requests p (course_in k [] side first replies))
    sync_posts replies fair has =
        course_posts (begun p first) replies fair has (All-nil Posts)
