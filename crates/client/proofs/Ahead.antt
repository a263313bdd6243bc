-- What the other side does leads the worlds on, and leaves what this side keeps and does.
use Rattle.std.proofs.Common.{List, None, Ok, Option, Some, [], ap, arith, inl, inr, length, refl, subst, suc, sym, zero, ℕ, ⊎_elim, ◌++◌, ◌<◌, ◌∙◌, ◌∷◌, ◌≡◌}
use Rattle.std.specs.Option.{option_or}
use Rattle.std.specs.Prelude.{All, Any, Bool, find, option_map, slice_index_or}
use Rattle.std.proofs.lemmas.List.Elements.{All-cons, All-head, All-nil, All-tail}
use Rattle.std.proofs.lemmas.List.Folds.{find-append}
use Rattle.boxes.specs.Posts.{Post}
use Rattle.dr_base.specs.Position.{peer_of}
use Rattle.dr_base.specs.declared.position.Side.{Side}
use Rattle.dr_base.specs.declared.position.Side.TheVariants.{First, Second}
use Rattle.dr_model.specs.Conversations.Posts.{posts}
use Rattle.dr_model.specs.Machines.Acts.{Act, act_on, needs_seed, saying, taking}
use Rattle.dr_model.specs.Machines.WorldActs.{act_in, kept_by}
use Rattle.dr_model.specs.Machines.Steps.{Step, settled}
use Rattle.dr_model.specs.Machines.WorldSides.{kept_in}
use Rattle.dr_model.specs.Machines.Worlds.{World, made_at, may_say}
use Rattle.dr_model.specs.Theorems.Acting.{ActsFollow, IsFairAct}
use Rattle.dr_model.specs.Theorems.Fairness.{IsUnforged}
use Rattle.dr_model.specs.Theorems.LawfulWorlds.{IsLawfulWorld}
use Rattle.dr_model.proofs.Acting.Posting.{act_grows, act_posts}
use Rattle.dr_model.proofs.Saying.SayingChecks.{same_check}
use Rattle.dr_model.proofs.Worlds.WorldViews.{client_of-kept}
use Rattle.kem_laws.specs.Mechanism.{IsLawfulMechanism, Mechanism}
use Rattle.session_model.specs.Contents.{Content}
use Rattle.session_model.specs.Clients.{Client, say_check}
use Rattle.session_model.specs.Ways.{way_of}
use Rattle.client.specs.Cells.{Cell}
use Rattle.client.specs.InWorlds.{CellStandsFor}
use Rattle.client.specs.Moments.{AreFairActs, HaveMovedInCell, IsActed, Known, acts_in, settled_in}
use Rattle.client.proofs.Later.{act_later}

-- A world that is ahead of another: a side keeps the same in both, and a packet that is found in the one is found in the other.
pub record IsAhead (k : Mechanism) (side : Side) (ahead w : World) : Type 0 where
  pub lawful : IsLawfulWorld k w
  pub ahead_lawful : IsLawfulWorld k ahead
  pub keeps : kept_in k ahead side ≡ kept_in k w side
  pub unfound : (test : Post → Bool) → find test (posts k ahead.conversation) ≡ None → find test (posts k w.conversation) ≡ None

pub peer_twice : (side : Side) → peer_of (peer_of side) ≡ side
peer_twice First = refl
peer_twice Second = refl

-- ---- packets that aren't found

none_first : {X : Type 0} (a b : Option X) → option_or a b ≡ None → a ≡ None
none_first None b is = refl
none_first (Some x) b is = absurd (let e : Some x ≡ None = is in cc)

none_of : {X Y : Type 0} (f : X → Y) (a : Option X) → option_map f a ≡ None → a ≡ None
none_of f None is = refl
none_of f (Some x) is = absurd (let e : Some (f x) ≡ None = is in cc)

module _ (test : Post → Bool) (xs more : List Post) where
  unfound_before : find test (xs ++ more) ≡ None → find test xs ≡ None
  unfound_before none = none_first (find test xs) (find test more) (sym (find-append test xs more) ∙ none)

  unfound_behind : find test xs ≡ None → find test (xs ++ more) ≡ find test more
  unfound_behind none = find-append test xs more ∙ ap (λ (o : Option Post). option_or o (find test more)) none

-- where one finds no more than another, it doesn't with the same packets behind
unfound_more : (test : Post → Bool) (xs ys more : List Post) → (find test ys ≡ None → find test xs ≡ None)
    → find test (ys ++ more) ≡ None → find test (xs ++ more) ≡ None
unfound_more test xs ys more less none =
    let before = unfound_before test ys more none in
    unfound_behind test xs more (less before) ∙ sym (unfound_behind test ys more before) ∙ none

-- some element has P where some element of another list has, one by one
pub one_more : {X : Type 0} (P : X → Type 0) (x y : X) (xs ys : List X) → (P x → P y) → (Any P xs → Any P ys) → (n : ℕ) (z : X)
    → n < length (x ∷ xs) → slice_index_or (x ∷ xs) n z ≡ z → P z → Any P (y ∷ ys)
one_more P x y xs ys first rest zero z lt is holds = (0, y, omega arith, refl, first (subst P (sym is) holds))
one_more P x y xs ys first rest (suc n) z lt is holds =
    let found = rest (n, z, omega (arith, lt), is, holds) in
    (suc found.0, found.1, omega (arith, found.2), found.3, found.4)

module _ (cell : Cell) (k : Mechanism) (law : IsLawfulMechanism k) (follow : ActsFollow k)
    (side : Side) where
  -- bytes that stand for a world stand for one in which the side keeps the same
  pub stands_ahead : (ahead w : World) (c : List ℕ) → kept_in k ahead side ≡ kept_in k w side
      → CellStandsFor cell k w side c → CellStandsFor cell k ahead side c
  stands_ahead ahead w c keeps stood = stood ∙ ap (λ (x : Client). Some (Ok x)) (sym keeps)

  -- ---- what a side does by itself is the same ahead

  module _ (ahead w : World) (is : IsAhead k side ahead w) where
    same_need : (content : Content) → needs_seed (may_say k w side content) ≡ needs_seed (may_say k ahead side content)
    same_need content =
        ap needs_seed (sym (same_check k w side content is.lawful))
        ∙ ap (λ (c : Client). needs_seed (say_check c content)) (client_of-kept k w side ∙ sym is.keeps ∙ sym (client_of-kept k ahead side))
        ∙ ap needs_seed (same_check k ahead side content is.ahead_lawful)

    unmade : (bytes : List ℕ) → made_at k ahead bytes ≡ None → made_at k w bytes ≡ None
    unmade bytes none =
        ap (option_map (λ (post : Post). post.position)) (is.unfound _ (none_of (λ (post : Post). post.position) _ none))

    unforged_ahead : (bytes : List ℕ) → IsUnforged k w side bytes → IsUnforged k ahead side bytes
    unforged_ahead bytes unforged none f way read found =
        unforged (unmade bytes none) f way read (ap (λ (c : Client). way_of k c.state f) (sym is.keeps) ∙ found)

    fair_ahead : (act : Act) → IsFairAct k w side act → IsFairAct k ahead side act
    fair_ahead (saying content draw) fair = record { needed = fair.needed ∙ same_need content; whole = fair.whole }
    fair_ahead (taking bytes) fair = unforged_ahead bytes fair
    fair_ahead act fair = tt

    same_step : (act : Act) → IsFairAct k w side act → kept_by k side (act_in k ahead side act) ≡ kept_by k side (act_in k w side act)
    same_step act fair =
        sym (follow.follows ahead side act is.ahead_lawful (fair_ahead act fair))
        ∙ ap (λ (c : Client). settled c (act_on k c act)) is.keeps ∙ follow.follows w side act is.lawful fair

    -- an act adds the same packets
    ahead_next : (act : Act) → IsFairAct k w side act → IsAhead k side (act_in k ahead side act).next (act_in k w side act).next
    ahead_next act fair =
        let more = act_posts k (kept_in k w side) act in
        let one = act_grows k w side act law is.lawful fair in
        let other =
        act_grows k ahead side act law is.ahead_lawful (fair_ahead act fair)
        ∙ ap (λ (c : Client). posts k ahead.conversation ++ act_posts k c act) is.keeps in
        record {
          lawful = follow.lawful w side act is.lawful fair;
          ahead_lawful = follow.lawful ahead side act is.ahead_lawful (fair_ahead act fair);
          keeps = ap (λ (s : Step Client). s.next) (same_step act fair);
          unfound = λ test none.
              ap (find test) one
              ∙ unfound_more test (posts k w.conversation) (posts k ahead.conversation) more (is.unfound test) (sym (ap (find test) other) ∙ none);
        }

  -- and so are acts, one after the other
  pub fair_acts : (ahead w : World) (acts : List Act) → IsAhead k side ahead w → AreFairActs k side w acts → AreFairActs k side ahead acts
  fair_acts ahead w [] is fair = tt
  fair_acts ahead w (act ∷ acts) is fair = (
    fair_ahead ahead w is act fair.0,
    fair_acts (act_in k ahead side act).next (act_in k w side act).next acts (ahead_next ahead w is act fair.0) fair.1,
  )

  pub same_acts : (ahead w : World) (acts : List Act) → IsAhead k side ahead w → AreFairActs k side w acts
      → kept_in k (acts_in k side ahead acts) side ≡ kept_in k (acts_in k side w acts) side
  same_acts ahead w [] is fair = is.keeps
  same_acts ahead w (act ∷ acts) is fair =
      same_acts (act_in k ahead side act).next (act_in k w side act).next acts (ahead_next ahead w is act fair.0) fair.1

  -- ---- the other side acts

  module _ (w : World) (act : Act) (lawful : IsLawfulWorld k w) (fair : IsFairAct k w (peer_of side) act) where
    abbrev pub next : World
    next = (act_in k w (peer_of side) act).next

    pub goes_ahead : IsAhead k side next w
    goes_ahead = record {
      lawful = lawful;
      ahead_lawful = follow.lawful w (peer_of side) act lawful fair;
      keeps = subst (λ s. kept_in k next s ≡ kept_in k w s) (peer_twice side) (follow.others w (peer_of side) act lawful fair);
      unfound = λ test none.
          unfound_before test (posts k w.conversation) (act_posts k (kept_in k w (peer_of side)) act)
          (sym (ap (find test) (act_grows k w (peer_of side) act law lawful fair)) ∙ none);
    }

    -- the worlds in doubt, from the next one
    record AreMoved (worlds : List World) : Type 0 where
      moved : List World
      acted : All (IsActed k side next) moved
      stands : (c : List ℕ) → Any (λ v. CellStandsFor cell k v side c) worlds
          → Any (λ v. CellStandsFor cell k v side c) moved

    are_moved : (worlds : List World) → All (IsActed k side w) worlds → AreMoved worlds
    are_moved [] acted = record { moved = []; acted = All-nil (IsActed k side next); stands = λ c none. absurd (omega (arith, none.2)) }
    are_moved (x ∷ xs) acted =
        let is = All-head (IsActed k side w) x xs acted in
        let rest = are_moved xs (All-tail (IsActed k side w) x xs acted) in
        let there = acts_in k side next is.acts in
        let keeps : kept_in k there side ≡ kept_in k x side =
        same_acts next w is.acts goes_ahead is.fair ∙ ap (λ v. kept_in k v side) is.leads in
        record {
          moved = there ∷ rest.moved;
          acted = All-cons (IsActed k side next) there rest.moved
              (record { acts = is.acts; fair = fair_acts next w is.acts goes_ahead is.fair; leads = refl }) rest.acted;
          stands = λ c at.
              one_more (λ v. CellStandsFor cell k v side c) x there xs rest.moved (stands_ahead there x c keeps) (rest.stands c) at.0 at.1 at.2 at.3 at.4;
        }

    moves : (worlds : List World) (acted : All (IsActed k side w) worlds)
        → HaveMovedInCell cell k side (record { last = w; doubtful = worlds })
        (record { last = next; doubtful = (are_moved worlds acted).moved })
    moves worlds acted = record {
      last_later = act_later k (peer_of side) w act fair;
      doubtful_acted = (are_moved worlds acted).acted;
      stands = λ c known. ⊎_elim (λ stood. inl (stands_ahead next w c goes_ahead.keeps stood)) (λ at. inr ((are_moved worlds acted).stands c at)) known;
    }

    -- where nothing is in doubt
    pub moves_settled : HaveMovedInCell cell k side (settled_in w) (settled_in next)
    moves_settled = record {
      last_later = act_later k (peer_of side) w act fair;
      doubtful_acted = All-nil (IsActed k side next);
      stands = λ c known. ⊎_elim (λ stood. inl (stands_ahead next w c goes_ahead.keeps stood))
          (λ (none : Any (λ (v : World). CellStandsFor cell k v side c) []). absurd (omega (arith, none.2))) known;
    }

  pub all_move : (known : Known) (act : Act) → IsLawfulWorld k known.last → IsFairAct k known.last (peer_of side) act
      → All (IsActed k side known.last) known.doubtful
      → (worlds : List World)
      × HaveMovedInCell cell k side known
      (record { last = (act_in k known.last (peer_of side) act).next; doubtful = worlds })
  all_move known act lawful fair acted =
      ((are_moved known.last act lawful fair known.doubtful acted).moved, moves known.last act lawful fair known.doubtful acted)
