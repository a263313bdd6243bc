-- Worlds that come later: by events, by acts of one side, and by what a sync makes of the replies that it reads.
use Rattle.std.proofs.Common.{List, None, Some, [], ap, refl, subst, ℕ, ◌++◌, ◌∙◌, ◌∷◌, ◌≡◌, sym}
use Rattle.std.specs.Prelude.{All}
use Rattle.std.proofs.lemmas.List.Elements.{All-append, All-cons, All-nil, All-weaker}
use Rattle.dr_base.specs.declared.position.Side.{Side}
use Rattle.dr_model.specs.Machines.Acts.{Act, saying, taking}
use Rattle.dr_model.specs.Machines.WorldActs.{act_in, event_of}
use Rattle.dr_model.specs.Machines.Events.{Event, seeds}
use Rattle.dr_model.specs.Machines.Worlds.{World, run_of, step_of}
use Rattle.dr_model.specs.Theorems.Acting.{IsFairAct}
use Rattle.dr_model.specs.Theorems.Fairness.{IsSeedWhole}
use Rattle.dr_model.specs.Theorems.LawfulWorlds.{IsLawfulWorld}
use Rattle.dr_model.proofs.Worlds.LawfulWorlds.{lawful_run}
use Rattle.kem_laws.specs.Mechanism.{Mechanism}
use Rattle.relay_wire.specs.Replies.{Replied}
use Rattle.sync_model.specs.Courses.{Course, begun, course_from, read_one, repeats}
use Rattle.sync_model.specs.Parties.{Party}
use Rattle.sync_model.specs.Simulation.{AreFairFrom}
use Rattle.client.specs.Moments.{AreFairActs, IsActed, IsLater, acts_in, reached_by}
use Rattle.client.specs.Syncing.InWorlds.{AreUnforged, course_in}
use Rattle.client.specs.Syncing.Parties.{oldest_sent, world_party}
use Rattle.client.proofs.Syncs.Courses.{read_on}
use Rattle.client.proofs.Syncs.Steps.{Fair, HoldsOfSteps, course_leads, heard_leads}

runs_on : (k : Mechanism) (w : World) (hs es : List Event) → run_of k w (hs ++ es) ≡ run_of k (run_of k w hs) es
runs_on k w [] es = refl
runs_on k w (h ∷ hs) es = runs_on k (step_of k w h).next hs es

-- later, and later than that
pub later_twice : (k : Mechanism) (first mid last : World) → IsLater k first mid → IsLater k mid last → IsLater k first last
later_twice k first mid last one two = record {
  events = one.events ++ two.events;
  whole = All-append IsSeedWhole one.events two.events one.whole two.whole;
  leads = runs_on k first one.events two.events ∙ ap (λ v. run_of k v two.events) one.leads ∙ two.leads;
}

-- worlds stay lawful
pub lawful_at : (k : Mechanism) (first w : World) → IsLawfulWorld k first → IsLater k first w → IsLawfulWorld k w
lawful_at k first w lawful later = subst (IsLawfulWorld k) later.leads (lawful_run k first later.events lawful later.whole)

pub itself : (k : Mechanism) (w : World) → IsLater k w w
itself k w = record { events = []; whole = All-nil IsSeedWhole; leads = refl }

event_later : (k : Mechanism) (w : World) (h : Event) → IsSeedWhole h → IsLater k w (step_of k w h).next
event_later k w h whole = record { events = h ∷ []; whole = All-cons IsSeedWhole h [] whole (All-nil IsSeedWhole); leads = refl }

-- an act is an event, after its seed where one was drawn
pub act_later : (k : Mechanism) (side : Side) (w : World) (act : Act) → IsFairAct k w side act
    → IsLater k w (act_in k w side act).next
act_later k side w (saying content None) fair = event_later k w (event_of side (saying content None)) tt
act_later k side w (saying content (Some seed)) fair =
    let act = saying content (Some seed) in
    later_twice k w (step_of k w (seeds seed)).next (act_in k w side act).next
    (event_later k w (seeds seed) fair.whole) (event_later k (step_of k w (seeds seed)).next (event_of side act) tt)
act_later k side w act fair = event_later k w (event_of side act) tt

-- ---- by acts of one side

acts_later : (k : Mechanism) (side : Side) (w : World) (acts : List Act) → AreFairActs k side w acts → IsLater k w (acts_in k side w acts)
acts_later k side w [] fair = itself k w
acts_later k side w (act ∷ acts) fair =
    later_twice k w (act_in k w side act).next (acts_in k side (act_in k w side act).next acts) (act_later k side w act fair.0)
    (acts_later k side (act_in k w side act).next acts fair.1)

pub acted_later : (k : Mechanism) (side : Side) (w v : World) → IsActed k side w v → IsLater k w v
acted_later k side w v is = subst (IsLater k w) is.leads (acts_later k side w is.acts is.fair)

acts_on : (k : Mechanism) (side : Side) (w : World) (acts more : List Act) → acts_in k side w (acts ++ more) ≡ acts_in k side (acts_in k side w acts) more
acts_on k side w [] more = refl
acts_on k side w (act ∷ acts) more = acts_on k side (act_in k w side act).next acts more

fair_on : (k : Mechanism) (side : Side) (w : World) (acts more : List Act) → AreFairActs k side w acts
    → AreFairActs k side (acts_in k side w acts) more → AreFairActs k side w (acts ++ more)
fair_on k side w [] more fair rest = rest
fair_on k side w (act ∷ acts) more fair rest = (fair.0, fair_on k side (act_in k w side act).next acts more fair.1 rest)

pub acted_none : (k : Mechanism) (side : Side) (w : World) → IsActed k side w w
acted_none k side w = record { acts = []; fair = tt; leads = refl }

pub acted_once : (k : Mechanism) (side : Side) (w : World) (act : Act) → IsFairAct k w side act → IsActed k side w (act_in k w side act).next
acted_once k side w act fair = record { acts = act ∷ []; fair = (fair, tt); leads = refl }

pub acted_twice : (k : Mechanism) (side : Side) (first mid last : World) → IsActed k side first mid → IsActed k side mid last
    → IsActed k side first last
acted_twice k side first mid last one two = record {
  acts = one.acts ++ two.acts;
  fair = fair_on k side first one.acts two.acts one.fair (subst (λ v. AreFairActs k side v two.acts) (sym one.leads) two.fair);
  leads = acts_on k side first one.acts two.acts ∙ ap (λ v. acts_in k side v two.acts) one.leads ∙ two.leads;
}

-- ---- by the replies of a sync

module _ (k : Mechanism) (prefix : List ℕ) (side : Side) (first : World) where
  abbrev p : Party World
  p = world_party k prefix side first

  by_acts : HoldsOfSteps k prefix side first (IsActed k side)
  by_acts = record {
    none = acted_none k side;
    takes = λ w packet fair. acted_once k side w (taking packet) fair;
    sends = λ w. acted_once k side w oldest_sent tt;
    twice = acted_twice k side;
  }

  -- a course leads on by acts, with each reply
  pub course_acted : (c : Course World) (replies : List Replied) → AreFairFrom p (Fair k prefix side first) c replies
      → IsActed k side c.state (course_from p c replies).state
  course_acted c replies fair = course_leads k prefix side first (IsActed k side) by_acts c replies fair

  -- and so to all that it reaches
  pub reached_acted : (c : Course World) (replies : List Replied) → AreFairFrom p (Fair k prefix side first) c replies → All (IsActed k side c.state) (reached_by p c replies)
  reached_acted c [] fair = All-nil (IsActed k side c.state)
  reached_acted c (reply ∷ replies) fair =
      let next = (read_one p c reply).state in
      let step = heard_leads k prefix side first (IsActed k side) by_acts c reply (repeats p c reply) fair.0 in
      All-cons (IsActed k side c.state) next (reached_by p (read_one p c reply) replies) step
      (All-weaker (IsActed k side next) (IsActed k side c.state) (λ w later. acted_twice k side c.state next w step later)
      (reached_by p (read_one p c reply) replies) (reached_acted (read_one p c reply) replies fair.1))

  -- what is fair for all replies is fair for a beginning of them, and for those behind it
  pub fair_split : (front back : List Replied) (c : Course World) → AreFairFrom p (Fair k prefix side first) c (front ++ back)
      → AreFairFrom p (Fair k prefix side first) c front × AreFairFrom p (Fair k prefix side first) (course_from p c front) back
  fair_split [] back c fair = (tt, fair)
  fair_split (reply ∷ front) back c fair =
      let rest = fair_split front back (read_one p c reply) fair.1 in
      ((fair.0, rest.0), rest.1)

-- what a sync makes of the first of its replies, and of those behind them
module _ (k : Mechanism) (prefix : List ℕ) (side : Side) (w : World) (front back : List Replied) (fair : AreUnforged k prefix side w (front ++ back)) where
  pub front_acted : IsActed k side w (course_in k prefix side w front).state
  front_acted =
      course_acted k prefix side w (begun (world_party k prefix side w) w) front
      (fair_split k prefix side w front back (begun (world_party k prefix side w) w) fair).0

  pub back_acted : All (IsActed k side (course_in k prefix side w front).state) (reached_by (world_party k prefix side w) (course_in k prefix side w front) back)
  back_acted =
      reached_acted k prefix side w (course_in k prefix side w front) back
      (fair_split k prefix side w front back (begun (world_party k prefix side w) w) fair).1

  pub front_later : IsLater k w (course_in k prefix side w front).state
  front_later = acted_later k side w (course_in k prefix side w front).state front_acted

  pub whole_later : IsLater k (course_in k prefix side w front).state (course_in k prefix side w (front ++ back)).state
  whole_later =
      let at = course_in k prefix side w front in
      subst (λ (c : Course World). IsLater k at.state c.state) (sym (read_on (world_party k prefix side w) front back (begun (world_party k prefix side w) w)))
      (acted_later k side at.state (course_from (world_party k prefix side w) at back).state
      (course_acted k prefix side w at back (fair_split k prefix side w front back (begun (world_party k prefix side w) w) fair).1))
