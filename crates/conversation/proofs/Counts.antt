-- Whatever a side runs by itself counts: there is what was cut off, and where it leads.
use Rattle.std.proofs.Common.{List, [], ap, ap₂, map, refl, subst, sym, ◌∙◌, ◌∷◌, ◌≡◌}
use Rattle.std.specs.Prelude.{All}
use Rattle.std.proofs.lemmas.List.Elements.{All-cons, All-head, All-nil, All-tail}
use Rattle.dr_base.specs.Position.{peer_of}
use Rattle.dr_base.specs.declared.position.Side.{Side}
use Rattle.dr_base.specs.declared.position.Side.TheVariants.{First, Second}
use Rattle.dr_disk.specs.State.{DiskState, IsLawful}
use Rattle.dr_model.specs.Machines.Acts.{Act}
use Rattle.dr_model.specs.Machines.Worlds.{World}
use Rattle.dr_ports.specs.States.{DrawsState}
use Rattle.kem_laws.specs.Mechanism.{Mechanism}
use Rattle.client.specs.Cells.{client_cell}
use Rattle.client.specs.Grounds.{Grounds}
use Rattle.client.specs.Moments.{AreFairActs, IsActed, Known, StandsStill, acts_in}
use Rattle.client.proofs.Standing.{goes_on}
use Rattle.session_commands.specs.WholeRuns.{LeavesAlone, Ran}
use Rattle.session_commands.proofs.WholeRuns.{ran_link}
use Rattle.conversation.specs.Joints.{HasRun, Joint, cut_off, known_in}
use Rattle.conversation.proofs.Moved.{IsSound, sound_known}

-- ---- lists of acts that lead to them

pub record Lists (k : Mechanism) (side : Side) (w : World) (worlds : List World) : Type 0 where
  pub lists : List (List Act)
  pub fair : All (AreFairActs k side w) lists
  pub lead : map (acts_in k side w) lists ≡ worlds

lists_for : (k : Mechanism) (side : Side) (w : World) (worlds : List World)
    → All (IsActed k side w) worlds → Lists k side w worlds
lists_for k side w [] are = record { lists = []; fair = All-nil (AreFairActs k side w); lead = refl }
lists_for k side w (x ∷ xs) are =
    let one = All-head (IsActed k side w) x xs are in
    let rest = lists_for k side w xs (All-tail (IsActed k side w) x xs are) in
    record {
      lists = one.acts ∷ rest.lists;
      fair = All-cons (AreFairActs k side w) one.acts rest.lists one.fair rest.fair;
      lead = ap₂ (λ (v : World) vs. v ∷ vs) one.leads rest.lead;
    }

-- what is known then
abbrev with_cut : Side → World → List (List Act) → Joint → Joint
with_cut First w lists j = record { world = w; first = lists; second = j.second }
with_cut Second w lists j = record { world = w; first = j.first; second = lists }

known_then : (k : Mechanism) (side : Side) (w : World) (lists : List (List Act)) (j : Joint)
    → known_in k side (with_cut side w lists j)
    ≡ record { last = w; doubtful = map (acts_in k side w) lists }
known_then k First w lists j = refl
known_then k Second w lists j = refl

fair_then : (k : Mechanism) (side : Side) (w : World) (lists : List (List Act)) (j : Joint)
    → All (AreFairActs k side w) lists
    → All (AreFairActs k side (with_cut side w lists j).world)
    (cut_off (with_cut side w lists j) side)
fair_then k First w lists j fair = fair
fair_then k Second w lists j fair = fair

same_then : (side : Side) (w : World) (lists : List (List Act)) (j : Joint)
    → cut_off (with_cut side w lists j) (peer_of side) ≡ cut_off j (peer_of side)
same_then First w lists j = refl
same_then Second w lists j = refl

-- ---- so it counts

none_of : {X Y : Type 0} (f : X → Y) (xs : List X) → map f xs ≡ [] → xs ≡ []
none_of f [] is = refl
none_of f (x ∷ xs) is = absurd (let e : f x ∷ map f xs ≡ [] = is in cc)

-- where nothing is in doubt, nothing was cut off
pub none_cut : (k : Mechanism) (side : Side) (j : Joint) → (known_in k side j).doubtful ≡ []
    → cut_off j side ≡ []
none_cut k side j is = none_of (acts_in k side j.world) (cut_off j side) is

module _ {X Y W : Type 0} (state : X → DiskState) (sound_disk : (x : X) → IsLawful (state x))
    (others : Y → DiskState) (draws : W → DrawsState) (k : Mechanism) (grounds : Grounds k)
    (side : Side) (first : World) (a b : X) (c d : Y) (j : Joint) (sound : IsSound k j)
    (still : StandsStill k side first (known_in k side j) (state a))
    (Also : (known : Known) → Ran state draws k side a b (known_in k side j) known → Type 0)
    (after : Known) where
  abbrev pub RunsAlso : Known → Type 0
  RunsAlso known = (ran : Ran state draws k side a b (known_in k side j) known) × Also known ran

  -- acts of the side lead to all that is in doubt then
  doubts : RunsAlso after → All (IsActed k side after.last) after.doubtful
  doubts runs =
      let link = ran_link state sound_disk draws k side a b grounds (known_in k side j) after
      (sound_known k grounds side j sound) runs.0 in
      (goes_on client_cell k side first (state a) (state b) (known_in k side j) after link
      still).doubtful_acted

  pub counts : RunsAlso after → LeavesAlone (others c) (others d)
      → (next : Joint) × (has : HasRun state others draws k side a b c d j next)
      × Also (known_in k side next) has.ran
  counts runs alone =
      let found = lists_for k side after.last after.doubtful (doubts runs) in
      let next = with_cut side after.last found.lists j in
      let is : known_in k side next ≡ after =
      known_then k side after.last found.lists j
      ∙ ap (λ (worlds : List World). record { last = after.last; doubtful = worlds }) found.lead in
      let there : RunsAlso (known_in k side next) = subst RunsAlso (sym is) runs in (
        next,
        record {
          ran = there.0;
          fair = fair_then k side after.last found.lists j found.fair;
          same = same_then side after.last found.lists j;
          alone = alone;
        },
        there.1,
      )
