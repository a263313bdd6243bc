-- What one side's acts do to what was cut off on the other: it stays fair, and leads to where the side
-- keeps the same.
use Rattle.std.proofs.Common.{List, [], arith, inl, inr, map, refl, subst, sym, ℕ, ⊎_elim, ◌∷◌, ◌≡◌}
use Rattle.std.specs.Prelude.{All, Any}
use Rattle.std.proofs.lemmas.List.Elements.{All-head, All-map, All-tail, All-weaker}
use Rattle.dr_base.specs.Position.{peer_of}
use Rattle.dr_base.specs.declared.position.Side.{Side}
use Rattle.dr_model.specs.Machines.Acts.{Act}
use Rattle.dr_model.specs.Machines.Worlds.{World}
use Rattle.dr_model.specs.Theorems.LawfulWorlds.{IsLawfulWorld}
use Rattle.kem_laws.specs.Mechanism.{Mechanism}
use Rattle.client.specs.Cells.{client_cell}
use Rattle.client.specs.Grounds.{Grounds}
use Rattle.client.specs.InWorlds.{StandsFor}
use Rattle.client.specs.Moments.{AreFairActs, HaveMoved, IsActed, acts_in}
use Rattle.client.proofs.Ahead.{IsAhead, fair_acts, one_more, same_acts, stands_ahead}
use Rattle.client.proofs.Later.{acted_later, lawful_at}
use Rattle.session_commands.proofs.KnownWorlds.{AreLawful}
use Rattle.conversation.specs.Joints.{Joint, cut_off, known_in}
use Rattle.conversation.proofs.Acting.{acts_ahead}

-- the world is lawful, and what was cut off is fair there
pub record IsSound (k : Mechanism) (j : Joint) : Type 0 where
  pub lawful : IsLawfulWorld k j.world
  pub fair : (side : Side) → All (AreFairActs k side j.world) (cut_off j side)

module _ (k : Mechanism) (grounds : Grounds k) where
  -- ---- what one side's acts do to what was cut off on the other

  module _ (side : Side) (ahead w : World) (is : IsAhead k side ahead w) where
    still_fair : (lists : List (List Act)) → All (AreFairActs k side w) lists
        → All (AreFairActs k side ahead) lists
    still_fair lists =
        All-weaker (AreFairActs k side w) (AreFairActs k side ahead)
        (λ acts fair. fair_acts client_cell k grounds.mechanism grounds.follow side ahead w acts is fair) lists

    still_stands : (lists : List (List Act)) → All (AreFairActs k side w) lists → (c : List ℕ)
        → Any (λ v. StandsFor k v side c) (map (acts_in k side w) lists)
        → Any (λ v. StandsFor k v side c) (map (acts_in k side ahead) lists)
    still_stands [] fair c at = absurd (omega (arith, at.2))
    still_stands (acts ∷ lists) fair c at =
        let keeps = same_acts client_cell k grounds.mechanism grounds.follow side ahead w acts is
        (All-head (AreFairActs k side w) acts lists fair) in
        one_more (λ v. StandsFor k v side c) (acts_in k side w acts) (acts_in k side ahead acts)
        (map (acts_in k side w) lists) (map (acts_in k side ahead) lists)
        (stands_ahead client_cell k grounds.mechanism grounds.follow side (acts_in k side ahead acts)
        (acts_in k side w acts) c keeps)
        (still_stands lists (All-tail (AreFairActs k side w) acts lists fair) c) at.0 at.1 at.2 at.3
        at.4

  pub leads_all : (side : Side) (w : World) (lists : List (List Act)) → All (AreFairActs k side w) lists
      → All (IsActed k side w) (map (acts_in k side w) lists)
  leads_all side w lists fair =
      All-map (IsActed k side w) (acts_in k side w) lists
      (All-weaker (AreFairActs k side w) (λ acts. IsActed k side w (acts_in k side w acts))
      (λ acts each. record { acts = acts; fair = each; leads = refl }) lists fair)

  -- each world that a side's disk may stand for is lawful
  pub sound_known : (side : Side) (j : Joint) → IsSound k j → AreLawful k (known_in k side j)
  sound_known side j sound = record {
    last = sound.lawful;
    doubtful = All-weaker (IsActed k side j.world) (IsLawfulWorld k)
        (λ v is. lawful_at k j.world v sound.lawful (acted_later k side j.world v is))
        (map (acts_in k side j.world) (cut_off j side))
        (leads_all side j.world (cut_off j side) (sound.fair side));
  }

  module _ (side : Side) (j next : Joint) (sound : IsSound k j)
      (acts : IsActed k (peer_of side) j.world next.world)
      (same : cut_off next side ≡ cut_off j side) where
    went_ahead : IsAhead k side next.world j.world
    went_ahead =
        subst (λ v. IsAhead k side v j.world) acts.leads
        (acts_ahead k grounds side j.world acts.acts sound.lawful acts.fair)

    pub others_fair : All (AreFairActs k side next.world) (cut_off next side)
    others_fair =
        subst (All (AreFairActs k side next.world)) (sym same)
        (still_fair side next.world j.world went_ahead (cut_off j side) (sound.fair side))

    pub others_moved : HaveMoved k side (known_in k side j) (known_in k side next)
    others_moved = record {
      last_later = acted_later k (peer_of side) j.world next.world acts;
      doubtful_acted = leads_all side next.world (cut_off next side) others_fair;
      stands = λ c known. ⊎_elim
          (λ stood. inl (stands_ahead client_cell k grounds.mechanism grounds.follow side next.world j.world c
          went_ahead.keeps stood))
          (λ at. inr (subst (λ lists. Any (λ v. StandsFor k v side c)
          (map (acts_in k side next.world) lists)) (sym same)
          (still_stands side next.world j.world went_ahead (cut_off j side) (sound.fair side) c at)))
          known;
    }
