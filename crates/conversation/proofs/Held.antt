-- What a disk holds stands for a world in which all stands that stood before.
use Rattle.std.proofs.Common.{List, Some, inl, inr, refl, subst, sym, ℕ, ⊎_elim, ◌≡◌, ◌≤◌}
use Rattle.std.specs.Prelude.{slice_get}
use Rattle.dr_base.specs.declared.position.Side.{Side}
use Rattle.dr_disk.specs.State.{DiskState}
use Rattle.dr_model.specs.Machines.Worlds.{World}
use Rattle.dr_model.specs.Theorems.Headline.{Headline}
use Rattle.dr_model.specs.Theorems.LawfulWorlds.{IsLawfulWorld}
use Rattle.kem_laws.specs.Mechanism.{Mechanism}
use Rattle.client.specs.Cells.{client_cell}
use Rattle.client.specs.Moments.{AreLinked, IsAmongKnown, IsLater}
use Rattle.client.proofs.Later.{later_twice, lawful_at}
use Rattle.client.proofs.Standing.{among, first_later, later, stands}
use Rattle.conversation.specs.Kept.{StandsLater}
use Rattle.conversation.specs.Joints.{Joint, known_in}
use Rattle.conversation.proofs.Lasting.{keeps}

module _ {X : Type 0} (state : X → DiskState) (k : Mechanism) (laws : Headline k) (side : Side)
    (xs : List X) (w : World) (lawful : IsLawfulWorld k w) (joints : ℕ → Joint)
    (linked : AreLinked state xs k side w (λ n. known_in k side (joints n))) where
  -- a world that may stand later leads on from one that stood
  pub later_known : (n m : ℕ) (b : X) (v : World) → n ≤ m → slice_get xs m ≡ Some b
      → IsAmongKnown (known_in k side (joints m)) v → IsLater k (joints n).world v
  later_known n m b v le is which =
      let still = stands client_cell state xs k side w (λ n. known_in k side (joints n)) linked m b is in
      let last = later client_cell state xs k side w (λ n. known_in k side (joints n)) linked n m b le is in
      ⊎_elim (λ e. subst (IsLater k (joints n).world) (sym e) last)
      (λ at. later_twice k (joints n).world (joints m).world v last
      (among (IsLater k (joints m).world) (known_in k side (joints m)).doubtful v
      still.doubtful_later at)) which

  pub stands_later : (n m : ℕ) (b : X) → n ≤ m → slice_get xs m ≡ Some b
      → IsLawfulWorld k (joints n).world
      → (c : List ℕ) → (state b).image c → StandsLater k side (joints n) (joints m) c
  stands_later n m b le is sound c left =
      let still = stands client_cell state xs k side w (λ n. known_in k side (joints n)) linked m b is in
      ⊎_elim
      (λ stood. record {
        world = (joints m).world;
        known = inl refl;
        stands = stood;
        keeps = keeps k laws side (joints n).world (joints m).world sound
            (later_known n m b (joints m).world le is (inl refl));
      })
      (λ at. record {
        world = at.1;
        known = inr (at.0, at.2, at.3);
        stands = at.4;
        keeps = keeps k laws side (joints n).world at.1 sound
            (later_known n m b at.1 le is (inr (at.0, at.2, at.3)));
      })
      (still.images c left)

  pub stands_always : (n m : ℕ) (b : X) → n ≤ m → slice_get xs m ≡ Some b
      → (c : List ℕ) → (state b).image c → StandsLater k side (joints n) (joints m) c
  stands_always n m b le is =
      stands_later n m b le is
      (lawful_at k w (joints n).world lawful
      (first_later client_cell state xs k side w (λ n. known_in k side (joints n)) linked n m b le is))
