-- Runs of both sides' programs, each on a disk of its own, in any order, with crashes in them and
-- between them.
use Rattle.std.specs.Prelude.{All, List, Some, [], if◌then◌else◌, length, map, nat_le, slice_get, ℕ, ◌++◌, ◌+◌, ◌∷◌, ◌⊎◌, ◌≡◌}
use Rattle.dr_base.specs.Position.{peer_of}
use Rattle.dr_base.specs.declared.position.Side.{Side}
use Rattle.dr_base.specs.declared.position.Side.TheVariants.{First, Second}
use Rattle.dr_disk.specs.State.{Always, DiskState}
use Rattle.dr_model.specs.Machines.Acts.{Act}
use Rattle.dr_model.specs.Machines.Worlds.{World}
use Rattle.dr_ports.specs.States.{DrawsState}
use Rattle.kem_laws.specs.Mechanism.{Mechanism}
use Rattle.client.specs.InWorlds.{StandsFor}
use Rattle.client.specs.Moments.{AreFairActs, Known, acts_in}
use Rattle.session_commands.specs.WholeRuns.{LeavesAlone, Ran}

-- How far both sides have come: the one world to which all acts led that were acknowledged, or that
-- a disk was read to have taken; and for each side what else it may have done since, each time
-- from that world on: acts that a failing call or a crash cut off.
pub record Joint : Type 0 where
  pub world : World
  pub first : List (List Act)
  pub second : List (List Act)

abbrev pub cut_off : Joint → Side → List (List Act)
cut_off j First = j.first
cut_off j Second = j.second

-- the worlds that a side's disk may stand for
abbrev pub known_in : Mechanism → Side → Joint → Known
known_in k side j = record {
  last = j.world;
  doubtful = map (acts_in k side j.world) (cut_off j side);
}

-- nothing was cut off
abbrev pub joint_of : World → Joint
joint_of w = record { world = w; first = []; second = [] }

-- One side ran a command on its disk, or that crashed: what was cut off of the side's acts leads
-- where its disk may now stand. The other disk was left alone, or crashed.
pub record HasRun {X Y W : Type 0} (state : X → DiskState) (others : Y → DiskState)
    (draws : W → DrawsState) (k : Mechanism) (side : Side) (a b : X) (c d : Y) (j next : Joint)
    : Type 0 where
  pub ran : Ran state draws k side a b (known_in k side j) (known_in k side next)
  pub fair : All (AreFairActs k side next.world) (cut_off next side)
  pub same : cut_off next (peer_of side) ≡ cut_off j (peer_of side)
  pub alone : LeavesAlone (others c) (others d)

-- Moments of First's disk and of Second's, from one on at which both stand for the first world, and
-- what ran on either disk from each moment to the next.
pub record IsConversation {D E W : Type 0} (state : D → DiskState) (others : E → DiskState)
    (draws : W → DrawsState) (first : List D) (second : List E) (k : Mechanism) (w : World)
    (joints : ℕ → Joint) : Type 0 where
  pub begins : joints 0 ≡ joint_of w
  pub both : length first ≡ length second
  pub first_stands : (a : D) → slice_get first 0 ≡ Some a
      → Always (StandsFor k w First) (state a)
  pub second_stands : (c : E) → slice_get second 0 ≡ Some c
      → Always (StandsFor k w Second) (others c)
  pub ran : (n : ℕ) (a b : D) (c d : E) → slice_get first n ≡ Some a
      → slice_get first (n + 1) ≡ Some b → slice_get second n ≡ Some c
      → slice_get second (n + 1) ≡ Some d
      → HasRun state others draws k First a b c d (joints n) (joints (n + 1))
      ⊎ HasRun others state draws k Second c d a b (joints n) (joints (n + 1))

-- the same up to a moment, and then this
abbrev pub with_next : (ℕ → Joint) → ℕ → Joint → ℕ → Joint
with_next joints n next m = if nat_le m n then joints m else next

-- one moment more
pub record GoesOn {D E W : Type 0} (state : D → DiskState) (others : E → DiskState)
    (draws : W → DrawsState) (first : List D) (second : List E) (k : Mechanism) (w : World)
    (joints : ℕ → Joint) (n : ℕ) (a : D) (c : E) (also : (ℕ → Joint) → Type 0) : Type 0 where
  pub next : Joint
  pub are : IsConversation state others draws (first ++ a ∷ []) (second ++ c ∷ []) k w
      (with_next joints n next)
  pub with_it : also (with_next joints n next)
