-- What a session keeps.
use Rattle.std.specs.Prelude.{List, None, Option, Some, [], if◌then◌else◌, ℕ, ◌-◌, ◌==◌}
use Rattle.bodies.specs.declared.format.Format.{Format}
use Rattle.dr_base.specs.Position.{is_own}
use Rattle.dr_base.specs.declared.key.Kept.{Kept}
use Rattle.dr_base.specs.declared.position.Position.{Position}
use Rattle.dr_base.specs.declared.position.Side.{Side}
use Rattle.dr_base.specs.declared.position.Side.TheVariants.{First, Second}
use Rattle.kem_laws.specs.Mechanism.{Mechanism}
use Rattle.session_model.specs.Schedule.{root_of, session_of, stream_of}
use Rattle.session_model.specs.Turns.{first_turn}

-- in an epoch of its own a side holds the secret that waits for the answer, the epoch's agreement message, and a
-- stream of which it gave some keys
pub record Own : Type 0 where
  pub secret : List ℕ
  pub agreement : List ℕ
  pub chain : List ℕ
  pub sent : ℕ

pub data Phase : Type 0 where
  in_own : Own → Phase
  -- in a peer's epoch it keeps the peer's public key
  in_peers : List ℕ → Phase

-- the stream of the latest peer's epoch: the chain key after the greatest index that was opened
pub record Reception : Type 0 where
  pub chain : List ℕ
  pub reach : ℕ

pub record State : Type 0 where
  pub side : Side
  -- how it seals its texts
  pub format : Format
  pub session : List ℕ
  pub root : List ℕ
  -- the greatest epoch that the side has reached
  pub epoch : ℕ
  pub phase : Phase
  -- how many texts the side said in its last epoch before the own one that stands or comes next
  pub previous : ℕ
  -- none before the first peer's epoch
  pub receiving : Option Reception
  -- the keys that were passed, in ascending order of their positions
  pub kept : List Kept
  -- the own texts that wait for a receipt, in the order that they were said
  pub awaiting : List Position

-- the latest peer's epoch
abbrev pub receiving_epoch : Side → ℕ → Option ℕ
receiving_epoch side epoch = if is_own side epoch then (if epoch == 0 then None else Some (epoch - 1)) else Some epoch

-- what a session begins with: First with the public key of the first pair, Second with its secret
abbrev pub opening_phase : Mechanism → List ℕ → Side → Phase
opening_phase k key First = in_peers (first_turn k key).public
opening_phase k key Second =
    in_own (record { secret = (first_turn k key).secret; agreement = []; chain = stream_of key; sent = 0 })

abbrev pub opening_reception : List ℕ → Side → Option Reception
opening_reception key First = Some (record { chain = stream_of key; reach = 0 })
opening_reception key Second = None

abbrev pub opening_state : Mechanism → List ℕ → Side → Format → State
opening_state k key side format = record {
  side = side;
  format = format;
  session = session_of key;
  root = root_of key;
  epoch = 0;
  phase = opening_phase k key side;
  previous = 0;
  receiving = opening_reception key side;
  kept = [];
  awaiting = [];
}
