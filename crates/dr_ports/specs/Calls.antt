-- What the calls on pipes, links and doors did, each by how the port stood before and after it.
use Rattle.std.specs.Prelude.{◌≡◌, ℕ, ◌<◌, ◌≤◌, List, length, take, option_map, Result, IfOk, OnOk, OnErr, IfSome}
use Rattle.dr_ports.specs.Ports.{HasCause}
use Rattle.dr_ports.specs.declared.pipe.Part.TheVariants.{Flow, Gate}
use Rattle.dr_ports.specs.Wires.{Port, Gave, Took, EndsAt, ReceiveGoes, SendGoes, connected, hung_up, listens_at, next_of}

-- A receive into a piece, which held `before` and holds `after`: the pipe gave the next bytes, into a
-- piece that isn't empty none only at the end; or it failed, and gave none. What stood behind the pipe
-- stands there.
pub record Receives {B E : Type 0} (old new : Port) (stood stands : List ℕ → B)
    (before after : List ℕ) (result : Result ℕ E) : Type 0 where
  pub bound : IfOk result (λ count. count ≤ length before)
  pub content : IfOk result (λ count. Gave (take count after) old new)
  pub end : IfOk result (λ count. count ≡ 0 → 0 < length before → EndsAt old)
  pub err : OnErr result (new.told ≡ old.told)
  pub goes : IfSome old.told (λ t. 0 < length before → ReceiveGoes t.now t.now.fate result)
  pub cause : HasCause (old.faults Flow) (new.faults Flow) result
  pub gate : new.faults Gate ≡ old.faults Gate
  pub same : stands ≡ stood

-- A send: the pipe took a beginning of the bytes, of a piece that isn't empty at least one; or it failed,
-- and took none. What stood behind the pipe stands there.
pub record Sends {B E : Type 0} (old new : Port) (stood stands : List ℕ → B) (bytes : List ℕ)
    (result : Result ℕ E) : Type 0 where
  pub bound : IfOk result (λ count. count ≤ length bytes)
  pub progress : IfOk result (λ count. 0 < length bytes → 0 < count)
  pub content : IfOk result (λ count. Took (take count bytes) old new)
  pub err : OnErr result (new.told ≡ old.told)
  pub goes : IfSome old.told (λ t. SendGoes t.now.fate result)
  pub cause : HasCause (old.faults Flow) (new.faults Flow) result
  pub gate : new.faults Gate ≡ old.faults Gate
  pub same : stands ≡ stood

-- The link connected to an address; or it failed, and no connection has begun or ended. What stood behind
-- it stands there.
pub record Opens {B T E : Type 0} (old new : Port) (stood stands : List ℕ → B) (address : List ℕ)
    (result : Result T E) : Type 0 where
  pub to : OnOk result (new.told ≡ option_map (connected address) old.told)
  pub err : OnErr result (new.told ≡ old.told)
  pub cause : HasCause (old.faults Gate) (new.faults Gate) result
  pub flow : new.faults Flow ≡ old.faults Flow
  pub same : stands ≡ stood

-- the door waits at a port; or it failed, and waits where it did
pub record Listens {T E : Type 0} (old new : Port) (port : ℕ) (result : Result T E) : Type 0 where
  pub at : OnOk result (new.told ≡ option_map (listens_at port) old.told)
  pub err : OnErr result (new.told ≡ old.told)
  pub cause : HasCause (old.faults Gate) (new.faults Gate) result
  pub flow : new.faults Flow ≡ old.faults Flow

-- the next connection stands; or it failed, and the connection is what it was
pub record Accepts {T E : Type 0} (old new : Port) (result : Result T E) : Type 0 where
  pub next : OnOk result (new.told ≡ option_map next_of old.told)
  pub err : OnErr result (new.told ≡ old.told)
  pub cause : HasCause (old.faults Gate) (new.faults Gate) result
  pub flow : new.faults Flow ≡ old.faults Flow

-- the connection has ended, and no call has failed
pub record HangsUp (old new : Port) : Type 0 where
  pub told : new.told ≡ option_map hung_up old.told
  pub gate : new.faults Gate ≡ old.faults Gate
  pub flow : new.faults Flow ≡ old.faults Flow
