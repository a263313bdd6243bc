-- What a pipe gave and took between two moments.
use Rattle.std.specs.Prelude.{◌≡◌, ℕ, List, ◌++◌, option_map}
use Rattle.dr_ports.specs.Wires.{Port, Told}

-- the pipe gave these bytes and took those
abbrev pub exchanged : List ℕ → List ℕ → Told → Told
exchanged got put t = record t { now = record t.now { received = t.now.received ++ got; sent = t.now.sent ++ put } }

abbrev pub Exchanges : List ℕ → List ℕ → Port → Port → Type 0
Exchanges got put start now = now.told ≡ option_map (exchanged got put) start.told
