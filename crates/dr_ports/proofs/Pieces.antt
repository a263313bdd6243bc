-- A pipe in memory gives a piece, and goes on to another connection.
use Rattle.std.proofs.Common.{◌≡◌, ℕ, ◌+◌, List, ◌++◌, take, drop, Some, sym, ◌∙◌, ap}
use Rattle.std.proofs.Math.Seq.{take-add}
use Rattle.dr_ports.specs.Memory.{Plan}
use Rattle.dr_ports.specs.Wires.{Gave, untold_fate}
use Rattle.dr_ports.specs.MemoryWires.{Flowing, plain, port_of, nothing_comes}

pub gave_piece : (old new : Flowing) (n : ℕ) (piece : List ℕ) (plan : Plan) → piece ≡ take n (drop old.at old.held) → new ≡ record old { at = old.at + n; plan = plan } → Gave piece (port_of old) (port_of new)
gave_piece old new n piece plan is same =
    ap (λ (f : Flowing). (port_of f).told) same
    ∙ ap (λ (r : List ℕ). Some (record { now = record { gives = λ (sent : List ℕ). old.held; received = r; sent = old.sent; fate = untold_fate }; before = old.before; coming = nothing_comes; line = plain }))
    (take-add old.at n old.held ∙ ap (λ (t : List ℕ). take old.at old.held ++ t) (sym is))
