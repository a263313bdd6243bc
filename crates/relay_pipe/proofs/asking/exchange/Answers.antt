use Rattle.std.proofs.Common.{List, [], ap, subst, ◌∙◌, ◌≡◌, ℕ}
use Rattle.dr_ports.specs.Wires.{Took}
use Rattle.relay_wire.specs.Frames.{Held}
use Rattle.relay_wire.specs.Seen.{asked_of}
use Rattle.relay_pipe.proofs.Asked.{broken, came, ended}
use Rattle.relay_pipe.proofs.asking.exchange.Goals as goal

nothing : (held : Held) → held ≡ record { bytes = []; place = 0 } → held.bytes ≡ []
nothing held is = ap (λ (h : Held). h.bytes) is

pub returns-in-Err-pull-clause-fails : goal.returns-in-Err-pull-clause-fails
returns-in-Err-pull-clause-fails g c =
    broken (asked_of c.args.request.now) c.args.reader.now c.pull.new.reader (g.P.Pipe.port c.args.pipe.now) (g.P.Pipe.port c.send_all.new.pipe)
    (g.P.Pipe.port c.pull.new.pipe) (nothing c.args.reader.now c.requires.fresh)
    (subst (λ (b : List ℕ). Took b (g.P.Pipe.port c.args.pipe.now) (g.P.Pipe.port c.send_all.new.pipe)) c.written-size.ensures.frame c.in-Ok.ensures.whole) c.in-Ok.ensures.leaves.cause.passed
    c.in-Err-pull.ensures.pulls.0 c.in-Err-pull.ensures.pulls.1 c.in-Err-pull.ensures.leaves.cause.failed

pub returns-in-Ok-false-clause-fails : goal.returns-in-Ok-false-clause-fails
returns-in-Ok-false-clause-fails g c =
    let pulls = rw c.in-Ok-false.field-0-test at c.in-Ok-false.ensures.pulls in
    ended (asked_of c.args.request.now) c.args.reader.now c.pull.new.reader (g.P.Pipe.port c.args.pipe.now) (g.P.Pipe.port c.send_all.new.pipe)
    (g.P.Pipe.port c.pull.new.pipe) (nothing c.args.reader.now c.requires.fresh)
    (subst (λ (b : List ℕ). Took b (g.P.Pipe.port c.args.pipe.now) (g.P.Pipe.port c.send_all.new.pipe)) c.written-size.ensures.frame c.in-Ok.ensures.whole) c.in-Ok.ensures.leaves.cause.passed
    pulls.0 c.held.result c.held.ensures pulls.1 pulls.2 c.in-Ok-false.ensures.leaves.cause.passed

pub returns-in-Ok-true-clause-pulled : goal.returns-in-Ok-true-clause-pulled
returns-in-Ok-true-clause-pulled g c =
    let pulls = rw c.in-Ok-true.field-0-test at c.in-Ok-true.ensures.pulls in
    came (asked_of c.args.request.now) c.args.reader.now c.pull.new.reader (g.P.Pipe.port c.args.pipe.now) (g.P.Pipe.port c.send_all.new.pipe)
    (g.P.Pipe.port c.pull.new.pipe) (nothing c.args.reader.now c.requires.fresh)
    (subst (λ (b : List ℕ). Took b (g.P.Pipe.port c.args.pipe.now) (g.P.Pipe.port c.send_all.new.pipe)) c.written-size.ensures.frame c.in-Ok.ensures.whole) c.in-Ok.ensures.leaves.cause.passed
    pulls.0 pulls.1 (pulls.0.place ∙ ap (λ (h : Held). h.place) c.requires.fresh) c.in-Ok-true.ensures.leaves.cause.passed
