use Rattle.std.proofs.Common.{arith, ◌≡◌}
use Rattle.hub.proofs.Names.{named}
use Rattle.hub.proofs.peers.peer_name.Goals as goal

pub returns-then-number-eq1-clause-name : goal.returns-then-number-eq1-clause-name
returns-then-number-eq1-clause-name c = named c.args.number 1 c.if-number-eq1.true (omega arith)

pub returns-then-number-eq2-clause-name : goal.returns-then-number-eq2-clause-name
returns-then-number-eq2-clause-name c = named c.args.number 2 c.if-number-eq2.true (omega arith)

pub returns-then-number-eq3-clause-name : goal.returns-then-number-eq3-clause-name
returns-then-number-eq3-clause-name c = named c.args.number 3 c.if-number-eq3.true (omega arith)

pub returns-then-number-eq4-clause-name : goal.returns-then-number-eq4-clause-name
returns-then-number-eq4-clause-name c = named c.args.number 4 c.if-number-eq4.true (omega arith)

pub returns-then-number-eq5-clause-name : goal.returns-then-number-eq5-clause-name
returns-then-number-eq5-clause-name c = named c.args.number 5 c.if-number-eq5.true (omega arith)

pub returns-then-number-eq6-clause-name : goal.returns-then-number-eq6-clause-name
returns-then-number-eq6-clause-name c = named c.args.number 6 c.if-number-eq6.true (omega arith)

pub returns-then-number-eq7-clause-name : goal.returns-then-number-eq7-clause-name
returns-then-number-eq7-clause-name c = named c.args.number 7 c.if-number-eq7.true (omega arith)

pub returns-clause-name : goal.returns-clause-name
returns-clause-name c =
    let last : c.args.number ≡ 8 = omega (
      arith,
      c.requires.first,
      c.requires.few,
      c.if-number-eq1.false,
      c.if-number-eq2.false,
      c.if-number-eq3.false,
      c.if-number-eq4.false,
      c.if-number-eq5.false,
      c.if-number-eq6.false,
      c.if-number-eq7.false,
    ) in
    named c.args.number 8 last (omega arith)
